-- A block of calls, replaced one after the other. Assumes nothing.
use mathlib.Core.List.{List, ◌++◌, append_assoc}
use mathlib.Core.Path.{◌≡◌, refl, sym, ap, ◌∙◌}
use Prim.Native.Nat.{ℕ, suc, ◌+◌, ◌-◌, ◌≤◌}
use native.Mathlib.Omega.{arith}
use lib.ListN.{length, take, drop, take-append-drop, length-drop, length-take}
use lib.Seq.{paste, take-paste, drop-paste, take_all, drop-drop, drop-append-le}
use Rattle.wire.specs.Blocks.{replayed, left}

-- what is lent from `at` on, with m bytes written at its start
pub put_part : (m : ℕ) (l a : List ℕ) (at k : ℕ) → length a ≡ m → at + m ≤ length l → k ≡ length l - at →
    take at l ++ ((take (length a) a ++ drop (length a) (take k (drop at l))) ++ drop k (drop at l)) ≡ paste l at a m
put_part m l a at k n h e =
    let d : List ℕ = drop at l in
    let long : m ≤ length (take k d) = omega (arith, length-take k d, length-drop at l) in
    rw n
    (ap (λ (r : List ℕ). take at l ++ r)
    (append_assoc (take m a) (drop m (take k d)) (drop k d)
    ∙ ap (λ (r : List ℕ). take m a ++ r) (sym (drop-append-le m (take k d) (drop k d) long) ∙ ap (λ (r : List ℕ). drop m r) (take-append-drop k d) ∙ drop-drop m at l))
    ∙ sym (append_assoc (take at l) (take m a) (drop (at + m) l)))

-- all from a place on
pub from_on : (at : ℕ) (l : List ℕ) → take (length l - at) (drop at l) ≡ drop at l
from_on at l = take_all (length l - at) (drop at l) (omega (arith, length-drop at l))

-- .. by `put`
pub put_all : (m : ℕ) (l a b r : List ℕ) (at : ℕ) → r ≡ paste l at a (length a) → a ≡ b → length b ≡ m → r ≡ paste l at b m
put_all m l a b r at h e n = rw (h, e, n)

module _ {S : Type 0} (m : ℕ) (answer : S → List ℕ → List ℕ) (after : S → List ℕ → S) (whole : (d : S) (s : List ℕ) → length (answer d s) ≡ m) where
  -- what is replaced up to `at`, then the answers to the n calls that are left; and what all leave
  abbrev pub so_far : ℕ → S → List ℕ → ℕ → List ℕ
  so_far n d l at = take at l ++ replayed m answer after d n (drop at l)

  abbrev pub left_from : ℕ → S → List ℕ → ℕ → S
  left_from n d l at = left m after d n (drop at l)

  -- a turn: the call at `at` is replaced by its answer
  turn : (n at : ℕ) (d : S) (l : List ℕ) → at + m ≤ length l →
      let r = paste l at (answer d (drop at l)) m in
      let e = after d (drop at l) in
      (so_far n e r (at + m) ≡ so_far (suc n) d l at) × (left_from n e r (at + m) ≡ left_from (suc n) d l at)
  unfolding replayed left
  turn n at d l h =
      let a : List ℕ = answer d (drop at l) in
      let k : length a ≡ m = whole d (drop at l) in
      let e : S = after d (drop at l) in
      let rest = drop-paste l at a m (omega arith) (omega arith) in (
        rw (take-paste l at a m (omega arith) (omega arith), rest, take_all m a (omega arith), drop-drop m at l)
            (append_assoc (take at l) a (replayed m answer after e n (drop (at + m) l))),
        rw (rest, drop-drop m at l),
      )

  pub replay-more : (n k at past : ℕ) (d e : S) (l r : List ℕ) → k ≡ suc n → past ≡ at + m → past ≤ length l → r ≡ paste l at (answer d (drop at l)) m → e ≡ after d (drop at l) →
      (so_far n e r past ≡ so_far k d l at) × (left_from n e r past ≡ left_from k d l at)
  replay-more n k at past d e l r f g h p q = rw (f, g, p, q) (turn n at d l (omega arith))

  pub replay-none : (n : ℕ) (d : S) (l : List ℕ) → (so_far n d l 0 ≡ replayed m answer after d n l) × (left_from n d l 0 ≡ left m after d n l)
  replay-none n d l = (refl, refl)

  pub replay-all : (n at : ℕ) (d : S) (l : List ℕ) → n ≡ 0 → (so_far n d l at ≡ l) × (left_from n d l at ≡ d)
  unfolding replayed left
  replay-all n at d l e = rw e (take-append-drop at l, refl)
