-- The window after m pushes is the last 24 of them, with zeros before the first. Assumes nothing.
use Prim.Native.Nat.{◌+◌, ◌<◌, suc, ℕ}
use Rattle.sync.specs.Sync.{no_window, window_after}
use Rattle.sync_tie.specs.Pushes.{Push, flat, no_push}
use lib.IntN.{ℤ}
use lib.ListN.{drop, get_or, length, length-append, length-drop, replicate, take}
use lib.Seq.{drop-append-add, drop-drop, get_or-append-add, get_or-drop, take-suc}
use mathlib.Core.List.{List, [], ◌++◌, ◌∷◌}
use mathlib.Core.Path.{◌∙◌, ◌≡◌, ap, refl, sym}
use native.Mathlib.Nat.{le_of_suc-le-suc, not-suc-le-zero}
use native.Mathlib.Omega.{arith}

-- ---- lists
take_next : {A : Type 0} (j : ℕ) (l : List A) (d : A) → suc j < length l → take (suc j) (drop 1 l) ≡ drop 1 (take (suc j) l) ++ (get_or l (suc j) d ∷ [])
take_next j [] d h = absurd (not-suc-le-zero h)
take_next j (x ∷ xs) d h = take-suc xs j d (le_of_suc-le-suc h)

flat_append : (xs ys : List Push) → flat (xs ++ ys) ≡ flat xs ++ flat ys
unfolding flat
flat_append [] ys = refl
flat_append (x ∷ xs) ys = rw (flat_append xs ys)

flat_drop : (xs : List Push) → flat (drop 1 xs) ≡ drop 2 (flat xs)
unfolding flat
flat_drop [] = refl
flat_drop (x ∷ xs) = refl

-- ---- the pushes with 24 of zero before them
abbrev padded : List Push → List Push
padded h = replicate 24 no_push ++ h

unfoldable pub window_to : List Push → ℕ → List ℤ
window_to h m = flat (take 24 (drop m (padded h)))

padded-at : (h : List Push) (m : ℕ) → get_or (padded h) (24 + m) no_push ≡ get_or h m no_push
padded-at h m = get_or-append-add (replicate 24 no_push) h m no_push

-- one push more
pub window_next : (h : List Push) (m : ℕ) (x : Push) → m < length h → get_or h m no_push ≡ x → window_after (window_to h m) x.i x.q ≡ window_to h (suc m)
unfolding window_to window_after flat
window_next h m x l e =
    let p = padded h in
    let long : 24 < length (drop m p) = rw (length-drop m p, length-append (replicate 24 no_push) h) (omega arith) in
    let at : get_or (drop m p) 24 no_push ≡ x = get_or-drop m p 24 no_push ∙ (let k : m + 24 ≡ 24 + m = omega arith in rw k (padded-at h m ∙ e)) in
    let next = take_next 23 (drop m p) no_push long in
    let one : m + 1 ≡ suc m = omega arith in
    let d : drop 1 (drop m p) ≡ drop (suc m) p = drop-drop 1 m p ∙ rw one in
    let t = take 24 (drop m p) in
    let full : take 24 (drop (suc m) p) ≡ drop 1 t ++ (x ∷ []) = ap (take 24) (sym d) ∙ next ∙ ap (λ (y : Push). drop 1 t ++ (y ∷ [])) at in
    ap (λ (v : List ℤ). v ++ (x.i ∷ x.q ∷ [])) (sym (flat_drop t)) ∙ sym (flat_append (drop 1 t) (x ∷ [])) ∙ ap flat (sym full)

pub window_none : (h : List Push) → no_window ≡ window_to h 0
unfolding window_to no_window flat
window_none h = refl

-- once position c is complete
pub window_at_lem : (h : List Push) (c : ℕ) → window_to h (c + 24) ≡ flat (take 24 (drop c h))
unfolding window_to
window_at_lem h c =
    let e : c + 24 ≡ 24 + c = omega arith in
    rw e (ap (λ (l : List Push). flat (take 24 l)) (drop-append-add (replicate 24 no_push) h c))
