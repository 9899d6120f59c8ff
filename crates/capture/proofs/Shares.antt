-- The symbols of blocks are those of the bytes that the blocks hold. Assumes nothing.
use mathlib.Core.Bool.{true, false}
use mathlib.Core.List.{List, [], ◌∷◌, ◌++◌, append-nil, map-append}
use mathlib.Core.Logic.{◌⊎◌, inl, inr}
use mathlib.Core.Path.{◌≡◌, refl, sym, ap, ap₂, ◌∙◌}
use Prim.Native.Nat.{ℕ, ◌+◌, ◌-◌, ◌%◌, ◌≤◌, ◌<◌, min}
use native.Mathlib.Omega.{arith}
use borrow.Author.Tests.{ltb-true, ltb-false, eqb-true, eqb-false, eq-eqb, ne_eqb}
use lib.Dec.{ltb, eqb}
use lib.IntN.{ℤ}
use lib.ListN.{length, take, length-append}
use lib.Seq.{take-append-le, take-append-add, take_all, take-nil}
use Rattle.std.specs.Prelude.{Err}
use Rattle.refusal.specs.declared.Refusal.TheVariants.{Bodies}
use Rattle.laws.proofs.Tests.{by_test}
use Rattle.laws.specs.Choice.{if_yes, if_no}
use Rattle.capture.specs.Bytes.{signed_byte, signed_bytes}
use Rattle.capture.specs.Capture.{whole, acting_of, ends_of}
use Rattle.capture.specs.Blocks.{shared_of, played_of, ended_of, joined, EvenBut}

signed_append : (xs ys : List ℕ) → signed_bytes (xs ++ ys) ≡ signed_bytes xs ++ signed_bytes ys
unfolding signed_bytes
signed_append xs ys = map-append signed_byte xs ys

-- a block is whole, or nothing follows it
seam : (b : List ℕ) (bs : List (List ℕ)) → EvenBut (b ∷ bs) → (length b % 2 ≡ 0) ⊎ (length (joined bs) ≡ 0)
unfolding joined
seam b [] e = inr refl
seam b (c ∷ bs) e = inl e.0

later : (b : List ℕ) (bs : List (List ℕ)) → EvenBut (b ∷ bs) → EvenBut bs
later b [] e = Prim.tt
later b (c ∷ bs) e = e.1

-- ---- a block with bytes over is the last that counts
cut : (left n j : ℕ) → left % 2 ≡ 0 → (n % 2 ≡ 0) ⊎ (j ≡ 0) → whole (min left n) < n → (whole (min left (n + j)) ≡ whole (min left n)) × (n + j ≡ left → ⊥)
cut left n j e (inl h) o = (omega arith, λ q. omega arith)
cut left n j e (inr h) o = (omega arith, λ q. omega arith)

over_acts : (left : ℕ) (b r : List ℕ) → whole (min left (length b)) < length b → whole (min left (length b + length r)) ≡ whole (min left (length b)) →
    acting_of left (b ++ r) ≡ signed_bytes (take (whole (min left (length b))) b)
unfolding acting_of
over_acts left b r o e =
    rw (length-append b r, e) (ap signed_bytes (take-append-le (whole (min left (length b))) b r (omega arith)))

over_ends : (left : ℕ) (b r : List ℕ) → (length b + length r ≡ left → ⊥) → ends_of left (b ++ r) ≡ Err Bodies
unfolding ends_of
over_ends left b r n = if_no _ _ _ (ne_eqb (length (b ++ r)) left (λ e. n (sym (length-append b r) ∙ e)))

-- ---- a block that acts in full
full : (left n j : ℕ) → n ≤ whole (min left n) → (n ≤ left) × (n % 2 ≡ 0) × (whole (min left n) ≡ n) × (whole (min left (n + j)) ≡ n + whole (min (left - n) j))
full left n j h = (omega arith, omega arith, omega arith, omega arith)

full_acts : (left : ℕ) (b r : List ℕ) → whole (min left (length b + length r)) ≡ length b + whole (min (left - length b) (length r)) →
    acting_of left (b ++ r) ≡ signed_bytes b ++ acting_of (left - length b) r
unfolding acting_of
full_acts left b r e =
    rw (length-append b r, e)
    (ap signed_bytes (take-append-add b r (whole (min (left - length b) (length r)))) ∙ signed_append b (take (whole (min (left - length b) (length r))) r))

shift : (n j left : ℕ) → n ≤ left → eqb (n + j) left ≡ eqb j (left - n)
shift n j left h =
    by_test (eqb j (left - n))
    (λ t. let e = eqb-true j (left - n) t in eq-eqb (n + j) left (omega arith) ∙ sym t)
    (λ t. let e = eqb-false j (left - n) t in ne_eqb (n + j) left (λ q. e (omega arith)) ∙ sym t)

full_ends : (left : ℕ) (b r : List ℕ) → length b ≤ left → ends_of left (b ++ r) ≡ ends_of (left - length b) r
unfolding ends_of
full_ends left b r h = rw (length-append b r, shift (length b) (length r) left h)

-- ---- all blocks
abbrev Tells : ℕ → List (List ℕ) → Type 0
Tells left bs = (played_of left bs ≡ acting_of left (joined bs)) × (ended_of left bs ≡ ends_of left (joined bs))

none : (left : ℕ) → Tells left []
unfolding played_of ended_of joined acting_of ends_of signed_bytes
none left = (
  ap (λ (l : List ℕ). signed_bytes l) (sym (take-nil (whole (min left 0)))),
  by_test (eqb left 0)
      (λ t. if_yes _ _ _ t ∙ sym (if_yes _ _ _ (eq-eqb 0 left (sym (eqb-true left 0 t)))))
      (λ t. if_no _ _ _ t ∙ sym (if_no _ _ _ (ne_eqb 0 left (λ e. eqb-false left 0 t (sym e))))),
)

last : (left : ℕ) (b : List ℕ) (bs : List (List ℕ)) → left % 2 ≡ 0 → EvenBut (b ∷ bs) → ltb (whole (min left (length b))) (length b) ≡ true → Tells left (b ∷ bs)
unfolding played_of ended_of joined shared_of
last left b bs e v t =
    let c = cut left (length b) (length (joined bs)) e (seam b bs v) (ltb-true (whole (min left (length b))) (length b) t) in (
      ap (λ (l : List ℤ). signed_bytes (take (whole (min left (length b))) b) ++ l) (if_yes _ _ _ t)
          ∙ append-nil (signed_bytes (take (whole (min left (length b))) b))
          ∙ sym (over_acts left b (joined bs) (ltb-true (whole (min left (length b))) (length b) t) c.0),
      if_yes _ _ _ t ∙ sym (over_ends left b (joined bs) c.1),
    )

more : (left : ℕ) (b : List ℕ) (bs : List (List ℕ)) → ltb (whole (min left (length b))) (length b) ≡ false → Tells (left - whole (min left (length b))) bs → Tells left (b ∷ bs)
unfolding played_of ended_of joined shared_of
more left b bs t i =
    let f = full left (length b) (length (joined bs)) (ltb-false (whole (min left (length b))) (length b) t) in
    let g = rw f.2 at i in (
      ap₂ (λ (x y : List ℤ). x ++ y) (ap signed_bytes (rw f.2 (take_all (length b) b (omega arith)))) (if_no _ _ _ t ∙ rw f.2 g.0)
          ∙ sym (full_acts left b (joined bs) f.3),
      if_no _ _ _ t ∙ rw f.2 g.1 ∙ sym (full_ends left b (joined bs) f.0),
    )

pub tells : (left : ℕ) (bs : List (List ℕ)) → left % 2 ≡ 0 → EvenBut bs → Tells left bs
tells left [] e v = none left
tells left (b ∷ bs) e v =
    by_test (ltb (whole (min left (length b))) (length b))
    (λ t. last left b bs e v t)
    (λ t. more left b bs t (tells (left - whole (min left (length b))) bs (omega arith) (later b bs v)))
