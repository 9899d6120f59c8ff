-- Numbers added to a list from a place on: how long it stays, what it leaves, a part after a part, and the whole at once. Assumes nothing.
use mathlib.Core.Path.{◌≡◌, refl, sym, ap, ap₂, ◌∙◌}
use mathlib.Core.List.{List, [], ◌∷◌, ◌++◌, append-nil}
use Prim.Native.Nat.{ℕ, zero, suc, ◌+◌, ◌*◌, ◌-◌, ◌≤◌, ◌<◌, ◌^◌}
use native.Mathlib.Omega.{arith}
use native.Mathlib.Nat.{add-zero, zero-add}
use native.Mathlib.Numerals.{add-one}
use lib.IntN.{ℤ, pos, nat_abs, ◌+ℤ◌}
use lib.ListN.{length, set, drop, length-set, length-append}
use lib.Seq.{drop-cons, get_or_at, get_or-set_other, drop-length}
use lib.Signed.{mag}
use mir.Facts.{to_z-of_z}
use mir.Syntax.{w64}
use mir.Val.{to_z, of_z}
use Rattle.laws.specs.Ranges.{firsts}
use Rattle.laws.proofs.Lists.{length-firsts, firsts-step}
use Rattle.laws.proofs.Size.{sfits_abs, back}
use Rattle.eq_train.specs.Train.{nth, line_product, row_products, upper_products, right_products, right_product, added}
use Rattle.eq_train.specs.Steps.{added_from, Room}

-- ---- the places
pub added_length : (s : List ℤ) (k : ℕ) (vs : List ℤ) → length (added_from s k vs) ≡ length s
unfolding added_from
added_length s k [] = refl
added_length s k (v ∷ vs) = added_length (set s k (nth s k +ℤ v)) (suc k) vs ∙ length-set s k (nth s k +ℤ v)

not_same : (k j n : ℕ) → suc k + n ≤ j → j ≡ k → ⊥
not_same k j n h e = omega arith

-- what comes after them is as it was
pub added-later : (s : List ℤ) (k : ℕ) (vs : List ℤ) (j : ℕ) → k + length vs ≤ j → nth (added_from s k vs) j ≡ nth s j
unfolding added_from
added-later s k [] j h = refl
added-later s k (v ∷ vs) j h =
    added-later (set s k (nth s k +ℤ v)) (suc k) vs j (omega arith) ∙ get_or-set_other s k j (nth s k +ℤ v) (pos 0) (not_same k j (length vs) (omega arith))

pub room_later : {s : List ℤ} {k n : ℕ} (vs : List ℤ) → Room s k n → Room (added_from s k vs) (k + length vs) n
room_later {s} {k} {n} vs m =
    record {
      long = added_length s k vs ∙ m.long;
      small = λ j h l. rw (added-later s k vs j h) (m.small j (omega arith) l);
    }

-- one more number
pub room_step : {s : List ℤ} {k n : ℕ} (v : ℤ) → Room s k n → Room (set s k v) (suc k) n
room_step {s} {k} {n} v m =
    record {
      long = length-set s k v ∙ m.long;
      small = λ j h l. rw (get_or-set_other s k j v (pos 0) (not_same k j 0 (omega arith))) (m.small j (omega arith) l);
    }

-- a part after a part
pub added_append : (s : List ℤ) (k : ℕ) (xs ys : List ℤ) → added_from s k (xs ++ ys) ≡ added_from (added_from s k xs) (k + length xs) ys
unfolding added_from
added_append s k [] ys = rw (add-zero k)
added_append s k (x ∷ xs) ys = added_append (set s k (nth s k +ℤ x)) (suc k) xs ys ∙ ap (λ (m : ℕ). added_from (added_from (set s k (nth s k +ℤ x)) (suc k) xs) m ys) (moved k (length xs))
  where
    moved : (k n : ℕ) → suc k + n ≡ k + suc n
    moved k n = omega arith

-- ---- the whole at once
module _ (s p : List ℤ) where
  abbrev sum_at : ℕ → ℤ
  sum_at k = nth s k +ℤ nth p k

  -- place k, before it is written
  next : (k : ℕ) → k < length s → nth (firsts sum_at k ++ drop k s) k ≡ nth s k
  next k h = rw (drop-cons s k (pos 0) h) (get_or_at (firsts sum_at k) (nth s k) (drop (suc k) s) (pos 0) k (length-firsts sum_at k))

  part-way : (k : ℕ) (qs : List ℤ) → ((j : ℕ) → nth qs j ≡ nth p (k + j)) → k + length qs ≡ length s → added_from (firsts sum_at k ++ drop k s) k qs ≡ firsts sum_at (length s)
  unfolding added_from
  part-way k [] at h =
      let e : k ≡ length s = sym (add-zero k) ∙ h in
      rw (e, drop-length s, append-nil (firsts sum_at (length s)))
  part-way k (q ∷ qs) at h =
      let l : k < length s = omega (arith, h) in
      let e : nth (firsts sum_at k ++ drop k s) k +ℤ q ≡ sum_at k = rw (next k l, at 0, add-zero k) in
      ap (λ (x : List ℤ). added_from x (suc k) qs) (firsts-step sum_at s k (nth (firsts sum_at k ++ drop k s) k +ℤ q) e l ∙ ap (λ (m : ℕ). firsts sum_at m ++ drop m s) (add-one k))
      ∙ part-way (suc k) qs (λ j. at (suc j) ∙ ap (λ (m : ℕ). nth p m) (moved k j)) (omega (arith, h))
    where
      moved : (k j : ℕ) → k + suc j ≡ suc k + j
      moved k j = omega arith

pub added-all : (s p : List ℤ) (n : ℕ) → length s ≡ n → length p ≡ n → added_from s 0 p ≡ added s p n
unfolding added firsts
added-all s p n h k =
    part-way s p 0 p (λ j. ap (λ (m : ℕ). nth p m) (sym (zero-add j))) (zero-add (length p) ∙ k ∙ sym h) ∙ ap (λ (m : ℕ). firsts (λ j. nth s j +ℤ nth p j) m) h

-- ---- how many products there are
pub row_length : (line : List ℤ) (r c n : ℕ) → length (row_products line r c n) ≡ 2 * n
unfolding row_products
row_length line r c zero = refl
row_length line r c (suc n) = omega (arith, row_length line r (suc c) n)

pub upper_length : (line : List ℤ) (r n : ℕ) → length (upper_products line r (suc n)) ≡ 2 * suc n + length (upper_products line (suc r) n)
unfolding upper_products
upper_length line r n = length-append (row_products line r r (suc n)) (upper_products line (suc r) n) ∙ ap (λ (m : ℕ). m + length (upper_products line (suc r) n)) (row_length line r r (suc n))

pub right_length : (line : List ℤ) (di dq : ℤ) (r n : ℕ) → length (right_products line di dq r n) ≡ 2 * n
unfolding right_products
right_length line di dq r zero = refl
right_length line di dq r (suc n) = omega (arith, right_length line di dq (suc r) n)

pub upper_none : (line : List ℤ) (r : ℕ) → length (upper_products line r 0) ≡ 0
unfolding upper_products
upper_none line r = refl

pub upper_132 : (line : List ℤ) → length (upper_products line 0 11) ≡ 132
upper_132 line =
    omega (arith, upper_length line 0 10, upper_length line 1 9, upper_length line 2 8, upper_length line 3 7, upper_length line 4 6, upper_length line 5 5, upper_length line 6 4, upper_length line 7 3, upper_length line 8 2, upper_length line 9 1, upper_length line 10 0, upper_none line 11)

-- ---- a turn of each loop: x and y are what it writes
pub later : (c : ℕ) → c < 11 → 11 - c ≡ suc (11 - (c + 1))
later c h = omega arith

pub row_turn : (s line : List ℤ) (r c k : ℕ) (x y : ℤ) → c < 11 →
    x ≡ nth s k +ℤ (line_product line r c).re → y ≡ nth (set s k x) (k + 1) +ℤ (line_product line r c).im →
    added_from (set (set s k x) (k + 1) y) (k + 2) (row_products line r (c + 1) (11 - (c + 1))) ≡ added_from s k (row_products line r c (11 - c))
unfolding added_from row_products
row_turn s line r c k x y h e f = rw (later c h, f, e, add-one c, two k, add-one k)
  where
    two : (k : ℕ) → k + 2 ≡ suc (suc k)
    two k = omega arith

pub right_turn : (p line : List ℤ) (di dq : ℤ) (r : ℕ) (x y : ℤ) → r < 11 →
    x ≡ nth p (2 * r) +ℤ (right_product line di dq r).re → y ≡ nth (set p (2 * r) x) (2 * r + 1) +ℤ (right_product line di dq r).im →
    added_from (set (set p (2 * r) x) (2 * r + 1) y) (2 * (r + 1)) (right_products line di dq (r + 1) (11 - (r + 1))) ≡ added_from p (2 * r) (right_products line di dq r (11 - r))
unfolding added_from right_products
right_turn p line di dq r x y h e f = rw (later r h, f, e, two r, add-one r, add-one (2 * r))
  where
    two : (r : ℕ) → 2 * (r + 1) ≡ suc (suc (2 * r))
    two r = omega arith

upper_go : (s line : List ℤ) (r at n : ℕ) →
    added_from (added_from s at (row_products line r r (suc n))) (at + 2 * suc n) (upper_products line (suc r) n) ≡ added_from s at (upper_products line r (suc n))
unfolding upper_products
upper_go s line r at n =
    sym (added_append s at (row_products line r r (suc n)) (upper_products line (suc r) n)
    ∙ ap (λ (m : ℕ). added_from (added_from s at (row_products line r r (suc n))) (at + m) (upper_products line (suc r) n)) (row_length line r r (suc n)))

upper_turn : (s line : List ℤ) (r at : ℕ) → r < 11 →
    added_from (added_from s at (row_products line r r (11 - r))) (at + 2 * (11 - r)) (upper_products line (r + 1) (11 - (r + 1))) ≡ added_from s at (upper_products line r (11 - r))
upper_turn s line r at h =
    let n = 11 - (r + 1) in
    rw (later r h) (ap (λ (m : ℕ). added_from (added_from s at (row_products line r r (suc n))) (at + 2 * suc n) (upper_products line m n)) (add-one r) ∙ upper_go s line r at n)

-- the same, of what a call gave
pub upper_on : (s x line : List ℤ) (r at : ℕ) → r < 11 → x ≡ added_from s at (row_products line r r (11 - r)) →
    added_from x (at + 2 * (11 - r)) (upper_products line (r + 1) (11 - (r + 1))) ≡ added_from s at (upper_products line r (11 - r))
upper_on s x line r at h e = ap (λ (y : List ℤ). added_from y (at + 2 * (11 - r)) (upper_products line (r + 1) (11 - (r + 1)))) e ∙ upper_turn s line r at h

pub row_done : (s line : List ℤ) (r k : ℕ) → added_from s k (row_products line r 11 0) ≡ s
unfolding added_from row_products
row_done s line r k = refl

pub upper_done : (s line : List ℤ) (k : ℕ) → added_from s k (upper_products line 11 0) ≡ s
unfolding added_from upper_products
upper_done s line k = refl

pub right_done : (p line : List ℤ) (di dq : ℤ) (k : ℕ) → added_from p k (right_products line di dq 11 0) ≡ p
unfolding added_from right_products
right_done p line di dq k = refl

-- a number that a product can be added to, or is one, as a local holds it
pub held : (z : ℤ) → nat_abs z ≤ 2 ^ 54 → to_z w64 (of_z w64 z) ≡ z
held z h = to_z-of_z (sfits_abs w64 z (omega (arith, h)))

-- what `plus` gave, as a local holds it
pub summed : (x a b : ℤ) → mag x < 2 ^ 63 → nat_abs a ≤ 2 ^ 54 → nat_abs b ≤ 2 ^ 31 → x ≡ to_z w64 (of_z w64 a) +ℤ to_z w64 (of_z w64 b) → to_z w64 (of_z w64 x) ≡ a +ℤ b
summed x a b h i j e = back w64 x h ∙ e ∙ ap₂ ◌+ℤ◌ (held a i) (held b (omega (arith, j)))

pub room_two : {s : List ℤ} {k n : ℕ} (x y : ℤ) → Room s k n → Room (set (set s k x) (k + 1) y) (k + 2) n
room_two {s} {k} {n} x y m = rw (two k, add-one k) (room_step y (room_step x m))
  where
    two : (k : ℕ) → k + 2 ≡ suc (suc k)
    two k = omega arith
