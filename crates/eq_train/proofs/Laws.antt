-- The tests of the entries as facts on each number, and what a training adds at each place. Assumes nothing.
use mathlib.Core.Path.{◌≡◌, refl, sym, ap, subst, ◌∙◌}
use mathlib.Core.Bool.{true}
use mathlib.Core.List.{List, [], append-nil}
use Prim.Native.Nat.{ℕ, zero, suc, ◌+◌, ◌*◌, ◌≤◌, ◌<◌, ◌^◌}
use native.Mathlib.Omega.{arith}
use native.Mathlib.Nat.{le_refl, zero-add}
use borrow.Author.Tests.{ltb-true, ltb-false, eqb-true, eqb-false}
use lib.Dec.{ltb, eqb}
use lib.IntN.{ℤ, pos, nat_abs, ◌+ℤ◌}
use lib.ListN.{length}
use Rattle.laws.specs.Ranges.{firsts}
use Rattle.laws.proofs.Lists.{getD-firsts, length-firsts}
use Rattle.laws.proofs.Tests.{by_test, and_both}
use Rattle.sums.specs.Sums.{upper_at}
use Rattle.sums.specs.declared.Sums.{Sums}
use Rattle.eq_train.specs.Train.{nth, line_product, right_product, upper_products, right_products, added, trained_sums}
use Rattle.eq_train.specs.Ranges.{product_in_range, entry_in_range, row_in_range, upper_in_range, right_in_range}
use Rattle.eq_train.proofs.Adding.{upper_none}
use Rattle.eq_train.proofs.Places.{first-place, next_column, next_row, places-left, upper_in, upper_re, upper_im, right_at}
use Rattle.eq_train.proofs.Tested.{diagonal_entry, product_entry}
use Rattle.eq_train.proofs.Bounds.{product_small, diagonal_small}

-- ---- from a test to each number
abbrev Small : List ℤ → ℕ → Type 0
Small s k = nat_abs (nth s k) ≤ 2 ^ 53

pair_at_lem : (s : List ℤ) (u k : ℕ) → u ≤ k → k < u + 2 → (Small s u) × (Small s (u + 1)) → Small s k
pair_at_lem s u k h l p =
    by_test (eqb u k)
    (λ e. subst (Small s) (eqb-true u k e) p.0)
    (λ e. subst (Small s) (next u k h l (eqb-false u k e)) p.1)
  where
    next : (u k : ℕ) → u ≤ k → k < u + 2 → (u ≡ k → ⊥) → u + 1 ≡ k
    next u k h l n = omega (arith, n)

entry_small : (N : ℕ) → N ≤ 4194304 → (s : List ℤ) (r c : ℕ) → r ≤ c → entry_in_range N s r c ≡ true → (Small s (2 * upper_at r c)) × (Small s (2 * upper_at r c + 1))
entry_small N few s r c h e =
    by_test (eqb r c)
    (λ f. diagonal s r c (eqb-true r c f) e)
    (λ f. product_small N few (nth s (2 * upper_at r c)) (nth s (2 * upper_at r c + 1)) (sym (product_entry N s r c (apart r c h (eqb-false r c f))) ∙ e))
  where
    apart : (r c : ℕ) → r ≤ c → (r ≡ c → ⊥) → r < c
    apart r c h n = omega (arith, n)

    diagonal : (s : List ℤ) (r c : ℕ) → r ≡ c → entry_in_range N s r c ≡ true → (Small s (2 * upper_at r c)) × (Small s (2 * upper_at r c + 1))
    diagonal s r c f e = rw (← f) (diagonal_small N few (nth s (2 * upper_at r r)) (nth s (2 * upper_at r r + 1)) (sym (diagonal_entry N s r) ∙ rw (← f) at e))

-- by the column, k is of the pair or of those after it
row_small : (N : ℕ) → N ≤ 4194304 → (s : List ℤ) (r c n : ℕ) → r ≤ c → row_in_range N s r c n ≡ true → (k : ℕ) → 2 * upper_at r c ≤ k → k < 2 * upper_at r c + 2 * n → Small s k
unfolding row_in_range
row_small N few s r c zero h e k l m = absurd (none (upper_at r c) k l m)
  where
    none : (u k : ℕ) → 2 * u ≤ k → k < 2 * u + 2 * 0 → ⊥
    none u k l m = omega arith
row_small N few s r c (suc n) h e k l m =
    let f = and_both (entry_in_range N s r c) (row_in_range N s r (suc c) n) e in
    by_test (ltb k (2 * upper_at r c + 2))
    (λ t. pair_at_lem s (2 * upper_at r c) k l (ltb-true k (2 * upper_at r c + 2) t) (entry_small N few s r c h f.0))
    (λ t. row_small N few s r (suc c) n (omega arith) f.1 k (omega (arith, next_column r c, ltb-false k (2 * upper_at r c + 2) t)) (omega (arith, next_column r c, m)))

upper_small : (N : ℕ) → N ≤ 4194304 → (s : List ℤ) (r n : ℕ) → r + n ≡ 11 → upper_in_range N s r n ≡ true → (k : ℕ) → 2 * upper_at r r ≤ k → k < 132 → Small s k
unfolding upper_in_range
upper_small N few s r zero h e k l m = absurd (none r k h l m)
  where
    none : (r k : ℕ) → r + 0 ≡ 11 → 2 * upper_at r r ≤ k → k < 132 → ⊥
    none r k h l m =
        let f : r ≡ 11 = omega (arith, h) in
        let g = rw f at l in
        omega (arith, g, m, places-left [] 11 (le_refl 11), upper_none [] 11)
upper_small N few s r (suc n) h e k l m =
    let f = and_both (row_in_range N s r r (suc n)) (upper_in_range N s (suc r) n) e in
    by_test (ltb k (2 * upper_at r r + 2 * suc n))
    (λ t. row_small N few s r r (suc n) (le_refl r) f.0 k l (ltb-true k (2 * upper_at r r + 2 * suc n) t))
    (λ t. upper_small N few s (suc r) n (omega (arith, h)) f.1 k (omega (arith, next_row r (omega (arith, h)), h, ltb-false k (2 * upper_at r r + 2 * suc n) t)) m)

right_small : (N : ℕ) → N ≤ 4194304 → (p : List ℤ) (r n : ℕ) → right_in_range N p r n ≡ true → (k : ℕ) → 2 * r ≤ k → k < 2 * r + 2 * n → Small p k
unfolding right_in_range
right_small N few p r zero e k l m = absurd (none r k l m)
  where
    none : (u k : ℕ) → 2 * u ≤ k → k < 2 * u + 2 * 0 → ⊥
    none u k l m = omega arith
right_small N few p r (suc n) e k l m =
    let f = and_both (product_in_range N (nth p (2 * r)) (nth p (2 * r + 1))) (right_in_range N p (suc r) n) e in
    by_test (ltb k (2 * r + 2))
    (λ t. pair_at_lem p (2 * r) k l (ltb-true k (2 * r + 2) t) (product_small N few (nth p (2 * r)) (nth p (2 * r + 1)) f.0))
    (λ t. right_small N few p (suc r) n f.1 k (omega (arith, ltb-false k (2 * r + 2) t)) (omega (arith, m)))

pub upper_sizes : (N : ℕ) → N ≤ 4194304 → (s : List ℤ) → upper_in_range N s 0 11 ≡ true → (k : ℕ) → k < 132 → nat_abs (nth s k) ≤ 2 ^ 53
upper_sizes N few s e k h = upper_small N few s 0 11 refl e k (omega (arith, first-place)) h

pub right_sizes : (N : ℕ) → N ≤ 4194304 → (p : List ℤ) → right_in_range N p 0 11 ≡ true → (k : ℕ) → k < 22 → nat_abs (nth p k) ≤ 2 ^ 53
right_sizes N few p e k h = right_small N few p 0 11 e k (omega arith) h

-- ---- from each entry to the test
row_true : (N : ℕ) (s : List ℤ) (r c n : ℕ) → ((d : ℕ) → c ≤ d → d < c + n → entry_in_range N s r d ≡ true) → row_in_range N s r c n ≡ true
unfolding row_in_range
row_true N s r c zero h = refl
row_true N s r c (suc n) h = rw (h c (le_refl c) (omega arith), row_true N s r (suc c) n (λ d l m. h d (omega arith) (omega arith)))

pub upper_true : (N : ℕ) (s : List ℤ) (r n : ℕ) → r + n ≡ 11 → ((i c : ℕ) → i ≤ c → c < 11 → entry_in_range N s i c ≡ true) → upper_in_range N s r n ≡ true
unfolding upper_in_range
upper_true N s r zero e h = refl
upper_true N s r (suc n) e h =
    rw (row_true N s r r (suc n) (λ d l m. h r d l (omega (arith, e))), upper_true N s (suc r) n (omega (arith, e)) h)

pub right_true : (N : ℕ) (p : List ℤ) (r n : ℕ) → r + n ≡ 11 → ((i : ℕ) → i < 11 → product_in_range N (nth p (2 * i)) (nth p (2 * i + 1)) ≡ true) → right_in_range N p r n ≡ true
unfolding right_in_range
right_true N p r zero e h = refl
right_true N p r (suc n) e h = rw (h r (omega (arith, e)), right_true N p (suc r) n (omega (arith, e)) h)

-- ---- what a training adds at each place
added-at : (s p : List ℤ) (n k : ℕ) → k < n → nth (added s p n) k ≡ nth s k +ℤ nth p k
unfolding added
added-at s p n k h =
    ap (λ (l : List ℤ). nth l k) (sym (append-nil (firsts (λ j. nth s j +ℤ nth p j) n))) ∙ getD-firsts (λ j. nth s j +ℤ nth p j) (pos 0) n [] k h

module _ (s : Sums) (line : List ℤ) (di dq : ℤ) where
  pub trained-re : (r c : ℕ) → r ≤ c → c < 11 → nth (trained_sums s line di dq).r (2 * upper_at r c) ≡ nth s.r (2 * upper_at r c) +ℤ (line_product line r c).re
  unfolding trained_sums
  trained-re r c h l =
      added-at s.r (upper_products line 0 11) 132 (2 * upper_at r c) (omega (arith, upper_in r c h l))
      ∙ ap (λ (z : ℤ). nth s.r (2 * upper_at r c) +ℤ z) (upper_re line r c h l)

  pub trained-im : (r c : ℕ) → r ≤ c → c < 11 → nth (trained_sums s line di dq).r (2 * upper_at r c + 1) ≡ nth s.r (2 * upper_at r c + 1) +ℤ (line_product line r c).im
  unfolding trained_sums
  trained-im r c h l =
      added-at s.r (upper_products line 0 11) 132 (2 * upper_at r c + 1) (omega (arith, upper_in r c h l))
      ∙ ap (λ (z : ℤ). nth s.r (2 * upper_at r c + 1) +ℤ z) (upper_im line r c h l)

  pub trained-right-re : (r : ℕ) → r < 11 → nth (trained_sums s line di dq).p (2 * r) ≡ nth s.p (2 * r) +ℤ (right_product line di dq r).re
  unfolding trained_sums
  trained-right-re r h =
      added-at s.p (right_products line di dq 0 11) 22 (2 * r) (omega arith)
      ∙ ap (λ (z : ℤ). nth s.p (2 * r) +ℤ z) ((right_at line di dq 0 11 r h).0 ∙ ap (λ (m : ℕ). (right_product line di dq m).re) (zero-add r))

  pub trained-right-im : (r : ℕ) → r < 11 → nth (trained_sums s line di dq).p (2 * r + 1) ≡ nth s.p (2 * r + 1) +ℤ (right_product line di dq r).im
  unfolding trained_sums
  trained-right-im r h =
      added-at s.p (right_products line di dq 0 11) 22 (2 * r + 1) (omega arith)
      ∙ ap (λ (z : ℤ). nth s.p (2 * r + 1) +ℤ z) ((right_at line di dq 0 11 r h).1 ∙ ap (λ (m : ℕ). (right_product line di dq m).im) (zero-add r))

  pub trained-long : (length (trained_sums s line di dq).r ≡ 132) × (length (trained_sums s line di dq).p ≡ 22)
  unfolding trained_sums added
  trained-long = (length-firsts (λ k. nth s.r k +ℤ nth (upper_products line 0 11) k) 132, length-firsts (λ k. nth s.p k +ℤ nth (right_products line di dq 0 11) k) 22)

  pub trained_count : (trained_sums s line di dq).count ≡ s.count + 1
  unfolding trained_sums
  trained_count = refl
