-- Least metrics and the labels that have them. Assumes nothing.
use mathlib.Core.Bool.{Bool, true, false, not}
use mathlib.Core.Logic.{⊎_elim}
use mathlib.Core.Path.{◌≡◌, refl, sym, ap, subst, ◌∙◌}
use Prim.Native.Nat.{ℕ, zero, suc, ◌+◌, ◌*◌, ◌/◌, ◌%◌, ◌^◌, ◌≤◌, ◌<◌, zero-le}
use native.Mathlib.Nat.{le_refl, eq-or-lt_of_le, zero-add, zero-mul, one-mul, zero-div, div_self}
use native.Mathlib.Omega.{arith}
use borrow.Author.Tests.{eq-eqb, le-ltb}
use lib.Dec.{eqb}
use lib.IntN.{ℤ, pos, negsuc}
use lib.Pow.{pow-lt, pow_pos}
use lib.Signed.{lt_z, ◌≤ℤ◌, ◌<ℤ◌, clash_ℤ, <ℤ-≤ℤ_trans}
use Rattle.laws.proofs.First.{first_here, first_next, first_least}
use Rattle.laws.proofs.Least.{Hit, least_le, least_hit}
use Rattle.laws.proofs.Linear.{ud_lt, lt_ud, le_ud, dif_ud, test_lt, test_le, antisym}
use Rattle.laws.proofs.Tests.{by_test, never}
use Rattle.laws.specs.Ranges.{first_from}
use Rattle.demap.proofs.Fold.{by_half}
use Rattle.demap.specs.Demap.{every, least_metric, bit_of, least_with, gap_of, lowest_label}

-- ---- both kinds of a bit occur
pub zero_hit : (f : ℕ → ℤ) (bits b : ℕ) → b < bits → Hit (λ (l : ℕ). eqb (bit_of b l) 0) f (2 ^ bits) (least_with f (2 ^ bits) b 0)
zero_hit f bits b h =
    let n = 2 ^ bits in
    least_hit (λ (l : ℕ). eqb (bit_of b l) 0) f (f (0 * 2 ^ b)) n n (le_refl n)
    (0 * 2 ^ b, rw zero-mul (pow_pos bits), eq-eqb (bit_of b (0 * 2 ^ b)) 0 (rw (zero-mul (2 ^ b), zero-div (2 ^ b))), refl)

pub one_hit : (f : ℕ → ℤ) (bits b : ℕ) → b < bits → Hit (λ (l : ℕ). eqb (bit_of b l) 1) f (2 ^ bits) (least_with f (2 ^ bits) b 1)
one_hit f bits b h =
    let n = 2 ^ bits in
    least_hit (λ (l : ℕ). eqb (bit_of b l) 1) f (f (1 * 2 ^ b)) n n (le_refl n)
    (1 * 2 ^ b, rw one-mul (pow-lt h), eq-eqb (bit_of b (1 * 2 ^ b)) 1 (rw (one-mul (2 ^ b), div_self (pow_pos b))), refl)

-- ---- no label of the farther kind has the least metric
apart : (f : ℕ → ℤ) (n b v : ℕ) (o : ℤ) (q : ℕ → Bool) → Hit q f n o → o <ℤ least_with f n b v → (l : ℕ) → l < n →
    ((m : ℕ) → m < n → f l ≤ℤ f m) → bit_of b l ≡ v → ⊥
apart f n b v o q hit farther l below least e =
    clash_ℤ (<ℤ-≤ℤ_trans farther (least_le (λ (l : ℕ). eqb (bit_of b l) v) f (f (v * 2 ^ b)) n l below (eq-eqb _ _ e)))
    (rw hit.3 (least hit.0 hit.1))

pub bit_is_zero : (f : ℕ → ℤ) (bits b : ℕ) → b < bits → pos 0 <ℤ gap_of f (2 ^ bits) b → (l : ℕ) → l < 2 ^ bits →
    ((m : ℕ) → m < 2 ^ bits → f l ≤ℤ f m) → bit_of b l ≡ 0
unfolding gap_of
bit_is_zero f bits b h g l below least =
    let n = 2 ^ bits in
    let a = least_with f n b 0 in
    let c = least_with f n b 1 in
    let farther : a <ℤ c = lt_ud a c (omega (arith, ud_lt g, dif_ud c a)) in
    even (l / 2 ^ b) (apart f n b 1 a (λ (l : ℕ). eqb (bit_of b l) 0) (zero_hit f bits b h) farther l below least)
  where
    even : (x : ℕ) → (x % 2 ≡ 1 → ⊥) → x % 2 ≡ 0
    even x h = omega arith

pub bit_is_one : (f : ℕ → ℤ) (bits b : ℕ) → b < bits → gap_of f (2 ^ bits) b <ℤ pos 0 → (l : ℕ) → l < 2 ^ bits →
    ((m : ℕ) → m < 2 ^ bits → f l ≤ℤ f m) → bit_of b l ≡ 1
unfolding gap_of
bit_is_one f bits b h g l below least =
    let n = 2 ^ bits in
    let a = least_with f n b 0 in
    let c = least_with f n b 1 in
    let farther : c <ℤ a = lt_ud c a (omega (arith, ud_lt g, dif_ud c a)) in
    odd (l / 2 ^ b) (apart f n b 0 c (λ (l : ℕ). eqb (bit_of b l) 1) (one_hit f bits b h) farther l below least)
  where
    odd : (x : ℕ) → (x % 2 ≡ 0 → ⊥) → x % 2 ≡ 1
    odd x h = omega arith

-- ---- a search that has something to find
found : (p : ℕ → Bool) (k s j : ℕ) → s ≤ j → j < s + k → p j ≡ true → p (first_from p k s) ≡ true
found p zero s j a b e = absurd (none s j a b)
  where
    none : (s j : ℕ) → s ≤ j → j < s + 0 → ⊥
    none s j a b = omega arith
found p (suc k) s j a b e =
    by_test (p s)
    (λ t. rw (first_here p (suc k) s t) t)
    (λ t.
    rw (first_next p k s t)
    (⊎_elim
    (λ (q : s ≡ j). absurd (never (sym e ∙ subst (λ (x : ℕ). p x ≡ false) q t)))
    (λ (q : s < j). found p k (suc s) j q (omega arith) e)
    (eq-or-lt_of_le a)))

passes : (v z : ℤ) → v ≡ z → not (lt_z v z) ≡ true
passes v z e = rw e (self z)
  where
    self : (z : ℤ) → not (lt_z z z) ≡ true
    self (pos a) = ap not (le-ltb a a (le_refl a))
    self (negsuc a) = ap not (le-ltb a a (le_refl a))

not_true : (t : Bool) → not t ≡ true → t ≡ false
not_true false e = refl
not_true true e = absurd (never (sym e))

not_false : (t : Bool) → not t ≡ false → t ≡ true
not_false true e = refl
not_false false e = absurd (never e)

-- with the least metric: the label is one of n, has it, and each lower label's metric is greater
pub lowest_is : (f : ℕ → ℤ) (n : ℕ) → 0 < n →
    let l = lowest_label f n (least_metric f n) in
    (l < n) × (f l ≡ least_metric f n) × ((m : ℕ) → m < l → least_metric f n <ℤ f m)
unfolding lowest_label least_metric
lowest_is f n z =
    let v = least_metric f n in
    let p : ℕ → Bool = λ (l : ℕ). not (lt_z v (f l)) in
    let l = first_from p n 0 in
    let hit = least_hit every f (f 0) n n (le_refl n) (0, z, refl, refl) in
    let ph : p hit.0 ≡ true = passes v (f hit.0) hit.3 in
    let pl : p l ≡ true = found p n 0 hit.0 zero-le (rw (zero-add n) hit.1) ph in
    let at : l ≤ hit.0 = by_half hit.0 l (λ q. absurd (never (sym ph ∙ first_least p n 0 hit.0 zero-le q))) (λ q. q) in
    let below : l < n = under l hit.0 n at hit.1 in (
      below,
      antisym (le_ud (f l) v (test_le v (f l) (not_true (lt_z v (f l)) pl))) (least_le every f (f 0) n l below refl),
      λ m q. lt_ud v (f m) (test_lt v (f m) (not_false (lt_z v (f m)) (first_least p n 0 m zero-le q))),
    )
  where
    under : (a b c : ℕ) → a ≤ b → b < c → a < c
    under a b c h k = omega arith
