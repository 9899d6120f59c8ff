-- Laws of the definitions of learn that its proofs cite: tests of many numbers, sets, and what is known where nothing refuses. Assumes nothing.
use Rattle.std.specs.Prelude.{Ok}
use mathlib.Core.Bool.{Bool, true, false, not, ◌&&◌, ◌||◌}
use mathlib.Core.List.{List, ◌++◌}
use mathlib.Core.Logic.{⊎_elim}
use mathlib.Core.Path.{◌≡◌, refl, sym, ◌∙◌}
use Prim.Native.Nat.{ℕ, zero, suc, ◌+◌, ◌-◌, ◌*◌, ◌^◌, ◌≤◌, ◌<◌}
use native.Mathlib.Nat.{le_of_suc-le-suc, not-suc-le-zero, eq-or-lt_of_le, mod-lt}
use native.Mathlib.Numerals.{add-one}
use native.Mathlib.Omega.{arith}
use borrow.Author.Tests.{ltb-true, ltb-false, leb-true, leb-false, le-ltb, eqb-true}
use lib.Dec.{eqb, leb, ltb}
use lib.IntN.{ℤ, pos, negsuc, nat_abs}
use lib.ListN.{take, drop}
use lib.Pow.{pow_mono, pow_pos}
use lib.Seq.{drop-drop}
use lib.Signed.{le_z, lt_z}
use mir.Facts.{to_z_pos}
use mir.Syntax.{w64}
use mir.Val.{to_z}
use Rattle.laws.proofs.Taken.{ok_yes, ok_no}
use Rattle.laws.proofs.Tests.{never, by_test, and_both, neither}
use Rattle.laws.specs.Choice.{if_yes, minus}
use Rattle.laws.specs.Ranges.{firsts}
use Rattle.refusal.specs.declared.Refusal.TheVariants.{Points, Arithmetic, Counts}
use Rattle.learn.specs.Answers.{bad_best, pilot_refusal, noise_refusal, points_refusal}
use Rattle.learn.specs.Learning.{all_below, sum_at, count_at, all_piloted, set_learned, mean_at, set_means, learned_slice}
use Rattle.learn.specs.Ranges.{sum_in_range, sums_in_range, counts_in_range, learn_in_range, SumsOk, LearnOk}
use Rattle.learn.specs.Sets.{Bits, bad_bits, place_of, with_set}
use Rattle.learn.specs.declared.Learn.{Learn}

-- ---- each number below n
pub all_none : (p : ℕ → Bool) → true ≡ all_below p 0
unfolding all_below
all_none p = refl

pub all_step : (p : ℕ → Bool) (i : ℕ) → all_below p (i + 1) ≡ (all_below p i && p i)
unfolding all_below
all_step p i = rw (add-one i)

pub all-at : (p : ℕ → Bool) (n l : ℕ) → all_below p n ≡ true → l < n → p l ≡ true
unfolding all_below
all-at p zero l e h = absurd (not-suc-le-zero h)
all-at p (suc n) l e h =
    let q = and_both (all_below p n) (p n) e in
    ⊎_elim (λ (o : l ≡ n). rw o q.1) (λ (k : l < n). all-at p n l q.0 k) (eq-or-lt_of_le (le_of_suc-le-suc h))

pub all_of : (p : ℕ → Bool) (n : ℕ) → ((l : ℕ) → l < n → p l ≡ true) → all_below p n ≡ true
unfolding all_below
all_of p zero h = refl
all_of p (suc n) h = rw (all_of p n (λ l k. h l (omega arith)), h n (omega arith))

-- an answer that is yes exactly where each number below n passes
pub tested : (r : Bool) (p : ℕ → Bool) (n : ℕ) → (r ≡ true → (l : ℕ) → l < n → p l ≡ true) → (((l : ℕ) → l < n → p l ≡ true) → r ≡ true) → r ≡ all_below p n
tested r p n f g =
    by_test (all_below p n) (λ e. g (λ l h. all-at p n l e h) ∙ sym e) (λ e. by_test r (λ t. absurd (never (sym (all_of p n (f t)) ∙ e))) (λ t. t ∙ sym e))

-- ---- sets
-- the number of labels
pub labels_few : (bits : ℕ) → Bits bits → (2 ≤ 2 ^ bits) × (2 ^ bits ≤ 32)
labels_few bits b =
    let lo : 2 ^ 1 ≤ 2 ^ bits = pow_mono b.some in
    let hi : 2 ^ bits ≤ 2 ^ 5 = pow_mono b.few in
    (lo, hi)

pub place_below : (bits t : ℕ) → Bits bits → place_of bits t < 62
unfolding place_of
place_below bits t b = omega (arith, labels_few bits b, mod-lt t (pow_pos bits))

-- a learned set has a pilot at each place
pub piloted_at_lem : (count : List ℕ) (a n l : ℕ) → all_piloted count a n ≡ true → l < n → 0 < count_at count (a + l)
unfolding all_piloted
piloted_at_lem count a n l e h = ltb-true 0 (count_at count (a + l)) (all-at (λ (i : ℕ). ltb 0 (count_at count (a + i))) n l e h)

-- n labels, and the slice around their means
pub learned_is : (l : Learn) (bits n : ℕ) (t : Bool) → n ≡ 2 ^ bits → all_piloted l.count (n - 2) n ≡ t → set_learned l bits ≡ t
unfolding set_learned
learned_is l bits n t k e = rw k at e

pub slice_with : (l : Learn) (bits n : ℕ) (old new : List ℤ) → n ≡ 2 ^ bits → set_learned l bits ≡ true →
    new ≡ firsts (λ (i : ℕ). mean_at l.sum l.count (2 * (n - 2) + i)) (2 * n) →
    take (2 * (n - 2)) old ++ (new ++ drop (2 * n) (drop (2 * (n - 2)) old)) ≡ learned_slice l bits old
unfolding learned_slice with_set set_means
slice_with l bits n old new k t e = rw (e, drop-drop (2 * n) (2 * (n - 2)) old, k) (sym (if_yes (set_learned l bits) _ old t))

-- ---- a count as a divisor
pub divisor : (n : ℕ) → 0 < n → n < 2 ^ 32 → (to_z w64 n ≡ pos n) × (nat_abs (pos n) ≤ 2 ^ 60) × (lt_z (pos n) (pos 1) ≡ false)
divisor n h k = (to_z_pos w64 (omega arith), omega arith, le-ltb n 1 h)

-- ---- in range
pub between : (z : ℤ) (a b B : ℕ) → le_z (negsuc a) z ≡ true → le_z z (pos b) ≡ true → a < B → b ≤ B → nat_abs z ≤ B
between (pos n) a b B l h p q = omega (arith, leb-true n b h)
between (negsuc n) a b B l h p q = omega (arith, leb-true n a l)

sum_size : (z : ℤ) → sum_in_range z ≡ true → nat_abs z ≤ 2 ^ 41
unfolding sum_in_range
sum_size z e =
    let p = and_both (le_z (minus (2 ^ 41)) z) (le_z z (pos (2 ^ 41 - 2 ^ 26))) e in
    between z (2 ^ 41 - 1) (2 ^ 41 - 2 ^ 26) (2 ^ 41) p.0 p.1 (omega arith) (omega arith)

sums_ok : (sum : List ℤ) → sums_in_range sum ≡ true → SumsOk sum
unfolding sums_in_range
sums_ok sum e i h = sum_size (sum_at sum i) (all-at (λ (i : ℕ). sum_in_range (sum_at sum i)) 124 i e h)

pub learn_ok : (l : Learn) → learn_in_range l ≡ true → LearnOk l
unfolding learn_in_range
learn_ok l e =
    let a = sums_in_range l.sum && counts_in_range l.count in
    let b = a && le_z (minus (2 ^ 59)) l.noise in
    let c = b && le_z l.noise (pos (2 ^ 59 + 2 ^ 57)) in
    let p0 = and_both c (leb l.samples 67108864) e in
    let p1 = and_both b (le_z l.noise (pos (2 ^ 59 + 2 ^ 57))) p0.0 in
    let p2 = and_both a (le_z (minus (2 ^ 59)) l.noise) p1.0 in
    let p3 = and_both (sums_in_range l.sum) (counts_in_range l.count) p2.0 in
    record {
      sums = sums_ok l.sum p3.0;
      noise = between l.noise (2 ^ 59 - 1) (2 ^ 59 + 2 ^ 57) (2 ^ 59 + 2 ^ 57) p2.1 p1.1 (omega arith) (omega arith);
    }

-- ---- no refusal: what is then known
pub not_false : (t : Bool) → not t ≡ false → t ≡ true
not_false true e = refl
not_false false e = absurd (never e)

pub good-bits : (bits : ℕ) → bad_bits bits ≡ false → Bits bits
good-bits bits e =
    let p = neither (ltb bits 1) (ltb 5 bits) e in
    record { some = ltb-false bits 1 p.0; few = ltb-false 5 bits p.1 }

good_best : (best : ℤ) → bad_best best ≡ false → nat_abs best ≤ 2 ^ 33
good_best best e =
    let p = neither (lt_z best (minus (2 ^ 33))) (lt_z (pos (2 ^ 33)) best) e in
    within best p.0 p.1
  where
    within : (z : ℤ) → lt_z z (minus (2 ^ 33)) ≡ false → lt_z (pos (2 ^ 33)) z ≡ false → nat_abs z ≤ 2 ^ 33
    within (pos n) l h = ltb-false (2 ^ 33) n h
    within (negsuc n) l h = omega (arith, ltb-false (2 ^ 33 - 1) n l)

pub record PilotTaken (l : Learn) (bits t : ℕ) : Type 0 where
  pub bits_ok : Bits bits
  pub learn_ok : LearnOk l
  pub in_range : learn_in_range l ≡ true
  pub room : count_at l.count (place_of bits t) < 67108864

pub pilot_taken : (l : Learn) (bits t : ℕ) → pilot_refusal l bits t ≡ Ok tt → PilotTaken l bits t
unfolding pilot_refusal
pilot_taken l bits t e =
    let p = ok_no (bad_bits bits) Points _ e in
    let q = ok_yes (learn_in_range l) _ Arithmetic p.1 in
    let r = ok_no (ltb 31 t) Arithmetic _ q.1 in
    let c = count_at l.count (place_of bits t) in
    record {
      bits_ok = good-bits bits p.0;
      learn_ok = learn_ok l q.0;
      in_range = q.0;
      room = leb-false 67108864 c (ok_no (leb 67108864 c) Counts _ r.1).0;
    }

pub record NoiseTaken (l : Learn) (best : ℤ) : Type 0 where
  pub learn_ok : LearnOk l
  pub in_range : learn_in_range l ≡ true
  pub room : l.samples < 67108864
  pub best_ok : nat_abs best ≤ 2 ^ 33

pub noise_taken : (l : Learn) (best : ℤ) → noise_refusal l best ≡ Ok tt → NoiseTaken l best
unfolding noise_refusal
noise_taken l best e =
    let p = ok_yes (learn_in_range l) _ Arithmetic e in
    let q = ok_no (bad_best best) Arithmetic _ p.1 in
    record {
      learn_ok = learn_ok l p.0;
      in_range = p.0;
      room = leb-false 67108864 l.samples (ok_no (leb 67108864 l.samples) Counts _ q.1).0;
      best_ok = good_best best q.0;
    }

pub record PointsTaken (l : Learn) (bits len : ℕ) : Type 0 where
  pub long : len ≡ 124
  pub bits_ok : Bits bits
  pub learn_ok : LearnOk l

pub points_taken : (l : Learn) (bits len : ℕ) → points_refusal l bits len ≡ Ok tt → PointsTaken l bits len
unfolding points_refusal
points_taken l bits len e =
    let p = ok_no (not (eqb len 124) || bad_bits bits) Points _ e in
    let q = neither (not (eqb len 124)) (bad_bits bits) p.0 in
    record {
      long = eqb-true len 124 (not_false (eqb len 124) q.0);
      bits_ok = good-bits bits q.1;
      learn_ok = learn_ok l (ok_yes (learn_in_range l) _ Arithmetic p.1).0;
    }
