-- Laws of the definitions of angles: what a turn by a step is as a remainder, how far a turn goes, and how large a symbol turned back is.
-- Assumes nothing.
use Rattle.std.proofs.Common.{◌≡◌, ℕ, zero, suc, ◌+◌, ◌-◌, ◌*◌, ◌/◌, ◌%◌, ◌^◌, ◌<◌, ◌≤◌, ltb, ℤ, pos, negsuc, ◌+ℤ◌, ◌-ℤ◌, ◌*ℤ◌, nat_abs, ap, ◌∙◌, ap₂, not-suc-le-zero, mul-le-mul_right, mod-lt, add-mul, mul-le-mul_left, pow-suc, div-add-mod', mul-add, sub-one, arith, lit<, ltb-false, ltb-true}
use native.Mathlib.Nat.{add-mul-mod_self_left}
use lib.IntN.{*ℤ_comm}
use lib.Signed.{mag}
use Rattle.angles.specs.Angles.{angle_of, turned_by, turn_from, turned_back}
use Rattle.fx.proofs.Theorems.{shift_theorem}
use Rattle.fx.specs.Fx.{round_shift, signed_angle}
use Rattle.fx.specs.declared.CosSin.{CosSin}
use Rattle.fx.specs.declared.Parts.{Parts}
use Rattle.laws.proofs.Linear.{up, dn, sum_ud, dif_ud, size_ud, size_le, not_below, ud_eq, eq_ud}
use Rattle.laws.proofs.Product.{dist, dist_sub}
use Rattle.laws.proofs.Size.{abs_mul, abs_add, abs_sub}
use Rattle.laws.proofs.Tests.{if_either}

-- ---- a turn by a step
-- the sum with 2^61 is not negative
pub turn_sum : (step : ℤ) (a : ℕ) → nat_abs step ≤ 2 ^ 60 → a < 2 ^ 32 →
    (step +ℤ pos a) +ℤ pos (2 ^ 61) ≡ pos (nat_abs ((step +ℤ pos a) +ℤ pos (2 ^ 61)))
turn_sum step a h k =
    let z = (step +ℤ pos a) +ℤ pos (2 ^ 61) in
    let d = not_below z (omega (arith, sum_ud step (pos a), sum_ud (step +ℤ pos a) (pos (2 ^ 61)), size_ud step)) in
    eq_ud z (pos (nat_abs z)) (omega (arith, size_ud z))

pub turn_rest : (step : ℤ) (a : ℕ) → nat_abs step ≤ 2 ^ 60 → nat_abs ((step +ℤ pos a) +ℤ pos (2 ^ 61)) % 2 ^ 32 ≡ turned_by a step
unfolding turned_by angle_of
turn_rest (pos n) a h = omega arith
turn_rest (negsuc n) a h =
    let z = (negsuc n +ℤ pos a) +ℤ pos (2 ^ 61) in
    let d = not_below z (omega (arith, sum_ud (negsuc n) (pos a), sum_ud (negsuc n +ℤ pos a) (pos (2 ^ 61)))) in
    rest (nat_abs z) a n (omega (arith, sum_ud (negsuc n) (pos a), sum_ud (negsuc n +ℤ pos a) (pos (2 ^ 61)), size_ud z)) (omega arith)
  where
    -- so many whole turns lie between the two
    rest : (x a n : ℕ) → x + suc n ≡ a + 2 ^ 61 → n < 2 ^ 60 → x % 2 ^ 32 ≡ (a + (2 ^ 32 - 1 - n % 2 ^ 32)) % 2 ^ 32
    rest x a n e h =
        let y = a + (2 ^ 32 - 1 - n % 2 ^ 32) in
        let t = 2 ^ 29 - 1 - n / 2 ^ 32 in
        ap (λ (k : ℕ). k % 2 ^ 32) (omega (arith, div-add-mod' n (2 ^ 32))) ∙ add-mul-mod_self_left y (2 ^ 32) t

-- ---- a signed angle is from -2^31 to below 2^31
pub signed_size : (a : ℕ) → a < 2 ^ 32 → mag (signed_angle a) < 2 ^ 31
unfolding signed_angle
signed_size a h =
    if_either (λ (z : ℤ). mag z < 2 ^ 31) (ltb a (2 ^ 31)) (pos a) (pos a -ℤ pos (2 ^ 32))
    (λ e. ltb-true a (2 ^ 31) e)
    (λ e. below (pos a -ℤ pos (2 ^ 32)) (omega (arith, ltb-false a (2 ^ 31) e, dif_ud (pos a) (pos (2 ^ 32)))) (omega (arith, dif_ud (pos a) (pos (2 ^ 32)), ltb-false a (2 ^ 31) e)))
  where
    below : (z : ℤ) → up z < dn z → dn z ≤ up z + 2 ^ 31 → mag z < 2 ^ 31
    below (pos n) l m = omega arith
    below (negsuc n) l m = omega arith

pub turn_size : (a b : ℕ) → mag (turn_from a b) < 2 ^ 31
unfolding turn_from
turn_size a b = signed_size ((b + (2 ^ 32 - a)) % 2 ^ 32) (mod-lt (b + (2 ^ 32 - a)) (lit< tt))

-- ---- sizes
double : (s : ℕ) → 0 < s → 2 ^ s ≡ 2 ^ (s - 1) + 2 ^ (s - 1)
double zero h = absurd (not-suc-le-zero h)
double (suc k) h = rw sub-one (omega (arith, pow-suc 2 k))

-- a rounded number, scaled back, is within half a step of what was rounded
pub round_near : (v : ℤ) (s : ℕ) → 0 < s → nat_abs (round_shift v s) * 2 ^ s ≤ nat_abs v + 2 ^ (s - 1)
round_near v s h =
    let r = round_shift v s in
    let f = shift_theorem v s h in
    let m = r *ℤ pos (2 ^ s) in
    let n = pos (2 ^ (s - 1)) in
    let t = pos f.rest in
    let e = ud_eq f.is in
    omega (
      arith,
      abs_mul r (pos (2 ^ s)),
      size_le m (nat_abs v + 2 ^ (s - 1)) (omega (arith, e, sum_ud v n, sum_ud m t, size_ud v)) (omega (arith, e, sum_ud v n, sum_ud m t, size_ud v, f.below, double s h)),
    )

-- two sizes together, from the sizes of sum and difference
two-sizes : (x y : ℤ) (b : ℕ) → nat_abs (x +ℤ y) ≤ b → nat_abs (x -ℤ y) ≤ b → nat_abs x + nat_abs y ≤ b
two-sizes x y b h k = go x y (omega (arith, size_ud (x +ℤ y), sum_ud x y)) (omega (arith, size_ud (x +ℤ y), sum_ud x y)) (omega (arith, size_ud (x -ℤ y), dif_ud x y)) (omega (arith, size_ud (x -ℤ y), dif_ud x y))
  where
    go : (x y : ℤ) → up x + up y ≤ dn x + dn y + b → dn x + dn y ≤ up x + up y + b → up x + dn y ≤ dn x + up y + b → dn x + up y ≤ up x + dn y + b → nat_abs x + nat_abs y ≤ b
    go (pos x) (pos y) p q r s = omega arith
    go (pos x) (negsuc y) p q r s = omega arith
    go (negsuc x) (pos y) p q r s = omega arith
    go (negsuc x) (negsuc y) p q r s = omega arith

-- difference and sum of two numbers are together at most twice as large as the larger of the two
spread : (c d : ℤ) (t : ℕ) → nat_abs c ≤ t → nat_abs d ≤ t → nat_abs (c -ℤ d) + nat_abs (c +ℤ d) ≤ 2 * t
spread c d t hc hd =
    let x = c -ℤ d in
    let y = c +ℤ d in
    two-sizes x y (2 * t) (size_le (x +ℤ y) (2 * t) (omega (arith, sum_ud x y, dif_ud c d, sum_ud c d, size_ud c)) (omega (arith, sum_ud x y, dif_ud c d, sum_ud c d, size_ud c)))
    (size_le (x -ℤ y) (2 * t) (omega (arith, dif_ud x y, dif_ud c d, sum_ud c d, size_ud d)) (omega (arith, dif_ud x y, dif_ud c d, sum_ud c d, size_ud d)))

times_dif : (i c d : ℤ) → i *ℤ (c -ℤ d) ≡ i *ℤ c -ℤ i *ℤ d
times_dif i c d = *ℤ_comm i (c -ℤ d) ∙ dist_sub c d i ∙ ap₂ ◌-ℤ◌ (*ℤ_comm c i) (*ℤ_comm d i)

times_sum : (i c d : ℤ) → i *ℤ (c +ℤ d) ≡ i *ℤ c +ℤ i *ℤ d
times_sum i c d = *ℤ_comm i (c +ℤ d) ∙ dist c d i ∙ ap₂ ◌+ℤ◌ (*ℤ_comm c i) (*ℤ_comm d i)

-- u and v times numbers of size at most b
weighed : (i q u v : ℤ) (b t : ℕ) → nat_abs i ≤ b → nat_abs q ≤ b → nat_abs u + nat_abs v ≤ 2 * t → nat_abs (i *ℤ u) + nat_abs (q *ℤ v) ≤ b * (2 * t)
weighed i q u v b t hi hq h =
    rw (abs_mul i u, abs_mul q v)
    (omega (arith, mul-le-mul_right (nat_abs u) hi, mul-le-mul_right (nat_abs v) hq, mul-add b (nat_abs u) (nat_abs v), mul-le-mul_left b h))

-- the parts of a symbol turned back, before they are rounded: their sum is i (c - d) + q (c + d), their difference i (c + d) - q (c - d)
pub turned-parts : (i q c d : ℤ) (b t : ℕ) → nat_abs i ≤ b → nat_abs q ≤ b → nat_abs c ≤ t → nat_abs d ≤ t → nat_abs (i *ℤ c +ℤ q *ℤ d) + nat_abs (q *ℤ c -ℤ i *ℤ d) ≤ b * (2 * t)
turned-parts i q c d b t hi hq hc hd =
    two-sizes x y (b * (2 * t)) (rw sum (omega (arith, abs_add (i *ℤ (c -ℤ d)) (q *ℤ (c +ℤ d)), weighed i q (c -ℤ d) (c +ℤ d) b t hi hq k)))
    (rw dif (omega (arith, abs_sub (i *ℤ (c +ℤ d)) (q *ℤ (c -ℤ d)), weighed i q (c +ℤ d) (c -ℤ d) b t hi hq (omega (arith, k)))))
  where
    x : ℤ
    x = i *ℤ c +ℤ q *ℤ d

    y : ℤ
    y = q *ℤ c -ℤ i *ℤ d

    k : nat_abs (c -ℤ d) + nat_abs (c +ℤ d) ≤ 2 * t
    k = spread c d t hc hd

    sum : x +ℤ y ≡ i *ℤ (c -ℤ d) +ℤ q *ℤ (c +ℤ d)
    sum =
        rw (times_dif i c d, times_sum q c d)
        (eq_ud (x +ℤ y) ((i *ℤ c -ℤ i *ℤ d) +ℤ (q *ℤ c +ℤ q *ℤ d))
        (omega (arith, sum_ud x y, sum_ud (i *ℤ c) (q *ℤ d), dif_ud (q *ℤ c) (i *ℤ d), sum_ud (i *ℤ c -ℤ i *ℤ d) (q *ℤ c +ℤ q *ℤ d), dif_ud (i *ℤ c) (i *ℤ d), sum_ud (q *ℤ c) (q *ℤ d))))

    dif : x -ℤ y ≡ i *ℤ (c +ℤ d) -ℤ q *ℤ (c -ℤ d)
    dif =
        rw (times_sum i c d, times_dif q c d)
        (eq_ud (x -ℤ y) ((i *ℤ c +ℤ i *ℤ d) -ℤ (q *ℤ c -ℤ q *ℤ d))
        (omega (arith, dif_ud x y, sum_ud (i *ℤ c) (q *ℤ d), dif_ud (q *ℤ c) (i *ℤ d), dif_ud (i *ℤ c +ℤ i *ℤ d) (q *ℤ c -ℤ q *ℤ d), sum_ud (i *ℤ c) (i *ℤ d), dif_ud (q *ℤ c) (q *ℤ d))))

-- ---- A TURNED SYMBOL: parts of size at most b, turned back by any table's cosine and sine and rounded by s bits, are together at most
-- 65,536 b / 2^s, and one more for the two roundings
pub record Turned (b s : ℕ) (p : Parts) : Type 0 where
  pub both : (nat_abs p.re + nat_abs p.im) * 2 ^ s ≤ b * 65536 + 2 ^ s
  pub re : nat_abs p.re * 2 ^ s ≤ b * 65536 + 2 ^ (s - 1)
  pub im : nat_abs p.im * 2 ^ s ≤ b * 65536 + 2 ^ (s - 1)

pub turned_size : (p : CosSin) (i q : ℤ) (b s : ℕ) → nat_abs p.cos ≤ 32768 → nat_abs p.sin ≤ 32768 → nat_abs i ≤ b → nat_abs q ≤ b → 0 < s → Turned b s (turned_back p i q s)
unfolding turned_back
turned_size p i q b s hc hd hi hq h =
    let k = turned-parts i q p.cos p.sin b 32768 hi hq hc hd in
    let u = round_near (i *ℤ p.cos +ℤ q *ℤ p.sin) s h in
    let v = round_near (q *ℤ p.cos -ℤ i *ℤ p.sin) s h in
    record {
      both = rw (add-mul (nat_abs (round_shift (i *ℤ p.cos +ℤ q *ℤ p.sin) s)) (nat_abs (round_shift (q *ℤ p.cos -ℤ i *ℤ p.sin) s)) (2 ^ s)) (omega (arith, k, u, v, double s h));
      re = omega (arith, k, u);
      im = omega (arith, k, v);
    }
