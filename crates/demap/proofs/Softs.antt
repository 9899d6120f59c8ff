-- The soft value of a gap: it grows with the gap, and has its sign. Assumes nothing.
use mathlib.Core.Bool.{true, false}
use mathlib.Core.Path.{◌≡◌, refl}
use Prim.Native.Nat.{◌^◌}
use native.Mathlib.Omega.{arith}
use lib.IntN.{ℤ, pos, negsuc, ◌+ℤ◌, ◌-ℤ◌, ◌*ℤ◌, zero-*ℤ}
use lib.Signed.{lt_z, ◌≤ℤ◌, ◌<ℤ◌}
use Rattle.fx.specs.Fx.{floor_div, round_shift, clamp, sat127_of}
use Rattle.laws.proofs.Linear.{dn, sum_ud, dif_ud, ud_lt, ud_le, ud_eq, lt_ud, le_ud, not_below, test_lt, test_le}
use Rattle.laws.proofs.Product.{dist_sub}
use Rattle.laws.proofs.Tests.{by_test, if_either}
use Rattle.laws.specs.Choice as X
use Rattle.laws.specs.Choice.{when◌then◌else◌, minus}
use Rattle.demap.specs.Demap.{soft_of}

-- ---- each step keeps the order
floor_up : (a b : ℤ) → a ≤ℤ b → floor_div a (2 ^ 33) ≤ℤ floor_div b (2 ^ 33)
floor_up (pos a) (pos b) h = le_ud _ _ (omega (arith, ud_le h))
floor_up (pos a) (negsuc b) h = absurd h.le
floor_up (negsuc a) (pos b) h = record { le = tt }
floor_up (negsuc a) (negsuc b) h = le_ud _ _ (omega (arith, ud_le h))

shift_up : (a b : ℤ) → a ≤ℤ b → round_shift a 32 ≤ℤ round_shift b 32
unfolding round_shift X.when◌then◌else◌
shift_up a b h =
    let n = pos 4294967296 in
    floor_up (a +ℤ a +ℤ n) (b +ℤ b +ℤ n)
    (le_ud _ _ (omega (arith, ud_le h, sum_ud a a, sum_ud b b, sum_ud (a +ℤ a) n, sum_ud (b +ℤ b) n)))

not_neg : (d k : ℤ) → dn d ≡ 0 → dn k ≡ 0 → dn (d *ℤ k) ≡ 0
not_neg (pos a) (pos b) h e = refl
not_neg (pos a) (negsuc b) h e = omega arith
not_neg (negsuc a) k h e = omega arith

product_up : (a b k : ℤ) → a ≤ℤ b → pos 0 ≤ℤ k → (a *ℤ k) ≤ℤ (b *ℤ k)
product_up a b k h z =
    let d = not_below (b -ℤ a) (omega (arith, ud_le h, dif_ud b a)) in
    let n = not_below k (omega (arith, ud_le z)) in
    le_ud (a *ℤ k) (b *ℤ k) (omega (arith, not_neg (b -ℤ a) k d n, ud_eq (dist_sub b a k), dif_ud (b *ℤ k) (a *ℤ k)))

clamp-up : (lo hi v w : ℤ) → lo ≤ℤ hi → v ≤ℤ w → clamp lo hi v ≤ℤ clamp lo hi w
clamp-up lo hi v w l h =
    if_either (λ (y : ℤ). clamp lo hi v ≤ℤ y) (lt_z w lo) lo (when lt_z hi w then hi else w)
    (λ e. of-v lo (λ d. le_ud lo lo (omega arith)) (λ d. le_ud hi lo (omega (arith, ud_le l, ud_le h, test_lt w lo e, test_lt hi v d))) (λ d f. le_ud v lo (omega (arith, ud_le h, test_lt w lo e))))
    (λ e.
    if_either (λ (y : ℤ). clamp lo hi v ≤ℤ y) (lt_z hi w) hi w
    (λ f. of-v hi (λ d. l) (λ d. le_ud hi hi (omega arith)) (λ d g. le_ud v hi (omega (arith, test_le hi v g))))
    (λ f.
    of-v w (λ d. le_ud lo w (omega (arith, test_le w lo e))) (λ d. le_ud hi w (omega (arith, ud_le h, test_lt hi v d))) (λ d g. h)))
  where
    -- each of the three that clamp may choose is at most y
    of-v : (y : ℤ) → (lt_z v lo ≡ true → lo ≤ℤ y) → (lt_z hi v ≡ true → hi ≤ℤ y) → (lt_z v lo ≡ false → lt_z hi v ≡ false → v ≤ℤ y) → clamp lo hi v ≤ℤ y
    of-v y p q r =
        if_either (λ (x : ℤ). x ≤ℤ y) (lt_z v lo) lo (when lt_z hi v then hi else v) p
        (λ d. if_either (λ (x : ℤ). x ≤ℤ y) (lt_z hi v) hi v q (λ g. r d g))

pub soft_up : (gap gap2 k : ℤ) → gap ≤ℤ gap2 → pos 0 ≤ℤ k → soft_of gap k ≤ℤ soft_of gap2 k
unfolding soft_of sat127_of
soft_up a b k h z =
    clamp-up (minus 127) (pos 127) (round_shift (a *ℤ k) 32) (round_shift (b *ℤ k) 32) (record { le = tt })
    (shift_up (a *ℤ k) (b *ℤ k) (product_up a b k h z))

-- ---- so it has the sign of the gap
soft_zero : (k : ℤ) → soft_of (pos 0) k ≡ pos 0
unfolding soft_of sat127_of round_shift X.when◌then◌else◌
soft_zero k = rw (zero-*ℤ k)

pub gap_above : (gap k : ℤ) → pos 0 ≤ℤ k → pos 0 <ℤ soft_of gap k → pos 0 <ℤ gap
gap_above gap k z h =
    by_test (lt_z (pos 0) gap)
    (λ e. lt_ud (pos 0) gap (test_lt (pos 0) gap e))
    (λ e.
    let s = soft_up gap (pos 0) k (le_ud gap (pos 0) (test_le (pos 0) gap e)) z in
    lt_ud (pos 0) gap (omega (arith, ud_lt h, ud_le s, ud_eq (soft_zero k))))

pub gap_below : (gap k : ℤ) → pos 0 ≤ℤ k → soft_of gap k <ℤ pos 0 → gap <ℤ pos 0
gap_below gap k z h =
    by_test (lt_z gap (pos 0))
    (λ e. lt_ud gap (pos 0) (test_lt gap (pos 0) e))
    (λ e.
    let s = soft_up (pos 0) gap k (le_ud (pos 0) gap (test_le gap (pos 0) e)) z in
    lt_ud gap (pos 0) (omega (arith, ud_lt h, ud_le s, ud_eq (soft_zero k))))
