-- A rounded mean lies where the numbers do: of b numbers from -m to n, so does their mean. Assumes nothing.
use Prim.Native.Nat.{ℕ, zero, suc, ◌+◌, ◌*◌, ◌/◌, ◌≤◌, ◌<◌}
use native.Mathlib.Nat.{div-lt_iff_lt-mul, suc-mul, not-suc-le-zero}
use native.Mathlib.Omega.{arith}
use lib.IntN.{ℤ, pos, negsuc, nat_abs, ◌+ℤ◌}
use lib.Signed.{shr_z, ◌≤ℤ◌}
use Rattle.fx.specs.Fx.{div_round}
use Rattle.laws.proofs.Linear.{up, dn, sum_ud, neg_ud, ud_le, le_ud, size_ud, size_le}
use Rattle.laws.specs.Choice.{minus}

-- the floor of z / m, of a z at most t, and of one at least -t
floor_most : (z : ℤ) (m n t : ℕ) → 0 < m → up z ≤ dn z + t → t < suc n * m → shr_z z m ≤ℤ pos n
floor_most (pos x) m n t h k l = le_ud (pos (x / m)) (pos n) (omega (arith, (div-lt_iff_lt-mul {k = m} {x = x} {y = suc n} h).1 (omega arith)))
floor_most (negsuc x) m n t h k l = le_ud (negsuc (x / m)) (pos n) (omega arith)

floor_least : (z : ℤ) (m n t : ℕ) → 0 < m → dn z ≤ up z + t → t ≤ n * m → minus n ≤ℤ shr_z z m
floor_least (pos x) m n t h k l = le_ud (minus n) (pos (x / m)) (omega (arith, neg_ud (pos n)))
floor_least (negsuc x) m n t h k l =
    le_ud (minus n) (negsuc (x / m)) (omega (arith, neg_ud (pos n), (div-lt_iff_lt-mul {k = m} {x = x} {y = n} h).1 (omega arith)))

pub mean_high : (a : ℤ) (b n : ℕ) → 0 < b → a ≤ℤ pos (b * n) → div_round a (pos b) ≤ℤ pos n
unfolding div_round
mean_high a b n h k =
    floor_most (a +ℤ a +ℤ pos b) (2 * b) n (2 * (b * n) + b) (omega arith) (omega (arith, sum_ud a a, sum_ud (a +ℤ a) (pos b), ud_le k)) (room b n h)
  where
    room : (b n : ℕ) → 0 < b → 2 * (b * n) + b < suc n * (2 * b)
    room b n h = omega arith

pub mean_low : (a : ℤ) (b n : ℕ) → 0 < b → minus (b * n) ≤ℤ a → minus n ≤ℤ div_round a (pos b)
unfolding div_round
mean_low a b n h k =
    floor_least (a +ℤ a +ℤ pos b) (2 * b) n (2 * (b * n)) (omega arith)
    (omega (arith, sum_ud a a, sum_ud (a +ℤ a) (pos b), neg_ud (pos (b * n)), ud_le k)) (room b n)
  where
    room : (b n : ℕ) → 2 * (b * n) ≤ n * (2 * b)
    room b n = omega arith

-- so it is no larger than the largest
pub mean_size : (a : ℤ) (b B : ℕ) → 0 < b → nat_abs a ≤ B → nat_abs (div_round a (pos b)) ≤ B
mean_size a b B h k =
    let m : B ≤ b * B = le-mul b B h in
    let p = mean_high a b B h (le_ud a (pos (b * B)) (omega (arith, size_ud a))) in
    let q = mean_low a b B h (le_ud (minus (b * B)) a (omega (arith, size_ud a, neg_ud (pos (b * B))))) in
    size_le (div_round a (pos b)) B (omega (arith, ud_le p)) (omega (arith, ud_le q, neg_ud (pos B)))
  where
    le-mul : (b B : ℕ) → 0 < b → B ≤ b * B
    le-mul (suc b) B h = rw (suc-mul b B) (omega arith)
    le-mul zero B h = absurd (not-suc-le-zero h)
