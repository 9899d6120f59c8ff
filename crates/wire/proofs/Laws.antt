-- Laws of the definitions of wire. Assumes nothing.
use Rattle.std.proofs.Common.{◌≡◌, ℕ, zero, suc, ◌-◌, ◌*◌, ◌^◌, ◌≤◌, ◌<◌, get_or, Bool, true, false, refl, ap, arith, ℤ, pos, negsuc, Fits, w64, to_z, of_z}
use mir.Facts.{of_z-to_z}
use lib.Dec.{ltb}
use mir.Syntax.{Width}
use mir.Val.{bits as bits_of, hbits, sel}
use Rattle.laws.specs.Choice.{when◌then◌else◌}
use Rattle.wire.specs.Wire.{signed, bits, byte_of, bytes_of}

-- ---- a number that a `match` on 0, 1, .. k - 1 leaves
abbrev pub NoneOf : ℕ → ℕ → Type 0
NoneOf zero n = Unit {0}
NoneOf (suc k) n = NoneOf k n × (n ≡ k → ⊥)

pub past : (k n : ℕ) → NoneOf k n → k ≤ n
past zero n t = omega arith
past (suc k) n t = let h = past k n t.0 in let g = t.1 in omega arith

-- ---- signed numbers and their bits, as casts give them
chosen : (t : Bool) (a b c : ℤ) → b ≡ c → sel t a b ≡ (when t then a else c)
unfolding when◌then◌else◌
chosen true a b c e = refl
chosen false a b c e = e

-- `half` is half of the numbers of the width
pub read_signed : (w : Width) (half u : ℕ) (r : ℤ) → Fits w u → half ≡ 2 ^ hbits w → 2 ^ bits_of w ≡ 2 * half → r ≡ to_z w u → to_z w (of_z w r) ≡ signed half u
unfolding signed
read_signed w half u r f g h e =
    let m : 2 ^ bits_of w - suc u ≡ 2 * half - 1 - u = omega (arith, h) in
    rw (e, of_z-to_z f, ← g) (chosen (ltb u half) (pos u) (negsuc (2 ^ bits_of w - suc u)) (negsuc (2 * half - 1 - u)) (ap negsuc m))

pub bits_read : (z : ℤ) → of_z w64 z ≡ bits z
unfolding bits
bits_read (pos n) = refl
bits_read (negsuc n) = omega arith

-- ---- a byte among the eight of a number
pub byte_in : (u j : ℕ) → j < 8 → get_or (bytes_of u) j 0 ≡ byte_of u j
unfolding bytes_of
byte_in u zero h = refl
byte_in u (suc zero) h = refl
byte_in u (suc (suc zero)) h = refl
byte_in u (suc (suc (suc zero))) h = refl
byte_in u (suc (suc (suc (suc zero)))) h = refl
byte_in u (suc (suc (suc (suc (suc zero))))) h = refl
byte_in u (suc (suc (suc (suc (suc (suc zero)))))) h = refl
byte_in u (suc (suc (suc (suc (suc (suc (suc zero))))))) h = refl
byte_in u (suc (suc (suc (suc (suc (suc (suc (suc j)))))))) h = absurd (omega (arith, h))
