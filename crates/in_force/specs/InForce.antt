-- What a frame is demapped with, and what its successor is: `InForce` of chain/demap.rs.
use Rattle.std.specs.Prelude.{ℕ, zero, suc, ◌+◌, ◌^◌, Bool, false, ◌&&◌, List, eqb, ℤ, pos, replicate, None, Some}
use Rattle.std.specs.Int.Signed.{le_z}
use Rattle.laws.specs.Choice.{when◌then◌else◌, minus}
use Rattle.laws.specs.Ranges.{firsts}
use Rattle.demap.specs.Demap.{scale_of}
use Rattle.learn.specs.declared.Learn.{Learn}
use Rattle.learn.specs.Learning.{set_learned, learned_slice, mean_noise}
use Rattle.in_force.specs.declared.InForce.{InForce}

-- before the first frame: no learned set, and the noise figure 52,556
unfoldable pub default_force : InForce
default_force = record { learned = replicate 5 false; n0 = pos 52556; k = scale_of (pos 52556); from = None }

-- "a flag for each set says if it is learned": by this frame alone; flag b is that of the set of b + 1 bits
unfoldable pub set_flags : Learn → List Bool
set_flags l = firsts (λ (b : ℕ). set_learned l (b + 1)) 5

-- the slice of learned points after the sets of 1 to n bits: a set that is not learned keeps its part
unfoldable pub slices_learned : Learn → ℕ → List ℤ → List ℤ
slices_learned l zero learned = learned
slices_learned l (suc n) learned = learned_slice l (suc n) (slices_learned l n learned)

-- the noise figure: the mean of the samples, or the old one if there is none
unfoldable pub noise_after : Learn → ℤ → ℤ
noise_after l old = when eqb l.samples 0 then old else mean_noise l

-- what frame number `frame` gives the next
unfoldable pub renewed_of : InForce → Learn → ℕ → InForce
renewed_of f l frame = let n0 = noise_after l f.n0 in record { learned = set_flags l; n0 = n0; k = scale_of n0; from = Some frame }

-- ---- the ranges of docs/RANGES.md: a mean of samples from -2^33 to 2^33 + 2^31; a scale. Flags and frame may be any
unfoldable pub force_in_range : InForce → Bool
force_in_range f = le_z (minus (2 ^ 33)) f.n0 && le_z f.n0 (pos (2 ^ 33 + 2 ^ 31)) && le_z (pos 0) f.k && le_z f.k (pos (2 ^ 24))
