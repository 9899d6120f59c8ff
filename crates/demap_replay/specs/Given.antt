-- States as calls put them together.
use Rattle.std.specs.Prelude.{ℕ, List, [], ◌∷◌, eqb, ltb, ℤ, set, Option, None, Some}
use Rattle.laws.specs.Choice.{when◌then◌else◌}
use Rattle.learn.specs.declared.Learn.{Learn}
use Rattle.in_force.specs.declared.InForce.{InForce}
use Rattle.fields.specs.Fields.{at, at32, signed64, on}

-- ---- a state of learning with another sum, another count, other noise
unfoldable pub sum_put : Learn → ℕ → ℤ → Learn
sum_put l k v = when ltb k 124 then record { sum = set l.sum k v; count = l.count; noise = l.noise; samples = l.samples } else l

unfoldable pub count_put : Learn → ℕ → ℕ → Learn
count_put l k v = when ltb k 62 then record { sum = l.sum; count = set l.count k v; noise = l.noise; samples = l.samples } else l

unfoldable pub noise_put : Learn → ℤ → ℕ → Learn
noise_put l noise samples = record { sum = l.sum; count = l.count; noise = noise; samples = samples }

-- ---- what is in force, numbers 1 to 9: five flags, noise figure, scale, whether there is a frame, its number
unfoldable pub source_of : List ℕ → Option ℕ
source_of p = when eqb (at p 8) 0 then None else Some (at32 p 9)

unfoldable pub force_of : List ℕ → InForce
force_of p =
    record {
      learned = on p 1 ∷ on p 2 ∷ on p 3 ∷ on p 4 ∷ on p 5 ∷ [];
      n0 = signed64 p 6;
      k = signed64 p 7;
      from = source_of p;
    }
