-- What the bytes of a call hold: points from 32 on, 16 bits each, the low byte first.
use Rattle.std.specs.Prelude.{ℕ, ◌+◌, ◌*◌, List, ℤ}
use Rattle.laws.specs.Ranges.{firsts}
use Rattle.fields.specs.Fields.{pair_at}

unfoldable pub point_at : List ℕ → ℕ → ℤ
point_at bytes k = pair_at bytes (32 + 2 * k)

unfoldable pub points_of : List ℕ → List ℤ
points_of bytes = firsts (point_at bytes) 80
