-- What the numbers of a call hold, and states with parts replaced.
use Rattle.std.specs.Prelude.{ℕ, ◌/◌, ◌%◌, ◌^◌, List, eqb, ℤ, pos, get_or, Option, None, Some}
use Rattle.laws.specs.Choice.{when◌then◌else◌}
use Rattle.laws.specs.Ranges.{firsts}
use Rattle.eq.specs.declared.Equaliser.{Equaliser}
use Rattle.sums.specs.declared.Sums.{Sums}
use Rattle.wire.specs.Wire.{signed}
use Rattle.fields.specs.Fields.{at, at32, parts_of, on}

-- the 22 numbers from 2 on
abbrev pub wides_of : List ℕ → List ℤ
wides_of p = parts_of (λ u. signed (2 ^ 63) u) p

-- ---- an equaliser with another line, with other taps
unfoldable pub line_put : Equaliser → List ℤ → Equaliser
line_put e line = record { line = line; filled = e.filled; taps = e.taps; from = e.from; opened = e.opened; sums = e.sums }

unfoldable pub taps_put : Equaliser → List ℤ → Equaliser
taps_put e taps = record { line = e.line; filled = e.filled; taps = taps; from = e.from; opened = e.opened; sums = e.sums }

-- with other single numbers, 1 to 6: fill, whether the taps have a frame, that frame, whether sums are open, their frame, their count
unfoldable pub from_of : List ℕ → Option ℕ
from_of p = when eqb (at p 2) 0 then None else Some (at32 p 3)

unfoldable pub numbers_put : Equaliser → List ℕ → Equaliser
numbers_put e p =
    record {
      line = e.line;
      filled = at32 p 1;
      taps = e.taps;
      from = from_of p;
      opened = on p 4;
      sums = record { frame = at32 p 5; count = at32 p 6; r = e.sums.r; p = e.sums.p };
    }

-- ---- sums with another group of 22 numbers of the upper entries, of which there are six; with other right-hand entries
unfoldable pub upper_entry : List ℤ → ℕ → List ℤ → ℕ → ℤ
upper_entry r group v j = when eqb (j / 22) group then get_or v (j % 22) (pos 0) else get_or r j (pos 0)

unfoldable pub upper_of : List ℤ → ℕ → List ℤ → List ℤ
upper_of r group v = firsts (upper_entry r group v) 132

unfoldable pub upper_put : Sums → ℕ → List ℤ → Sums
upper_put s group v = record { frame = s.frame; count = s.count; r = upper_of s.r group v; p = s.p }

unfoldable pub right_put : Sums → List ℤ → Sums
right_put s v = record { frame = s.frame; count = s.count; r = s.r; p = v }
