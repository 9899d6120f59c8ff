-- The equaliser: 11 taps with 14 fraction bits, a line of 11 symbols, training sums.
use Rattle.angles.specs.declared.Symbol.{Symbol}
use Rattle.std.specs.Prelude.{ℕ, ◌+◌, min, Bool, true, false, ◌&&◌, List, leb, ltb, ℤ, Option, None, Some}
use Rattle.laws.specs.Choice.{when◌then◌else◌}
use Rattle.sums.specs.Sums.{empty_sums}
use Rattle.sums.specs.declared.Sums.{Sums}
use Rattle.eq_fir.specs.Fir.{line_after, no_line, identity_taps, output_of}
use Rattle.eq_train.specs.Train.{trained_sums}
use Rattle.eq.specs.declared.Closed.{Closed}
use Rattle.eq.specs.declared.Equaliser.{Equaliser}

-- an equaliser that starts with these taps; a new one has the identity, a restarted one the taps it had
unfoldable pub started_eq : List ℤ → Option ℕ → Equaliser
started_eq taps from = record { line = no_line; filled = 0; taps = taps; from = from; opened = false; sums = empty_sums 0 }

unfoldable pub new_eq : Equaliser
new_eq = started_eq identity_taps None

-- one more symbol; the fill counts up to 11
unfoldable pub pushed_eq : Equaliser → ℤ → ℤ → Equaliser
pushed_eq e i q =
    record {
      line = line_after e.line i q;
      filled = min (e.filled + 1) 11;
      taps = e.taps;
      from = e.from;
      opened = e.opened;
      sums = e.sums;
    }

-- "no output for the equaliser's first five symbols"
unfoldable pub output_at : Equaliser → Option Symbol
output_at e = when ltb 5 e.filled then Some (output_of e.taps e.line) else None

unfoldable pub with_sums : Equaliser → Bool → Sums → Equaliser
with_sums e opened sums = record { line = e.line; filled = e.filled; taps = e.taps; from = e.from; opened = opened; sums = sums }

-- without sums, and those that were open
unfoldable pub closed_eq : Equaliser → Closed
closed_eq e =
    when e.opened
    then record { eq = with_sums e false (empty_sums 0); sums = Some e.sums }
    else record { eq = e; sums = None }

unfoldable pub loaded_eq : Equaliser → List ℤ → ℕ → Equaliser
loaded_eq e taps frame = record { line = e.line; filled = e.filled; taps = taps; from = Some frame; opened = e.opened; sums = e.sums }

-- "training ignored while the line holds under 11 symbols or no sums are open"
unfoldable pub trains_eq : Equaliser → Bool
trains_eq e = e.opened && leb 11 e.filled

unfoldable pub trained_eq : Equaliser → ℤ → ℤ → Equaliser
trained_eq e di dq = when trains_eq e then with_sums e true (trained_sums e.sums e.line di dq) else e
