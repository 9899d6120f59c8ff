-- The ranges of docs/RANGES.md, "Equaliser". Line and taps may hold anything; sums that are not open are not looked at.
use Rattle.std.specs.Prelude.{Bool, true, ◌&&◌, ◌≡◌, leb}
use Rattle.laws.specs.Choice.{when◌then◌else◌}
use Rattle.eq_train.specs.Ranges.{sums_in_range, SumsOk}
use Rattle.eq.specs.declared.Equaliser.{Equaliser}
use Rattle.eq.specs.Eq.{trains_eq}

unfoldable pub eq_in_range : Equaliser → Bool
eq_in_range e = leb e.filled 11 && (when e.opened then sums_in_range e.sums else true)

-- what a training needs
pub record TrainOk (e : Equaliser) : Type 0 where
  pub sums : trains_eq e ≡ true → SumsOk e.sums
