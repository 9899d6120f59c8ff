-- The ranges of docs/RANGES.md, "Carrier", and what the loop needs of a trail; the ranges imply it.
use Rattle.std.specs.Prelude.{◌≤◌, Bool, true, ◌&&◌, leb, pos, nat_abs, Option, None, Some}
use Rattle.std.specs.Int.Signed.{le_z}
use Rattle.laws.specs.Choice.{minus}
use Rattle.carrier.specs.declared.Nco.{Nco}
use Rattle.carrier.specs.declared.Steps.{Steps}

-- at most 59 differences, each from -2^31 to 2^31 - 1
unfoldable pub steps_in_range : Steps → Bool
steps_in_range s = leb s.steps 59 && le_z (minus 126701535232) s.sum && le_z s.sum (pos 126701535173)

unfoldable pub trail_in_range : Option Steps → Bool
trail_in_range None = true
trail_in_range (Some s) = steps_in_range s

-- phase and step may be any
unfoldable pub nco_in_range : Nco → Bool
nco_in_range n = trail_in_range n.trail

pub record StepsOk (s : Steps) : Type 0 where
  pub steps : s.steps ≤ 59
  pub sum : nat_abs s.sum ≤ 126701535232

abbrev pub TrailOk : Option Steps → Type 0
TrailOk None = Unit
TrailOk (Some s) = StepsOk s

pub record NcoOk (n : Nco) : Type 0 where
  pub trail : TrailOk n.trail
