-- What is true together of the numbers of a carrier that came from calls: docs/RANGES.md, under Carrier, what is told jointly.
use Rattle.std.specs.Prelude.{◌-◌, ◌*◌, ◌^◌, ◌≤◌, pos, ◌≤ℤ◌, Option, None, Some}
use Rattle.laws.specs.Choice.{minus}
use Rattle.carrier.specs.declared.Nco.{Nco}
use Rattle.carrier.specs.declared.Steps.{Steps}

pub record StepsFit (s : Steps) : Type 0 where
  -- the sixtieth sets
  pub few : s.steps ≤ 59
  -- each difference is at least -2^31 ..
  pub low : minus (s.steps * 2 ^ 31) ≤ℤ s.sum
  -- .. and at most 2^31 - 1
  pub high : s.sum ≤ℤ pos (s.steps * (2 ^ 31 - 1))

abbrev pub TrailFits : Option Steps → Type 0
TrailFits None = Unit {0}
TrailFits (Some s) = StepsFit s

-- phase and step may be any
pub record Coherent (n : Nco) : Type 0 where
  pub trail : TrailFits n.trail
