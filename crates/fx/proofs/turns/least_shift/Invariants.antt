use Rattle.std.proofs.Common.{◌≡◌, ◌-◌, ◌≤◌}
use Rattle.fx.specs.Scale.{under_at}
use Rattle.laws.specs.Ranges.{first_from}
use Rattle.fx.proofs.turns.least_shift.Given as goal

abbrev pub invariant-loop-s : goal.invariant-loop-s
invariant-loop-s l = (l.s ≤ 39) × (first_from (under_at l.re l.im) (39 - l.s) l.s ≡ first_from (under_at l.re l.im) 39 0)
