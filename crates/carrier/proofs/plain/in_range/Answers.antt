-- `carrier::plain::in_range` meets its contract: one case of the trail for each. Assumes nothing.
use Rattle.std.specs.Prelude.{◌≡◌, Bool, Option, None, Some, IsTrue, MatchOption}
use Rattle.std.proofs.Common.{rules}
use Rattle.carrier.specs.declared.Steps.{Steps}
use Rattle.carrier.specs.Ranges.{steps_in_range, trail_in_range, nco_in_range}
use Rattle.carrier.proofs.plain.in_range.Goals as goal

-- what holds of an absent trail, or of the one there is
told : (t : Option Steps) (r : Bool) → MatchOption t (IsTrue r) (λ x. r ≡ steps_in_range x) → r ≡ trail_in_range t
unfolding trail_in_range
told None r h = search (rules, h)
told (Some x) r h = h

pub returns : goal.returns
unfolding nco_in_range
returns c = told c.args.n.trail c.is_none_or.result c.is_none_or.ensures
