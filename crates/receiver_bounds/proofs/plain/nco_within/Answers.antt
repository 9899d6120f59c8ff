-- `receiver_bounds::plain::nco_within` meets its contract: one case of the trail for each. Assumes nothing.
use Rattle.std.specs.Prelude.{◌≡◌, Bool, Option, None, Some, IsTrue, MatchOption}
use Rattle.std.proofs.Common.{rules}
use Rattle.carrier.specs.declared.Steps.{Steps}
use Rattle.receiver_bounds.specs.Bounds.{steps_within, trail_within, nco_within}
use Rattle.receiver_bounds.proofs.plain.nco_within.Goals as goal

-- what holds of an absent trail, or of the one there is
told : (t : Option Steps) (r : Bool) → MatchOption t (IsTrue r) (λ x. r ≡ steps_within x) → r ≡ trail_within t
unfolding trail_within
told None r h = search (rules, h)
told (Some x) r h = h

pub returns : goal.returns
unfolding nco_within
returns c = told c.args.n.trail c.is_none_or.result c.is_none_or.ensures
