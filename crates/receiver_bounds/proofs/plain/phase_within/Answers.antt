-- `receiver_bounds::plain::phase_within` meets its contract. Assumes nothing.
use Rattle.std.specs.Prelude.{◌≡◌, Bool, Option, None, Some, IsTrue, MatchOption}
use Rattle.std.proofs.Common.{rules}
use Rattle.phase.specs.declared.Held.{Held}
use Rattle.receiver_bounds.specs.Bounds.{held_within, phase_within}
use Rattle.receiver_bounds.proofs.plain.phase_within.Goals as goal

-- what holds of an absent value, or of the one held
told : (s : Option Held) (r : Bool) → MatchOption s (IsTrue r) (λ x. r ≡ held_within x) → r ≡ phase_within s
unfolding phase_within
told None r h = search (rules, h)
told (Some x) r h = h

pub returns : goal.returns
returns c = told c.args.s c.is_none_or.result c.is_none_or.ensures
