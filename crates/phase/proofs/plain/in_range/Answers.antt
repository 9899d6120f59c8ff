-- `phase::plain::in_range` meets its contract: one case of what is held for each. Assumes nothing.
use Rattle.std.specs.Prelude.{◌≡◌, Bool, Option, None, Some, IsTrue, MatchOption}
use Rattle.std.proofs.Common.{rules}
use Rattle.phase.specs.declared.Held.{Held}
use Rattle.phase.specs.Ranges.{held_in_range, phase_in_range}
use Rattle.phase.proofs.plain.in_range.Goals as goal

-- what holds of an absent value, or of the one held
told : (s : Option Held) (r : Bool) → MatchOption s (IsTrue r) (λ x. r ≡ held_in_range x) → r ≡ phase_in_range s
unfolding phase_in_range
told None r h = search (rules, h)
told (Some x) r h = h

pub returns : goal.returns
returns c = told c.args.s c.is_none_or.result c.is_none_or.ensures
