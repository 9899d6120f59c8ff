-- `phase::refusals::past_end` meets its contract: one case of what is held for each. Assumes nothing.
use Rattle.std.specs.Prelude.{◌≡◌, Bool, Option, None, Some, IsFalse, MatchOption}
use Rattle.std.proofs.Common.{rules}
use Rattle.phase.specs.declared.Held.{Held}
use Rattle.phase.specs.Answers.{held_past, past_end}
use Rattle.phase.proofs.refusals.past_end.Goals as goal

-- what holds of an absent value, or of the one held
told : (s : Option Held) (r : Bool) → MatchOption s (IsFalse r) (λ x. r ≡ held_past x) → r ≡ past_end s
unfolding past_end
told None r h = search (rules, h)
told (Some x) r h = h

pub returns : goal.returns
returns c = told c.args.s c.is_some_and.result c.is_some_and.ensures
