-- `receiver_symbol::refusals::next` meets its contract. Assumes nothing.
use Rattle.receiver_symbol.specs.Parts.{next_refusal}
use Rattle.laws.specs.Choice.{cases}
use Rattle.receiver.specs.Symbol.{next_of}
use Rattle.receiver_symbol.proofs.refusals.next.Goals as goal

pub returns-then-past_end : goal.returns-then-past_end
unfolding next_refusal next_of
returns-then-past_end c = rw (← c.past_end.ensures) (search cases)

pub returns : goal.returns
unfolding next_refusal next_of
returns c = rw (← c.past_end.ensures) (search cases)
