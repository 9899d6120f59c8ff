-- `receiver_symbol::refusals::lent` meets its contract. Assumes nothing.
use Rattle.receiver_symbol.specs.Parts.{lent_refusal}
use Rattle.laws.specs.Choice.{cases}
use Rattle.receiver_symbol.proofs.refusals.lent.Goals as goal

pub returns-then-not-acc-store : goal.returns-then-not-acc-store
unfolding lent_refusal
returns-then-not-acc-store c = search cases

pub returns-then-not-ones : goal.returns-then-not-ones
unfolding lent_refusal
returns-then-not-ones c = rw (← c.ones.ensures, ← c.ones-2.ensures) (search cases)

pub returns-then-table-ne1024 : goal.returns-then-table-ne1024
unfolding lent_refusal
returns-then-table-ne1024 c = rw (← c.ones.ensures, ← c.ones-2.ensures) (search cases)

pub returns : goal.returns
unfolding lent_refusal
returns c = rw (← c.ones.ensures, ← c.ones-2.ensures) (search cases)
