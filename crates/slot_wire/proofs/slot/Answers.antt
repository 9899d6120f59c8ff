-- `slot_wire::slot` meets its contract. Assumes nothing.
use Rattle.slot_wire.specs.Slots.{slot_by}
use Rattle.laws.specs.Choice.{if_yes, if_no}
use borrow.Author.Tests.{eq-eqb, ne_eqb}
use mathlib.Core.Path.{sym}
use Rattle.slot_wire.proofs.slot.Goals as goal

pub returns-then-known-eq0 : goal.returns-then-known-eq0
unfolding slot_by
returns-then-known-eq0 c = sym (if_yes _ _ _ (eq-eqb _ _ c.if-known-eq0.true))

pub returns-else-known-eq0 : goal.returns-else-known-eq0
unfolding slot_by
returns-else-known-eq0 c = rw (c.of_bits-else-known-eq0.ensures, c.of_bits.ensures) (sym (if_no _ _ _ (ne_eqb _ _ c.if-known-eq0.false)))
