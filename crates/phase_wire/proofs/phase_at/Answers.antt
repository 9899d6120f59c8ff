-- `phase_wire::phase_at` meets its contract. Assumes nothing.
use Rattle.phase_wire.specs.Given.{phase_of}
use Rattle.laws.specs.Choice.{if_yes, if_no}
use borrow.Author.Tests.{eq-eqb, ne_eqb}
use mathlib.Core.Path.{sym}
use Rattle.phase_wire.proofs.phase_at.Goals as goal

pub returns-then-p-eq0 : goal.returns-then-p-eq0
unfolding phase_of
returns-then-p-eq0 c = sym (if_yes _ _ _ (eq-eqb _ _ c.if-p-eq0.true))

pub returns-else-p-eq0 : goal.returns-else-p-eq0
unfolding phase_of
returns-else-p-eq0 c = rw (c.of_bits.ensures, c.head_at.ensures) (sym (if_no _ _ _ (ne_eqb _ _ c.if-p-eq0.false)))
