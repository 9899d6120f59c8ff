-- `phase_wire::trail_at` meets its contract. Assumes nothing.
use Rattle.phase_wire.specs.Given.{trail_of}
use Rattle.laws.specs.Choice.{if_yes, if_no}
use borrow.Author.Tests.{eq-eqb, ne_eqb}
use mathlib.Core.Path.{sym}
use mir.Facts.{to_z-of_z}
use Rattle.phase_wire.proofs.trail_at.Goals as goal

pub returns-then-p-eq0 : goal.returns-then-p-eq0
unfolding trail_of
returns-then-p-eq0 c = sym (if_yes _ _ _ (eq-eqb _ _ c.if-p-eq0.true))

pub returns-else-p-eq0 : goal.returns-else-p-eq0
unfolding trail_of
returns-else-p-eq0 c = rw (to_z-of_z (record { sfits = c.of_bits-else-p-eq0.type_inv }), c.of_bits-else-p-eq0-2.ensures, c.of_bits-else-p-eq0.ensures, c.of_bits.ensures) (sym (if_no _ _ _ (ne_eqb _ _ c.if-p-eq0.false)))
