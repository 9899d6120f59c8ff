-- `sync_wire::parts::record` meets its contract. Assumes nothing.
use Rattle.std.proofs.Common.{eq-eqb, ne_eqb, sym}
use Rattle.laws.specs.Choice.{if_no, if_yes}
use Rattle.sync_wire.specs.Parts.{record_by}
use Rattle.sync_wire.proofs.parts.record.Goals as goal

pub returns-then-known-eq0 : goal.returns-then-known-eq0
unfolding record_by
returns-then-known-eq0 c = sym (if_yes _ _ _ (eq-eqb _ _ c.if-known-eq0.true))

pub returns-else-known-eq0 : goal.returns-else-known-eq0
unfolding record_by
returns-else-known-eq0 c = rw c.of_bits.ensures (sym (if_no _ _ _ (ne_eqb _ _ c.if-known-eq0.false)))
