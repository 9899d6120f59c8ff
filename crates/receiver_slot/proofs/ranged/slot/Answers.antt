-- `receiver_slot::ranged::slot` meets its contract. Assumes nothing.
use mathlib.Core.Path.{sym, ◌∙◌}
use Rattle.receiver_slot.specs.Steps.{back_at, soft_to}
use Rattle.receiver_slot.proofs.Aligned.{runs-from}
use Rattle.receiver_slot.proofs.Softs.{between_few}
use Rattle.receiver_slot.proofs.ranged.slot.Goals as goal

pub runs-r-requires : goal.runs-r-requires
runs-r-requires c =
    (c.requires.back.last, between_few c.args.b.metas c.requires.back.metas)

pub returns : goal.returns
unfolding back_at soft_to
returns c =
    let a = c.args in
    let g = c.all-back.ensures in
    let few = between_few a.b.metas c.requires.back.metas in
    (g.0, c.runs-r.ensures ∙ sym (runs-from a.p a.b a.w a.table.now a.store.now a.f.now a.s.now few), g.1)
