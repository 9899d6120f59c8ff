-- `sync_heads::words::said` meets its contract: one case at each return. Assumes nothing.
use Rattle.laws.proofs.Size.{back}
use Rattle.laws.specs.Choice.{cases, if_no, if_yes}
use Rattle.sync_heads.specs.Words.{said_of}
use Rattle.std.proofs.Common.{◌∙◌, w64}
use Rattle.sync_heads.proofs.words.said.Goals as goal

pub returns-then-ssync : goal.returns-then-ssync
unfolding said_of
returns-then-ssync c = search cases

pub returns-then-side-lt0 : goal.returns-then-side-lt0
unfolding said_of
returns-then-side-lt0 c =
    let r = c.side in
    let t = rw (back w64 r.result r.type_inv ∙ r.ensures) at c.if-side-lt0.true in
    rw (if_no _ _ _ c.if-ssync.false, if_yes _ _ _ t, c.turned.ensures)

pub returns-else-side-lt0 : goal.returns-else-side-lt0
unfolding said_of
returns-else-side-lt0 c =
    let r = c.side in
    let t = rw (back w64 r.result r.type_inv ∙ r.ensures) at c.if-side-lt0.false in
    rw (if_no _ _ _ c.if-ssync.false, if_no _ _ _ t)
