-- `sync_heads::ranged::first` meets its contract: one case at each return. Assumes nothing.
use Rattle.laws.proofs.Size.{back}
use Rattle.laws.specs.Choice.{if_no, if_yes}
use Rattle.sync_heads.specs.Heads.{first_of}
use Rattle.sync_heads.specs.Words.{margin_of}
use lib.Signed.{lt_z}
use Rattle.std.proofs.Common.{◌≡◌, sym, ◌∙◌, ap₂, w64, to_z, of_z}
use Rattle.sync_heads.proofs.ranged.first.Lts as lts
use Rattle.sync_heads.proofs.ranged.first.Tie as tie
use Rattle.sync_heads.proofs.ranged.first.Reads as reads
use Rattle.sync_heads.proofs.ranged.first.Goals as goal

-- the margins that the code compares
margins : (c : (lts.After-margin2 tie.the-claims reads.Pre reads.Post)) →
    let s = c.args in
    lt_z (to_z w64 (of_z w64 c.margin.result)) (to_z w64 (of_z w64 c.margin-2.result)) ≡ lt_z (margin_of s.z.both) (margin_of s.r.both)
margins c =
    let p = c.margin in
    let q = c.margin-2 in
    ap₂ lt_z (back w64 p.result p.type_inv ∙ p.ensures) (back w64 q.result q.type_inv ∙ q.ensures)

pub ssync_taken-requires : goal.ssync_taken-requires
ssync_taken-requires c = (c.requires.1, c.requires.2)

pub both_heads-requires : goal.both_heads-requires
both_heads-requires c = c.requires

pub returns-then-margin : goal.returns-then-margin
unfolding first_of
returns-then-margin c = rw (c.ssync_taken.ensures, if_yes _ _ _ (sym (margins c.before.before) ∙ c.if-margin.true))

pub returns-else-margin : goal.returns-else-margin
unfolding first_of
returns-else-margin c = rw (c.both_heads.ensures, if_no _ _ _ (sym (margins c.before.before) ∙ c.if-margin.false))
