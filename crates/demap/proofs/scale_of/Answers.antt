-- `demap::scale_of` meets its contract. Assumes nothing.
use Rattle.std.specs.Prelude.{Ok}
use mathlib.Core.Path.{◌≡◌, sym, ap, ◌∙◌}
use mir.Facts.{to_z-of_z}
use mir.Syntax.{w64}
use Rattle.fx.proofs.Laws.{not_wide}
use Rattle.fx.specs.Answers.{wide}
use Rattle.laws.proofs.Size.{back}
use Rattle.laws.specs.Choice.{if_yes, if_no}
use Rattle.demap.specs.Answers.{scale_answer}
use Rattle.demap.proofs.scale_of.Lts as lts
use Rattle.demap.proofs.scale_of.Tie as tie
use Rattle.demap.proofs.scale_of.Reads as reads
use Rattle.demap.proofs.scale_of.Goals as goal

tested : (c : (lts.After-wide tie.the-claims reads.Pre reads.Post)) → c.wide.result ≡ wide c.args.n0
tested c = rw (to_z-of_z c.ranges.n0) at c.wide.ensures

pub returns-then-wide : goal.returns-then-wide
unfolding scale_answer
returns-then-wide c = sym (if_yes _ _ _ (sym (tested c.before) ∙ c.if-wide.true))

pub scale-requires : goal.scale-requires
scale-requires c =
    rw (to_z-of_z c.ranges.n0) (not_wide c.args.n0 (sym (tested c.before) ∙ c.if-wide.false))

pub returns-else-wide : goal.returns-else-wide
unfolding scale_answer
returns-else-wide c =
    ap Ok (back w64 c.scale.result c.scale.type_inv ∙ (rw (to_z-of_z c.ranges.n0) at c.scale.ensures))
    ∙ sym (if_no _ _ _ (sym (tested c.before.before) ∙ c.if-wide.false))
