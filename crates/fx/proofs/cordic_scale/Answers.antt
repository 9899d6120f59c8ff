-- `fx::cordic_scale` meets its contract. Assumes nothing.
use Rattle.std.proofs.Common.{◌≡◌, ◌||◌, sym, ◌∙◌, to_z-of_z, rules}
use Rattle.fx.specs.Answers.{cordic_scale_answer, wide}
use Rattle.laws.proofs.Tests.{neither}
use Rattle.laws.specs.Choice.{if_yes, if_no}
use Rattle.fx.proofs.cordic_scale.Lts as lts
use Rattle.fx.proofs.cordic_scale.Tie as tie
use Rattle.fx.proofs.cordic_scale.Reads as reads
use Rattle.fx.proofs.cordic_scale.Goals as goal

-- the test, of the parameters themselves
tested : (c : (lts.After-wide2 tie.the-claims reads.Pre reads.Post)) → c.wide2.result ≡ (wide c.args.re || wide c.args.im)
tested c = rw (to_z-of_z c.ranges.re, to_z-of_z c.ranges.im) at c.wide2.ensures

pub scale-requires : goal.scale-requires
scale-requires c =
    let n = neither (wide c.args.re) (wide c.args.im) (sym (tested c.before) ∙ c.if-wide2.false) in
    search rules

pub returns-then-wide2 : goal.returns-then-wide2
unfolding cordic_scale_answer
returns-then-wide2 c = sym (if_yes _ _ _ (sym (tested c.before) ∙ c.if-wide2.true))

pub returns-else-wide2 : goal.returns-else-wide2
unfolding cordic_scale_answer
returns-else-wide2 c =
    rw (rw (to_z-of_z c.ranges.re, to_z-of_z c.ranges.im) at c.scale.ensures)
    (sym (if_no _ _ _ (sym (tested c.before.before) ∙ c.if-wide2.false)))
