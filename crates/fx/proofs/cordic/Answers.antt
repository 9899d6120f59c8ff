-- `fx::cordic` meets its contract. Assumes nothing.
use Rattle.std.proofs.Common.{◌≡◌, ◌||◌, sym, ◌∙◌, to_z-of_z}
use Rattle.fx.proofs.Laws.{not_outside}
use Rattle.fx.specs.Answers.{outside, cordic_answer}
use Rattle.laws.proofs.Tests.{neither}
use Rattle.laws.specs.Choice.{if_yes, if_no}
use Rattle.fx.proofs.cordic.Lts as lts
use Rattle.fx.proofs.cordic.Tie as tie
use Rattle.fx.proofs.cordic.Reads as reads
use Rattle.fx.proofs.cordic.Goals as goal

-- the test, of the parameters themselves
tested : (c : (lts.After-outside2 tie.the-claims reads.Pre reads.Post)) → c.outside2.result ≡ (outside c.args.re || outside c.args.im)
tested c = rw (to_z-of_z c.ranges.re, to_z-of_z c.ranges.im) at c.outside2.ensures

pub cordic-requires : goal.cordic-requires
cordic-requires c =
    let n = neither (outside c.args.re) (outside c.args.im) (sym (tested c.before) ∙ c.if-outside2.false) in
    rw (to_z-of_z c.ranges.re, to_z-of_z c.ranges.im) (not_outside c.args.re n.0, not_outside c.args.im n.1)

pub returns-then-outside2 : goal.returns-then-outside2
unfolding cordic_answer
returns-then-outside2 c = sym (if_yes _ _ _ (sym (tested c.before) ∙ c.if-outside2.true))

pub returns-else-outside2 : goal.returns-else-outside2
unfolding cordic_answer
returns-else-outside2 c =
    rw (rw (to_z-of_z c.ranges.re, to_z-of_z c.ranges.im) at c.cordic.ensures)
    (sym (if_no _ _ _ (sym (tested c.before.before) ∙ c.if-outside2.false)))
