-- `fx::mag_approx` meets its contract. Assumes nothing.
use Rattle.std.proofs.Common.{◌≡◌, ◌||◌, sym, ◌∙◌, to_z-of_z}
use Rattle.fx.proofs.Laws.{not_wide}
use Rattle.fx.specs.Answers.{mag_approx_answer, wide}
use Rattle.laws.proofs.Tests.{neither}
use Rattle.laws.specs.Choice.{if_no, if_yes}
use Rattle.fx.proofs.mag_approx.Lts as lts
use Rattle.fx.proofs.mag_approx.Tie as tie
use Rattle.fx.proofs.mag_approx.Reads as reads
use Rattle.fx.proofs.mag_approx.Goals as goal

-- the test, of the parameters themselves
tested : (c : (lts.After-wide2 tie.the-claims reads.Pre reads.Post)) → c.wide2.result ≡ (wide c.args.re || wide c.args.im)
tested c = rw (to_z-of_z c.ranges.re, to_z-of_z c.ranges.im) at c.wide2.ensures

pub mag_approx-requires : goal.mag_approx-requires
mag_approx-requires c =
    let n = neither (wide c.args.re) (wide c.args.im) (sym (tested c.before) ∙ c.if-wide2.false) in
    rw (to_z-of_z c.ranges.re, to_z-of_z c.ranges.im) (not_wide c.args.re n.0, not_wide c.args.im n.1)

pub returns-then-wide2 : goal.returns-then-wide2
unfolding mag_approx_answer
returns-then-wide2 c = sym (if_yes _ _ _ (sym (tested c.before) ∙ c.if-wide2.true))

pub returns-else-wide2 : goal.returns-else-wide2
unfolding mag_approx_answer
returns-else-wide2 c =
    rw (to_z-of_z (record { sfits = c.mag_approx.type_inv }), rw (to_z-of_z c.ranges.re, to_z-of_z c.ranges.im) at c.mag_approx.ensures)
    (sym (if_no _ _ _ (sym (tested c.before.before) ∙ c.if-wide2.false)))
