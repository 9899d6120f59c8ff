-- `fx::sat32` meets its contract. Assumes nothing.
use Rattle.std.proofs.Common.{◌≡◌, sym, ◌∙◌, to_z-of_z}
use Rattle.fx.specs.Answers.{sat32_answer, wide}
use Rattle.laws.specs.Choice.{if_no, if_yes}
use Rattle.fx.proofs.sat32.Lts as lts
use Rattle.fx.proofs.sat32.Tie as tie
use Rattle.fx.proofs.sat32.Reads as reads
use Rattle.fx.proofs.sat32.Goals as goal

-- the test, of the parameter itself
tested : (c : (lts.After-wide tie.the-claims reads.Pre reads.Post)) → c.wide.result ≡ wide c.args.v
tested c = rw (to_z-of_z c.ranges.v) at c.wide.ensures

pub returns-then-wide : goal.returns-then-wide
unfolding sat32_answer
returns-then-wide c = sym (if_yes _ _ _ (sym (tested c.before) ∙ c.if-wide.true))

pub returns-else-wide : goal.returns-else-wide
unfolding sat32_answer
returns-else-wide c =
    let r = to_z-of_z c.ranges.v in
    rw (to_z-of_z (record { sfits = c.sat32.type_inv }), rw r at c.sat32.ensures) (sym (if_no _ _ _ (sym (tested c.before.before) ∙ c.if-wide.false)))
