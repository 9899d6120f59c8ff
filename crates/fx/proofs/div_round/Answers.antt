-- `fx::div_round` meets its contract. Assumes nothing.
use Rattle.std.proofs.Common.{◌≡◌, Bool, false, ◌||◌, pos, sym, ap, ◌∙◌, to_z-of_z}
use lib.Signed.{lt_z}
use Rattle.fx.proofs.Laws.{not_wide}
use Rattle.fx.specs.Answers.{wide, div_round_answer}
use Rattle.laws.proofs.Tests.{neither}
use Rattle.laws.specs.Choice.{if_no, if_yes}
use Rattle.fx.proofs.div_round.Lts as lts
use Rattle.fx.proofs.div_round.Tie as tie
use Rattle.fx.proofs.div_round.Reads as reads
use Rattle.fx.proofs.div_round.Goals as goal

tested : (c : (lts.After-wide2 tie.the-claims reads.Pre reads.Post)) → c.wide2.result ≡ (wide c.args.a || wide c.args.b)
tested c = rw (to_z-of_z c.ranges.a, to_z-of_z c.ranges.b) at c.wide2.ensures

positive : (c : (lts.Else1 tie.the-claims reads.Pre reads.Post)) → lt_z c.args.b (pos 1) ≡ false
positive c = rw (to_z-of_z c.ranges.b) at c.if-b-lt1.false

pub div_round-requires : goal.div_round-requires
div_round-requires c =
    let n = neither (wide c.args.a) (wide c.args.b) (sym (tested c.before) ∙ c.if-wide2.false) in
    rw (to_z-of_z c.ranges.a, to_z-of_z c.ranges.b) (not_wide c.args.a n.0, not_wide c.args.b n.1, positive c.before.before)

pub returns-then-b-lt1 : goal.returns-then-b-lt1
unfolding div_round_answer
returns-then-b-lt1 c =
    sym (if_yes _ _ _ (ap (λ (t : Bool). t || (wide c.args.a || wide c.args.b)) (rw (to_z-of_z c.ranges.b) at c.if-b-lt1.true)))

-- both tests, where the divisor is taken
both : (c : (lts.After-wide2 tie.the-claims reads.Pre reads.Post)) →
    c.wide2.result ≡ (lt_z c.args.b (pos 1) || (wide c.args.a || wide c.args.b))
both c =
    tested c ∙ sym (ap (λ (t : Bool). t || (wide c.args.a || wide c.args.b)) (positive c.before))

pub returns-then-wide2 : goal.returns-then-wide2
unfolding div_round_answer
returns-then-wide2 c = sym (if_yes _ _ _ (sym (both c.before) ∙ c.if-wide2.true))

pub returns-else-wide2 : goal.returns-else-wide2
unfolding div_round_answer
returns-else-wide2 c =
    rw (to_z-of_z (record { sfits = c.div_round.type_inv }), rw (to_z-of_z c.ranges.a, to_z-of_z c.ranges.b) at c.div_round.ensures)
    (sym (if_no _ _ _ (sym (both c.before.before) ∙ c.if-wide2.false)))
