-- `fx::round_shift` meets its contract. Assumes nothing.
use Rattle.std.proofs.Common.{◌≡◌, Bool, ◌||◌, ltb, sym, ap, ◌∙◌, to_z-of_z, le-ltb, lt-ltb}
use Rattle.fx.proofs.Laws.{not_wide}
use Rattle.fx.specs.Answers.{round_shift_answer, wide}
use Rattle.laws.specs.Choice.{if_yes, if_no}
use Rattle.fx.proofs.round_shift.Lts as lts
use Rattle.fx.proofs.round_shift.Tie as tie
use Rattle.fx.proofs.round_shift.Reads as reads
use Rattle.fx.proofs.round_shift.Goals as goal

-- the test, of the parameter itself
tested : (c : (lts.After-wide tie.the-claims reads.Pre reads.Post)) → c.wide.result ≡ wide c.args.v
tested c = rw (to_z-of_z c.ranges.v) at c.wide.ensures

pub round_shift-requires : goal.round_shift-requires
round_shift-requires c =
    rw (to_z-of_z c.ranges.v) (not_wide c.args.v (sym (tested c.before) ∙ c.if-wide.false), c.if-s-gt60.false)

pub returns-then-s-gt60 : goal.returns-then-s-gt60
unfolding round_shift_answer
returns-then-s-gt60 c = sym (if_yes _ _ _ (ap (λ (t : Bool). t || wide c.args.v) (lt-ltb 60 c.args.s c.if-s-gt60.true)))

-- both tests, where the shift is taken
both : (c : (lts.After-wide tie.the-claims reads.Pre reads.Post)) → c.wide.result ≡ (ltb 60 c.args.s || wide c.args.v)
both c = tested c ∙ sym (ap (λ (t : Bool). t || wide c.args.v) (le-ltb 60 c.args.s c.if-s-gt60.false))

pub returns-then-wide : goal.returns-then-wide
unfolding round_shift_answer
returns-then-wide c = sym (if_yes _ _ _ (sym (both c.before) ∙ c.if-wide.true))

pub returns-else-wide : goal.returns-else-wide
unfolding round_shift_answer
returns-else-wide c =
    rw (to_z-of_z (record { sfits = c.round_shift.type_inv }), rw (to_z-of_z c.ranges.v) at c.round_shift.ensures)
    (sym (if_no _ _ _ (sym (both c.before.before) ∙ c.if-wide.false)))
