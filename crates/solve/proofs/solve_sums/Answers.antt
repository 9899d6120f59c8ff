-- `solve::solve_sums` meets its contract. Assumes nothing.
use Rattle.std.proofs.Common.{sym, ◌∙◌, rules}
use Rattle.laws.specs.Choice.{if_yes, if_no}
use Rattle.solve.proofs.Laws.{taken}
use Rattle.solve.specs.Answers.{solve_answer}
use Rattle.solve.proofs.solve_sums.Goals as goal

pub system-requires : goal.system-requires
system-requires c = taken _ (sym c.outside.ensures ∙ c.if-outside.false)

pub returns-then-outside : goal.returns-then-outside
unfolding solve_answer
returns-then-outside c = sym (if_yes _ _ _ (sym c.outside.ensures ∙ c.if-outside.true))

pub returns-in_err-x : goal.returns-in_err-x
unfolding solve_answer
returns-in_err-x c =
    rw (if_no _ _ _ (sym c.outside.ensures ∙ c.if-outside.false), ← c.system.ensures, sym c.solve.ensures ∙ c.in_err-x.was) (search rules)

pub returns : goal.returns
unfolding solve_answer
returns c =
    rw (if_no _ _ _ (sym c.outside.ensures ∙ c.if-outside.false), ← c.system.ensures, sym c.solve.ensures ∙ c.in_ok-x.was, c.taps.ensures)
