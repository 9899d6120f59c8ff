-- `fx::cos_sin_round` meets its contract. Assumes nothing.
use Rattle.std.proofs.Common.{sym, eq-eqb, ne_eqb}
use Rattle.fx.specs.Answers.{cos_sin_round_answer}
use Rattle.laws.specs.Choice.{if_no, if_yes}
use Rattle.fx.proofs.cos_sin_round.Goals as goal

pub returns-then-table-eq1024 : goal.returns-then-table-eq1024
unfolding cos_sin_round_answer
returns-then-table-eq1024 c = rw c.cos_sin_round.ensures.0 (sym (if_yes _ _ _ (eq-eqb _ _ c.if-table-eq1024.true)))

pub returns-else-table-eq1024 : goal.returns-else-table-eq1024
unfolding cos_sin_round_answer
returns-else-table-eq1024 c = sym (if_no _ _ _ (ne_eqb _ _ c.if-table-eq1024.false))
