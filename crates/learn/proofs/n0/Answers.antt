-- `learn::n0` meets its contract. Assumes nothing.
use Rattle.std.specs.Prelude.{Some}
use mathlib.Core.Path.{sym, ap, ◌∙◌}
use native.Mathlib.Omega.{arith}
use lib.IntN.{ℤ}
use mir.Syntax.{w64}
use Rattle.laws.proofs.Size.{back}
use Rattle.laws.specs.Choice.{cases}
use Rattle.learn.specs.Answers.{figured, figure_answer}
use Rattle.learn.proofs.Laws.{learn_ok}
use Rattle.learn.proofs.n0.Goals as goal

pub mean_noise-requires : goal.mean_noise-requires
mean_noise-requires c =
    (learn_ok c.args.l (sym c.in_range.ensures ∙ c.if-not-in_range.false), omega arith)

pub returns-then-not-in_range : goal.returns-then-not-in_range
unfolding figure_answer
returns-then-not-in_range c = rw (← c.in_range.ensures) (search cases)

pub returns-then-l-eq0 : goal.returns-then-l-eq0
unfolding figure_answer
returns-then-l-eq0 c = rw (← c.in_range.ensures) (search cases)

pub returns-else-l-eq0 : goal.returns-else-l-eq0
unfolding figure_answer
returns-else-l-eq0 c =
    let q = c.mean_noise in
    ap (λ (z : ℤ). figured c.args.l (Some z)) (back w64 q.result q.type_inv ∙ q.ensures.0) ∙ rw (← c.in_range.ensures) (search cases)
