-- `in_force::points_in_force` meets its contract. Assumes nothing.
use mathlib.Core.Path.{sym}
use Prim.Native.Nat.{◌-◌, ◌*◌}
use native.Mathlib.Omega.{arith}
use Rattle.std.proofs.lemmas.Result.{err_from_is_err_and}
use Rattle.demap.proofs.Blocks.{whole}
use Rattle.laws.specs.Choice.{if_yes, if_no}
use Rattle.in_force.specs.Answers.{points_in_force}
use Rattle.in_force.proofs.Laws.{sets_taken, chosen}
use Rattle.in_force.proofs.points_in_force.Goals as goal

pub returns-in_err-sets_refusal : goal.returns-in_err-sets_refusal
unfolding points_in_force
returns-in_err-sets_refusal c =
    let p = err_from_is_err_and c.from_residual.result c.from_residual.ensures.1 in rw (p.1, p.2, ← c.in_err-sets_refusal.ensures)

pub labels-n-requires : goal.labels-n-requires
labels-n-requires c = (sets_taken _ _ _ (sym c.in_ok-sets_refusal.ensures)).bits_ok

pub overflow_sub-bits : goal.overflow_sub-bits
overflow_sub-bits c = (sets_taken _ _ _ (sym c.in_ok-sets_refusal.ensures)).bits_ok.some

pub bounds-flags-bits : goal.bounds-flags-bits
bounds-flags-bits c = omega (arith, (sets_taken _ _ _ (sym c.in_ok-sets_refusal.ensures)).bits_ok)

pub slice_bounds-result-end : goal.slice_bounds-result-end
slice_bounds-result-end c = omega (arith, (sets_taken _ _ _ (sym c.in_ok-sets_refusal.ensures)).learned_long)

pub slice_bounds-result-end-else-flags-bits : goal.slice_bounds-result-end-else-flags-bits
slice_bounds-result-end-else-flags-bits c = omega (arith, (sets_taken _ _ _ (sym c.in_ok-sets_refusal.ensures)).nominal_long)

pub returns-then-flags-bits : goal.returns-then-flags-bits
returns-then-flags-bits c =
    let n = c.labels-n.result in
    rw (whole (2 * (n - 2)) (2 * n)) (chosen _ _ c.args.flags c.args.bits n _ c.labels-n.ensures.0 (sym c.in_ok-sets_refusal.ensures) (if_yes _ _ _ c.if-flags-bits.true))

pub returns-else-flags-bits : goal.returns-else-flags-bits
returns-else-flags-bits c =
    let n = c.labels-n.result in
    rw (whole (2 * (n - 2)) (2 * n)) (chosen _ _ c.args.flags c.args.bits n _ c.labels-n.ensures.0 (sym c.in_ok-sets_refusal.ensures) (if_no _ _ _ c.if-flags-bits.false))
