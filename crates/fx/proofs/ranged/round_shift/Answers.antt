-- `fx::ranged::round_shift` meets its contract. `>>` on an i64 is the floor. Assumes nothing.
use Rattle.std.proofs.Common.{◌-◌, ◌^◌, ◌≤◌, pos, ◌+ℤ◌, sym, ◌∙◌, arith, pow_mono, to_z-of_z, w64, SFits, eq-eqb, ne_eqb}
use Rattle.fx.proofs.Laws.{half_up_lem}
use Rattle.fx.specs.Fx.{round_shift}
use Rattle.laws.proofs.Size.{one_shl, sfits_shr, sfits_abs, abs_add}
use Rattle.laws.specs.Choice.{if_no, if_yes}
use Rattle.fx.proofs.ranged.round_shift.Lts as lts
use Rattle.fx.proofs.ranged.round_shift.Reads as reads
use Rattle.fx.proofs.ranged.round_shift.Goals as goal

half : (c : (lts.Else1 reads.Pre reads.Post)) → 2 ^ (c.args.s - 1) ≤ 2 ^ 59
half c = pow_mono {i = c.args.s - 1} {j = 59} (omega arith)

sum_fits : (c : (lts.Else1 reads.Pre reads.Post)) → SFits w64 (c.args.v +ℤ pos (2 ^ (c.args.s - 1)))
sum_fits c = sfits_abs w64 _ (omega (arith, half c, abs_add c.args.v (pos (2 ^ (c.args.s - 1)))))

pub overflow_add-result : goal.overflow_add-result
overflow_add-result c = rw (to_z-of_z c.ranges.v, one_shl (c.args.s - 1) (omega arith)) (sum_fits c)

pub returns-then-s-eq0 : goal.returns-then-s-eq0
unfolding round_shift
returns-then-s-eq0 c = to_z-of_z c.ranges.v ∙ sym (if_yes _ _ _ (eq-eqb _ _ c.if-s-eq0.true))

pub returns-else-s-eq0 : goal.returns-else-s-eq0
unfolding round_shift
returns-else-s-eq0 c =
    let v = c.args.v in
    let s = c.args.s in
    rw (to_z-of_z c.ranges.v, one_shl (s - 1) (omega arith), to_z-of_z (sum_fits c), to_z-of_z (sfits_shr (2 ^ s) (sum_fits c)))
    (sym (if_no _ _ _ (ne_eqb s 0 c.if-s-eq0.false) ∙ half_up_lem v s (omega arith)))
