-- `fx::ranged::div_round` meets its contract. Assumes nothing.
use Rattle.std.proofs.Common.{◌≡◌, ◌*◌, ℤ, pos, ◌+ℤ◌, ◌*ℤ◌, nat_abs, ap, ◌∙◌, arith, to_z-of_z, w64, SFits, rules}
use lib.Signed.{shr_z}
use Rattle.fx.proofs.Laws.{pos_of, twice_of, div_is}
use Rattle.fx.specs.Fx.{div_round}
use Rattle.laws.proofs.Size.{sfits_abs, above_zero, abs_add, abs_mul}
use Rattle.fx.proofs.ranged.div_round.Lts as lts
use Rattle.fx.proofs.ranged.div_round.Tie as tie
use Rattle.fx.proofs.ranged.div_round.Reads as reads
use Rattle.fx.proofs.ranged.div_round.Goals as goal

twice-fits : (c : (lts.Start tie.the-claims reads.Pre reads.Post tie.handed_clauses)) → SFits w64 (c.args.a +ℤ c.args.a)
twice-fits c = sfits_abs w64 (c.args.a +ℤ c.args.a) (omega (arith, abs_add c.args.a c.args.a))

sum_fits : (c : (lts.Start tie.the-claims reads.Pre reads.Post tie.handed_clauses)) → SFits w64 (c.args.a +ℤ c.args.a +ℤ c.args.b)
sum_fits c =
    sfits_abs w64 (c.args.a +ℤ c.args.a +ℤ c.args.b)
    (omega (arith, abs_add c.args.a c.args.a, abs_add (c.args.a +ℤ c.args.a) c.args.b))

pub overflow_add-a : goal.overflow_add-a
overflow_add-a c = let f = twice-fits c in search rules

pub overflow_add-a-2 : goal.overflow_add-a-2
overflow_add-a-2 c = let f = twice-fits c in let g = sum_fits c in search rules

double-fits : (c : (lts.Start tie.the-claims reads.Pre reads.Post tie.handed_clauses)) → SFits w64 (pos 2 *ℤ c.args.b)
double-fits c = sfits_abs w64 (pos 2 *ℤ c.args.b) (omega (arith, abs_mul (pos 2) c.args.b))

pub overflow_mul-b : goal.overflow_mul-b
overflow_mul-b c = rw (to_z-of_z c.ranges.b) (double-fits c)

pub div_euclid-requires-clause-nonzero : goal.div_euclid-requires-clause-nonzero
div_euclid-requires-clause-nonzero c = rw (to_z-of_z c.ranges.b, to_z-of_z (double-fits c), twice_of c.args.b c.requires.2) (omega (arith, above_zero c.args.b c.requires.2))

pub div_euclid-requires-clause-no_overflow : goal.div_euclid-requires-clause-no_overflow
div_euclid-requires-clause-no_overflow c = rw (to_z-of_z c.ranges.b, to_z-of_z (double-fits c), twice_of c.args.b c.requires.2) (λ e f. omega (arith, e))

pub returns : goal.returns
unfolding div_round
returns c =
    let a = c.args.a in
    let b = c.args.b in
    let g = c.before in
    to_z-of_z {w = w64} (record { sfits = c.div_euclid.type_inv })
    ∙ (rw (to_z-of_z c.ranges.a, to_z-of_z (twice-fits g), to_z-of_z c.ranges.b, to_z-of_z (sum_fits g), to_z-of_z (double-fits g), twice_of b c.requires.2) at c.div_euclid.ensures)
    ∙ div_is (a +ℤ a +ℤ b) (2 * nat_abs b)
    ∙ ap (λ (z : ℤ). shr_z (a +ℤ a +ℤ z) (2 * nat_abs b)) (pos_of b c.requires.2)
