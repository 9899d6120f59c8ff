-- `fx::turns::start` meets its contract. Assumes nothing.
-- a part times 256, and its negation, fit
use Rattle.std.proofs.Common.{◌≡◌, ◌^◌, ◌<◌, ℤ, pos, ◌*ℤ◌, neg_ℤ, nat_abs, sym, ◌∙◌, arith, to_z-of_z, w64, SFits, to_z, of_z, rules}
use lib.IntN.{+ℤ_idl}
use lib.Signed.{lt_z}
use Rattle.fx.specs.Cordic.{right_half, cordic_start}
use Rattle.laws.proofs.Size.{abs_mul, abs_neg, sfits_abs}
use Rattle.laws.specs.Choice.{if_no, if_yes}
use Rattle.fx.proofs.turns.start.Lts as lts
use Rattle.fx.proofs.turns.start.Reads as reads
use Rattle.fx.proofs.turns.start.Goals as goal

up_fits : (z : ℤ) → nat_abs z < 2 ^ 22 → SFits w64 (z *ℤ pos 256)
up_fits z h = sfits_abs w64 (z *ℤ pos 256) (omega (arith, abs_mul z (pos 256)))

neg_fits : (z : ℤ) → nat_abs z < 2 ^ 22 → SFits w64 (neg_ℤ (z *ℤ pos 256))
neg_fits z h = sfits_abs w64 (neg_ℤ (z *ℤ pos 256)) (omega (arith, abs_neg (z *ℤ pos 256), abs_mul z (pos 256)))

pub overflow_mul-x : goal.overflow_mul-x
overflow_mul-x c = let f = up_fits c.args.re c.requires.0 in search rules

pub overflow_mul-y : goal.overflow_mul-y
overflow_mul-y c = let f = up_fits c.args.im c.requires.1 in search rules

pub overflow_sub-result : goal.overflow_sub-result
overflow_sub-result c =
    let f = up_fits c.args.re c.requires.0 in
    let g = neg_fits c.args.re c.requires.0 in
    search (rules, +ℤ_idl)

pub overflow_sub-result-then-x-lt0 : goal.overflow_sub-result-then-x-lt0
overflow_sub-result-then-x-lt0 c =
    let f = up_fits c.args.im c.requires.1 in
    let g = neg_fits c.args.im c.requires.1 in
    search (rules, +ℤ_idl)

-- the parameters and their products, read back from their bits
test : (s : (lts.Start reads.Pre reads.Post)) → lt_z (to_z w64 (of_z w64 (to_z w64 (of_z w64 s.args.re) *ℤ pos 256))) (pos 0) ≡ lt_z (s.args.re *ℤ pos 256) (pos 0)
test s = rw (to_z-of_z s.ranges.re, to_z-of_z (up_fits s.args.re s.requires.0))

pub returns-then-x-lt0 : goal.returns-then-x-lt0
unfolding cordic_start right_half
returns-then-x-lt0 c =
    let x = c.args.re *ℤ pos 256 in
    let y = c.args.im *ℤ pos 256 in
    rw (
      to_z-of_z c.ranges.re,
      to_z-of_z c.ranges.im,
      to_z-of_z (up_fits c.args.re c.requires.0),
      to_z-of_z (up_fits c.args.im c.requires.1),
      +ℤ_idl (neg_ℤ x),
      +ℤ_idl (neg_ℤ y),
      to_z-of_z (neg_fits c.args.re c.requires.0),
      to_z-of_z (neg_fits c.args.im c.requires.1),
    )
    (sym (if_yes _ _ _ (sym (test c.before) ∙ c.if-x-lt0.true)))

pub returns-else-x-lt0 : goal.returns-else-x-lt0
unfolding cordic_start right_half
returns-else-x-lt0 c =
    rw (to_z-of_z c.ranges.re, to_z-of_z c.ranges.im, to_z-of_z (up_fits c.args.re c.requires.0), to_z-of_z (up_fits c.args.im c.requires.1))
    (sym (if_no _ _ _ (sym (test c.before) ∙ c.if-x-lt0.false)))
