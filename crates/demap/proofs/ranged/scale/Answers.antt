-- `demap::ranged::scale` meets its contract. Assumes nothing.
use mathlib.Core.Bool.{false}
use mathlib.Core.Path.{◌≡◌, refl, sym, ap, ◌∙◌}
use native.Mathlib.Omega.{arith}
use borrow.Author.Tests.{le-ltb, ltb-false}
use lib.IntN.{ℤ, pos, negsuc}
use lib.Signed.{lt_z}
use mir.Facts.{to_z-of_z}
use mir.Syntax.{w64}
use Rattle.fx.specs.Fx.{div_round}
use Rattle.laws.proofs.Size.{back}
use Rattle.laws.specs.Choice.{if_yes, if_no}
use Rattle.demap.specs.Demap.{scale_of}
use Rattle.demap.proofs.ranged.scale.Goals as goal

most : div_round (pos 4294967296) (pos 256) ≡ pos 16777216
unfolding div_round
most = refl

pub returns-then-n0-lt256 : goal.returns-then-n0-lt256
unfolding scale_of
returns-then-n0-lt256 c = sym (ap (div_round (pos 4294967296)) (if_yes _ _ _ (rw (to_z-of_z c.ranges.n0) at c.if-n0-lt256.true)) ∙ most)

-- n0 is above 0
positive : (n0 : ℤ) → lt_z n0 (pos 256) ≡ false → lt_z n0 (pos 1) ≡ false
positive (pos a) t = le-ltb a 1 (omega (arith, ltb-false a 256 t))
positive (negsuc a) t = t

pub div_round-requires : goal.div_round-requires
div_round-requires c =
    let z = to_z-of_z c.ranges.n0 in
    rw z (omega arith, c.requires, positive c.args.n0 (rw z at c.if-n0-lt256.false))

pub returns-else-n0-lt256 : goal.returns-else-n0-lt256
unfolding scale_of
returns-else-n0-lt256 c =
    let z = to_z-of_z c.ranges.n0 in
    back w64 c.div_round.result c.div_round.type_inv ∙ (rw z at c.div_round.ensures)
    ∙ sym (ap (div_round (pos 4294967296)) (if_no _ _ _ (rw z at c.if-n0-lt256.false)))
