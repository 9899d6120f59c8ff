-- `phase::ranged::gain_of` meets its contract. Assumes nothing.
use mathlib.Core.Path.{◌≡◌, refl, sym, ap, ◌∙◌}
use Prim.Native.Nat.{◌≤◌}
use native.Mathlib.Omega.{arith}
use lib.IntN.{ℤ, pos, nat_abs}
use mir.Facts.{to_z-of_z}
use mir.Syntax.{w64}
use Rattle.fx.specs.Fx.{div_round}
use Rattle.laws.specs.Choice.{if_yes, if_no}
use Rattle.phase.proofs.Laws.{above_64, gain_size}
use Rattle.phase.specs.Phase.{gain_of}
use Rattle.phase.proofs.ranged.gain_of.Goals as goal

pub div_round-requires : goal.div_round-requires
div_round-requires c = (omega arith, omega arith, refl)

pub div_round-requires-else-amp-lt64 : goal.div_round-requires-else-amp-lt64
div_round-requires-else-amp-lt64 c =
    let e = to_z-of_z c.ranges.amp in
    rw e (omega arith, c.requires, (above_64 c.args.amp (rw e at c.if-amp-lt64.false)).1)

-- the quotient is the gain of amp
as-gain : (amp g : ℤ) → g ≡ gain_of amp → (g ≡ gain_of amp) × (nat_abs g ≤ 71179699)
as-gain amp g e = (e, rw e (gain_size amp))

pub returns-then-amp-lt64 : goal.returns-then-amp-lt64
unfolding gain_of
returns-then-amp-lt64 c =
    rw (to_z-of_z {w = w64} (record { sfits = c.div_round.type_inv }))
    (as-gain c.args.amp c.div_round.result (c.div_round.ensures ∙ ap (div_round (pos 4555500750)) (sym (if_yes _ _ _ (rw (to_z-of_z c.ranges.amp) at c.if-amp-lt64.true)))))

pub returns-else-amp-lt64 : goal.returns-else-amp-lt64
unfolding gain_of
returns-else-amp-lt64 c =
    rw (to_z-of_z {w = w64} (record { sfits = c.div_round-else-amp-lt64.type_inv }))
    (as-gain c.args.amp c.div_round-else-amp-lt64.result
    (rw (to_z-of_z c.ranges.amp) at c.div_round-else-amp-lt64.ensures ∙ ap (div_round (pos 4555500750)) (sym (if_no _ _ _ (rw (to_z-of_z c.ranges.amp) at c.if-amp-lt64.false)))))
