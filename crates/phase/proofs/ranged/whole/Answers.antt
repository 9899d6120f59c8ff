-- `phase::ranged::whole` meets its contract. Assumes nothing.
use mathlib.Core.Path.{◌∙◌}
use native.Mathlib.Omega.{arith}
use mir.Facts.{to_z-of_z}
use mir.Syntax.{w64}
use mir.Val.{to_z, of_z}
use Rattle.laws.proofs.Size.{Num, sfits_abs, less, at, fits}
use Rattle.phase.proofs.Laws.{gain_size}
use Rattle.phase.specs.Phase.{gain_of, whole_of}
use Rattle.phase.proofs.ranged.whole.Lts as lts
use Rattle.phase.proofs.ranged.whole.Tie as tie
use Rattle.phase.proofs.ranged.whole.Reads as reads
use Rattle.phase.proofs.ranged.whole.Goals as goal

-- the gains of the two heads
gain-a : (c : (lts.After-gain_of tie.the-claims reads.Pre reads.Post)) → Num (to_z w64 (of_z w64 c.gain_of-ga.result)) (gain_of c.args.a.amp) 71179699
gain-a c =
    let a = c.args.a.amp in
    let e = to_z-of_z (sfits_abs w64 a (omega (arith, c.requires.0.amp))) in
    record { is = to_z-of_z {w = w64} (record { sfits = c.gain_of-ga.type_inv }) ∙ rw e at c.gain_of-ga.ensures.0; size = gain_size a }

gain-b : (c : (lts.After-gain_of2 tie.the-claims reads.Pre reads.Post)) → Num (to_z w64 (of_z w64 c.gain_of-gb.result)) (gain_of c.args.b.amp) 71179699
gain-b c =
    let b = c.args.b.amp in
    let e = to_z-of_z (sfits_abs w64 b (omega (arith, c.requires.1.amp))) in
    record { is = to_z-of_z {w = w64} (record { sfits = c.gain_of-gb.type_inv }) ∙ rw e at c.gain_of-gb.ensures.0; size = gain_size b }

pub overflow_sub-gb : goal.overflow_sub-gb
overflow_sub-gb c = fits w64 (less (gain-b c.before.before.before) (gain-a c.before.before.before.before.before)) tt

pub per_symbol-requires-2 : goal.per_symbol-requires-2
per_symbol-requires-2 c =
    let n = at w64 (less (gain-b c.before.before.before) (gain-a c.before.before.before.before.before)) tt in
    rw n.is (omega (arith, n.size))

pub returns : goal.returns
unfolding whole_of
returns c =
    let d = c.per_symbol in
    let t = c.turn_from in
    let g = gain-a c.before.before.before.before.before in
    let n = at w64 (less (gain-b c.before.before.before) g) tt in
    rw (
      to_z-of_z {w = w64} (record { sfits = d.type_inv }),
      rw (to_z-of_z {w = w64} (record { sfits = t.type_inv }), t.ensures.0) at d.ensures,
      g.is,
      to_z-of_z {w = w64} (record { sfits = c.per_symbol-2.type_inv }),
      rw n.is at c.per_symbol-2.ensures,
    )
