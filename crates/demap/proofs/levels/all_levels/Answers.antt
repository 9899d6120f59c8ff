-- `demap::levels::all_levels` meets its contract: each turn is a step of Stage. Assumes nothing.
use mathlib.Core.Path.{◌≡◌, ◌∙◌}
use Prim.Native.Nat.{ℕ, suc, ◌-◌, ◌^◌, ◌≤◌, ◌<◌}
use native.Mathlib.Omega.{arith}
use lib.Pow.{pow_mono, pow_pos}
use mir.Facts.{to_z-of_z}
use mir.Syntax.{w8, w64}
use Rattle.laws.proofs.Size.{back}
use Rattle.demap.specs.Folds.{entry}
use Rattle.demap.proofs.Fold.{shifted}
use Rattle.demap.proofs.Stage.{stage_start, stage_skip, stage_size, stage_step, stage_least, stage_done, stage_room}
use Rattle.demap.proofs.levels.all_levels.Goals as goal

down : (b : ℕ) → 0 < b → b ≡ suc (b - 1)
down b h = omega arith

four : (b : ℕ) → b ≤ 5 → b - 1 ≤ 5
four b h = omega arith

pub loop-b-init : goal.loop-b-init
loop-b-init c = (omega arith, stage_start c.args.bits _ c.args.out.now c.args.m.now 5 c.requires.1 c.requires.4)

pub level-requires : goal.level-requires
level-requires c =
    let L = c.loop-b in
    let s = rw (down L.b (omega arith)) at L.invariant.1 in
    let p : 2 ^ (L.b - 1) ≤ 2 ^ 4 = pow_mono {j = 4} (omega arith) in
    rw (shifted (L.b - 1) (four L.b L.invariant.0)).0
    (pow_pos (L.b - 1), p, rw (to_z-of_z c.ranges.k) c.requires.3, s.long, stage_size (L.b - 1) c.if-b-bits.true c.requires.5 s)

pub bounds-out-bits : goal.bounds-out-bits
bounds-out-bits c =
    let L = c.loop-b in
    omega (arith, stage_room c.requires.2 L.invariant.1)

pub loop-b-preserved-then-b-bits : goal.loop-b-preserved-then-b-bits
loop-b-preserved-then-b-bits c =
    let L = c.loop-b in
    let s = rw (down L.b (omega arith)) at L.invariant.1 in
    let g = rw (shifted (L.b - 1) (four L.b L.invariant.0)).0 at c.level.ensures in (
      four L.b L.invariant.0,
      rw (back w8 c.level.result c.level.type_inv)
          (stage_step (L.b - 1) c.level.new.m c.level.result c.if-b-bits.true c.requires.1 c.requires.2 s g.1 g.0),
    )

pub loop-b-preserved : goal.loop-b-preserved
loop-b-preserved c =
    let L = c.loop-b in
    (four L.b L.invariant.0, stage_skip (L.b - 1) c.if-b-bits.false (rw (down L.b (omega arith)) at L.invariant.1))

pub shape_of-out : goal.shape_of-out
shape_of-out c = stage_room c.requires.2 c.loop-b.invariant.1

pub returns : goal.returns
returns c =
    let L = c.loop-b in
    let e : L.b ≡ 0 = omega arith in
    let s = rw e at L.invariant.1 in
    (back w64 (entry L.m 0) c.result-1.given ∙ stage_least s, rw (to_z-of_z c.ranges.k) at (stage_done s))
