-- `demap::ranged::block` meets its contract: a turn adds one symbol's soft bits. Assumes nothing.
use mathlib.Core.Path.{◌≡◌}
use Prim.Native.Nat.{◌+◌, ◌*◌, ◌/◌, ◌≤◌}
use native.Mathlib.Nat.{zero-mul, le_refl}
use native.Mathlib.Omega.{arith}
use lib.IntN.{pos}
use lib.ListN.{length, get_or}
use mir.Facts.{to_z-of_z}
use mir.Syntax.{w16, w64}
use mir.Val.{SFits, to_z, of_z}
use Rattle.demap.specs.Demap.{symbol_metric, block_bits}
use Rattle.demap.proofs.Blocks.{turn, upto, whole, part_long, length_so_far, block_step}
use Rattle.demap.proofs.ranged.block.Lts as lts
use Rattle.demap.proofs.ranged.block.Tie as tie
use Rattle.demap.proofs.ranged.block.Reads as reads
use Rattle.demap.proofs.ranged.block.Goals as goal

pub loop-s-init : goal.loop-s-init
unfolding block_bits
loop-s-init c = (omega arith, rw (zero-mul c.args.bits))

-- the symbol has its place in the buffer
module _ (c : (lts.In-loop tie.the-claims reads.Pre reads.Post goal.the-invariant-loop-s goal.the-decreases-loop-s)) where
  place : c.loop-s.s * c.args.bits + c.args.bits ≤ length c.args.out.now
  place =
      turn c.loop-s.s (length c.args.sy.now / 2) c.args.bits (length c.args.out.now) (omega arith) c.requires.4

  room : c.loop-s.s * c.args.bits + c.args.bits ≤ length c.loop-s.out
  room =
      let S = c in
      let L = c.loop-s in
      rw (
        L.invariant.1,
        length_so_far S.args.sy.now S.args.points.now S.args.bits (to_z w64 (of_z w64 S.args.k)) L.s S.args.out.now
            (omega (arith, place)),
      )
      place

pub overflow_mul-o : goal.overflow_mul-o
overflow_mul-o c = omega (arith, place c)

pub overflow_add-e : goal.overflow_add-e
overflow_add-e c = omega (arith, place c)

pub one-requires : goal.one-requires
one-requires c =
    let L = c.loop-s in
    let o = L.s * c.args.bits in (
      c.requires.0,
      c.requires.1,
      c.requires.2,
      rw (whole o c.args.bits, part_long o c.args.bits L.out (room c.before.before.before)) (le_refl c.args.bits),
      rw (to_z-of_z c.ranges.k) c.requires.3,
    )

pub loop-s-preserved : goal.loop-s-preserved
unfolding symbol_metric
loop-s-preserved c =
    let L = c.loop-s in
    let Y = c.args.sy.now in
    let B = c.args.bits in
    let k1 : SFits w16 (get_or Y (2 * L.s) (pos 0)) = record { sfits = c.one-arg-1.given } in
    let k2 : SFits w16 (get_or Y (2 * L.s + 1) (pos 0)) = record { sfits = c.one-arg-in-loop-s-1.given } in
    let g = rw (to_z-of_z k1, to_z-of_z k2, whole (L.s * B) B) at c.one.ensures in (
      omega arith,
      rw (whole (L.s * B) B)
          (block_step Y c.args.points.now B (to_z w64 (of_z w64 c.args.k)) L.s c.args.out.now L.out _ (place c.before.before.before.before.before) L.invariant.1 g.1),
    )

pub shape_of-out : goal.shape_of-out
shape_of-out c =
    let L = c.loop-s in
    rw L.invariant.1
    (length_so_far c.args.sy.now c.args.points.now c.args.bits (to_z w64 (of_z w64 c.args.k)) L.s c.args.out.now
    (upto L.s (length c.args.sy.now / 2) c.args.bits (length c.args.out.now) L.invariant.0 c.requires.4))

pub returns : goal.returns
returns c =
    let L = c.loop-s in
    let e : L.s ≡ length c.args.sy.now / 2 = omega arith in
    rw (e, to_z-of_z c.ranges.k) at L.invariant.1
