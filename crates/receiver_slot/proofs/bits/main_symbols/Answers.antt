-- `receiver_slot::bits::main_symbols` meets its contract. Assumes nothing.
use mathlib.Core.Path.{◌≡◌, refl, sym}
use Prim.Native.Nat.{◌-◌, ◌*◌, ◌/◌}
use native.Mathlib.Nat.{le_refl}
use native.Mathlib.Omega.{arith}
use lib.IntN.{pos}
use lib.ListN.{length, length-take}
use mir.Facts.{to_z_pos}
use mir.Syntax.{w64}
use mir.Val.{to_z}
use Rattle.demap.specs.Demap.{block_bits}
use Rattle.demap.proofs.Blocks.{whole, part_long, length_block}
use Rattle.receiver_slot.proofs.Buffers.{block_none, block_of_part, put_part}
use Rattle.receiver_slot.proofs.Steps.{put_none}
use borrow.Author.Rules.{rules}
use Rattle.receiver_slot.proofs.bits.main_symbols.Goals as goal

pub block-requires : goal.block-requires
block-requires c =
    let a = c.args in
    let n = c.numbers-n in
    let m = length a.z.now / 2 * a.p.bits in
    let h : length a.p.points ≡ 64 = search rules in
    let k : to_z w64 a.p.k ≡ pos a.p.k = to_z_pos w64 (omega (arith, c.requires.0.k)) in (
      omega arith,
      c.requires.0.bits,
      omega (arith, length-take (n.result - 0) a.p.points, h, n.ensures.0, n.ensures.1),
      rw k (omega (arith, c.requires.0.k)),
      rw (whole a.o m, part_long a.o m a.soft.now c.requires.1) (le_refl m),
    )

pub returns-then-bits-eq0 : goal.returns-then-bits-eq0
returns-then-bits-eq0 c =
    let a = c.args in
    let z : a.p.bits ≡ 0 = omega arith in
    let m = length a.z.now / 2 in
    (rw z (omega arith), sym (rw (block_none a.z.now a.p.points a.p.bits (pos a.p.k) m z) (put_none a.o a.soft.now)))

pub returns-else-bits-eq0 : goal.returns-else-bits-eq0
returns-else-bits-eq0 c =
    let a = c.args in
    let n = c.numbers-n in
    let m = length a.z.now / 2 in
    let k : to_z w64 a.p.k ≡ pos a.p.k = to_z_pos w64 (omega (arith, c.requires.0.k)) in
    let e = block_of_part a.z.now a.p.points a.p.bits (n.result - 0) (pos a.p.k) m (omega (arith, n.ensures.0)) in
    let g = rw (k, e, whole a.o (m * a.p.bits)) at c.block.ensures in (
      refl,
      rw (whole a.o (m * a.p.bits))
          (put_part a.o (m * a.p.bits) _ (block_bits a.z.now a.p.points a.p.bits (pos a.p.k) m) a.soft.now c.requires.1
          (length_block a.z.now a.p.points a.p.bits (pos a.p.k) m) g),
    )
