-- `receiver_slot::bits::main_symbol` meets its contract. Assumes nothing.
use mathlib.Core.Path.{◌≡◌, refl, sym}
use Prim.Native.Nat.{◌-◌, ◌<◌}
use native.Mathlib.Nat.{le_refl}
use native.Mathlib.Omega.{arith}
use lib.IntN.{pos}
use lib.Signed.{mag}
use lib.ListN.{length, length-take}
use mir.Facts.{to_z_pos}
use mir.Syntax.{w16, w64}
use mir.Val.{to_z}
use Rattle.demap.specs.Demap.{label_metric, soft_bits}
use Rattle.demap.proofs.Blocks.{whole, part_long, length_bits}
use Rattle.laws.proofs.Size.{back}
use Rattle.receiver_slot.proofs.Buffers.{bits_of_part, put_part, bits_none}
use Rattle.receiver_slot.proofs.Steps.{put_none}
use borrow.Author.Rules.{rules}
use Rattle.receiver_slot.proofs.bits.main_symbol.Goals as goal

pub one-requires : goal.one-requires
one-requires c =
    let a = c.args in
    let n = c.numbers-n in
    let h : length a.p.points ≡ 64 = search rules in
    let k : to_z w64 a.p.k ≡ pos a.p.k = to_z_pos w64 (omega (arith, c.requires.0.k)) in (
      omega arith,
      c.requires.0.bits,
      omega (arith, length-take (n.result - 0) a.p.points, h, n.ensures.0, n.ensures.1),
      rw (whole a.o a.p.bits, part_long a.o a.p.bits a.soft.now c.requires.1) (le_refl a.p.bits),
      rw k (omega (arith, c.requires.0.k)),
    )

pub returns-then-bits-eq0 : goal.returns-then-bits-eq0
returns-then-bits-eq0 c =
    let a = c.args in
    let z : a.p.bits ≡ 0 = omega arith in
    (omega arith, sym (rw (bits_none (label_metric a.z.i a.z.q a.p.points) a.p.bits (pos a.p.k) z) (put_none a.o a.soft.now)))

pub returns-else-bits-eq0 : goal.returns-else-bits-eq0
returns-else-bits-eq0 c =
    let a = c.args in
    let n = c.numbers-n in
    let hi : mag a.z.i < 32768 = search in
    let hq : mag a.z.q < 32768 = search in
    let k : to_z w64 a.p.k ≡ pos a.p.k = to_z_pos w64 (omega (arith, c.requires.0.k)) in
    let m = bits_of_part a.z.i a.z.q a.p.points a.p.bits (n.result - 0) (pos a.p.k) (omega (arith, n.ensures.0)) in
    let g = rw (back w16 a.z.i hi, back w16 a.z.q hq, k, m, whole a.o a.p.bits) at c.one.ensures.1 in (
      refl,
      rw (whole a.o a.p.bits)
          (put_part a.o a.p.bits _ (soft_bits (label_metric a.z.i a.z.q a.p.points) a.p.bits (pos a.p.k)) a.soft.now c.requires.1
          (length_bits (label_metric a.z.i a.z.q a.p.points) a.p.bits (pos a.p.k)) g),
    )
