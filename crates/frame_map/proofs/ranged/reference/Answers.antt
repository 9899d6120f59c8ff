-- `frame_map::ranged::reference` meets its contract. Assumes nothing.
use mathlib.Core.Path.{◌≡◌}
use Prim.Native.Nat.{◌+◌, ◌*◌}
use native.Mathlib.Omega.{arith}
use lib.IntN.{ℤ, pos, nat_abs}
use lib.ListN.{get_or}
use mir.Facts.{to_z-of_z}
use mir.Syntax.{w8}
use mir.Val.{to_z, of_z}
use Rattle.laws.proofs.Size.{sfits_abs}
use Rattle.frame_map.proofs.Laws.{entry-one}
use Rattle.frame_map.specs.Reference.{reference_of}
use Rattle.frame_map.proofs.ranged.reference.Goals as goal

-- an entry of a word fits its byte
unit : (z : ℤ) → nat_abs z ≡ 1 → to_z w8 (of_z w8 z) ≡ z
unit z h = to_z-of_z (sfits_abs w8 z (omega (arith, h)))

pub scaled-requires : goal.scaled-requires
scaled-requires c =
    let j = 2 * c.args.k in
    let x = entry-one c.args.f.now c.requires.1 j (omega (arith, c.requires.0)) in
    let y = entry-one c.args.s.now c.requires.2 j (omega (arith, c.requires.0)) in
    rw (unit (get_or c.args.f.now j (pos 0)) x, unit (get_or c.args.s.now j (pos 0)) y) (omega (arith, x), omega (arith, y))

pub scaled-requires-2 : goal.scaled-requires-2
scaled-requires-2 c =
    let j = 2 * c.args.k + 1 in
    let x = entry-one c.args.f.now c.requires.1 j (omega (arith, c.requires.0)) in
    let y = entry-one c.args.s.now c.requires.2 j (omega (arith, c.requires.0)) in
    rw (unit (get_or c.args.f.now j (pos 0)) x, unit (get_or c.args.s.now j (pos 0)) y) (omega (arith, x), omega (arith, y))

pub returns : goal.returns
unfolding reference_of
returns c =
    let fi = unit (get_or c.args.f.now (2 * c.args.k) (pos 0)) (entry-one c.args.f.now c.requires.1 (2 * c.args.k) (omega (arith, c.requires.0))) in
    let si = unit (get_or c.args.s.now (2 * c.args.k) (pos 0)) (entry-one c.args.s.now c.requires.2 (2 * c.args.k) (omega (arith, c.requires.0))) in
    let fq = unit (get_or c.args.f.now (2 * c.args.k + 1) (pos 0)) (entry-one c.args.f.now c.requires.1 (2 * c.args.k + 1) (omega (arith, c.requires.0))) in
    let sq = unit (get_or c.args.s.now (2 * c.args.k + 1) (pos 0)) (entry-one c.args.s.now c.requires.2 (2 * c.args.k + 1) (omega (arith, c.requires.0))) in
    rw (
      to_z-of_z (record { sfits = c.scaled.type_inv }),
      to_z-of_z (record { sfits = c.scaled-2.type_inv }),
      rw (fi, si) at c.scaled.ensures,
      rw (fq, sq) at c.scaled-2.ensures,
    )
