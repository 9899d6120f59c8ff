-- `phase::ranged::scaled` meets its contract. Assumes nothing.
use mathlib.Core.Path.{◌≡◌}
use Prim.Native.Nat.{◌*◌, ◌^◌, ◌≤◌, ◌<◌}
use native.Mathlib.Omega.{arith}
use lib.IntN.{ℤ, nat_abs, ◌*ℤ◌}
use lib.Signed.{mag}
use mir.Facts.{to_z-of_z, sfits_widen}
use mir.Syntax.{w16, w64}
use mir.Val.{SFits, to_z, of_z}
use Rattle.angles.proofs.Laws.{turned_size}
use Rattle.angles.specs.Angles.{turned_back}
use Rattle.angles.specs.declared.Symbol.{Symbol}
use Rattle.laws.proofs.Size.{Num, arg_le, sfits_abs, times, at, fits, abs≤}
use Rattle.phase.specs.Phase.{scaled_of}
use Rattle.phase.proofs.ranged.scaled.Lts as lts
use Rattle.phase.proofs.ranged.scaled.Tie as tie
use Rattle.phase.proofs.ranged.scaled.Reads as reads
use Rattle.phase.proofs.ranged.scaled.Goals as goal

-- a 16-bit part in 64 bits
widened : (z : ℤ) → SFits w16 z → to_z w64 (of_z w64 (to_z w16 (of_z w16 z))) ≡ z
widened z h = rw (to_z-of_z {w = w16} h) (to_z-of_z {w = w64} (sfits_widen {w = w16} {w' = w64} tt h))

-- the parts of a symbol fit 16 bits
record Parts (r : Symbol) : Type 0 where
  i : SFits w16 r.i
  q : SFits w16 r.q

abbrev parts : (r : Symbol) → mag r.i < 2 ^ 15 → mag r.q < 2 ^ 15 → Parts r
parts r i q = record { i = record { sfits = i }; q = record { sfits = q } }

pub overflow_cast-r : goal.overflow_cast-r
overflow_cast-r c =
    let r = c.args.r in
    let i : mag r.i < 2 ^ 15 = search in
    let q : mag r.q < 2 ^ 15 = search in
    let h = parts r i q in
    rw (to_z-of_z h.i) (sfits_widen {w = w16} tt h.i)

pub overflow_cast-r-2 : goal.overflow_cast-r-2
overflow_cast-r-2 c =
    let r = c.args.r in
    let i : mag r.i < 2 ^ 15 = search in
    let q : mag r.q < 2 ^ 15 = search in
    let h = parts r i q in
    rw (to_z-of_z h.q) (sfits_widen {w = w16} tt h.q)

part-size : (z : ℤ) → SFits w16 z → nat_abs z ≤ 32768
part-size z h = omega (arith, abs≤ z, h.sfits)

pub turn_back-u-requires : goal.turn_back-u-requires
turn_back-u-requires c =
    let e = c.cos_sin_round-p.ensures in
    let r = c.args.r in
    let i : mag r.i < 2 ^ 15 = search in
    let q : mag r.q < 2 ^ 15 = search in
    let h = parts r i q in
    rw (widened r.i h.i, widened r.q h.q) (e.1, e.2, part-size r.i h.i, part-size r.q h.q, omega arith)

-- the symbol turned back, of size at most 65,536
turned : (c : (lts.After-turn_back tie.the-claims reads.Pre reads.Post)) → c.turn_back-u.result ≡ turned_back c.cos_sin_round-p.result c.args.r.i c.args.r.q 15
turned c =
    let r = c.args.r in
    let i : mag r.i < 2 ^ 15 = search in
    let q : mag r.q < 2 ^ 15 = search in
    let h = parts r i q in
    rw (widened r.i h.i, widened r.q h.q) at c.turn_back-u.ensures

sizes : (c : (lts.After-turn_back tie.the-claims reads.Pre reads.Post)) → (nat_abs c.turn_back-u.result.re ≤ 65536) × (nat_abs c.turn_back-u.result.im ≤ 65536)
sizes c =
    let e = c.cos_sin_round-p.ensures in
    let r = c.args.r in
    let i : mag r.i < 2 ^ 15 = search in
    let q : mag r.q < 2 ^ 15 = search in
    let h = parts r i q in
    let t = turned_size c.cos_sin_round-p.result r.i r.q 32768 15 e.1 e.2 (part-size r.i h.i) (part-size r.q h.q) (omega arith) in
    rw (turned c) (omega (arith, t.re), omega (arith, t.im))

product : (u g : ℤ) → nat_abs u ≤ 65536 → nat_abs g ≤ 2 ^ 28 → Num (to_z w64 (of_z w64 u) *ℤ to_z w64 (of_z w64 g)) (u *ℤ g) (65536 * 2 ^ 28)
product u g h k = times (arg_le 65536 (sfits_abs w64 u (omega (arith, h))) h) (arg_le (2 ^ 28) (sfits_abs w64 g (omega (arith, k))) k)

pub overflow_mul-u : goal.overflow_mul-u
overflow_mul-u c = fits w64 (product c.turn_back-u.result.re c.args.gain (sizes c.before.before.before).0 c.requires.1) tt

pub round_shift-requires : goal.round_shift-requires
round_shift-requires c =
    let n = at w64 (product c.turn_back-u.result.re c.args.gain (sizes c.before.before.before).0 c.requires.1) tt in
    rw n.is (omega (arith, n.size), omega arith)

pub overflow_mul-u-2 : goal.overflow_mul-u-2
overflow_mul-u-2 c = fits w64 (product c.turn_back-u.result.im c.args.gain (sizes c.before.before.before.before.before.before).1 c.requires.1) tt

pub round_shift-requires-2 : goal.round_shift-requires-2
round_shift-requires-2 c =
    let n = at w64 (product c.turn_back-u.result.im c.args.gain (sizes c.before.before.before.before.before.before).1 c.requires.1) tt in
    rw n.is (omega (arith, n.size), omega arith)

pub returns : goal.returns
unfolding scaled_of
returns c =
    let g = c.args.gain in
    let n = at w64 (product c.turn_back-u.result.re g (sizes c.before.before.before.before.before.before.before.before).0 c.requires.1) tt in
    let m = at w64 (product c.turn_back-u.result.im g (sizes c.before.before.before.before.before.before.before.before).1 c.requires.1) tt in
    let e = c.cos_sin_round-p.ensures.0 in
    let u = c.round_shift in
    let v = c.round_shift-2 in
    rw (
      to_z-of_z {w = w16} (record { sfits = c.sat16.type_inv }),
      to_z-of_z {w = w16} (record { sfits = c.sat16-2.type_inv }),
      rw (to_z-of_z {w = w64} (record { sfits = u.type_inv }), rw n.is at u.ensures, turned c.before.before.before.before.before.before.before.before, e) at c.sat16.ensures,
      rw (to_z-of_z {w = w64} (record { sfits = v.type_inv }), rw m.is at v.ensures, turned c.before.before.before.before.before.before.before.before, e) at c.sat16-2.ensures,
    )
