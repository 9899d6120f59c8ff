-- `carrier::ranged::rotated` meets its contract: a symbol's bytes turned back stay within 4,096. Assumes nothing.
use native.Mathlib.Omega.{arith}
use lib.IntN.{ℤ}
use mathlib.Core.Path.{◌≡◌}
use mir.Syntax.{w8, w16, w64}
use mir.Val.{SFits, to_z, of_z}
use Rattle.angles.specs.Angles.{turned_back}
use Rattle.laws.proofs.Size.{Num, arg, at, num, fits}
use Rattle.carrier.specs.Carrier.{rotated_of}
use Rattle.carrier.proofs.Laws.{Small, turned_small}
use Rattle.carrier.proofs.ranged.rotated.Lts as lts
use Rattle.carrier.proofs.ranged.rotated.Tie as tie
use Rattle.carrier.proofs.ranged.rotated.Reads as reads
use Rattle.carrier.proofs.ranged.rotated.Goals as goal

-- a signed byte in an i64
byte : {z : ℤ} → SFits w8 z → Num (to_z w64 (of_z w64 (to_z w8 (of_z w8 z)))) z 128
byte f = at w64 (arg f) tt

pub overflow_cast-xi : goal.overflow_cast-xi
overflow_cast-xi c = fits w64 (arg c.ranges.xi) tt

pub overflow_cast-xq : goal.overflow_cast-xq
overflow_cast-xq c = fits w64 (arg c.ranges.xq) tt

pub turn_back-r-requires : goal.turn_back-r-requires
turn_back-r-requires c =
    let e = c.cos_sin_round-p.ensures in
    let i = byte c.ranges.xi in
    let q = byte c.ranges.xq in
    rw (i.is, q.is) (e.1, e.2, omega (arith, i.size), omega (arith, q.size), omega arith)

-- the symbol turned back
told : (c : (lts.After-turn_back tie.the-claims reads.Pre reads.Post)) → c.turn_back-r.result ≡ turned_back c.cos_sin_round-p.result c.args.xi c.args.xq 11
told c =
    let i = byte c.ranges.xi in
    let q = byte c.ranges.xq in
    rw (i.is, q.is) at c.turn_back-r.ensures

small : (c : (lts.After-turn_back tie.the-claims reads.Pre reads.Post)) → Small c.turn_back-r.result
small c =
    let a = c.args in
    let e = c.cos_sin_round-p.ensures in
    rw (told c) (turned_small c.cos_sin_round-p.result a.xi a.xq e.1 e.2 (byte c.ranges.xi).size (byte c.ranges.xq).size)

pub overflow_cast-result : goal.overflow_cast-result
overflow_cast-result c = fits w16 (at w64 (num c.turn_back-r.result.re 4096 (small c.before.before.before).re) tt) tt

pub overflow_cast-result-2 : goal.overflow_cast-result-2
overflow_cast-result-2 c = fits w16 (at w64 (num c.turn_back-r.result.im 4096 (small c.before.before.before.before).im) tt) tt

pub returns : goal.returns
unfolding rotated_of
returns c =
    let s = small c.before.before.before.before in
    let r = c.turn_back-r.result in
    rw ((at w16 (at w64 (num r.re 4096 s.re) tt) tt).is, (at w16 (at w64 (num r.im 4096 s.im) tt) tt).is)
    (rw (told c.before.before.before.before, c.cos_sin_round-p.ensures.0), s.re, s.im, s.both)
