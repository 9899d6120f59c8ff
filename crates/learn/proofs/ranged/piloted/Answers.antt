-- `learn::ranged::piloted` meets its contract. Assumes nothing.
use Rattle.std.proofs.Common.{◌≡◌, ◌≢◌, ℕ, ◌+◌, ◌*◌, ◌^◌, ◌<◌, List, get_or, set, ℤ, pos, ◌+ℤ◌, refl, get_or-set_other, arith}
use mir.Syntax.{w16, w64}
use mir.Val.{SFits, to_z, of_z}
use Rattle.laws.proofs.Size.{Num, arg, at, fits, num, plus}
use Rattle.learn.specs.Learning.{sum_at, piloted_at}
use Rattle.learn.specs.Ranges.{LearnOk}
use Rattle.learn.specs.declared.Learn.{Learn}
use Rattle.learn.proofs.ranged.piloted.Goals as goal

-- a sum with one more 16-bit number
more : (l : Learn) (i : ℕ) (z : ℤ) → LearnOk l → i < 124 → SFits w16 z →
    Num (to_z w64 (of_z w64 (sum_at l.sum i)) +ℤ to_z w64 (of_z w64 (to_z w16 (of_z w16 z)))) (sum_at l.sum i +ℤ z) (2 ^ 41 + 2 ^ 15)
more l i z ok h k = plus (at w64 (num (sum_at l.sum i) (2 ^ 41) (ok.sums i h)) tt) (at w64 (arg k) tt)

-- the first of the two is not the second
apart : (s : List ℤ) (a : ℕ) (x : ℤ) → get_or (set s (2 * a) x) (2 * a + 1) (pos 0) ≡ get_or s (2 * a + 1) (pos 0)
apart s a x = let ne : 2 * a + 1 ≢ 2 * a = omega arith in rw get_or-set_other refl

pub overflow_cast-l : goal.overflow_cast-l
overflow_cast-l c = fits w64 (arg c.ranges.zi) tt

pub overflow_add-l : goal.overflow_add-l
overflow_add-l c = fits w64 (more c.args.l (2 * c.args.a) c.args.zi c.requires.0 (omega arith) c.ranges.zi) tt

pub overflow_cast-l-2 : goal.overflow_cast-l-2
overflow_cast-l-2 c = fits w64 (arg c.ranges.zq) tt

pub overflow_add-l-2 : goal.overflow_add-l-2
overflow_add-l-2 c =
    rw (apart c.args.l.sum c.args.a _) (fits w64 (more c.args.l (2 * c.args.a + 1) c.args.zq c.requires.0 (omega arith) c.ranges.zq) tt)

pub returns : goal.returns
unfolding piloted_at
returns c =
    let i = at w64 (more c.args.l (2 * c.args.a) c.args.zi c.requires.0 (omega arith) c.ranges.zi) tt in
    let q = at w64 (more c.args.l (2 * c.args.a + 1) c.args.zq c.requires.0 (omega arith) c.ranges.zq) tt in
    rw (apart c.args.l.sum c.args.a _, i.is, q.is)
