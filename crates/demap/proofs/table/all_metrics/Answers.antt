-- `demap::table::all_metrics` meets its contract: turn b puts the labels from 2^b to 2^(b + 1) there. Assumes nothing.
use mathlib.Core.Path.{◌≡◌}
use Prim.Native.Nat.{suc, ◌+◌, ◌^◌, ◌≤◌}
use native.Mathlib.Nat.{not-suc-le-zero}
use native.Mathlib.Numerals.{add-one}
use native.Mathlib.Omega.{arith}
use lib.Pow.{pow_mono, pow_pos}
use mir.Syntax.{w64}
use Rattle.laws.proofs.Size.{fits, at, arg, lit, times}
use Rattle.demap.proofs.Distances.{doubled, label_twice}
use Rattle.demap.proofs.Fold.{pow2, shifted}
use Rattle.demap.proofs.table.all_metrics.Goals as goal
use Rattle.demap.proofs.table.all_metrics.Goals.{then-b-bits, else-b-bits}

pub overflow_cast-ti : goal.overflow_cast-ti
overflow_cast-ti c = fits w64 (arg c.ranges.yi) tt

pub overflow_mul-ti : goal.overflow_mul-ti
overflow_mul-ti c = fits w64 (times (lit 2) (at w64 (arg c.ranges.yi) tt)) tt

pub overflow_cast-tq : goal.overflow_cast-tq
overflow_cast-tq c = fits w64 (arg c.ranges.yq) tt

pub overflow_mul-tq : goal.overflow_mul-tq
overflow_mul-tq c = fits w64 (times (lit 2) (at w64 (arg c.ranges.yq) tt)) tt

pub more_metrics-requires : goal.more_metrics-requires
more_metrics-requires c =
    let a = doubled c.ranges.yi in
    let b = doubled c.ranges.yq in (
      omega arith,
      omega arith,
      omega (arith, c.requires.2, pow_pos c.args.bits),
      rw a.is a.size,
      rw b.is b.size,
      c.requires.3,
      λ l h. absurd (not-suc-le-zero h),
    )

pub loop-b-init : goal.loop-b-init
loop-b-init c = (omega arith, c.more_metrics.ensures.0, λ l h k. c.more_metrics.ensures.1 l h)

pub overflow_mul-h : goal.overflow_mul-h
overflow_mul-h c = omega (arith, shifted c.loop-b.b (omega arith))

pub more_metrics-requires-then-b-bits : goal.more_metrics-requires-then-b-bits
more_metrics-requires-then-b-bits c =
    let L = c.loop-b in
    let a = doubled c.ranges.yi in
    let b = doubled c.ranges.yq in
    let w : 2 ^ suc L.b ≤ 2 ^ c.args.bits = pow_mono (omega arith) in
    let x : 2 ^ suc L.b ≤ 2 ^ 5 = pow_mono {j = 5} (omega arith) in
    let e = pow2 L.b in
    rw (shifted L.b L.invariant.0).0 (
      omega arith,
      omega arith,
      omega (arith, c.requires.2),
      rw a.is a.size,
      rw b.is b.size,
      L.invariant.1,
      λ l h. L.invariant.2 l h (omega arith),
    )

pub loop-b-preserved : goal.loop-b-preserved
loop-b-preserved c =
    let L = c.loop-b in
    let q : 2 ^ (L.b + 1) ≡ 2 ^ L.b + 2 ^ L.b = rw (add-one L.b) (pow2 L.b) in
    elim c.if-b-bits.branch [
      | then-b-bits w ↦ (
        omega arith,
        rw w.m-is w.more_metrics-then-b-bits.ensures.0,
        λ l h k. rw w.m-is (w.more_metrics-then-b-bits.ensures.1 l (rw (shifted L.b L.invariant.0).0 (omega arith))),
      )
      | else-b-bits w ↦ (
        omega arith,
        rw w.m-is L.invariant.1,
        λ l h k. let p : 2 ^ c.args.bits ≤ 2 ^ L.b = pow_mono w.if-b-bits.false in rw w.m-is (L.invariant.2 l (omega arith) k),
      )
    ]

pub returns : goal.returns
returns c =
    let L = c.loop-b in
    let e : L.b ≡ 5 = omega arith in
    let p : 2 ^ c.args.bits ≤ 2 ^ L.b = pow_mono (omega arith) in
    let law = label_twice c.args.yi c.args.yq c.args.points.now in
    let inv = rw ((doubled c.ranges.yi).is, (doubled c.ranges.yq).is) at L.invariant.2 in
    (L.invariant.1, λ l h. rw (law l) at (inv l (omega arith) h))
