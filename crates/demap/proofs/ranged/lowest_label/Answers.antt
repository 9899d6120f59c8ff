-- `demap::ranged::lowest_label` meets its contract: each turn takes the search one label on. Assumes nothing.
use mathlib.Core.Bool.{true, false, not}
use mathlib.Core.Path.{◌≡◌, refl, sym, ap, ◌∙◌}
use Prim.Native.Nat.{ℕ, suc, ◌+◌, ◌-◌, ◌*◌, ◌<◌}
use native.Mathlib.Numerals.{add-one}
use native.Mathlib.Omega.{arith}
use borrow.Author.Tests.{lt-ltb, le-ltb, leb-true, leb-false}
use lib.IntN.{ℤ, pos, negsuc}
use lib.ListN.{get_or}
use lib.Signed.{le_z, lt_z}
use mir.Facts.{to_z-of_z}
use mir.Syntax.{w16, w64}
use mir.Val.{SFits, to_z, of_z}
use Rattle.laws.proofs.First.{first_next, first_here, first-none}
use Rattle.laws.proofs.Tests.{never}
use Rattle.laws.proofs.Size.{fits, at, arg, lit, times, back}
use Rattle.demap.specs.Demap.{label_metric, lowest_label}
use Rattle.demap.specs.Folds.{label_by_twice}
use Rattle.demap.proofs.Distances.{doubled, label_twice}
use Rattle.demap.proofs.ranged.lowest_label.Lts as lts
use Rattle.demap.proofs.ranged.lowest_label.Tie as tie
use Rattle.demap.proofs.ranged.lowest_label.Reads as reads
use Rattle.demap.proofs.ranged.lowest_label.Goals as goal

pub overflow_cast-ti : goal.overflow_cast-ti
overflow_cast-ti c = fits w64 (arg c.ranges.yi) tt

pub overflow_mul-ti : goal.overflow_mul-ti
overflow_mul-ti c = fits w64 (times (lit 2) (at w64 (arg c.ranges.yi) tt)) tt

pub overflow_cast-tq : goal.overflow_cast-tq
overflow_cast-tq c = fits w64 (arg c.ranges.yq) tt

pub overflow_mul-tq : goal.overflow_mul-tq
overflow_mul-tq c = fits w64 (times (lit 2) (at w64 (arg c.ranges.yq) tt)) tt

pub loop-i-init : goal.loop-i-init
unfolding lowest_label
loop-i-init c = rw (none c.args.n)
  where
    none : (n : ℕ) → n - 0 ≡ n
    none n = omega arith

pub by_twice-m-requires : goal.by_twice-m-requires
by_twice-m-requires c =
    let a = doubled c.ranges.yi in
    let b = doubled c.ranges.yq in
    (rw a.is a.size, rw b.is b.size)

-- the metric of label i, as the test reads it
abbrev asked : (lts.After-by_twice tie.the-claims reads.Pre reads.Post goal.the-invariant-loop-i goal.the-decreases-loop-i) → ℤ
asked c =
    label_metric (to_z w16 (of_z w16 c.args.yi)) (to_z w16 (of_z w16 c.args.yq)) c.args.points.now c.loop-i.i

got : (c : (lts.After-by_twice tie.the-claims reads.Pre reads.Post goal.the-invariant-loop-i goal.the-decreases-loop-i)) →
    to_z w64 (of_z w64 c.by_twice-m.result) ≡ asked c
unfolding label_by_twice
got c =
    let L = c.loop-i in
    let P = c.args.points.now in
    let k1 : SFits w16 (get_or P (2 * L.i) (pos 0)) = record { sfits = c.by_twice-arg-1.given } in
    let k2 : SFits w16 (get_or P (2 * L.i + 1) (pos 0)) = record { sfits = c.by_twice-arg-in-loop-i-1.given } in
    let g = rw (to_z-of_z k1, to_z-of_z k2, (doubled c.ranges.yi).is, (doubled c.ranges.yq).is) at c.by_twice-m.ensures in
    back w64 c.by_twice-m.result c.by_twice-m.type_inv ∙ g.0 ∙ label_twice c.args.yi c.args.yq P L.i
    ∙ rw (to_z-of_z c.ranges.yi, to_z-of_z c.ranges.yq)

next : (n i : ℕ) → i < n → n - i ≡ suc (n - (i + 1))
next n i h = omega arith

-- `m <= v`, as the search tests it
reached : (m v : ℤ) → le_z m v ≡ true → lt_z v m ≡ false
reached (pos m) (pos v) e = le-ltb v m (leb-true m v e)
reached (pos m) (negsuc v) e = absurd (never (sym e))
reached (negsuc m) (pos v) e = refl
reached (negsuc m) (negsuc v) e = le-ltb m v (leb-true v m e)

after : (m v : ℤ) → le_z m v ≡ false → lt_z v m ≡ true
after (pos m) (pos v) e = lt-ltb v m (leb-false m v e)
after (pos m) (negsuc v) e = refl
after (negsuc m) (pos v) e = absurd (never e)
after (negsuc m) (negsuc v) e = lt-ltb m v (leb-false v m e)

pub loop-i-preserved : goal.loop-i-preserved
loop-i-preserved c =
    let L = c.loop-i in
    let t = after (asked c.before) (to_z w64 (of_z w64 c.args.v)) (rw (got c.before) at c.if-m-v.false) in
    let q = rw (next c.args.n L.i (omega arith)) at L.invariant in
    rw (add-one L.i) (sym (first_next _ _ L.i (ap not t)) ∙ rw (add-one L.i) at q)

pub returns-then-m-v : goal.returns-then-m-v
returns-then-m-v c =
    let L = c.loop-i in
    let t = reached (asked c.before) (to_z w64 (of_z w64 c.args.v)) (rw (got c.before) at c.if-m-v.true) in
    rw (to_z-of_z c.ranges.yi, to_z-of_z c.ranges.yq, to_z-of_z c.ranges.v) at (sym (first_here _ _ L.i (ap not t)) ∙ L.invariant)

pub returns : goal.returns
returns c =
    let L = c.loop-i in
    let e : L.i ≡ c.args.n = omega arith in
    let z : c.args.n - L.i ≡ 0 = omega arith in
    let q = rw z at L.invariant in
    rw (to_z-of_z c.ranges.yi, to_z-of_z c.ranges.yq, to_z-of_z c.ranges.v) at (sym e ∙ sym (first-none _ L.i) ∙ q)
