-- `demap::levels::level` meets its contract: a turn adds one label to the two least metrics and folds the table there. Assumes nothing.
use mathlib.Core.Path.{◌≡◌, refl, sym, ◌∙◌}
use Prim.Native.Nat.{ℕ, ◌+◌}
use native.Mathlib.Omega.{arith}
use lib.IntN.{ℤ, ◌-ℤ◌}
use mir.Facts.{to_z-of_z}
use mir.Syntax.{w8, w64}
use mir.Val.{SFits, to_z}
use Rattle.laws.proofs.Least.{least_take, least_size}
use Rattle.laws.proofs.Lists.{firsts-step}
use Rattle.laws.proofs.Size.{Num, fits, at, less, back}
use Rattle.laws.specs.Ranges.{least_of, firsts}
use Rattle.demap.specs.Demap.{every}
use Rattle.demap.specs.Folds.{entry, fold, half_gap}
use Rattle.demap.proofs.Tables.{entry_rest}
use Rattle.demap.proofs.levels.level.Lts as lts
use Rattle.demap.proofs.levels.level.Tie as tie
use Rattle.demap.proofs.levels.level.Reads as reads
use Rattle.demap.proofs.levels.level.Goals as goal

pub loop-t-init : goal.loop-t-init
unfolding firsts least_of
loop-t-init c =
    let m0 = c.args.m.now in
    (omega arith, refl, back w64 (entry m0 0) c.a-1.given, back w64 (entry m0 c.args.half) c.b-1.given)

pub loop-t-preserved : goal.loop-t-preserved
unfolding fold
loop-t-preserved c =
    let L = c.loop-t in
    let m0 = c.args.m.now in
    let h = c.args.half in
    let f = entry m0 in
    let g : ℕ → ℤ = λ l. f (h + l) in
    let xf : SFits w64 (entry L.m L.t) = record { sfits = c.x-1.given } in
    let yf : SFits w64 (entry L.m (h + L.t)) = record { sfits = c.y-1.given } in
    let x : entry L.m L.t ≡ f L.t = rw L.invariant.1 (entry_rest (fold f h) m0 L.t L.t (omega arith)) in
    let y : entry L.m (h + L.t) ≡ g L.t = rw L.invariant.1 (entry_rest (fold f h) m0 L.t (h + L.t) (omega arith)) in
    let ra = back w64 c.lesser-a.result c.lesser-a.type_inv in
    let rb = back w64 c.lesser-b.result c.lesser-b.type_inv in
    let rm = back w64 c.lesser.result c.lesser.type_inv in
    let v : c.lesser.result ≡ fold f h L.t = rw (to_z-of_z xf, to_z-of_z yf, x, y) at c.lesser.ensures in (
      omega arith,
      rw (rm, L.invariant.1) (firsts-step (fold f h) m0 L.t c.lesser.result v (omega arith)),
      ra ∙ (rw (to_z-of_z xf, x, L.invariant.2) at c.lesser-a.ensures) ∙ sym (least_take every f (f 0) L.t refl),
      rb ∙ (rw (to_z-of_z yf, y, L.invariant.3) at c.lesser-b.ensures) ∙ sym (least_take every g (f h) L.t refl),
    )

-- the two least metrics after the loop, with their sizes
both : (c : (lts.After-loop tie.the-claims reads.Pre reads.Post goal.the-invariant-loop-t goal.the-decreases-loop-t)) →
    Num (to_z w64 c.loop-t.b-bits -ℤ to_z w64 c.loop-t.a-bits) (half_gap (entry c.args.m.now) c.args.half) 17179869184
unfolding half_gap
both c =
    let L = c.loop-t in
    let h = c.args.half in
    let f = entry c.args.m.now in
    let g : ℕ → ℤ = λ l. f (h + l) in
    let e : L.t ≡ h = omega arith in
    less
    (record {
      is = rw e at L.invariant.3;
      size = least_size every g (f h) h 8589934592 (c.requires.4 h (omega arith)) (λ l k. c.requires.4 (h + l) (omega arith));
    })
    (record {
      is = rw e at L.invariant.2;
      size = least_size every f (f 0) h 8589934592 (c.requires.4 0 (omega arith)) (λ l k. c.requires.4 l (omega arith));
    })

pub overflow_sub-b : goal.overflow_sub-b
overflow_sub-b c = fits w64 (both c) tt

pub soft-requires : goal.soft-requires
soft-requires c =
    (rw (at w64 (both c) tt).is (both c).size, rw (to_z-of_z c.ranges.k) c.requires.2)

pub returns : goal.returns
returns c =
    let L = c.loop-t in
    let e : L.t ≡ c.args.half = omega arith in (
      back w8 c.soft.result c.soft.type_inv ∙ rw ((at w64 (both c.before) tt).is, to_z-of_z c.ranges.k) at c.soft.ensures,
      rw e at L.invariant.1,
    )
