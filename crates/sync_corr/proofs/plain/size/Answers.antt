-- `sync_corr::plain::size` meets its contract: the sizes of numbers of 32 bits, and omega reads the larger. Assumes nothing.
use mathlib.Core.Path.{◌≡◌, ◌∙◌}
use Prim.Native.Nat.{◌^◌, ◌≤◌}
use native.Mathlib.Omega.{arith}
use borrow.Author.Rules.{rules}
use borrow.Author.Tests.{ltb-true, ltb-false}
use lib.IntN.{ℤ, pos, nat_abs}
use mir.Syntax.{w32, w64}
use mir.Val.{SFits, to_z, of_z}
use Rattle.fx.specs.Fx.{mag_approx}
use Rattle.laws.proofs.Size.{Num, arg, at, fits, back}
use Rattle.sync_corr.specs.Correlate.{size_of}
use Rattle.sync_corr.proofs.Laws.{mag_bound}
use Rattle.sync_corr.proofs.plain.size.Lts as lts
use Rattle.sync_corr.proofs.plain.size.Tie as tie
use Rattle.sync_corr.proofs.plain.size.Reads as reads
use Rattle.sync_corr.proofs.plain.size.Goals as goal

f-re : (s : (lts.Start tie.the-claims reads.Pre reads.Post)) → SFits w32 s.args.b.f.re
f-re s = search rules

f-im : (s : (lts.Start tie.the-claims reads.Pre reads.Post)) → SFits w32 s.args.b.f.im
f-im s = search rules

s-re : (s : (lts.Start tie.the-claims reads.Pre reads.Post)) → SFits w32 s.args.b.s.re
s-re s = search rules

s-im : (s : (lts.Start tie.the-claims reads.Pre reads.Post)) → SFits w32 s.args.b.s.im
s-im s = search rules

-- a part, widened
wide : {z : ℤ} → SFits w32 z → Num (to_z w64 (of_z w64 (to_z w32 (of_z w32 z)))) z (2 ^ 31)
wide f = at w64 (arg f) tt

within : {x y z v : ℤ} → Num x z (2 ^ 31) → Num y v (2 ^ 31) → (nat_abs x ≤ 2 ^ 60) × (nat_abs y ≤ 2 ^ 60)
within m n = rw (m.is, n.is) (omega (arith, m.size, n.size))

pub overflow_cast-b : goal.overflow_cast-b
overflow_cast-b c = fits w64 (arg (f-re c.before.before.before)) tt

pub overflow_cast-b-2 : goal.overflow_cast-b-2
overflow_cast-b-2 c = fits w64 (arg (f-im c.before.before.before.before.before)) tt

pub mag_approx-f-requires : goal.mag_approx-f-requires
mag_approx-f-requires c = within (wide (f-re c.before.before.before.before.before)) (wide (f-im c.before.before.before.before.before))

pub overflow_cast-b-3 : goal.overflow_cast-b-3
overflow_cast-b-3 c = fits w64 (arg (s-re c.before.before.before.before.before.before.before.before)) tt

pub overflow_cast-b-4 : goal.overflow_cast-b-4
overflow_cast-b-4 c = fits w64 (arg (s-im c.before.before.before.before.before.before.before.before.before)) tt

pub mag_approx-s-requires : goal.mag_approx-s-requires
mag_approx-s-requires c = within (wide (s-re c.before.before.before.before.before.before.before.before.before)) (wide (s-im c.before.before.before.before.before.before.before.before.before))

-- what the two calls gave
f-size : (c : (lts.After-mag_approx2 tie.the-claims reads.Pre reads.Post)) → let b = c.args.b in to_z w64 (of_z w64 c.mag_approx-f.result) ≡ pos (mag_approx b.f.re b.f.im)
f-size c =
    let r = c.mag_approx-f in
    back w64 r.result r.type_inv ∙ rw ((wide (f-re c.before.before.before.before.before.before.before.before.before.before)).is, (wide (f-im c.before.before.before.before.before.before.before.before.before.before)).is) at r.ensures

s-size : (c : (lts.After-mag_approx2 tie.the-claims reads.Pre reads.Post)) → let b = c.args.b in to_z w64 (of_z w64 c.mag_approx-s.result) ≡ pos (mag_approx b.s.re b.s.im)
s-size c =
    let r = c.mag_approx-s in
    back w64 r.result r.type_inv ∙ rw ((wide (s-re c.before.before.before.before.before.before.before.before.before.before)).is, (wide (s-im c.before.before.before.before.before.before.before.before.before.before)).is) at r.ensures

pub overflow_cast-result : goal.overflow_cast-result
overflow_cast-result c = rw (s-size c.before) (tt, record { fits = mag_bound _ _ (s-re c.before.before.before.before.before.before.before.before.before.before.before) (s-im c.before.before.before.before.before.before.before.before.before.before.before) })

pub overflow_cast-result-else-f-s : goal.overflow_cast-result-else-f-s
overflow_cast-result-else-f-s c = rw (f-size c.before) (tt, record { fits = mag_bound _ _ (f-re c.before.before.before.before.before.before.before.before.before.before.before) (f-im c.before.before.before.before.before.before.before.before.before.before.before) })

pub returns-then-f-s : goal.returns-then-f-s
unfolding size_of
returns-then-f-s c =
    let b = c.args.b in
    let t = ltb-true (mag_approx b.f.re b.f.im) (mag_approx b.s.re b.s.im) (rw (f-size c.before, s-size c.before) at c.if-f-s.true) in
    rw (s-size c.before) (omega (arith, t))

pub returns-else-f-s : goal.returns-else-f-s
unfolding size_of
returns-else-f-s c =
    let b = c.args.b in
    let t = ltb-false (mag_approx b.f.re b.f.im) (mag_approx b.s.re b.s.im) (rw (f-size c.before, s-size c.before) at c.if-f-s.false) in
    rw (f-size c.before) (omega (arith, t))
