-- `phase_bench::correct_all` meets its contract. Assumes nothing.
use mathlib.Core.Path.{◌≡◌, refl, ◌∙◌}
use Prim.Native.Nat.{◌<◌, ◌^◌, ◌+◌, ◌*◌}
use native.Mathlib.Omega.{arith}
use lib.ListN.{set, length-set}
use lib.Signed.{mag}
use mir.Syntax.{w16, w64}
use Rattle.laws.proofs.Size.{back}
use Rattle.phase_bench.proofs.Laws.{correct_more}
use Rattle.phase_bench.specs.Slots.{places, corrected_all}
use Rattle.phase_bench.proofs.correct_all.Goals as goal

-- src/lib.rt:66:5
pub loop-j-init : goal.loop-j-init
unfolding corrected_all
loop-j-init c = let p = c.requires in (omega arith, refl, p.4, p.5, p.6)

-- src/lib.rt:73:9
pub bounds-y-j-in-loop-j : goal.bounds-y-j-in-loop-j
bounds-y-j-in-loop-j c =
    let h = c.loop-j in
    rw (length-set h.y _ _) (omega (arith, h.invariant.2, c.loop-j-test.true))

-- src/lib.rt:66:5
pub loop-j-preserved : goal.loop-j-preserved
loop-j-preserved c =
    let h = c.loop-j in
    let a = c.args in
    let r = c.corrected-c in
    let told = c.struct_told-in-loop-j-1.given.1.1.1.1.1.1 in
    let hi : mag r.result.y.i < 2 ^ 15 = told.1.0.1.1.0.1 in
    let hq : mag r.result.y.q < 2 ^ 15 = told.1.0.1.1.1.0.1 in
    let hg : mag r.result.gain < 2 ^ 63 = told.0.1 in
    rw (back w16 r.result.y.i hi, back w16 r.result.y.q hq, back w64 r.result.gain hg) (
      omega (arith, c.loop-j-test.true),
      correct_more a.w a.table.now a.store.now h.j (places a.y.now a.phi.now a.gain.now) (places h.y h.phi h.gain) r.result h.invariant.1 r.ensures,
      length-set (set h.y (2 * h.j) r.result.y.i) (2 * h.j + 1) r.result.y.q ∙ length-set h.y (2 * h.j) r.result.y.i ∙ h.invariant.2,
      length-set h.phi h.j r.result.phi ∙ h.invariant.3,
      length-set h.gain h.j r.result.gain ∙ h.invariant.4,
    )

-- src/lib.rt:54:1
pub returns : goal.returns
returns c =
    let h = c.loop-j in
    let e : h.j ≡ 9296 = omega (arith, h.invariant.0, c.loop-j-test) in
    rw e at h.invariant.1
