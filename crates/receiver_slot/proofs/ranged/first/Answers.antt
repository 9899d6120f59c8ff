-- `receiver_slot::ranged::first` meets its contract: after j turns back and buffer are those of the first j symbols. Assumes nothing.
use mathlib.Core.Path.{◌≡◌, sym, ◌∙◌}
use Prim.Native.Nat.{◌+◌, ◌≤◌, ◌<◌}
use native.Mathlib.Omega.{arith}
use lib.ListN.{length}
use Rattle.receiver_slot.specs.Slot.{aligned_by, soft_all}
use Rattle.receiver_slot.specs.Steps.{soft_to}
use Rattle.receiver_slot.proofs.Fits.{all_short}
use Rattle.receiver_slot.proofs.Sized.{AllTo, push-ok-at}
use Rattle.receiver_slot.proofs.Softs.{soft_fits}
use Rattle.receiver_slot.proofs.Steps.{back_none, soft-none, soft-room, soft-next, turn-back, turn-place, turn-pushed, turn-soft, written_length, written_none}
use Rattle.receiver_slot.proofs.ranged.first.Goals as goal

pub loop-j-init : goal.loop-j-init
loop-j-init c =
    let a = c.args in
    let n = soft-none a.b a.w a.table.now a.store.now a.f.now a.s.now a.p in
    (omega arith, sym (back_none a.b a.w a.table.now a.store.now a.f.now a.s.now), rw n, rw n (sym (written_none a.soft.now)))

pub pushed-q-requires : goal.pushed-q-requires
pushed-q-requires c =
    let a = c.args in
    let h = c.requires in
    let L = c.loop-j in
    let line : AllTo 32768 a.b.eq.line = all_short a.b.eq.line c.well_formed.0.1.1.0.1.1.0.0 c.well_formed.0.1.1.0.1.1.0.1.1 in
    let l : L.j < 9296 = omega arith in (
      h.whole,
      l,
      omega (arith, h.accepted),
      h.cosines,
      h.held,
      rw L.invariant.1
          (push-ok-at a.b a.w a.table.now a.store.now a.f.now a.s.now h.first h.second line h.back.sums h.back.last h.accepted
          h.room L.j l),
    )

pub told-o-requires : goal.told-o-requires
told-o-requires c =
    let a = c.args in
    let h = c.requires in
    let L = c.loop-j in
    let q = c.pushed-q in
    let e = turn-pushed a.b a.w a.table.now a.store.now a.f.now a.s.now L.j L.back q.result L.invariant.1 q.ensures in
    let all : length (soft_to 9296 a.p a.b a.w a.table.now a.store.now a.f.now a.s.now) ≤ length a.soft.now =
    omega (arith, h.buffer, soft_fits a.p a.b a.w a.table.now a.store.now a.f.now a.s.now h.points.bits h.back.metas) in
    let n = soft-next a.b a.w a.table.now a.store.now a.f.now a.s.now a.p (length a.soft.now) all L.j (omega arith) in
    let m = soft-room a.b a.w a.table.now a.store.now a.f.now a.s.now a.p (length a.soft.now) all L.j (omega (arith, L.invariant.0)) in
    let fits : L.o + length (soft_all a.p (aligned_by q.result.out)) ≤ length L.soft =
    rw (e, L.invariant.2, L.invariant.3, written_length (soft_to L.j a.p a.b a.w a.table.now a.store.now a.f.now a.s.now) a.soft.now m) n in
    (h.points, fits)

pub loop-j-preserved : goal.loop-j-preserved
loop-j-preserved c =
    let a = c.args in
    let L = c.loop-j in
    let q = c.pushed-q in
    let t = c.told-o in
    let e = turn-pushed a.b a.w a.table.now a.store.now a.f.now a.s.now L.j L.back q.result L.invariant.1 q.ensures in
    let l : L.j + 1 ≤ 29 = omega (arith, c.loop-j-test.true) in (
      l,
      turn-back a.b a.w a.table.now a.store.now a.f.now a.s.now L.j q.result e,
      t.ensures.0 ∙ turn-place a.b a.w a.table.now a.store.now a.f.now a.s.now a.p L.j q.result L.o e L.invariant.2,
      t.ensures.1
          ∙ turn-soft a.b a.w a.table.now a.store.now a.f.now a.s.now a.p L.j q.result L.o L.soft a.soft.now e L.invariant.2 L.invariant.3,
    )

pub shape_of-soft : goal.shape_of-soft
shape_of-soft c =
    let a = c.args in
    let h = c.requires in
    let L = c.loop-j in
    let all : length (soft_to 9296 a.p a.b a.w a.table.now a.store.now a.f.now a.s.now) ≤ length a.soft.now =
    omega (arith, h.buffer, soft_fits a.p a.b a.w a.table.now a.store.now a.f.now a.s.now h.points.bits h.back.metas) in
    let m = soft-room a.b a.w a.table.now a.store.now a.f.now a.s.now a.p (length a.soft.now) all L.j (omega (arith, L.invariant.0)) in
    rw L.invariant.3 (written_length (soft_to L.j a.p a.b a.w a.table.now a.store.now a.f.now a.s.now) a.soft.now m)

pub returns : goal.returns
returns c =
    let L = c.loop-j in
    let e : L.j ≡ 29 = omega arith in
    (rw e at L.invariant.1, rw e at L.invariant.2, rw e at L.invariant.3)
