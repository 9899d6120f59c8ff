-- `receiver_slot::ranged::all` meets its contract: the first 29 symbols, and the others by the line alone. Assumes nothing.
use mathlib.Core.Path.{subst, sym, ◌∙◌}
use Prim.Native.Nat.{◌≤◌}
use native.Mathlib.Omega.{arith}
use lib.Dec.{lit≤}
use lib.ListN.{length}
use Rattle.eq_fir.specs.Rows.{Ends}
use Rattle.eq_fir.proofs.Windows.{rows_end}
use Rattle.receiver_slot.specs.Steps.{soft_to}
use Rattle.receiver_slot.proofs.Settled.{end_back, end-room, end-soft}
use Rattle.receiver_slot.proofs.Softs.{soft_fits}
use Rattle.receiver_slot.proofs.Steps.{soft-room, written_length}
use Rattle.receiver_slot.proofs.ranged.all.Goals as goal

pub rest-requires : goal.rest-requires
rest-requires c =
    let a = c.args in
    let h = c.requires in
    let g = c.first-g in
    let r = c.rows_of-rows in
    let fit : length (soft_to 9296 a.p a.b a.w a.table.now a.store.now a.f.now a.s.now) ≤ length a.soft.now =
    omega (arith, h.buffer, soft_fits a.p a.b a.w a.table.now a.store.now a.f.now a.s.now h.points.bits h.back.metas) in
    let m = soft-room a.b a.w a.table.now a.store.now a.f.now a.s.now a.p (length a.soft.now) fit 29 (lit≤ tt) in
    let e = end-room a.b a.w a.table.now a.store.now a.f.now a.s.now h.back a.p g.result.back g.ensures.0 r.ensures.2 r.result
    r.ensures.0 g.result.place g.ensures.1 in
    record {
      line_long = r.ensures.3;
      bytes = r.ensures.1;
      ends = subst Ends (sym r.ensures.0) (rows_end g.result.back.eq.taps r.ensures.2);
      whole = h.whole;
      accepted = h.accepted;
      points = h.points;
      cosines = h.cosines;
      held = h.held;
      room = rw (g.ensures.2, written_length (soft_to 29 a.p a.b a.w a.table.now a.store.now a.f.now a.s.now) a.soft.now m) (omega (arith, e, fit));
    }

pub returns : goal.returns
returns c =
    let a = c.args in
    let h = c.requires in
    let g = c.first-g in
    let r = c.rows_of-rows in
    let t = c.rest.ensures in
    let line = rw t.0 at c.ended.ensures in (
      line ∙ end_back a.b a.w a.table.now a.store.now a.f.now a.s.now h.back g.result.back g.ensures.0,
      t.1
          ∙ end-soft a.b a.w a.table.now a.store.now a.f.now a.s.now h.back a.p g.result.back g.ensures.0 r.ensures.2 r.result
          r.ensures.0 g.result.place g.ensures.1 _ a.soft.now g.ensures.2,
    )
