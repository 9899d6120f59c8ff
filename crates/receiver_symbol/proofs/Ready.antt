-- A receiver whose numbers are in range is ready for a symbol, and for the slot that it may complete. Assumes nothing.
use Rattle.std.specs.Prelude.{Some, Result, Ok, Err, ⊤}
use Prim.Native.Nat.{ℕ, ◌+◌, ◌^◌}
use mathlib.Core.Bool.{true, ◌&&◌}
use mathlib.Core.List.{List}
use mathlib.Core.Path.{◌≡◌, refl}
use borrow.Author.Tests.{eq-eqb, eqb-true, le-leb, leb-false, leb-true, lt-leb, ltb-false}
use lib.Dec.{eqb, leb, ltb}
use lib.IntN.{ℤ}
use lib.ListN.{length}
use Rattle.laws.specs.Choice.{when◌then◌else◌}
use Rattle.laws.proofs.Taken.{err_not_ok, ok_no, ok_yes}
use Rattle.laws.proofs.Tests.{and_both}
use Rattle.refusal.specs.declared.Refusal.{Refusal}
use Rattle.sync_corr.specs.Correlate.{ones_of}
use Rattle.sync_step.proofs.Laws.{run_ready}
use Rattle.carrier.proofs.Laws.{nco_ok}
use Rattle.phase.specs.declared.WholeSlot.{WholeSlot}
use Rattle.phase.specs.Ranges.{WholeOk}
use Rattle.receiver_slot.specs.Ranges.{BackOk, SlotOk}
use Rattle.receiver_slot.specs.Slot.{corrected_all, due_symbols, overfull}
use Rattle.receiver_slot.proofs.Full.{full_is}
use Rattle.receiver.specs.declared.Receiver.{Receiver}
use Rattle.receiver_symbol.specs.Parts.{AheadOk, Soon, due_refusal, lent_refusal, next_refusal, slot_refusal, soon_refusal, state_refusal, tested}
use Rattle.receiver.specs.Answers.{range_refusal}
use Rattle.receiver.specs.Symbol.{next_of, slot_past}
use Rattle.receiver_bounds.specs.Bounds.{nco_within, all_within, run_within, phase_within, back_within, points_within}
use Rattle.receiver_bounds.proofs.Ready.{nco_wide, run-wide, phase_ready, back_ready, points_ready}
use Rattle.receiver.specs.Ranges.{front_within, receiver_in_range}

-- ---- the receiver
parts : (r : Receiver) → receiver_in_range r ≡ true → (front_within r.front ≡ true) × (back_within r.back ≡ true) × (points_within r.points ≡ true)
unfolding receiver_in_range
parts r e =
    let a = and_both (front_within r.front && back_within r.back) (points_within r.points) e in
    let b = and_both (front_within r.front) (back_within r.back) a.0 in
    (b.0, b.1, a.1)

pub back_in : (r : Receiver) → receiver_in_range r ≡ true → BackOk r.back
back_in r e = back_ready r.back (parts r e).1

pub ahead_ok : (r : Receiver) (acc store soft : ℕ) (f s table : List ℤ) → Soon r acc store soft f s (length table) → AheadOk r f s table
unfolding front_within next_of
ahead_ok r acc store soft f s table k =
    let a = r.front in
    let w = all_within 4096 a.sync.win in
    let p = and_both (nco_within a.nco && w && run_within a.sync.run) (phase_within a.phase) (parts r k.within).0 in
    let q = and_both (nco_within a.nco && w) (run_within a.sync.run) p.0 in
    let n = and_both (nco_within a.nco) w q.0 in
    record {
      run = run_ready a.sync.run (run-wide a.sync.run q.1) (lt-leb (2 ^ 62) (a.sync.run.base + a.sync.run.t) k.next);
      nco = nco_ok a.nco (nco_wide a.nco n.0);
      phase = phase_ready a.phase p.1;
      first = k.first;
      second = k.second;
      long = k.cosines;
    }

-- ---- no refusal: what is then known
-- two tests let a call through where each does
pub tested_ok : (a b : Result ⊤ Refusal) → tested a b ≡ Ok tt → (a ≡ Ok tt) × (b ≡ Ok tt)
tested_ok (Ok x) b e = (refl, e)
tested_ok (Err why) b e = absurd (err_not_ok e)

pub soon_known : (r : Receiver) (acc store soft : ℕ) (f s : List ℤ) (table : ℕ) → soon_refusal r acc store soft f s table ≡ Ok tt → Soon r acc store soft f s table
unfolding soon_refusal lent_refusal state_refusal range_refusal next_refusal
soon_known r acc store soft f s table h =
    let p = tested_ok (lent_refusal acc store soft f s table) (state_refusal r) h in
    let q = tested_ok (range_refusal r) (next_refusal r) p.1 in
    let a = ok_yes (eqb acc 9296 && eqb store 18592 && leb 44880 soft) _ _ p.0 in
    let b = ok_yes (ones_of f && ones_of s) _ _ a.1 in
    let c = ok_yes (eqb table 1024) _ _ b.1 in
    let d = ok_yes (receiver_in_range r) _ _ q.0 in
    let e = ok_no (leb (2 ^ 62) (next_of r)) _ _ q.1 in
    let x = and_both (eqb acc 9296 && eqb store 18592) (leb 44880 soft) a.0 in
    let y = and_both (eqb acc 9296) (eqb store 18592) x.0 in
    let o = and_both (ones_of f) (ones_of s) b.0 in
    record {
      within = d.0;
      next = leb-false (2 ^ 62) (next_of r) e.0;
      long = eqb-true acc 9296 y.0;
      held = eqb-true store 18592 y.1;
      buffer = leb-true 44880 soft x.1;
      first = o.0;
      second = o.1;
      cosines = eqb-true table 1024 c.0;
    }

pub known_soon : (r : Receiver) (acc store soft : ℕ) (f s : List ℤ) (table : ℕ) → Soon r acc store soft f s table → soon_refusal r acc store soft f s table ≡ Ok tt
unfolding soon_refusal lent_refusal state_refusal range_refusal next_refusal when◌then◌else◌
known_soon r acc store soft f s table k =
    rw (eq-eqb acc 9296 k.long, eq-eqb store 18592 k.held, le-leb 44880 soft k.buffer, k.first, k.second, eq-eqb table 1024 k.cosines, k.within, lt-leb (2 ^ 62) (next_of r) k.next)

-- ---- a slot that is due
pub due_is : (r : Receiver) (w : WholeSlot) (f s table store : List ℤ) → BackOk r.back → slot_refusal r.back w.head.at ≡ due_refusal r (Some w) f s table store
unfolding slot_refusal due_refusal slot_past due_symbols
due_is r w f s table store h = rw (full_is w table store f s r.back h)

pub slot_ok : (r : Receiver) (acc : ℕ) (w : WholeSlot) (f s table store soft : List ℤ) → Soon r acc (length store) (length soft) f s (length table) → WholeOk w →
    due_refusal r (Some w) f s table store ≡ Ok tt → SlotOk r.back w r.points table store f s soft
unfolding due_refusal slot_past due_symbols
slot_ok r acc w f s table store soft k o h =
    let a = ok_no (ltb (2 ^ 62) (w.head.at + 9296)) _ _ h in
    let b = ok_no (overfull r.back (corrected_all 9296 w table store) f s) _ _ a.1 in
    record {
      back = back_in r k.within;
      whole = o;
      accepted = ltb-false (2 ^ 62) (w.head.at + 9296) a.0;
      points = points_ready r.points (parts r k.within).2;
      cosines = k.cosines;
      held = k.held;
      first = k.first;
      second = k.second;
      buffer = k.buffer;
      room = b.0;
    }
