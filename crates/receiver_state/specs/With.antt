-- A receiver with a part replaced.
use Rattle.phase.specs.declared.Held.{Held}
use Rattle.std.specs.Prelude.{ℕ, List, ℤ, eqb, leb, Option}
use Rattle.laws.specs.Choice.{when◌then◌else◌}
use Rattle.carrier.specs.declared.Nco.{Nco}
use Rattle.sync.specs.declared.SlotSync.{SlotSync}
use Rattle.sync_step.specs.declared.Run.{Run}
use Rattle.frame_line.specs.declared.Meta.{Meta}
use Rattle.frame_line.specs.declared.Metas.{Metas}
use Rattle.receiver_slot.specs.declared.Points.{Points}
use Rattle.receiver.specs.declared.Front.{Front}
use Rattle.receiver.specs.declared.Receiver.{Receiver}

abbrev pub with_front : Receiver → Front → Receiver
with_front r a = record { front = a; back = r.back; points = r.points }

abbrev pub with_nco : Receiver → Nco → Receiver
with_nco r n = with_front r (record { nco = n; sync = r.front.sync; phase = r.front.phase })

abbrev pub with_sync : Receiver → SlotSync → Receiver
with_sync r y = with_front r (record { nco = r.front.nco; sync = y; phase = r.front.phase })

abbrev pub with_run : Receiver → Run → Receiver
with_run r n = with_sync r (record { win = r.front.sync.win; run = n })

abbrev pub with_window : Receiver → List ℤ → Receiver
with_window r win = with_sync r (record { win = win; run = r.front.sync.run })

abbrev pub with_phase : Receiver → Option Held → Receiver
with_phase r s = with_front r (record { nco = r.front.nco; sync = r.front.sync; phase = s })

abbrev pub with_line : Receiver → Metas → Option ℕ → Receiver
with_line r w last = record { front = r.front; back = record { eq = r.back.eq; metas = w; last = last }; points = r.points }

abbrev pub with_points : Receiver → Points → Receiver
with_points r p = record { front = r.front; back = r.back; points = p }

-- another one of the five that wait: 0 the oldest, .. 3 the fourth, otherwise the fifth
unfoldable pub meta_put : Metas → ℕ → Meta → Metas
meta_put w k m =
    record {
      count = w.count;
      first = when eqb k 0 then m else w.first;
      second = when eqb k 1 then m else w.second;
      third = when eqb k 2 then m else w.third;
      fourth = when eqb k 3 then m else w.fourth;
      fifth = when leb 4 k then m else w.fifth;
    }
