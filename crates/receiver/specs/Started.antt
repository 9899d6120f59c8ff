-- Starts, and what is kept over one.
use Rattle.std.specs.Prelude.{ℕ, ℤ, pos, replicate, None}
use Rattle.carrier.specs.Carrier.{started_nco}
use Rattle.sync.specs.Sync.{started_sync}
use Rattle.eq_fir.specs.Fir.{identity_taps}
use Rattle.eq.specs.Eq.{started_eq}
use Rattle.frame.specs.Align.{started_back}
use Rattle.receiver_slot.specs.declared.Points.{Points}
use Rattle.receiver.specs.declared.Kept.{Kept}
use Rattle.receiver.specs.declared.Receiver.{Receiver}

-- a receiver whose next symbol stands at a position: "A loss, or a restart call at its named position, restarts sync, carrier, phase, equaliser
-- and alignment." A new receiver, one after a loss and one after a restart call are this very thing
unfoldable pub started : ℕ → Kept → Receiver
started at k =
    record {
      front = record { nco = started_nco k.phase k.freq; sync = started_sync at k.last; phase = None };
      back = started_back (started_eq k.taps k.from);
      points = k.points;
    }

unfoldable pub no_points : Points
no_points = record { bits = 0; points = replicate 64 (pos 0); k = 0 }

-- "A new receiver is given position and step; it has phase 0, identity taps, no frame record and no open sums." Nothing is loaded
unfoldable pub new_kept : ℤ → Kept
new_kept step = record { phase = 0; freq = step; taps = identity_taps; from = None; points = no_points; last = None }

-- "Kept values: carrier phase and step, taps and their frame, points, k, last frame record"; the equaliser's restart leaves no sums open
unfoldable pub kept_of : Receiver → Kept
kept_of r =
    record {
      phase = r.front.nco.phase;
      freq = r.front.nco.freq;
      taps = r.back.eq.taps;
      from = r.back.eq.from;
      points = r.points;
      last = r.front.sync.run.course.last;
    }
