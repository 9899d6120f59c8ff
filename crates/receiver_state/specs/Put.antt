-- A part replaced by the numbers of a call.
use Rattle.std.specs.Prelude.{ℕ, ◌+◌, ◌*◌, List, eqb, ℤ}
use Rattle.laws.specs.Choice.{when◌then◌else◌}
use Rattle.laws.specs.Ranges.{firsts}
use Rattle.wire.specs.Wire.{packed_of}
use Rattle.fields.specs.Fields.{at, at8, at32, pair_at}
use Rattle.phase_wire.specs.Given.{nco_of, phase_of}
use Rattle.sync_wire.specs.Given.{run_put, heads_put, window_of}
use Rattle.frame_wire.specs.Line.{meta_at, last_of, count_put}
use Rattle.receiver.specs.declared.Receiver.{Receiver}
use Rattle.receiver_state.specs.With.{with_nco, with_run, with_window, with_phase, with_line, with_points, meta_put}

unfoldable pub carrier_put : Receiver → List ℕ → Receiver
carrier_put r p = with_nco r (nco_of p)

unfoldable pub phase_put : Receiver → List ℕ → Receiver
phase_put r p = with_phase r (phase_of p)

unfoldable pub run_put_in : Receiver → List ℕ → Receiver
run_put_in r p = with_run r (run_put r.front.sync.run p)

unfoldable pub heads_put_in : Receiver → List ℕ → Receiver
heads_put_in r p = with_run r (heads_put r.front.sync.run p)

unfoldable pub window_put : Receiver → List ℕ → Receiver
window_put r p = with_window r (window_of (packed_of p))

-- how many wait and the last position, numbers 1 to 3; number 4 tells which of them the numbers from 5 on are
unfoldable pub waiting_put : Receiver → List ℕ → Receiver
waiting_put r p = with_line r (meta_put (count_put r.back.metas p) (at p 4) (meta_at p 5)) (last_of p)

-- bits, scale, and the 64 numbers of 16 bits from byte 32 on
unfoldable pub point_at : List ℕ → ℕ → ℤ
point_at bytes k = pair_at bytes (32 + 2 * k)

unfoldable pub points_of : List ℕ → List ℤ
points_of bytes = firsts (point_at bytes) 64

unfoldable pub points_put : Receiver → List ℕ → Receiver
points_put r p = with_points r (record { bits = at8 p 1; points = points_of (packed_of p); k = at32 p 2 })

-- ---- by the call's number; all others replace nothing
unfoldable pub part_put : ℕ → List ℕ → Receiver → Receiver
part_put n p r =
    when eqb n 1
    then carrier_put r p
    else when eqb n 3
    then phase_put r p
    else when eqb n 5
    then run_put_in r p
    else when eqb n 7
    then heads_put_in r p
    else when eqb n 9
    then window_put r p
    else when eqb n 11
    then waiting_put r p
    else when eqb n 13
    then points_put r p
    else r
