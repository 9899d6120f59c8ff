-- The ranges of docs/RANGES.md, "Receiver": those of the parts, together.
use Rattle.std.specs.Prelude.{Bool, ◌&&◌}
use Rattle.receiver_bounds.specs.Bounds.{nco_within, all_within, run_within, phase_within, back_within, points_within}
use Rattle.receiver.specs.declared.Front.{Front}
use Rattle.receiver.specs.declared.Receiver.{Receiver}

unfoldable pub front_within : Front → Bool
front_within a = nco_within a.nco && all_within 4096 a.sync.win && run_within a.sync.run && phase_within a.phase

unfoldable pub receiver_in_range : Receiver → Bool
receiver_in_range r = front_within r.front && back_within r.back && points_within r.points
