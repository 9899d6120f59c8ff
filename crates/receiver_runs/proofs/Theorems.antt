-- All short runs. Assumes nothing.
use Rattle.receiver_runs.specs.Claims.{AsTheRust, Refusals}
use Rattle.receiver_runs.proofs.Slots.{slots_right}
use Rattle.receiver_runs.proofs.Periods.{periods_right}
use Rattle.receiver_runs.proofs.Markers.{markers_right}
use Rattle.receiver_runs.proofs.Refused.{tries_right, counts_right}

pub as_the_rust : AsTheRust
as_the_rust = record { slots = slots_right; periods = periods_right; markers = markers_right }

pub refusals : Refusals
refusals = record { tries = tries_right; counts = counts_right }
