-- What is shown by computing.
use Rattle.std.specs.Prelude.{◌≡◌}
use Rattle.receiver_runs.specs.Play.{play}
use Rattle.receiver_runs.specs.Traces.{slots_kit, slots_begun, slots_calls, slots_told}
use Rattle.receiver_runs.specs.Traces.{periods_kit, periods_begun, periods_calls, periods_told}
use Rattle.receiver_runs.specs.Traces.{markers_kit, markers_begun, markers_calls, markers_told}
use Rattle.receiver_runs.specs.Refused.{tried, fresh, stores, tries, tries_said, counts, counts_full}

-- the definitions tell what the Rust's stages tell ..
pub record AsTheRust : Type 0 where
  -- at a slot of 64: lock, heads of all words, soft bits, training, other taps
  pub slots : play slots_kit slots_begun slots_calls ≡ slots_told
  -- at a slot of 24: a loss by eight other periods, a lock again with a silent head zero, a restart call
  pub periods : play periods_kit periods_begun periods_calls ≡ periods_told
  -- at a slot of 3: a loss by two missed markers, a lock again, a frame numbered by the record
  pub markers : play markers_kit markers_begun markers_calls ≡ markers_told

-- .. and refuse as document 01 says: 1 to 7 at 9,296, accepted calls and sums between them; 8 at a slot of 64
pub record Refusals : Type 0 where
  pub tries : tried fresh (stores 9296 18592 44880) tries ≡ tries_said
  pub counts : counts ≡ counts_full
