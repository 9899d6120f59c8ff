-- Answers as 24 numbers: the refusal, the answer's numbers, and zeros behind them. A negative number is 2^64 more.
use Rattle.std.specs.Prelude.{ℕ, Bool, List, [], ◌∷◌, ◌++◌, replicate, is_some, unwrap_or}
use Rattle.sync_step.specs.declared.SyncStats.{SyncStats}
use Rattle.sync_step.specs.declared.Event.{Event}
use Rattle.sync_step.specs.declared.Event.TheVariants.{Nothing, Head as HeadOf, Period, Lost}
use Rattle.sync_step.specs.declared.Events.{Events}
use Rattle.receiver_slot.specs.declared.Runs.{Runs}
use Rattle.sums.specs.declared.Sums.{Sums}
use Rattle.fields.specs.Fields.{flag_of, four_told}
use Rattle.phase_wire.specs.Told.{head_told}
use Rattle.eq_calls.specs.Told.{sums_shown}

-- ---- events, each with its kind and all its fields
unfoldable pub period_told : SyncStats → List ℕ
period_told p =
    (0
    ∷ 2
    ∷ p.peak
    ∷ p.peak_pos
    ∷ p.sum
    ∷ flag_of (is_some p.offset)
    ∷ unwrap_or p.offset 0
    ∷ flag_of p.ssync_odd
    ∷ p.stray_markers
    ∷ p.missed_markers
    ∷ [])
    ++ replicate 14 0

unfoldable pub event_told : Event → List ℕ
event_told Nothing = four_told 0 0 0 0
event_told (HeadOf h) = head_told 0 h 0 0 0
event_told (Period p) = period_told p
event_told (Lost at) = four_told 0 3 at 0

unfoldable pub kind_of : Event → ℕ
kind_of Nothing = 0
kind_of (HeadOf h) = 1
kind_of (Period p) = 2
kind_of (Lost at) = 3

-- ---- a play: refusal, symbols taken, the kinds of its events, both runs
unfoldable pub played_told : ℕ → ℕ → Events → Runs → List ℕ
played_told refusal used es runs =
    let t = runs.tail in
    let b = runs.body in
    (refusal
    ∷ used
    ∷ kind_of es.first
    ∷ kind_of es.second
    ∷ kind_of es.third
    ∷ t.at
    ∷ t.j
    ∷ t.count
    ∷ t.bits
    ∷ b.at
    ∷ b.j
    ∷ b.count
    ∷ b.bits
    ∷ [])
    ++ replicate 11 0

-- ---- an end of sums: whether there were open ones, and these
unfoldable pub ended_told : ℕ → Bool → Sums → List ℕ
ended_told refusal ended sums =
    let d = sums_shown sums in
    (refusal ∷ flag_of ended ∷ d.frame ∷ d.count ∷ d.upper ∷ d.right ∷ []) ++ replicate 18 0
