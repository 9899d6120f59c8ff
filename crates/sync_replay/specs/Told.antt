-- An answer as forty numbers.
use Rattle.std.specs.Prelude.{ℕ, List, [], ◌∷◌, ◌++◌, replicate, slice_set, is_some, unwrap_or}
use Rattle.laws.specs.Ranges.{firsts}
use Rattle.sync_heads.specs.declared.Head.{Head}
use Rattle.sync_step.specs.declared.SyncStats.{SyncStats}
use Rattle.sync_step.specs.declared.Event.{Event}
use Rattle.sync_step.specs.declared.Event.TheVariants.{Nothing, Head as HeadEvent, Period, Lost}
use Rattle.sync_step.specs.declared.Events.{Events}
use Rattle.sync_step.specs.declared.LastCorr.{LastCorr}
use Rattle.wire.specs.Wire.{bits, byte_at}
use Rattle.fields.specs.Fields.{flag_of}
use Rattle.slot_wire.specs.Slots.{word_number, slot_shown}
use Rattle.sync_replay.specs.Mixing.{mixed_to}

unfoldable pub head_row : Head → List ℕ
head_row h =
    let s = slot_shown h.slot in
    1
    ∷ h.at
    ∷ word_number h.word
    ∷ bits h.corr.re
    ∷ bits h.corr.im
    ∷ h.theta
    ∷ bits h.amp
    ∷ s.known
    ∷ s.number
    ∷ s.frame
    ∷ h.nco_phase
    ∷ []

unfoldable pub period_row : SyncStats → List ℕ
period_row p =
    2
    ∷ p.peak
    ∷ p.peak_pos
    ∷ p.sum
    ∷ flag_of (is_some p.offset)
    ∷ unwrap_or p.offset 0
    ∷ flag_of p.ssync_odd
    ∷ p.stray_markers
    ∷ p.missed_markers
    ∷ 0
    ∷ 0
    ∷ []

-- an event: its kind, its fields, and zeros behind them
unfoldable pub row_of : Event → List ℕ
row_of Nothing = 0 ∷ 0 ∷ 0 ∷ 0 ∷ 0 ∷ 0 ∷ 0 ∷ 0 ∷ 0 ∷ 0 ∷ 0 ∷ []
row_of (HeadEvent h) = head_row h
row_of (Period p) = period_row p
row_of (Lost at) = 3 ∷ at ∷ 0 ∷ 0 ∷ 0 ∷ 0 ∷ 0 ∷ 0 ∷ 0 ∷ 0 ∷ 0 ∷ []

-- a place for the digest, no refusal, the correlations with F and S, the accumulator, and the events
unfoldable pub answer_of : LastCorr → Events → List ℕ
answer_of last es =
    (0
    ∷ 0
    ∷ bits last.both.f.re
    ∷ bits last.both.f.im
    ∷ bits last.both.s.re
    ∷ bits last.both.s.im
    ∷ last.level
    ∷ [])
    ++ row_of es.first
    ++ row_of es.second
    ++ row_of es.third

unfoldable pub refused_of : ℕ → List ℕ
refused_of n = slice_set (replicate 40 0) 1 n

-- an answer with the digest that it leaves
unfoldable pub noted_of : ℕ → List ℕ → List ℕ
noted_of digest answer = slice_set answer 0 (mixed_to digest answer 40)

-- an answer as bytes
unfoldable pub packed_of : List ℕ → List ℕ
packed_of l = firsts (byte_at l) 320
