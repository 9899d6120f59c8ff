-- Answers as 24 numbers: the refusal, the answer's numbers, and zeros behind them. A negative number is 2^64 more.
use Rattle.carrier.specs.declared.Steps.{Steps}
use Rattle.phase.specs.declared.Held.{Held}
use Rattle.std.specs.Prelude.{ℕ, List, [], ◌∷◌, ◌++◌, replicate, Option, None, Some}
use Rattle.sync_heads.specs.declared.Head.{Head}
use Rattle.carrier.specs.declared.Nco.{Nco}
use Rattle.wire.specs.Wire.{bits}
use Rattle.fields.specs.Fields.{four_told}
use Rattle.slot_wire.specs.Slots.{word_number, slot_shown}
use Rattle.phase_wire.specs.declared.told.Shown.{Shown}

-- ---- what may be absent: whether it is there, and its numbers
unfoldable pub trail_shown : Option Steps → Shown
trail_shown None = record { known = 0; first = 0; second = 0; third = 0 }
trail_shown (Some s) = record { known = 1; first = s.last_ss; second = bits s.sum; third = s.steps }

-- ---- a carrier, and two more numbers
unfoldable pub nco_told : ℕ → Nco → ℕ → ℕ → List ℕ
nco_told refusal n x y =
    let s = trail_shown n.trail in
    (refusal ∷ n.phase ∷ bits n.freq ∷ s.known ∷ s.first ∷ s.second ∷ s.third ∷ x ∷ y ∷ []) ++ replicate 15 0

-- ---- a head that there is, and three more numbers
unfoldable pub head_told : ℕ → Head → ℕ → ℕ → ℕ → List ℕ
head_told refusal h x y z =
    let s = slot_shown h.slot in
    (refusal
    ∷ 1
    ∷ h.at
    ∷ word_number h.word
    ∷ h.theta
    ∷ bits h.amp
    ∷ s.known
    ∷ s.number
    ∷ s.frame
    ∷ bits h.corr.re
    ∷ bits h.corr.im
    ∷ h.nco_phase
    ∷ x
    ∷ y
    ∷ z
    ∷ [])
    ++ replicate 9 0

-- ---- a slot's state: nothing, or its head and its count
unfoldable pub phase_told : ℕ → Option Held → List ℕ
phase_told refusal None = four_told refusal 0 0 0
phase_told refusal (Some x) = head_told refusal x.head x.count 0 0
