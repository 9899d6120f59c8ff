-- A slot to correct as the numbers of a call hold it.
use Rattle.std.specs.Prelude.{ℕ, List, ℤ}
use Rattle.sync_heads.specs.declared.Head.{Head}
use Rattle.phase.specs.declared.WholeSlot.{WholeSlot}
use Rattle.fields.specs.Fields.{at, signed64}
use Rattle.phase_wire.specs.Given.{head_of}

-- a slot to correct, numbers 1 to 15: its head, position and magnitude of the next, phase step, gain, gain step; what else the next head
-- holds is its own
unfoldable pub beside : Head → ℕ → ℤ → Head
beside h at amp =
    record { at = at; word = h.word; corr = h.corr; theta = h.theta; amp = amp; slot = h.slot; nco_phase = h.nco_phase }

unfoldable pub whole_of : List ℕ → WholeSlot
whole_of p =
    let h = head_of p 1 in
    record { head = h; next = beside h (at p 11) (signed64 p 12); delta = signed64 p 13; gain = signed64 p 14; gamma = signed64 p 15 }
