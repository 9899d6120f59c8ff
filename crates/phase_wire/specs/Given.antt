-- Carrier, heads and slot phase as the numbers of a call hold them.
use Rattle.carrier.specs.declared.Steps.{Steps}
use Rattle.phase.specs.declared.Held.{Held}
use Rattle.std.specs.Prelude.{ℕ, ◌+◌, List, eqb, Option, None, Some}
use Rattle.laws.specs.Choice.{when◌then◌else◌}
use Rattle.sync_heads.specs.declared.Head.{Head}
use Rattle.carrier.specs.declared.Nco.{Nco}
use Rattle.fields.specs.Fields.{at, at32, signed32, signed64}
use Rattle.slot_wire.specs.Slots.{word_of, slot_of, corr_of}

-- ---- a carrier, numbers 1 to 6: phase, step, whether there is a trail, its last angle, sum and steps
unfoldable pub trail_of : List ℕ → Option Steps
trail_of p = when eqb (at p 3) 0 then None else Some (record { last_ss = at32 p 4; sum = signed64 p 5; steps = at32 p 6 })

unfoldable pub nco_of : List ℕ → Nco
nco_of p = record { phase = at32 p 1; freq = signed32 p 2; trail = trail_of p }

-- ---- a head, ten numbers from k on: position, word, angle, magnitude, whether its slot is known, slot and frame number, correlation, phase
unfoldable pub head_of : List ℕ → ℕ → Head
head_of p k =
    record {
      at = at p k;
      word = word_of (at p (k + 1));
      corr = corr_of p (k + 7);
      theta = at32 p (k + 2);
      amp = signed64 p (k + 3);
      slot = slot_of p (k + 4);
      nco_phase = at32 p (k + 9);
    }

-- ---- a slot's state, numbers 1 to 12: whether a slot is held, its head, how many symbols came
unfoldable pub phase_of : List ℕ → Option Held
phase_of p = when eqb (at p 1) 0 then None else Some (record { head = head_of p 2; count = at32 p 12 })
