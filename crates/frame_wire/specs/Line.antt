-- What waits in the alignment as the numbers of a call hold it, and as an answer tells it.
use Rattle.std.specs.Prelude.{ℕ, ◌+◌, List, eqb, Option, None, Some}
use Rattle.laws.specs.Choice.{when◌then◌else◌}
use Rattle.frame_line.specs.declared.Meta.{Meta}
use Rattle.frame_line.specs.declared.Metas.{Metas}
use Rattle.fields.specs.Fields.{at, at16, at32}
use Rattle.slot_wire.specs.Slots.{word_of, slot_of}
use Rattle.frame_wire.specs.declared.LastShown.{LastShown}

-- a symbol that waits, six numbers: position, word, slot, slot index
unfoldable pub meta_at : List ℕ → ℕ → Meta
meta_at p k = record { at = at p k; j = at16 p (k + 5); word = word_of (at p (k + 1)); slot = slot_of p (k + 2) }

-- the last position, numbers 2 and 3; how many symbols wait, number 1
unfoldable pub last_of : List ℕ → Option ℕ
last_of p = when eqb (at p 2) 0 then None else Some (at p 3)

unfoldable pub count_put : Metas → List ℕ → Metas
count_put w p =
    record { count = at32 p 1; first = w.first; second = w.second; third = w.third; fourth = w.fourth; fifth = w.fifth }

-- whether there is a last position, and that position
unfoldable pub last_shown : Option ℕ → LastShown
last_shown None = record { known = 0; at = 0 }
last_shown (Some a) = record { known = 1; at = a }
