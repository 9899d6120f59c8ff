-- A slot that is known, and a last frame head, by their numbers.
use Rattle.std.specs.Prelude.{ℕ, Option, Some}
use Rattle.sync_heads.specs.declared.SlotNumber.{SlotNumber}
use Rattle.sync_heads.specs.declared.FrameHead.{FrameHead}

abbrev pub slot_in : ℕ → ℕ → Option SlotNumber
slot_in number frame = Some (record { number = number; frame = frame })

abbrev pub last_head : ℕ → ℕ → Option FrameHead
last_head at frame = Some (record { at = at; frame = frame })
