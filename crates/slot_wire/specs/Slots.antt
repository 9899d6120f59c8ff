-- Words, slots and correlations as numbers.
use Rattle.sync_heads.specs.Numbers.{slot_in}
use Rattle.sync_heads.specs.declared.SlotNumber.{SlotNumber}
use Rattle.std.specs.Prelude.{ℕ, ◌+◌, ◌%◌, ◌^◌, List, eqb, Option, None, Some}
use Rattle.laws.specs.Choice.{when◌then◌else◌}
use Rattle.sync_corr.specs.declared.Corr.{Corr}
use Rattle.sync_heads.specs.declared.Word.{Word}
use Rattle.sync_heads.specs.declared.Word.TheVariants.{Ssync, Fsync, NotFsync}
use Rattle.fields.specs.Fields.{at}
use Rattle.wire.specs.Wire.{signed}
use Rattle.slot_wire.specs.declared.SlotShown.{SlotShown}

unfoldable pub word_of : ℕ → Word
word_of n = when eqb n 0 then Ssync else when eqb n 1 then Fsync else NotFsync

unfoldable pub word_number : Word → ℕ
word_number Ssync = 0
word_number Fsync = 1
word_number NotFsync = 2

-- three numbers: whether the slot is known, its number, its frame; the three from k on
unfoldable pub slot_by : ℕ → ℕ → ℕ → Option SlotNumber
slot_by known number frame = when eqb known 0 then None else slot_in (number % 2 ^ 8) (frame % 2 ^ 32)

unfoldable pub slot_of : List ℕ → ℕ → Option SlotNumber
slot_of p k = slot_by (at p k) (at p (k + 1)) (at p (k + 2))

unfoldable pub slot_shown : Option SlotNumber → SlotShown
slot_shown None = record { known = 0; number = 0; frame = 0 }
slot_shown (Some s) = record { known = 1; number = s.number; frame = s.frame }

-- real and imaginary part; those of the two numbers from k on
unfoldable pub corr_by : ℕ → ℕ → Corr
corr_by re im = record { re = signed (2 ^ 31) (re % 2 ^ 32); im = signed (2 ^ 31) (im % 2 ^ 32) }

unfoldable pub corr_of : List ℕ → ℕ → Corr
corr_of p k = corr_by (at p k) (at p (k + 1))
