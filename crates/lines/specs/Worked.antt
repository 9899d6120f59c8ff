-- Lines in small, each beside its ASCII codes.
use Rattle.sync_heads.specs.Numbers.{slot_in}
use Rattle.sync_heads.specs.declared.SlotNumber.{SlotNumber}
use Rattle.std.specs.Prelude.{ℕ, ◌-◌, ◌^◌, true, false, List, [], ◌∷◌, pos, Option, None, Some}
use Rattle.laws.specs.Choice.{minus}
use Rattle.sync_heads.specs.declared.Head.{Head}
use Rattle.sync_heads.specs.declared.Word.TheVariants.{Ssync, NotFsync}
use Rattle.sync_heads.specs.declared.Word.{Word}
use Rattle.sync_step.specs.declared.SyncStats.{SyncStats}
use Rattle.sync_step.specs.declared.Event.TheVariants.{Nothing, Head as HeadEvent, Period, Lost}
use Rattle.lines.specs.Decimal.{decimal_of}
use Rattle.lines.specs.Lines.{event_line, soft_line, end_line, refused_line}

pub record Example : Type 0 where
  pub given : List ℕ
  pub said : List ℕ

infix 4 ◌reads◌
abbrev pub ◌reads◌ : List ℕ → List ℕ → Example
l reads t = record { given = l; said = t }

unfoldable pub head_at : ℕ → Word → Option SlotNumber → Head
head_at at word slot = record { at = at; word = word; corr = record { re = pos 0; im = pos 0 }; theta = 0; amp = pos 0; slot = slot; nco_phase = 0 }

unfoldable pub stats : ℕ → ℕ → ℕ → SyncStats
stats peak place sum =
    record {
      peak = peak;
      peak_pos = place;
      sum = sum;
      offset = Some 0;
      ssync_odd = false;
      stray_markers = 0;
      missed_markers = 0;
    }

unfoldable pub silent : SyncStats
silent =
    record {
      peak = 0;
      peak_pos = 0;
      sum = 0;
      offset = None;
      ssync_odd = false;
      stray_markers = 0;
      missed_markers = 0;
    }

unfoldable pub worked : List Example
worked =
    -- 0; 10; 2^64 - 1 is 18446744073709551615
    (decimal_of 0 reads 48 ∷ [])
    ∷ (decimal_of 10 reads 49 ∷ 48 ∷ [])
    ∷ (decimal_of (2 ^ 64 - 1) reads 49 ∷ 56 ∷ 52 ∷ 52 ∷ 54 ∷ 55 ∷ 52 ∷ 52 ∷ 48 ∷ 55 ∷ 51 ∷ 55 ∷ 48 ∷ 57 ∷ 53 ∷ 53 ∷ 49 ∷ 54 ∷ 49 ∷ 53 ∷ [])
    -- document 01's example: "period 0 0 0 0", "end 9319"
    ∷ (event_line (Period silent) reads 112 ∷ 101 ∷ 114 ∷ 105 ∷ 111 ∷ 100 ∷ 32 ∷ 48 ∷ 32 ∷ 48 ∷ 32 ∷ 48 ∷ 32 ∷ 48 ∷ 10 ∷ [])
    ∷ (end_line 9319 reads 101 ∷ 110 ∷ 100 ∷ 32 ∷ 57 ∷ 51 ∷ 49 ∷ 57 ∷ 10 ∷ [])
    -- "period 5 7 12 1"
    ∷ (event_line (Period (stats 5 7 12)) reads 112 ∷ 101 ∷ 114 ∷ 105 ∷ 111 ∷ 100 ∷ 32 ∷ 53 ∷ 32 ∷ 55 ∷ 32 ∷ 49 ∷ 50 ∷ 32 ∷ 49 ∷ 10 ∷ [])
    -- "head 23 S - -", "head 40 N 14 3"
    ∷ (event_line (HeadEvent (head_at 23 Ssync None)) reads 104 ∷ 101 ∷ 97 ∷ 100 ∷ 32 ∷ 50 ∷ 51 ∷ 32 ∷ 83 ∷ 32 ∷ 45 ∷ 32 ∷ 45 ∷ 10 ∷ [])
    ∷ (event_line (HeadEvent (head_at 40 NotFsync (slot_in 14 3))) reads 104 ∷ 101 ∷ 97 ∷ 100 ∷ 32 ∷ 52 ∷ 48 ∷ 32 ∷ 78 ∷ 32 ∷ 49 ∷ 52 ∷ 32 ∷ 51 ∷ 10 ∷ [])
    -- "lost 77", and no line for no event
    ∷ (event_line (Lost 77) reads 108 ∷ 111 ∷ 115 ∷ 116 ∷ 32 ∷ 55 ∷ 55 ∷ 10 ∷ [])
    ∷ (event_line Nothing reads [])
    -- "soft 156 56 -127 0"
    ∷ (soft_line 156 56 (minus 127 ∷ pos 0 ∷ []) reads 115 ∷ 111 ∷ 102 ∷ 116 ∷ 32 ∷ 49 ∷ 53 ∷ 54 ∷ 32 ∷ 53 ∷ 54 ∷ 32 ∷ 45 ∷ 49 ∷ 50 ∷ 55 ∷ 32 ∷ 48 ∷ 10 ∷ [])
    -- "refused 12"
    ∷ (refused_line 12 reads 114 ∷ 101 ∷ 102 ∷ 117 ∷ 115 ∷ 101 ∷ 100 ∷ 32 ∷ 49 ∷ 50 ∷ 10 ∷ [])
    ∷ []
