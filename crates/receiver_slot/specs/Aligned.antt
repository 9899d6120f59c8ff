-- Which symbols come out of a corrected slot, and as which runs they are told.
use Rattle.std.specs.Prelude.{ℕ, ℤ, length, List, [], ◌∷◌, ◌++◌, ◌≡◌}
use Rattle.frame.specs.Align.{joined_to}
use Rattle.frame.specs.declared.AlignedSymbol.{AlignedSymbol}
use Rattle.frame.specs.declared.Back.{Back}
use Rattle.frame_line.specs.declared.Meta.{Meta}
use Rattle.frame_line.specs.declared.Metas.{Metas}
use Rattle.frame_line.specs.Line.{meta_of}
use Rattle.frame_line.specs.Waiting.{waiting_of}
use Rattle.laws.specs.Ranges.{firsts}
use Rattle.phase.specs.declared.WholeSlot.{WholeSlot}
use Rattle.phase.specs.Phase.{corrected_of}
use Rattle.receiver_slot.specs.declared.AlignedRun.{AlignedRun}
use Rattle.receiver_slot.specs.declared.Points.{Points}
use Rattle.receiver_slot.specs.Slot.{points_for, no_run}

-- ---- which symbols
unfoldable pub metas_in : List AlignedSymbol → List Meta
metas_in [] = []
metas_in (a ∷ rest) = a.meta ∷ metas_in rest

-- those that waited, unless a gap drops them, then the slot's first n
unfoldable pub comes_out : ℕ → Back → WholeSlot → List ℤ → List ℤ → List Meta
comes_out n b w table store = waiting_of (joined_to b w.head.at).metas ++ firsts (λ (j : ℕ). meta_of (corrected_of w table store j)) n

-- those that wait between slots: none, or the last five of a slot
pub data Between (w : Metas) : Type 0 where
  none : w.count ≡ 0 → Between w
  five : w.count ≡ 5 → w.first.j ≡ 9291 → w.second.j ≡ 9292 → w.third.j ≡ 9293 → w.fourth.j ≡ 9294 → w.fifth.j ≡ 9295 → Between w

-- ---- a run is told by places and words alone
unfoldable pub run_by : Points → List Meta → AlignedRun
run_by p [] = no_run
run_by p (m ∷ ms) = record { at = m.at; j = m.j; count = length (m ∷ ms); bits = (points_for p m).bits }
