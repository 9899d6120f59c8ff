-- What a corrected slot comes out as: which symbols, with which taps, told as which runs.
use Rattle.std.specs.Prelude.{◌≤◌, ◌<◌, ℤ, length, List, ◌∷◌, ◌++◌, ◌≡◌, Some}
use Rattle.eq_fir.specs.Fir.{line_after, output_of}
use Rattle.frame.specs.Align.{joined_to, pushed_back}
use Rattle.frame.specs.declared.AlignedSymbol.{AlignedSymbol}
use Rattle.frame.specs.declared.Back.{Back}
use Rattle.frame.specs.Stretch.{after_all}
use Rattle.frame_line.specs.declared.Meta.{Meta}
use Rattle.frame_line.specs.Line.{meta_of}
use Rattle.phase.specs.declared.Corrected.{Corrected}
use Rattle.phase.specs.declared.WholeSlot.{WholeSlot}
use Rattle.phase.specs.Phase.{corrected_of}
use Rattle.receiver_slot.specs.declared.AlignedRun.{AlignedRun}
use Rattle.receiver_slot.specs.declared.Points.{Points}
use Rattle.receiver_slot.specs.declared.Runs.{Runs}
use Rattle.receiver_slot.specs.Slot.{no_run, points_for, taps_for}

-- ---- told as two runs
pub record BeginsWith (p : Points) (m : Meta) (r : AlignedRun) : Type 0 where
  pub at_is : r.at ≡ m.at
  pub j_is : r.j ≡ m.j
  pub bits_are : r.bits ≡ (points_for p m).bits

pub record RunsAre (p : Points) (b : Back) (w : WholeSlot) (table store : List ℤ) (r : Runs) : Type 0 where
  -- those that waited, unless a gap dropped them: the oldest first
  pub tail_count : r.tail.count ≡ (joined_to b w.head.at).metas.count
  pub tail_none : r.tail.count ≡ 0 → r.tail ≡ no_run
  pub tail_begins : 0 < r.tail.count → BeginsWith p b.metas.first r.tail
  -- all of the slot but its last five, from its head's position and slot index 0 on
  pub body_count : r.body.count ≡ 9291
  pub body_begins : BeginsWith p (meta_of (corrected_of w table store 0)) r.body
  pub body_at : r.body.at ≡ w.head.at
  pub body_j : r.body.j ≡ 0

-- ---- with which taps
-- one of the aligned symbols
pub data In (a : AlignedSymbol) : List AlignedSymbol → Type 0 where
  here : {rest : List AlignedSymbol} → In a (a ∷ rest)
  there : {b : AlignedSymbol} {rest : List AlignedSymbol} → In a rest → In a (b ∷ rest)

-- a line of eleven, which holds all that wait
pub record Filled (b : Back) : Type 0 where
  pub eleven : length b.eq.line ≡ 22
  pub few : b.metas.count ≤ 5
  pub held : b.metas.count ≤ b.eq.filled

-- a comes out as symbol c comes in: what `taps_for` a makes of the line with c on it
pub record EqualisedAt (b : Back) (cs : List Corrected) (f s : List ℤ) (a : AlignedSymbol) : Type 0 where
  pub before : List Corrected
  pub c : Corrected
  pub after : List Corrected
  pub in_turn : cs ≡ before ++ c ∷ after
  pub out : (pushed_back (after_all b before f s) c f s).out ≡ Some a
  pub line : List ℤ
  pub line_is : line ≡ line_after (joined_to (after_all b before f s) c.at).eq.line c.y.i c.y.q
  pub eleven : length line ≡ 22
  pub is : a.z ≡ output_of (taps_for b a.meta) line
