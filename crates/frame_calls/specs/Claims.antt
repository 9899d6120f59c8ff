-- What is claimed of every list of calls from a new alignment on; proofs/Theorems.antt proves it.
use Rattle.frame.specs.declared.AlignedSymbol.{AlignedSymbol}
use Rattle.std.specs.Prelude.{◌-◌, ◌≤◌, ◌<◌, true, List, [], ◌∷◌, ◌≡◌, ℤ, length, get_or, Option, None, Some, is_some, Ok}
use Rattle.phase.specs.declared.Corrected.{Corrected}
use Rattle.frame_line.specs.Line.{meta_of}
use Rattle.sums.specs.declared.Sums.{Sums}
use Rattle.eq.specs.Answers.{close_answer}
use Rattle.frame.specs.declared.Back.{Back}
use Rattle.frame.specs.Align.{new_back}
use Rattle.frame.specs.Stretch.{given_by}
use Rattle.frame.specs.Answers.{push_answer, out_of}
use Rattle.frame.specs.Ranges.{back_in_range}
use Rattle.frame_range.specs.Coherent.{CoherentBack}
use Rattle.frame_calls.specs.Calls.{Call, CallsFit, refusal_of, after_calls, sums_ended}
use Rattle.frame_calls.specs.Received.{Received, is_open, frame_of, trained_since, joining, push_refused, refused_by, received}

-- what a symbol brings out that joins h: nothing as one of the first five, then the one five before it, with its own place, word and numbers
pub record Brings (h : Received) (c : Corrected) (out : Option AlignedSymbol) : Type 0 where
  pub few : length h.stretch < 5 → out ≡ None
  pub enough : 5 ≤ length h.stretch → given_by out ≡ meta_of (get_or h.stretch (length h.stretch - 5) c) ∷ []

-- an alignment b that has received h
pub record Told (b : Back) (h : Received) : Type 0 where
  -- the joint invariant, and so the ranges: no call finds a number of the state out of range (6)
  pub coherent : CoherentBack b
  pub in_range : back_in_range b ≡ true
  -- each next call is refused for the reason that what was received, and the call, give
  pub refusal : (c : Call) → refusal_of b c ≡ refused_by h c
  -- a symbol that is taken
  pub given : (c : Corrected) (f s : List ℤ) → push_refused h c f s ≡ Ok tt → Brings (joining h c) c (out_of (push_answer b c f s))
  -- closing ends sums exactly if they are open; theirs is the frame of the opening, and the count of sync symbols aligned on a full line since
  pub ended : is_some (sums_ended (close_answer b.eq)) ≡ is_open h.sums
  pub frame : (s : Sums) → sums_ended (close_answer b.eq) ≡ Some s → s.frame ≡ frame_of h.sums
  pub count : (s : Sums) → sums_ended (close_answer b.eq) ≡ Some s → s.count ≡ trained_since h

abbrev pub CallsTold : Type 0
CallsTold = (cs : List Call) → CallsFit cs → Told (after_calls new_back cs) (received cs)
