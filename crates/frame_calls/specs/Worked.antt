-- A worked example: sums opened on a new alignment, twelve symbols in a row, then one behind a gap.
use Rattle.frame.specs.declared.AlignedSymbol.{AlignedSymbol}
use Rattle.std.specs.Prelude.{ℕ, ◌+◌, List, [], ◌∷◌, ◌++◌, ◌≡◌, ℤ, pos, take, replicate, Option, None, Some, option_map}
use Rattle.laws.specs.Choice.{minus}
use Rattle.angles.specs.declared.Symbol.{Symbol}
use Rattle.sync_heads.specs.declared.Word.TheVariants.{Ssync}
use Rattle.phase.specs.declared.Corrected.{Corrected}
use Rattle.sums.specs.declared.Sums.{Sums}
use Rattle.eq.specs.Answers.{close_answer}
use Rattle.frame.specs.Align.{new_back}
use Rattle.frame.specs.Answers.{push_answer, out_of}
use Rattle.frame_line.specs.Line.{meta_of}
use Rattle.frame_calls.specs.Calls.{Call, pushes, opens, after_calls, sums_ended}
use Rattle.frame_calls.specs.Slots.{push_all}

abbrev pub value : ℕ → Symbol
value j = record { i = pos (700 + j); q = minus j }

-- the symbol at slot index j, of these positions
abbrev pub symbol : ℕ → ℕ → Corrected
symbol at j = record { at = at + j; word = Ssync; slot = None; j = j; r = value j; phi = 0; gain = pos 0; y = value j }

abbrev pub ones : List ℤ
ones = replicate 48 (pos 1)

abbrev pub twelve : List Corrected
twelve =
    symbol 1000 0 ∷ symbol 1000 1 ∷ symbol 1000 2 ∷ symbol 1000 3 ∷ symbol 1000 4 ∷ symbol 1000 5 ∷ symbol 1000 6 ∷ symbol 1000 7 ∷ symbol 1000 8
    ∷ symbol 1000 9 ∷ symbol 1000 10 ∷ symbol 1000 11 ∷ []

-- sums of frame 7, and the first n of them
abbrev pub up_to : ℕ → List Call
up_to n = opens 7 ∷ push_all (take n twelve) ones ones

-- what a symbol gives then
unfoldable pub given_after : ℕ → Corrected → Option AlignedSymbol
given_after n c = out_of (push_answer (after_calls new_back (up_to n)) c ones ones)

-- the frame and the count of the sums that closing then ends, if any are open
pub record Ends : Type 0 where
  pub frame : ℕ
  pub count : ℕ

abbrev pub end_with : Sums → Ends
end_with s = record { frame = s.frame; count = s.count }

unfoldable pub end_of : List Call → Option Ends
end_of cs = option_map end_with (sums_ended (close_answer (after_calls new_back cs).eq))

pub record Worked : Type 0 where
  -- "five symbols late", by identity taps as it went in
  pub fifth : given_after 4 (symbol 1000 4) ≡ None
  pub sixth : given_after 5 (symbol 1000 5) ≡ Some (record { meta = meta_of (symbol 1000 0); z = value 0 })
  pub twelfth : given_after 11 (symbol 1000 11) ≡ Some (record { meta = meta_of (symbol 1000 6); z = value 6 })
  -- "training ignored while the line holds under 11 symbols": the eleventh is the first that trains
  pub ten : end_of (up_to 10) ≡ Some (record { frame = 7; count = 0 })
  pub eleven : end_of (up_to 11) ≡ Some (record { frame = 7; count = 1 })
  pub all : end_of (up_to 12) ≡ Some (record { frame = 7; count = 2 })
  -- a gap drops the sums, and the symbol is the first of a new stretch
  pub gap : end_of (up_to 12 ++ pushes (symbol 2000 12) ones ones ∷ []) ≡ None
  pub anew : given_after 12 (symbol 2000 12) ≡ None
