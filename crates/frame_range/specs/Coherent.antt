-- What is true together of the numbers of an alignment that came from calls: docs/RANGES.md, "Alignment".
use Rattle.std.specs.Prelude.{ℕ, ◌+◌, ◌≤◌, Bool, true, false, List, [], ◌∷◌, ◌≡◌, ltb, ℤ, Option, None, Some}
use Rattle.std.specs.Int.{w16}
use Rattle.std.proofs.Common.{SFits}
use Rattle.phase.specs.declared.Corrected.{Corrected}
use Rattle.eq_range.specs.Coherent.{Coherent}
use Rattle.frame_line.specs.Ranges.{metas_in_range, last_in_range}
use Rattle.frame.specs.declared.Back.{Back}
use Rattle.frame.specs.Answers.{push_answer, back_of}

unfoldable pub is_there : Option ℕ → Bool
is_there None = false
is_there (Some a) = true

-- how many positions there are up to the last
unfoldable pub up_to : Option ℕ → ℕ
up_to None = 0
up_to (Some a) = a + 1

pub record CoherentBack (b : Back) : Type 0 where
  pub eq : Coherent b.eq
  pub metas : metas_in_range b.metas ≡ true
  pub last : last_in_range b.last ≡ true
  -- each that waits is in the line
  pub fill : b.metas.count ≤ b.eq.filled
  -- the last position is there exactly if symbols wait
  pub there : is_there b.last ≡ ltb 0 b.metas.count
  -- those that wait stand one behind another, the newest at the last position
  pub adjoin : b.metas.count ≤ up_to b.last

-- a corrected symbol's value is of 16 bits
pub record Short (c : Corrected) : Type 0 where
  pub i : SFits w16 c.y.i
  pub q : SFits w16 c.y.q

pub data AllShort : List Corrected → Type 0 where
  none : AllShort []
  also : {c : Corrected} {cs : List Corrected} → Short c → AllShort cs → AllShort (c ∷ cs)

-- the back that pushes leave, refused ones among them
unfoldable pub back_after : Back → List Corrected → List ℤ → List ℤ → Back
back_after b [] f s = b
back_after b (c ∷ cs) f s = back_after (back_of (push_answer b c f s)) cs f s
