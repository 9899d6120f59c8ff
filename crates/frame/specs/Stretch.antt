-- A stretch of corrected symbols, pushed one after the other: what comes out, and what it leaves.
use Rattle.frame.specs.declared.AlignedSymbol.{AlignedSymbol}
use Rattle.std.specs.Prelude.{ℕ, ◌+◌, Bool, true, not, ◌&&◌, List, [], ◌∷◌, ◌++◌, ℤ, Option, None, Some}
use Rattle.phase.specs.declared.Corrected.{Corrected}
use Rattle.frame_line.specs.declared.Meta.{Meta}
use Rattle.frame_line.specs.Line.{meta_of, gap_at}
use Rattle.frame.specs.declared.Back.{Back}
use Rattle.laws.specs.Choice.{when◌then◌else◌}
use Rattle.frame.specs.Align.{pushed_back}
use Rattle.frame.specs.Answers.{trains_back}

-- the back behind a stretch
unfoldable pub after_all : Back → List Corrected → List ℤ → List ℤ → Back
after_all b [] f s = b
after_all b (c ∷ cs) f s = after_all (pushed_back b c f s).back cs f s

-- the places and words of what came out
unfoldable pub given_by : Option AlignedSymbol → List Meta
given_by None = []
given_by (Some a) = a.meta ∷ []

unfoldable pub given_all : Back → List Corrected → List ℤ → List ℤ → List Meta
given_all b [] f s = []
given_all b (c ∷ cs) f s = given_by (pushed_back b c f s).out ++ given_all (pushed_back b c f s).back cs f s

-- each position follows the one before
unfoldable pub unbroken : Option ℕ → List Corrected → Bool
unbroken last [] = true
unbroken last (c ∷ cs) = not (gap_at last c.at) && unbroken (Some c.at) cs

-- what the symbols come out with
unfoldable pub metas_of : List Corrected → List Meta
metas_of [] = []
metas_of (c ∷ cs) = meta_of c ∷ metas_of cs

-- how many sync symbols were aligned on a full line with sums open
unfoldable pub trained_in : Back → List Corrected → List ℤ → List ℤ → ℕ
trained_in b [] f s = 0
trained_in b (c ∷ cs) f s = (when trains_back b then 1 else 0) + trained_in (pushed_back b c f s).back cs f s
