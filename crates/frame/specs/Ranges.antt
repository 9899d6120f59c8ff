-- The ranges of docs/RANGES.md, "Alignment"; and what a push needs, which they imply where it is not refused.
use Rattle.std.specs.Prelude.{◌≤◌, Bool, true, ◌&&◌, List, ◌≡◌, ltb, ℤ}
use Rattle.phase.specs.declared.Corrected.{Corrected}
use Rattle.sync_corr.specs.Correlate.{ones_of}
use Rattle.eq.specs.declared.Equaliser.{Equaliser}
use Rattle.eq.specs.Eq.{pushed_eq}
use Rattle.eq.specs.Ranges.{eq_in_range, TrainOk}
use Rattle.frame_line.specs.declared.Meta.{Meta}
use Rattle.frame_line.specs.Ranges.{metas_in_range, last_in_range}
use Rattle.frame.specs.declared.Back.{Back}
use Rattle.frame.specs.Align.{joined_to}

unfoldable pub back_in_range : Back → Bool
back_in_range b = eq_in_range b.eq && metas_in_range b.metas && last_in_range b.last

-- what an aligned symbol needs: words of ones, and room for it if it is a sync symbol
pub record MetaOk (e : Equaliser) (m : Meta) (f s : List ℤ) : Type 0 where
  pub first : ones_of f ≡ true
  pub second : ones_of s ≡ true
  pub train : ltb m.j 24 ≡ true → TrainOk e

-- .. a symbol, of a back without a gap before it: where five wait, what the oldest needs
pub record TakeOk (b : Back) (c : Corrected) (f s : List ℤ) : Type 0 where
  pub aligned : 5 ≤ b.metas.count → MetaOk (pushed_eq b.eq c.y.i c.y.q) b.metas.first f s

-- .. any symbol
pub record PushOk (b : Back) (c : Corrected) (f s : List ℤ) : Type 0 where
  pub last : last_in_range b.last ≡ true
  pub taken : TakeOk (joined_to b c.at) c f s
