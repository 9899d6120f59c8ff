-- What is true together of the numbers of an equaliser that came from calls: docs/RANGES.md, under Equaliser, what is told jointly.
use Rattle.std.specs.Prelude.{ℕ, ◌*◌, ◌≤◌, ◌<◌, true, false, ◌≡◌, pos, length}
use Rattle.std.specs.Int.{w16}
use Rattle.std.proofs.Common.{SFits}
use Rattle.sums.specs.Sums.{empty_sums}
use Rattle.eq_fir.specs.Fir.{nth}
use Rattle.eq_train.specs.Sound.{SumsSound}
use Rattle.eq.specs.declared.Equaliser.{Equaliser}

-- the taps may be any
pub record Coherent (e : Equaliser) : Type 0 where
  -- the fill counts up to 11
  pub filled : e.filled ≤ 11
  -- 11 symbols, in numbers of 16 bits
  pub pairs : length e.line ≡ 22
  pub short : (k : ℕ) → k < 22 → SFits w16 (nth e.line k)
  -- zeros where no symbol has come yet
  pub rest : (k : ℕ) → 2 * e.filled ≤ k → k < 22 → nth e.line k ≡ pos 0
  -- open sums are within the bounds of their count; sums that are not open are those of nothing
  pub open_sums : e.opened ≡ true → SumsSound e.sums
  pub no_sums : e.opened ≡ false → e.sums ≡ empty_sums 0
