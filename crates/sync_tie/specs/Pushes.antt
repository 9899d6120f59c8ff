-- A list of pushes, and the sizes of its positions.
use Rattle.std.specs.Prelude.{ℕ, ◌+◌, List, [], ◌∷◌, ℤ, pos, get_or, take, drop}
use Rattle.sync_corr.specs.declared.Both.{Both}
use Rattle.sync_corr.specs.Correlate.{both_of, size_of}

-- a pushed symbol, and the words that were lent with it
pub record Push : Type 0 where
  pub i : ℤ
  pub q : ℤ
  pub f : List ℤ
  pub w : List ℤ

abbrev pub no_push : Push
no_push = record { i = pos 0; q = pos 0; f = []; w = [] }

-- the numbers of a list of symbols, I before Q
unfoldable pub flat : List Push → List ℤ
flat [] = []
flat (x ∷ xs) = x.i ∷ x.q ∷ flat xs

-- "Position n correlates symbols n to n+23 with both words": those of the call that completes the window
unfoldable pub both_at : List Push → ℕ → Both
both_at h c = let x = get_or h (c + 23) no_push in both_of (flat (take 24 (drop c h))) x.f x.w

-- "its size is the larger `mag_approx`"; position c has one if its window is complete
unfoldable pub size_at : List Push → ℕ → ℕ
size_at h c = size_of (both_at h c)
