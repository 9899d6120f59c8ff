-- How the code correlates: with the two words as four rows. That this is the correlation is a law (proofs/Laws.antt, `dots_both`).
use Rattle.std.specs.Prelude.{ℕ, zero, suc, ◌+◌, ◌-◌, ◌%◌, ◌≤◌, ◌<◌, List, eqb, ltb, ℤ, pos, nat_abs, neg_ℤ, ◌+ℤ◌, ◌*ℤ◌, set, replicate}
use Rattle.laws.specs.Choice.{when◌then◌else◌}
use Rattle.sync_corr.specs.Correlate.{at}
use Rattle.sync_corr.specs.declared.Both.{Both}
use Rattle.sync_corr.specs.declared.Corr.{Corr}

-- the row of an imaginary part: -w_q at 2k, w_i at 2k + 1
unfoldable pub turned_at : List ℤ → ℕ → ℤ
turned_at w j = when eqb (j % 2) 0 then neg_ℤ (at w (j + 1)) else at w (j - 1)

-- rows of 48: F real, F imaginary, S real, S imaginary
unfoldable pub row_at : List ℤ → List ℤ → ℕ → ℤ
row_at f s j =
    when ltb j 48 then at f j else when ltb j 96 then turned_at f (j - 48) else when ltb j 144 then at s (j - 96) else turned_at s (j - 144)

-- the first n entries, the rest 0
unfoldable pub rows_to : List ℤ → List ℤ → ℕ → List ℤ
rows_to f s zero = replicate 192 (pos 0)
rows_to f s (suc n) = set (rows_to f s n) n (row_at f s n)

unfoldable pub rows_of : List ℤ → List ℤ → List ℤ
rows_of f s = rows_to f s 192

-- each entry is of size at most 1
pub record SmallRows (rows : List ℤ) : Type 0 where
  pub small : (j : ℕ) → j < 192 → nat_abs (at rows j) ≤ 1

-- the first n products of a window with the row that begins at b
unfoldable pub dot_to : List ℤ → List ℤ → ℕ → ℕ → ℤ
dot_to win rows b zero = pos 0
dot_to win rows b (suc n) = dot_to win rows b n +ℤ (at win n *ℤ at rows (b + n))

unfoldable pub dots_of : List ℤ → List ℤ → Both
dots_of win rows =
    record {
      f = record { re = dot_to win rows 0 48; im = dot_to win rows 48 48 };
      s = record { re = dot_to win rows 96 48; im = dot_to win rows 144 48 };
    }

-- parts of size at most m
pub record Bounded (m : ℕ) (c : Corr) : Type 0 where
  pub re : nat_abs c.re ≤ m
  pub im : nat_abs c.im ≤ m
