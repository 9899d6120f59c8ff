-- The joint invariant of sums, and trainings one after another.
use Rattle.std.specs.Prelude.{ℕ, ◌+◌, ◌*◌, ◌-◌, ◌≤◌, ◌<◌, ◌^◌, List, [], ◌∷◌, ◌≡◌, ℤ, pos, nat_abs, ◌+ℤ◌, length, ◌≤ℤ◌}
use Rattle.laws.specs.Choice.{minus}
use Rattle.sums.specs.Sums.{upper_at}
use Rattle.sums.specs.declared.Sums.{Sums}
use Rattle.eq_train.specs.Train.{nth, line_product, right_product, trained_sums}

-- an entry of n products is within n times the bounds of one
pub record ProductSound (n : ℕ) (re im : ℤ) : Type 0 where
  pub low : minus (n * (2 ^ 31 - 2 ^ 16)) ≤ℤ re
  pub high : re ≤ℤ pos (n * 2 ^ 31)
  pub turn : nat_abs im ≤ n * (2 ^ 31 - 2 ^ 15)

pub record DiagonalSound (n : ℕ) (re im : ℤ) : Type 0 where
  pub low : pos 0 ≤ℤ re
  pub high : re ≤ℤ pos (n * 2 ^ 31)
  pub turn : im ≡ pos 0

pub record SumsSound (s : Sums) : Type 0 where
  pub count : s.count ≤ 4194304
  pub long : length s.r ≡ 132
  pub wide : length s.p ≡ 22
  pub diagonal : (r : ℕ) → r < 11 → DiagonalSound s.count (nth s.r (2 * upper_at r r)) (nth s.r (2 * upper_at r r + 1))
  pub upper : (r c : ℕ) → r < c → c < 11 → ProductSound s.count (nth s.r (2 * upper_at r c)) (nth s.r (2 * upper_at r c + 1))
  pub right : (r : ℕ) → r < 11 → ProductSound s.count (nth s.p (2 * r)) (nth s.p (2 * r + 1))

-- ---- trainings: each with its line and its reference
pub record Training : Type 0 where
  pub line : List ℤ
  pub di : ℤ
  pub dq : ℤ

unfoldable pub trained_all : Sums → List Training → Sums
trained_all s [] = s
trained_all s (t ∷ ts) = trained_all (trained_sums s t.line t.di t.dq) ts

-- the sum of a number of each training
unfoldable pub total : (Training → ℤ) → List Training → ℤ
total f [] = pos 0
total f (t ∷ ts) = f t +ℤ total f ts

-- sums that hold exactly these trainings: their count, and in each entry the sum of its products
pub record Holds (s : Sums) (ts : List Training) : Type 0 where
  pub count : s.count ≡ length ts
  pub upper_re : (r c : ℕ) → r ≤ c → c < 11 → nth s.r (2 * upper_at r c) ≡ total (λ t. (line_product t.line r c).re) ts
  pub upper_im : (r c : ℕ) → r ≤ c → c < 11 → nth s.r (2 * upper_at r c + 1) ≡ total (λ t. (line_product t.line r c).im) ts
  pub right_re : (r : ℕ) → r < 11 → nth s.p (2 * r) ≡ total (λ t. (right_product t.line t.di t.dq r).re) ts
  pub right_im : (r : ℕ) → r < 11 → nth s.p (2 * r + 1) ≡ total (λ t. (right_product t.line t.di t.dq r).im) ts
