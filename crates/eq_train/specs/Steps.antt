-- What the private functions promise: numbers added to a list from a place on.
use Rattle.std.specs.Prelude.{ℕ, suc, ◌≤◌, ◌<◌, ◌^◌, List, [], ◌∷◌, ◌≡◌, ℤ, nat_abs, ◌+ℤ◌, length, set}
use Rattle.eq_train.specs.Train.{nth}

-- s with each number of the second list added, the first at place k
unfoldable pub added_from : List ℤ → ℕ → List ℤ → List ℤ
added_from s k [] = s
added_from s k (v ∷ vs) = added_from (set s k (nth s k +ℤ v)) (suc k) vs

-- n numbers, and those from place k on are ones that a product can be added to
pub record Room (s : List ℤ) (k n : ℕ) : Type 0 where
  pub long : length s ≡ n
  pub small : (j : ℕ) → k ≤ j → j < n → nat_abs (nth s j) ≤ 2 ^ 54
