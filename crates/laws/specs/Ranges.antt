-- Words about a range of numbers: the first that passes a test, the smaller of two, the least value, a list of values.
use Rattle.std.specs.Prelude.{ℕ, zero, suc, Bool, List, [], ◌∷◌, ◌++◌, ℤ, int_lt}
use Rattle.laws.specs.Choice.{when◌then◌else◌}

-- the first of s, s + 1, .. that passes p, in at most k steps; s + k where none before it does
unfoldable pub first_from : (ℕ → Bool) → ℕ → ℕ → ℕ
first_from p zero s = s
first_from p (suc k) s = let r = first_from p k (suc s) in when p s then s else r

-- the smaller of a and b
unfoldable pub min_z : ℤ → ℤ → ℤ
min_z a b = when int_lt b a then b else a

-- the least of start and of f at those numbers below n that pass p
unfoldable pub least_of : (ℕ → Bool) → (ℕ → ℤ) → ℤ → ℕ → ℤ
least_of p f start zero = start
least_of p f start (suc n) = let r = least_of p f start n in when p n then min_z r (f n) else r

-- f 0, f 1, .. f (n - 1)
unfoldable pub firsts : {A : Type 0} → (ℕ → A) → ℕ → List A
firsts f zero = []
firsts f (suc n) = firsts f n ++ (f n ∷ [])
