-- Numbers as text, in base ten.
use Rattle.std.specs.Prelude.{ℕ, zero, suc, ◌+◌, ◌/◌, ◌%◌, List, [], ◌∷◌, ◌++◌, ltb, ℤ, pos, negsuc}
use Rattle.laws.specs.Choice.{when◌then◌else◌}

-- the ASCII code of a digit
abbrev pub digit : ℕ → ℕ
digit d = 48 + d

-- n in at most k digits, none of them a zero in front
unfoldable pub decimal_in : ℕ → ℕ → List ℕ
decimal_in zero n = []
decimal_in (suc k) n =
    let high = decimal_in k (n / 10) in
    when ltb n 10 then digit n ∷ [] else high ++ (digit (n % 10) ∷ [])

-- a number of 64 bits: 20 digits hold it
unfoldable pub decimal_of : ℕ → List ℕ
decimal_of n = decimal_in 20 n

-- a signed number, with `-` before a negative one
unfoldable pub signed_of : ℤ → List ℕ
signed_of (pos n) = decimal_of n
signed_of (negsuc n) = 45 ∷ decimal_of (suc n)
