-- What a field's type says of a parameter: each number of an array of 16-bit numbers has that size. Assumes nothing.
use Prim.Native.Nat.{ℕ, zero, suc, ◌≤◌}
use mathlib.Core.List.{List, [], ◌∷◌}
use native.Mathlib.Omega.{arith}
use lib.IntN.{ℤ, nat_abs}
use mir.Syntax.{w16}
use mir.Val.{Val}
use denote.Array.{each}
use denote.Shadow.{shadow}
use denote.Signed.{SInt}
use Rattle.laws.proofs.Size.{abs≤}
use Rattle.eq_train.specs.Train.{nth}

pub all_short : (xs : List ℤ) (us : List Val) → shadow (each ℤ (SInt w16).own_val xs us) → (k : ℕ) → nat_abs (nth xs k) ≤ 32768
all_short [] us s k = omega arith
all_short (x ∷ xs) [] s k = absurd s
all_short (x ∷ xs) (u ∷ us) s zero = omega (arith, abs≤ x, s.0.1)
all_short (x ∷ xs) (u ∷ us) s (suc k) = all_short xs us s.1 k
