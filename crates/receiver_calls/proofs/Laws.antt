-- Laws of the definitions of receiver_calls that its proofs cite. Assumes nothing.
use mathlib.Core.List.{List}
use mathlib.Core.Path.{◌≡◌, refl, sym}
use Prim.Native.Nat.{ℕ, zero, suc, ◌≤◌}
use native.Mathlib.Omega.{arith}
use lib.ListN.{get_or-eq_default}
use Rattle.sync_step.specs.declared.Events.{Events}
use Rattle.receiver_calls.specs.declared.kept.Kept.{Kept}
use Rattle.receiver_calls.specs.Calls.{plain, event_at}
use Rattle.receiver_calls.specs.Turns.{plains, plain_of}

-- ---- an event that is not the first or the second
pub event_third : (e : Events) (n : ℕ) → 2 ≤ n → e.third ≡ event_at e n
unfolding event_at
event_third e zero h = absurd (omega (arith, h))
event_third e (suc zero) h = absurd (omega (arith, h))
event_third e (suc (suc n)) h = refl

-- ---- a call that there is not
pub plain-none : (n : ℕ) (p : List ℕ) (k : Kept) → 6 ≤ n → plain k 255 ≡ plain_of n p k
unfolding plain_of
plain-none n p k h = sym (get_or-eq_default (plains p k) (plain k 255) h)
