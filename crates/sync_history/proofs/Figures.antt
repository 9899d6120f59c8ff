-- The figures of a row of values: the first greatest, its place and the sum. Assumes nothing.
use Prim.Native.Nat.{◌+◌, ◌<◌, ◌≤◌, suc, zero, ℕ}
use Rattle.laws.proofs.Tests.{by_test, if_both}
use Rattle.laws.specs.Choice.{if_no, if_yes}
use Rattle.sync_history.specs.Claims.{FirstGreatest}
use Rattle.sync_history.specs.History.{figures_to}
use Rattle.sync_lock.specs.Period.{added_of, no_tally}
use Rattle.sync_lock.specs.declared.Tally.{Tally}
use borrow.Author.Tests.{le-ltb, lt-ltb, ltb-false, ltb-true}
use lib.Dec.{ltb}
use mathlib.Core.Bool.{false, true}
use mathlib.Core.Path.{◌≡◌, ap, refl}
use native.Mathlib.Decide.{dec_lt}
use native.Mathlib.Omega.{arith}

-- ---- one value more
-- a greater one is the peak, there
pub grows : (f : ℕ → ℕ) (m : ℕ) → (figures_to f m).peak < f m → ((figures_to f (suc m)).peak ≡ f m) × ((figures_to f (suc m)).place ≡ m)
unfolding figures_to added_of
grows f m h = rw (lt-ltb (figures_to f m).peak (f m) h, if_yes true _ _ refl) (refl, refl)

-- another leaves the peak and its place
pub stays : (f : ℕ → ℕ) (m : ℕ) → f m ≤ (figures_to f m).peak → ((figures_to f (suc m)).peak ≡ (figures_to f m).peak) × ((figures_to f (suc m)).place ≡ (figures_to f m).place)
unfolding figures_to added_of
stays f m h = rw (le-ltb (figures_to f m).peak (f m) h, if_no false _ _ refl) (refl, refl)

-- no value
pub none_peak : (f : ℕ → ℕ) → ((figures_to f 0).peak ≡ 0) × ((figures_to f 0).place ≡ 0)
unfolding figures_to no_tally
none_peak f = (refl, refl)

-- ---- the sum is the sum
-- of no value it is 0
pub sum_none : (f : ℕ → ℕ) → (figures_to f 0).sum ≡ 0
unfolding figures_to no_tally
sum_none f = refl

-- .. and each value adds itself
pub sum_more : (f : ℕ → ℕ) (m : ℕ) → (figures_to f (suc m)).sum ≡ (figures_to f m).sum + f m
unfolding figures_to added_of
sum_more f m = if_both (λ (t : Tally). t.sum ≡ (figures_to f m).sum + f m) (ltb (figures_to f m).peak (f m)) _ _ refl refl

-- ---- the peak is the first greatest
-- after a greater value
first_grows : (f : ℕ → ℕ) (m : ℕ) → FirstGreatest f m → (figures_to f m).peak < f m → FirstGreatest f (suc m)
first_grows f m g h =
    let peak = (grows f m h).0 in let place = (grows f m h).1 in
    record {
      greatest = λ i l. rw peak (greatest i l (dec_lt i m));
      there = λ p. rw (place, peak) (omega arith, refl);
      first = λ i l. rw peak (omega (arith, g.greatest i (rw place at l)));
      silent = λ e. absurd (omega arith);
    }
  where
    greatest : (i : ℕ) → i < suc m → Dec (i < m) → f i ≤ f m
    greatest i l (yes b) = omega (arith, g.greatest i b)
    greatest i l (no b) = omega (arith, ap f here)
      where
        here : i ≡ m
        here = omega arith

-- after one that is not greater
first_stays : (f : ℕ → ℕ) (m : ℕ) → FirstGreatest f m → f m ≤ (figures_to f m).peak → FirstGreatest f (suc m)
first_stays f m g h =
    let peak = (stays f m h).0 in let place = (stays f m h).1 in
    record {
      greatest = λ i l. rw peak (greatest i l (dec_lt i m));
      there = λ p. rw (place, peak) (omega (arith, (g.there (rw peak at p)).0), (g.there (rw peak at p)).1);
      first = λ i l. rw peak (g.first i (rw place at l));
      silent = λ e. rw place (g.silent (rw peak at e));
    }
  where
    greatest : (i : ℕ) → i < suc m → Dec (i < m) → f i ≤ (figures_to f m).peak
    greatest i l (yes b) = g.greatest i b
    greatest i l (no b) = omega (arith, ap f here)
      where
        here : i ≡ m
        here = omega arith

-- for every row of values
pub first_greatest : (f : ℕ → ℕ) (m : ℕ) → FirstGreatest f m
first_greatest f zero =
    record {
      greatest = λ i l. absurd (omega arith);
      there = λ p. absurd (omega (arith, (none_peak f).0));
      first = λ i l. absurd (omega (arith, (none_peak f).1));
      silent = λ e. (none_peak f).1;
    }
first_greatest f (suc m) =
    by_test (ltb (figures_to f m).peak (f m))
    (λ e. first_grows f m (first_greatest f m) (ltb-true (figures_to f m).peak (f m) e))
    (λ e. first_stays f m (first_greatest f m) (ltb-false (figures_to f m).peak (f m) e))
