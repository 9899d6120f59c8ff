-- One place leads all others four to one and by one: it is the peak, and the period counts. Assumes nothing.
use Prim.Native.Nat.{◌*◌, ◌+◌, ◌<◌, ◌≤◌, suc, zero, ℕ}
use Rattle.laws.proofs.Tests.{by_test}
use Rattle.sync_history.proofs.Figures.{grows, none_peak, stays, sum_more, sum_none}
use Rattle.sync_history.specs.History.{figures_to}
use Rattle.sync_lock.specs.Period.{counts_of}
use borrow.Author.Tests.{eqb-false, eqb-true, le-leb, lt-ltb, ltb-false, ltb-true}
use lib.Dec.{eqb, ltb}
use mathlib.Core.Bool.{true}
use mathlib.Core.Logic.{◌≢◌}
use mathlib.Core.Path.{◌∙◌, ◌≡◌, ap, refl}
use native.Mathlib.Nat.{mul-le-mul_right}
use native.Mathlib.Omega.{arith}

-- ---- of a row of values
module _ (f : ℕ → ℕ) (p n : ℕ) (within : p < n) (above : 0 < f p) (lead : (i : ℕ) → i < n → i ≢ p → 4 * f i + 1 ≤ f p) where
  -- no peak before it is as great
  peak-before : (m : ℕ) → m ≤ p → (figures_to f m).peak < f p
  peak-before zero h = omega (arith, (none_peak f).0)
  peak-before (suc m) h =
      by_test (ltb (figures_to f m).peak (f m))
      (λ e. omega (arith, (grows f m (ltb-true (figures_to f m).peak (f m) e)).0, lead m (omega arith) (omega arith)))
      (λ e. omega (arith, (stays f m (ltb-false (figures_to f m).peak (f m) e)).0, peak-before m (omega arith)))

  -- from it on it is the peak
  peak-here : (m : ℕ) → m ≡ p → ((figures_to f (suc m)).peak ≡ f p) × ((figures_to f (suc m)).place ≡ p)
  peak-here m e = rw (← e) (grows f m (rw (← e) at (peak-before m (omega arith))))

  peak-keeps :
      (m : ℕ) → m < n → m ≢ p → ((figures_to f m).peak ≡ f p) × ((figures_to f m).place ≡ p)
      → ((figures_to f (suc m)).peak ≡ f p) × ((figures_to f (suc m)).place ≡ p)
  peak-keeps m b ne h = let s = stays f m (omega (arith, h.0, lead m b ne)) in (s.0 ∙ h.0, s.1 ∙ h.1)

  -- so it is at the end
  pub peak-after : (m : ℕ) → m ≤ n → p < m → ((figures_to f m).peak ≡ f p) × ((figures_to f m).place ≡ p)
  peak-after zero b h = absurd (omega arith)
  peak-after (suc m) b h =
      by_test (eqb m p)
      (λ e. peak-here m (eqb-true m p e))
      (λ e. let ne = eqb-false m p e in peak-keeps m b ne (peak-after m (omega arith) (omega arith)))

  -- the others add at most a quarter of it each
  sum-before : (m : ℕ) → m ≤ p → 4 * (figures_to f m).sum ≤ m * f p
  sum-before zero h = omega (arith, sum_none f)
  sum-before (suc m) h = omega (arith, sum_more f m, sum-before m (omega arith), lead m (omega arith) (omega arith))

  -- .. those after it too
  sum-after : (m : ℕ) → m ≤ n → p < m → 4 * (figures_to f m).sum ≤ m * f p + 3 * f p
  sum-after zero b h = absurd (omega arith)
  sum-after (suc m) b h =
      by_test (eqb m p)
      (λ t. let e = eqb-true m p t in omega (arith, sum_more f m, sum-before m (omega arith), ap f e))
      (λ t. let ne = eqb-false m p t in omega (arith, sum_more f m, sum-after m (omega arith) (omega arith), lead m b ne))

  -- in nine places or more that counts
  pub lead-counts : 9 ≤ n → counts_of n (figures_to f n) ≡ true
  unfolding counts_of
  lead-counts nine =
      rw (
        (peak-after n (omega arith) within).0,
        lt-ltb 0 (f p) above,
        le-leb (3 * (figures_to f n).sum) (f p * n) (omega (arith, sum-after n (omega arith) within, mul-le-mul_right (f p) nine)),
      ) refl
