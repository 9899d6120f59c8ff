-- Accumulators: bounds, what is left of a start value, and the lead of one place over another. Assumes nothing.
use Prim.Native.Nat.{◌%◌, ◌*◌, ◌+◌, ◌<◌, ◌≤◌, suc, zero, ℕ}
use Rattle.sync_history.specs.Claims.{AccBounds, left_of}
use Rattle.sync_history.specs.History.{Premise, acc_after}
use Rattle.sync_lock.specs.Period.{leak_of}
use mathlib.Core.Logic.{◌≢◌}
use mathlib.Core.Path.{◌∙◌, ◌≡◌, refl, sym}
use native.Mathlib.Nat.{mod-eq_of_lt, mul-add-mod_self_right}
use native.Mathlib.Omega.{arith}

-- ---- bounds
-- a greater start never falls below a smaller one
acc_least : (n : ℕ) (s : ℕ → ℕ) (a i k : ℕ) → acc_after n s 0 i k ≤ acc_after n s a i k
unfolding acc_after leak_of
acc_least n s a i zero = omega arith
acc_least n s a i (suc k) = omega (arith, acc_least n s a i k)

-- seven eighths of what was left, rounded up, is left
acc_most : (n : ℕ) (s : ℕ → ℕ) (a i k : ℕ) → acc_after n s a i k ≤ acc_after n s 0 i k + left_of a k
unfolding acc_after leak_of left_of
acc_most n s a i zero = omega arith
acc_most n s a i (suc k) = omega (arith, acc_most n s a i k)

-- from 0, never above the greatest size
acc_from_zero : (n : ℕ) (s : ℕ → ℕ) (m : ℕ) → ((j : ℕ) → s j ≤ m) → (i k : ℕ) → acc_after n s 0 i k ≤ m
unfolding acc_after leak_of
acc_from_zero n s m h i zero = omega arith
acc_from_zero n s m h i (suc k) = omega (arith, acc_from_zero n s m h i k, h (k * n + i))

-- sizes of 7 or less leave 0
acc_quiet : (n : ℕ) (s : ℕ → ℕ) → ((j : ℕ) → s j ≤ 7) → (i k : ℕ) → acc_after n s 0 i k ≡ 0
unfolding acc_after leak_of
acc_quiet n s h i zero = refl
acc_quiet n s h i (suc k) = omega (arith, acc_quiet n s h i k, h (k * n + i))

-- all four
pub acc_bounds : (n : ℕ) (s : ℕ → ℕ) (m : ℕ) → AccBounds n s m
acc_bounds n s m = record { least = acc_least n s; most = acc_most n s; from_zero = acc_from_zero n s m; quiet = acc_quiet n s }

-- ---- under the premise
-- the one step of arithmetic
lead_step : (a o x q : ℕ) → 4 * o ≤ a → 4 * q + 8 ≤ x → 4 * leak_of o q + 1 ≤ leak_of a x
unfolding leak_of
lead_step a o x q h g = omega arith

module _ (n place P Q : ℕ) (s : ℕ → ℕ) (m : ℕ) (pr : Premise n place P Q s m) where
  -- place i of period k, and that it is among the positions
  at_place : (k i : ℕ) → i < n → (k * n + i) % n ≡ i
  at_place k i h = mul-add-mod_self_right k n i ∙ mod-eq_of_lt h

  -- a place of a whole period is among the positions
  among : (k i : ℕ) → i < n → suc k * n ≤ m → k * n + i < m
  among k i h b = omega arith

  -- the size there
  size-there : (k : ℕ) → suc k * n ≤ m → P ≤ s (k * n + place)
  size-there k b = pr.there (k * n + place) (among k place pr.within b) (at_place k place pr.within)

  -- the sizes elsewhere
  size-elsewhere : (k i : ℕ) → i < n → i ≢ place → suc k * n ≤ m → s (k * n + i) ≤ Q
  size-elsewhere k i h ne b = pr.elsewhere (k * n + i) (among k i h b) (λ e. ne (sym (at_place k i h) ∙ e))

  -- the one over the others
  sizes-apart : (k i : ℕ) → i < n → i ≢ place → suc k * n ≤ m → 4 * s (k * n + i) + 8 ≤ s (k * n + place)
  sizes-apart k i h ne b = omega (arith, pr.apart, size-there k b, size-elsewhere k i h ne b)

  -- four to one after any number of periods
  four-to-one : (k i : ℕ) → i < n → i ≢ place → k * n ≤ m → 4 * acc_after n s 0 i k ≤ acc_after n s 0 place k
  unfolding acc_after
  four-to-one zero i h ne b = omega arith
  four-to-one (suc k) i h ne b =
      omega (
        arith,
        lead_step (acc_after n s 0 place k) (acc_after n s 0 i k) (s (k * n + place)) (s (k * n + i)) (four-to-one k i h ne (omega arith)) (sizes-apart k i h ne b),
      )

  -- and by one after each period
  pub leads : (k : ℕ) → suc k * n ≤ m → (i : ℕ) → i < n → i ≢ place → 4 * acc_after n s 0 i (suc k) + 1 ≤ acc_after n s 0 place (suc k)
  unfolding acc_after
  leads k b i h ne =
      lead_step (acc_after n s 0 place k) (acc_after n s 0 i k) (s (k * n + place)) (s (k * n + i)) (four-to-one k i h ne (omega arith)) (sizes-apart k i h ne b)

  -- it is not 0 there
  pub there-above : (k : ℕ) → suc k * n ≤ m → 0 < acc_after n s 0 place (suc k)
  unfolding acc_after leak_of
  there-above k b = omega (arith, pr.apart, size-there k b)
