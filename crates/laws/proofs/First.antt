-- The first number that passes a test: a step of the search, where it ends, and that it is the first. Assumes nothing.
use Rattle.std.proofs.Common.{◌≡◌, ℕ, zero, suc, ◌+◌, ◌<◌, ◌≤◌, Bool, true, false, refl, subst, ⊎_elim, add-zero, eq-or-lt_of_le, arith}
use Rattle.laws.specs.Choice.{if_yes, if_no}
use Rattle.laws.specs.Ranges.{first_from}
use Rattle.laws.proofs.Tests.{by_test}

pub first-none : (p : ℕ → Bool) (s : ℕ) → first_from p 0 s ≡ s
unfolding first_from
first-none p s = refl

pub first_here : (p : ℕ → Bool) (k s : ℕ) → p s ≡ true → first_from p k s ≡ s
unfolding first_from
first_here p zero s e = refl
first_here p (suc k) s e = if_yes (p s) s (first_from p k (suc s)) e

pub first_next : (p : ℕ → Bool) (k s : ℕ) → p s ≡ false → first_from p (suc k) s ≡ first_from p k (suc s)
unfolding first_from
first_next p k s e = if_no (p s) s (first_from p k (suc s)) e

pub first_le : (p : ℕ → Bool) (k s : ℕ) → first_from p k s ≤ s + k
first_le p zero s = rw (first-none p s) (omega arith)
first_le p (suc k) s =
    by_test (p s) (λ e. rw (first_here p (suc k) s e) (omega arith)) (λ e. rw (first_next p k s e) (omega (arith, first_le p k (suc s))))

-- what is found passes, if the last place does
pub first_holds : (p : ℕ → Bool) (k s : ℕ) → p (s + k) ≡ true → p (first_from p k s) ≡ true
first_holds p zero s h = rw (first-none p s, ← add-zero s) h
first_holds p (suc k) s h =
    by_test (p s)
    (λ e. rw (first_here p (suc k) s e) e)
    (λ e. rw (first_next p k s e) (first_holds p k (suc s) (rw (next s k) h)))
  where
    next : (s k : ℕ) → suc s + k ≡ s + suc k
    next s k = omega arith

-- nothing before it passes
pub first_least : (p : ℕ → Bool) (k s t : ℕ) → s ≤ t → t < first_from p k s → p t ≡ false
first_least p zero s t l h = absurd (none s t l (rw (first-none p s) at h))
  where
    none : (s t : ℕ) → s ≤ t → t < s → ⊥
    none s t l h = omega arith
first_least p (suc k) s t l h =
    by_test (p s)
    (λ e. absurd (none s t l (rw (first_here p (suc k) s e) at h)))
    (λ e. ⊎_elim (λ (q : s ≡ t). subst (λ (x : ℕ). p x ≡ false) q e) (λ (q : s < t). first_least p k (suc s) t q (rw (first_next p k s e) at h)) (eq-or-lt_of_le l))
  where
    none : (s t : ℕ) → s ≤ t → t < s → ⊥
    none s t l h = omega arith
