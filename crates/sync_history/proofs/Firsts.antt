-- The first number below another that passes a test. Assumes nothing.
use Rattle.std.specs.Prelude.{Option, None, Some}
use Prim.Native.Nat.{◌<◌, suc, zero, ℕ}
use Rattle.laws.proofs.Tests.{by_test, never}
use Rattle.laws.specs.Choice.{when◌then◌else◌}
use Rattle.sync_history.specs.History.{earlier, first_to}
use borrow.Author.Tests.{eqb-false, eqb-true, ltb-false, ltb-true}
use lib.Dec.{eqb, ltb}
use mathlib.Core.Bool.{Bool, false, true}
use mathlib.Core.Path.{◌∙◌, ◌≡◌, ap, refl, subst, sym}
use native.Mathlib.Omega.{arith}

none_some : {f : ℕ} → (◌≡◌ {A = Option ℕ} None (Some f)) → ⊥
none_some e = let z : ◌≡◌ {A = ℕ} 0 1 = cc in omega arith

same_some : {f g : ℕ} → (◌≡◌ {A = Option ℕ} (Some f) (Some g)) → f ≡ g
same_some e = cc

module _ (t : ℕ → Bool) where
  pub by_first : {X : Type 0} (i : ℕ) → (first_to t i ≡ None → X) → ((f : ℕ) → first_to t i ≡ Some f → X) → X
  by_first {X} i p q = go (first_to t i) refl
    where
      go : (o : Option ℕ) → first_to t i ≡ o → X
      go None e = p e
      go (Some f) e = q f e

  -- one more
  pub first_stays : (i f : ℕ) → first_to t i ≡ Some f → first_to t (suc i) ≡ Some f
  unfolding first_to earlier
  first_stays i f e = rw e

  pub first-begins : (i : ℕ) → first_to t i ≡ None → t i ≡ true → first_to t (suc i) ≡ Some i
  unfolding first_to earlier when◌then◌else◌
  first-begins i e m = rw (e, m)

  pub first-waits : (i : ℕ) → first_to t i ≡ None → t i ≡ false → first_to t (suc i) ≡ None
  unfolding first_to earlier when◌then◌else◌
  first-waits i e m = rw (e, m)

  -- what it means
  pub first-none : (i : ℕ) → first_to t i ≡ None → (j : ℕ) → j < i → t j ≡ false
  first-none zero e j l = absurd (omega arith)
  first-none (suc i) e j l =
      by_first i
      (λ q.
      by_test (t i)
      (λ m. absurd (none_some (sym e ∙ first-begins i q m)))
      (λ m. by_test (eqb j i) (λ u. rw (eqb-true j i u) m) (λ u. first-none i q j (omega (arith, eqb-false j i u)))))
      (λ f q. absurd (none_some (sym e ∙ first_stays i f q)))

  -- f passes, and none before it
  pub record First (f : ℕ) : Type 0 where
    pub passes : t f ≡ true
    pub first : (j : ℕ) → j < f → t j ≡ false

  pub first-is : (i f : ℕ) → first_to t i ≡ Some f → (f < i) × First f
  unfolding first_to
  first-is zero f e = absurd (none_some e)
  first-is (suc i) f e =
      by_first i
      (λ q.
      by_test (t i)
      (λ m. let g : f ≡ i = same_some (sym e ∙ first-begins i q m) in (omega arith, rw g (record { passes = m; first = first-none i q })))
      (λ m. absurd (none_some (sym (first-waits i q m) ∙ e))))
      (λ g q.
      let w = first-is i g q in
      let d : g ≡ f = same_some (sym (first_stays i g q) ∙ e) in
      (omega (arith, w.0, d), subst First d w.1))

  pub first_found : (i f : ℕ) → First f → f < i → first_to t i ≡ Some f
  first_found i f g l =
      by_first i
      (λ q. absurd (never (sym g.passes ∙ first-none i q f l)))
      (λ k q. let w = first-is i k q in q ∙ ap Some (one k w))
    where
      one : (k : ℕ) → (k < i) × First k → k ≡ f
      one k w =
          by_test (ltb k f)
          (λ u. absurd (never (sym w.1.passes ∙ g.first k (ltb-true k f u))))
          (λ u. by_test (ltb f k) (λ v. absurd (never (sym g.passes ∙ w.1.first f (ltb-true f k v)))) (λ v. omega (arith, ltb-false k f u, ltb-false f k v)))
