-- Lock and loss by periods as functions of the periods are what History says of them. Assumes nothing.
use Rattle.std.specs.Prelude.{Some}
use Prim.Native.Nat.{◌+◌, ◌-◌, ◌<◌, ◌≤◌, suc, zero, ℕ}
use Rattle.laws.proofs.Tests.{and_both, by_test, never}
use Rattle.sync_history.proofs.Firsts.{First, first_found, first-is}
use Rattle.sync_history.specs.Claims.{LockFound}
use Rattle.sync_history.specs.History.{CountsAt, Eighth, Fourth, LockIn, counts_at, eighth_at, figures, fourth_at, lock_in, others_to}
use Rattle.sync_lock.specs.Period.{counts_of}
use borrow.Author.Tests.{eq-eqb, eqb-false, eqb-true, le-leb, leb-true}
use lib.Dec.{eqb, leb}
use mathlib.Core.Bool.{◌&&◌, false, not, true}
use mathlib.Core.Path.{◌∙◌, ◌≡◌, refl, subst, sym}
use native.Mathlib.Omega.{arith}

module _ (n : ℕ) (s : ℕ → ℕ) where
  counts-true : (p k : ℕ) → counts_at n s p k ≡ true → CountsAt n s p k
  unfolding counts_at
  counts-true p k e =
      let w = and_both (counts_of n (figures n s k)) (eqb (figures n s k).place p) e in
      record { counts = w.0; place = eqb-true (figures n s k).place p w.1 }

  true-counts : (p k : ℕ) → CountsAt n s p k → counts_at n s p k ≡ true
  unfolding counts_at
  true-counts p k c = rw (c.counts, eq-eqb (figures n s k).place p c.place) refl

  -- ---- four in a row
  fourth-true : (k : ℕ) → fourth_at n s k ≡ true → Fourth n s (figures n s k).place k
  unfolding fourth_at
  fourth-true k e =
      let p = (figures n s k).place in
      let a = and_both (leb 3 k && counts_at n s p k && counts_at n s p (k - 1) && counts_at n s p (k - 2)) (counts_at n s p (k - 3)) e in
      let b = and_both (leb 3 k && counts_at n s p k && counts_at n s p (k - 1)) (counts_at n s p (k - 2)) a.0 in
      let c = and_both (leb 3 k && counts_at n s p k) (counts_at n s p (k - 1)) b.0 in
      let d = and_both (leb 3 k) (counts_at n s p k) c.0 in
      record { enough = leb-true 3 k d.0; four = λ j h g. four j h g (leb-true 3 k d.0) d.1 c.1 b.1 a.1 }
    where
      four : (j : ℕ) → j ≤ k → k < j + 4 → 3 ≤ k → counts_at n s (figures n s k).place k ≡ true → counts_at n s (figures n s k).place (k - 1) ≡ true →
          counts_at n s (figures n s k).place (k - 2) ≡ true → counts_at n s (figures n s k).place (k - 3) ≡ true → CountsAt n s (figures n s k).place j
      four j h g l w x y z =
          let p = (figures n s k).place in
          let at : (i : ℕ) → counts_at n s p i ≡ true → i ≡ j → CountsAt n s p j = λ i c q. subst (CountsAt n s p) q (counts-true p i c) in
          by_test (eqb k j) (λ t. at k w (eqb-true k j t))
          (λ t. by_test (eqb (k - 1) j) (λ u. at (k - 1) x (eqb-true (k - 1) j u))
          (λ u. by_test (eqb (k - 2) j) (λ v. at (k - 2) y (eqb-true (k - 2) j v))
          (λ v. at (k - 3) z (omega (arith, h, g, l, eqb-false k j t, eqb-false (k - 1) j u, eqb-false (k - 2) j v)))))

  true-fourth : (p k : ℕ) → Fourth n s p k → (fourth_at n s k ≡ true) × ((figures n s k).place ≡ p)
  unfolding fourth_at
  true-fourth p k f =
      let e = (f.four k (omega arith) (omega arith)).place in
      let l = f.enough in (
        rw (
          e,
          le-leb 3 k l,
          true-counts p k (f.four k (omega arith) (omega arith)),
          true-counts p (k - 1) (f.four (k - 1) (omega arith) (omega (arith, l))),
          true-counts p (k - 2) (f.four (k - 2) (omega arith) (omega (arith, l))),
          true-counts p (k - 3) (f.four (k - 3) (omega arith) (omega (arith, l))),
        ) refl,
        e,
      )

  -- ---- the first
  first-lock : (l : ℕ) → First (fourth_at n s) l → LockIn n s (figures n s l).place l
  first-lock l f = record { fourth = fourth-true l f.passes; first = λ j q h g. never (sym (true-fourth q j g).0 ∙ f.first j h) }

  lock-first : (p l : ℕ) → LockIn n s p l → First (fourth_at n s) l
  lock-first p l f =
      record {
        passes = (true-fourth p l f.fourth).0;
        first = λ j h. by_test (fourth_at n s j) (λ t. absurd (f.first j (figures n s j).place h (fourth-true j t))) (λ t. t);
      }

  -- ---- the others
  others-all : (p k m : ℕ) → others_to n s p k m ≡ true → (j : ℕ) → j ≤ k → k < j + m → ¬ CountsAt n s p j
  unfolding others_to
  others-all p k zero e j h g c = absurd (omega arith)
  others-all p k (suc m) e j h g c =
      let w = and_both (not (counts_at n s p (k - m))) (others_to n s p k m) e in
      by_test (eqb (k - m) j)
      (λ t. never (sym w.0 ∙ rw (eqb-true (k - m) j t, true-counts p j c) refl))
      (λ t. others-all p k m w.1 j h (omega (arith, h, g, eqb-false (k - m) j t)) c)

  all_others : (p k m : ℕ) → m ≤ suc k → ((j : ℕ) → j ≤ k → k < j + m → ¬ CountsAt n s p j) → others_to n s p k m ≡ true
  unfolding others_to
  all_others p k zero b f = refl
  all_others p k (suc m) b f =
      let c : counts_at n s p (k - m) ≡ false = by_test (counts_at n s p (k - m)) (λ t. absurd (f (k - m) (omega arith) (omega (arith, b)) (counts-true p (k - m) t))) (λ t. t) in
      rw (c, all_others p k m (omega (arith, b)) (λ j h g. f j h (omega (arith, g)))) refl

  found : (k p l : ℕ) → LockIn n s p l → l < k → (lock_in n s k ≡ Some l) × ((figures n s l).place ≡ p)
  found k p l f h = (first_found (fourth_at n s) k l (lock-first p l f) h, (true-fourth p l f.fourth).1)

  found_only : (k l : ℕ) → lock_in n s k ≡ Some l → (l < k) × LockIn n s (figures n s l).place l
  found_only k l e = let w = first-is (fourth_at n s) k l e in (w.0, first-lock l w.1)

  eighth : (k p : ℕ) → Eighth n s p k → (l : ℕ) × (lock_in n s k ≡ Some l) × (eighth_at n s l k ≡ true)
  unfolding eighth_at
  eighth k p x =
      let w = found k p x.locked x.falls (omega (arith, x.after)) in
      (x.locked, w.0, rw (le-leb (x.locked + 8) k x.after, w.1, all_others p k 8 (omega (arith, x.after)) x.others) refl)

  eighth_only : (k l : ℕ) → lock_in n s k ≡ Some l → eighth_at n s l k ≡ true → Eighth n s (figures n s l).place k
  unfolding eighth_at
  eighth_only k l e x =
      let w = found_only k l e in
      let u = and_both (leb (l + 8) k) (others_to n s (figures n s l).place k 8) x in
      record { locked = l; falls = w.1; after = leb-true (l + 8) k u.0; others = others-all (figures n s l).place k 8 u.1 }

  pub lock-found : (k : ℕ) → LockFound n s k
  lock-found k = record { found = found k; found_only = found_only k; eighth = eighth k; eighth_only = eighth_only k }
