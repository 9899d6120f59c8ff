-- When the lock falls: never before four periods, once only, and under the premise with the fourth. Assumes nothing.
use Prim.Native.Nat.{◌*◌, ◌-◌, ◌<◌, ◌≤◌, suc, ℕ}
use Rattle.sync_history.proofs.Accumulators.{leads, there-above}
use Rattle.sync_history.proofs.Lead.{lead-counts, peak-after}
use Rattle.sync_history.specs.History.{CountsAt, Eighth, LockIn, LockOn, Premise, acc_after, end_of, figures}
use mathlib.Core.Path.{◌∙◌, ◌≡◌, ap, sym}
use native.Mathlib.Nat.{mul-le-mul_right}
use native.Mathlib.Omega.{arith}
use Rattle.sync_history.specs.Claims.{NoneBefore, OneLock, Locks}

-- ---- whatever the sizes are
pub none_before : (n : ℕ) (s : ℕ → ℕ) → NoneBefore n s
unfolding end_of
none_before n s = record {
  none = λ p m h b. omega (arith, b.by, b.falls.ends, mul-le-mul_right n b.falls.falls.fourth.enough);
}

-- two locks are one
pub one_lock : (n : ℕ) (s : ℕ → ℕ) → OneLock n s
one_lock n s = record { one = λ p q k j a b. (place p q k j a b, period p q k j a b) }
  where
    -- neither falls before the other
    period : (p q k j : ℕ) → LockIn n s p k → LockIn n s q j → k ≡ j
    period p q k j a b = omega (arith, not-less, not_more)
      where
        not-less : ¬ (k < j)
        not-less h = b.first k p h a.fourth

        not_more : ¬ (j < k)
        not_more h = a.first j q h b.fourth

    place : (p q k j : ℕ) → LockIn n s p k → LockIn n s q j → p ≡ q
    place p q k j a b = sym (a.fourth.four j (omega (arith, same)) (omega (arith, same))).place ∙ (b.fourth.four j (omega arith) (omega arith)).place
      where
        same : k ≡ j
        same = period p q k j a b

-- .. on one symbol
pub one_symbol : (n : ℕ) (s : ℕ → ℕ) (p q l m : ℕ) → LockOn n s p l → LockOn n s q m → (p ≡ q) × (l ≡ m)
one_symbol n s p q l m a b =
    let same = (one_lock n s).one p q a.period b.period a.falls b.falls in
    (same.0, a.ends ∙ ap (end_of n) same.1 ∙ sym b.ends)

-- ---- under the premise
module _ (n place P Q : ℕ) (s : ℕ → ℕ) (m : ℕ) (pr : Premise n place P Q s m) (nine : 9 ≤ n) where
  -- each whole period counts, there
  pub each_counts : (k : ℕ) → suc k * n ≤ m → CountsAt n s place k
  unfolding figures
  each_counts k b =
      let acc : ℕ → ℕ = λ i. acc_after n s 0 i (suc k) in
      let above = there-above n place P Q s m pr k b in
      let lead = leads n place P Q s m pr k b in
      record {
        counts = lead-counts acc place n pr.within above lead nine;
        place = (peak-after acc place n pr.within above lead n (omega arith) pr.within).1;
      }

  -- the fourth is period 3
  lock-in : 4 * n ≤ m → LockIn n s place 3
  lock-in b = record {
    fourth = record { enough = omega arith; four = λ j h g. each_counts j (omega (arith, mul-le-mul_right n h)) };
    first = λ j q h f. omega (arith, f.enough);
  }

  -- no period is an other one
  no-eighth : (p k : ℕ) → suc k * n ≤ m → Eighth n s p k → ⊥
  no-eighth p k b e = e.others k (omega arith) (omega arith) (rw same (each_counts k b))
    where
      before : suc e.locked * n ≤ m
      before = omega (arith, mul-le-mul_right n e.after)

      same : p ≡ place
      same = sym (e.falls.fourth.four e.locked (omega arith) (omega arith)).place ∙ (each_counts e.locked before).place

-- the lock falls with the fourth period and lasts (9 is the least such period: eight_too_short, in Theorems)
pub locks : (n place P Q : ℕ) (s : ℕ → ℕ) (symbols : ℕ) → 9 ≤ n → Premise n place P Q s (symbols - 23) → Locks n place s symbols
unfolding end_of
locks n place P Q s symbols nine pr = record {
  falls = λ h. record { period = 3; ends = omega arith; falls = lock-in n place P Q s (symbols - 23) pr nine (omega arith) };
  lasts = λ m h l. no-eighth n place P Q s (symbols - 23) pr nine l.at l.period (omega (arith, l.by)) l.eighth;
}
