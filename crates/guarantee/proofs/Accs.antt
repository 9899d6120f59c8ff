-- Accumulators stay numbers of 32 bits. Assumes nothing.
use Prim.Native.Nat.{ℕ, ◌^◌, ◌≤◌, ◌<◌}
use Rattle.laws.proofs.Tests.{by_test, if_both}
use Rattle.receiver.specs.declared.Receiver.{Receiver}
use Rattle.receiver.specs.Symbol.{Input, Lent, acc_after, rotated, synced}
use Rattle.receiver_range.proofs.Symbols.{Takes, turned}
use Rattle.receiver_range.specs.Coherent.{CoherentReceiver}
use Rattle.sync.specs.Sync.{stored_of, symbol_of, window_after}
use Rattle.sync_corr.specs.declared.Both.{Both}
use Rattle.sync_corr.specs.Correlate.{both_of, size_of}
use Rattle.sync_lock.specs.Period.{leak_of}
use Rattle.sync_range.proofs.Corr.{both_fits}
use Rattle.sync_range.proofs.Tally.{place_most}
use Rattle.sync_range.proofs.Window.{window_after_fits}
use Rattle.sync_range.specs.Coherent as Bounds
use Rattle.sync_step.specs.declared.Run.{Run}
use Rattle.sync_step.specs.declared.Step.{Step}
use Rattle.sync_step.specs.declared.Stores.{Stores}
use Rattle.sync_step.specs.declared.Stores.TheVariants.{Nothing, One, Zeros}
use Rattle.sync_step.specs.Step.{early_of, ended_of, kept_of, late_of, lost_at_end, lost_of, place_of, step_of}
use borrow.Author.Tests.{eqb-false, eqb-true}
use lib.Dec.{eqb, ltb}
use lib.ListN.{get_or, get_or-replicate, length, length-replicate, length-set, set}
use lib.Seq.{get_or-set_other, get_or-set_same}
use mathlib.Core.List.{List}
use mathlib.Core.Path.{subst, sym}
use native.Mathlib.Omega.{arith}

-- what is stored is such a number
abbrev Short : Stores → Type 0
Short Nothing = Unit {0}
Short (One a) = a < 2 ^ 32
Short Zeros = Unit {0}

step_short : (n : ℕ) (r : Run) (b : Both) (a : ℕ) → leak_of a (size_of b) < 2 ^ 32 → Short (step_of n r b a).stores
unfolding step_of early_of late_of lost_at_end lost_of ended_of kept_of
step_short n r b a k =
    if_both (λ (u : Step). Short u.stores) (ltb r.t 23) _ _ tt
    (if_both (λ (u : Step). Short u.stores) _ _ _
    (if_both (λ (u : Step). Short u.stores) _ _ _ tt tt)
    (if_both (λ (u : Step). Short u.stores) _ _ _ (if_both (λ (u : Step). Short u.stores) _ _ _ tt k) k))

leak_short : (a size : ℕ) → a < 2 ^ 32 → size ≤ Bounds.size_most Bounds.rotated → leak_of a size < 2 ^ 32
unfolding leak_of
leak_short a size h k = omega (arith, h, k)

stored_short : (s : Stores) (p : ℕ) (acc : List ℕ) → Short s → ((k : ℕ) → k < length acc → get_or acc k 0 < 2 ^ 32) → (k : ℕ) → k < length (stored_of s p acc) →
    get_or (stored_of s p acc) k 0 < 2 ^ 32
unfolding stored_of
stored_short Nothing p acc h g k l = g k l
stored_short (One a) p acc h g k l =
    let e : k < length acc = rw (length-set acc p a) at l in
    by_test (eqb p k)
    (λ t. let q = eqb-true p k t in subst (λ (j : ℕ). get_or (set acc p a) j 0 < 2 ^ 32) q (rw (get_or-set_same acc p a 0 (rw q e)) h))
    (λ t. rw (get_or-set_other acc p k a 0 (λ q. eqb-false p k t (sym q))) (g k e))
stored_short Zeros p acc h g k l = let z : ℕ = 0 in let b : k < length acc = rw (length-replicate (length acc) z) at l in rw (get_or-replicate (length acc) k z z b) (omega arith)

module _ (r : Receiver) (x : Input) (l : Lent) (c : CoherentReceiver r) (a : Takes r x l) where
  size_small : size_of (both_of (window_after r.front.sync.win (rotated 9296 r x l).i (rotated 9296 r x l).q) x.f x.s) ≤ Bounds.size_most Bounds.rotated
  size_small =
      let p = turned r x l c a.fits in
      let w = window_after r.front.sync.win (rotated 9296 r x l).i (rotated 9296 r x l).q in
      (both_fits Bounds.rotated w x.f x.s
      (window_after_fits Bounds.rotated r.front.sync.win (rotated 9296 r x l).i (rotated 9296 r x l).q c.sync.window p.first p.second p.both) a.first a.second).size

  pub acc-short : (k : ℕ) → k < length (acc_after 9296 r x l) → get_or (acc_after 9296 r x l) k 0 < 2 ^ 32
  unfolding acc_after synced symbol_of
  acc-short =
      let run = r.front.sync.run in
      let b = both_of (window_after r.front.sync.win (rotated 9296 r x l).i (rotated 9296 r x l).q) x.f x.s in
      let v = get_or l.acc (place_of 9296 run.t) 0 in
      let p : place_of 9296 run.t < length l.acc = rw a.long (omega (arith, place_most run.t)) in
      stored_short (step_of 9296 run b v).stores (place_of 9296 run.t) l.acc (step_short 9296 run b v (leak_short v (size_of b) (a.fits.acc (place_of 9296 run.t) p) size_small)) a.fits.acc
