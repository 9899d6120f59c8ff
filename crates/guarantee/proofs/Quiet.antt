-- No soft bit before lock, and none of a refused symbol. Assumes nothing.
use Rattle.std.specs.Prelude.{None, Result, Ok, Err}
use Rattle.refusal.specs.declared.Refusal.{Refusal}
use Rattle.refusal.specs.declared.Refused.{Refused}
use Rattle.receiver_range.proofs.Codes.{by_refusal, taken_0}
use Prim.Native.Nat.{ℕ}
use Rattle.guarantee.proofs.Early.{lost_locked}
use Rattle.guarantee.proofs.Follow.{answer_is, lent_is, own-or-wrong, says-1}
use Rattle.guarantee.proofs.Lists.{call_steps}
use Rattle.guarantee.proofs.Refusals.{own-refusal}
use Rattle.guarantee.proofs.Slots.{none-heads}
use Rattle.guarantee.proofs.Stretch.{grown-length, kept-before}
use Rattle.guarantee.proofs.Tied.{Tied, events-are}
use Rattle.guarantee.specs.Calls.{Accumulators, Call, CallFits, InputFits, SlotStore, System, handed_acc, handed_store, lent_to, plain, told_by}
use Rattle.guarantee.specs.Calls.{symbol, points, taps, opens, ends, restarts, own}
use Rattle.guarantee.specs.Demand.{BeforeLock, NoSoft, stretch_with}
use Rattle.guarantee.specs.History.{History, events_in, events_with, own_acc, own_store, push_of, refusal_in, with_symbol}
use Rattle.laws.proofs.Tests.{by_test, never}
use Rattle.laws.specs.Choice.{if_no, if_yes}
use Rattle.receiver.specs.declared.Answer.{Answer}
use Rattle.receiver.specs.declared.Receiver.{Receiver}
use Rattle.receiver.specs.Answers.{no_runs, runs_told, symbol_answer, symbol_lent, symbol_refusal}
use Rattle.receiver_slot.specs.Slot.{aligned_all, run_of, runs_of, soft_all, waiting_before, written_on}
use Rattle.receiver.specs.Symbol.{Input, Lent, heads, aligned, lent_after, runs, slot, soft_after, synced}
use Rattle.receiver_range.proofs.Symbols.{none-due}
use Rattle.sync_history.proofs.Theorems.{no_lock_before}
use Rattle.sync_history.specs.History.{LockBy}
use Rattle.sync_step.specs.Events.{no_events}
use Rattle.sync_tie.proofs.Claims.{heads_after_lock}
use Rattle.sync_tie.specs.Claims.{any_head, is_head}
use Rattle.sync_tie.specs.Pushes.{size_at}
use lib.Dec.{eqb, lit≤}
use lib.IntN.{ℤ}
use lib.ListN.{length}
use mathlib.Core.Bool.{false, true, ◌&&◌}
use mathlib.Core.List.{List, []}
use mathlib.Core.Path.{◌∙◌, ◌≡◌, ap, refl, sym}
use native.Mathlib.Omega.{arith}

-- ---- no slot, no soft bit
no_runs_lem : (r : Receiver) (x : Input) (l : Lent) → slot 9296 r x l ≡ [] → runs 9296 r x l ≡ no_runs
unfolding runs runs_of waiting_before aligned aligned_all run_of no_runs
no_runs_lem r x l e = rw e

no_soft : (r : Receiver) (x : Input) (l : Lent) → slot 9296 r x l ≡ [] → soft_after 9296 r x l ≡ l.soft
unfolding soft_after aligned aligned_all soft_all written_on
no_soft r x l e = rw e

-- ---- refused
module _ (s : System) (x : Input) (a : Accumulators) (b : SlotStore) (soft : List ℤ) where
  abbrev l : Lent
  l = lent_to s a b soft

  abbrev r : Receiver
  r = s.receiver

  pub refused_none : (why : Refusal) → symbol_refusal r x l ≡ Err why → NoSoft (symbol x a b soft) (told_by s (symbol x a b soft))
  unfolding told_by symbol_answer symbol_lent lent_to
  refused_none why e = record { runs = rw e; soft = rw e }

  told-zero : symbol_refusal r x l ≡ Ok tt → (told_by s (symbol x a b soft)).refusal ≡ 0
  unfolding told_by symbol_answer
  told-zero e = rw e

-- nor of a call that is no symbol's
pub no-soft-by : (s : System) (P : Call → Type 0) → ((x : Input) (a : Accumulators) (b : SlotStore) (soft : List ℤ) → P (symbol x a b soft) → NoSoft (symbol x a b soft) (told_by s (symbol x a b soft))) →
    (c : Call) → P c → NoSoft c (told_by s c)
unfolding told_by plain
no-soft-by s P k (symbol x a b soft) p = k x a b soft p
no-soft-by s P k (points bits ps q) p = record { runs = refl; soft = refl }
no-soft-by s P k (taps ts frame) p = record { runs = refl; soft = refl }
no-soft-by s P k (opens frame) p = record { runs = refl; soft = refl }
no-soft-by s P k ends p = record { runs = refl; soft = refl }
no-soft-by s P k (restarts at a) p = record { runs = refl; soft = refl }

pub none-refused : (s : System) (h : History) (t : Tied s h) (c : Call) → CallFits c → (refusal_in h c ≡ 0 → ⊥) → NoSoft c (told_by s c)
none-refused s h t c f k =
    no-soft-by s (λ (u : Call). CallFits u × (refusal_in h u ≡ 0 → ⊥))
    (λ x a b soft p.
    by_refusal (symbol_refusal s.receiver x (lent_to s a b soft))
    (λ e. absurd (p.1 (sym (call_steps s h (symbol x a b soft) t p.0).refusal ∙ told-zero s x a b soft e)))
    (refused_none s x a b soft)) c (f, k)

-- ---- accepted, and no head
module _ (s : System) (h : History) (t : Tied s h) (x : Input) (soft : List ℤ) (f : InputFits x) where
  abbrev l₀ : Lent
  l₀ = record { acc = s.acc; store = s.store; soft = soft }

  pub no-slot-none : symbol_refusal s.receiver x l₀ ≡ Ok tt → (heads 9296 s.receiver x l₀).due ≡ None → NoSoft (symbol x own own soft) (told_by s (symbol x own own soft))
  unfolding told_by lent_to handed_acc handed_store lent_after
  no-slot-none z e =
      let d = none-due s.receiver x l₀ t.coherent e in
      record {
        runs = ap (λ (y : Result Answer (Refused Receiver)). runs_told y) (answer_is s h t x soft f z) ∙ no_runs_lem s.receiver x l₀ d.0;
        soft = ap (λ (y : Lent). y.soft) (lent_is s h t x soft f z) ∙ no_soft s.receiver x l₀ d.0;
      }

  pub quiet_none : symbol_refusal s.receiver x l₀ ≡ Ok tt → any_head (synced 9296 s.receiver x l₀).events ≡ false → NoSoft (symbol x own own soft) (told_by s (symbol x own own soft))
  quiet_none z e = no-slot-none z (none-heads s.receiver x l₀ t.coherent e).1

pub one_not : ◌≡◌ {A = ℕ} 1 0 → ⊥
one_not e = omega arith

pub no_head : any_head no_events ≡ false
unfolding any_head is_head no_events
no_head = refl

module _ (s : System) (h : History) (t : Tied s h) where
  -- a store that gives 1
  pub wrong-none : (x : Input) (a : Accumulators) (b : SlotStore) (soft : List ℤ) → InputFits x → (own_acc a && own_store b) ≡ false → NoSoft (symbol x a b soft) (told_by s (symbol x a b soft))
  wrong-none x a b soft f z = none-refused s h t (symbol x a b soft) f (λ e. one_not (sym (says-1 s h t x a b soft z) ∙ e))

  -- ---- before lock: heads come after a lock on an earlier symbol
  head_lock : (x : Input) → any_head (events_with h x) ≡ true → (p : ℕ) × LockBy 9296 (size_at (with_symbol h x)) p (length h.pushes)
  unfolding events_with with_symbol
  head_lock x e =
      (heads_after_lock 9296 h.base h.last (with_symbol h x) (length h.pushes) (lit≤ tt) (omega (arith, grown-length h.base h.last h.pushes (push_of h x)))
      (kept-before h.base h.last h.pushes (push_of h x) t.kept)).after-lock e

  head-by : (c : Call) → any_head (events_in h c) ≡ true → (p : ℕ) × LockBy 9296 (size_at (stretch_with h c)) p (length h.pushes)
  unfolding events_in stretch_with
  head-by (symbol x a b soft) e =
      let c = symbol x a b soft in
      by_test (eqb (refusal_in h c) 0)
      (λ z.
      rw (if_yes (eqb (refusal_in h c) 0) (with_symbol h x) h.pushes z)
      (head_lock x (sym (ap any_head (if_yes (eqb (refusal_in h c) 0) (events_with h x) no_events z)) ∙ e)))
      (λ z. absurd (never (sym e ∙ ap any_head (if_no (eqb (refusal_in h c) 0) (events_with h x) no_events z) ∙ no_head)))
  head-by (points bits ps q) e = absurd (never (sym e ∙ no_head))
  head-by (taps ts frame) e = absurd (never (sym e ∙ no_head))
  head-by (opens frame) e = absurd (never (sym e ∙ no_head))
  head-by ends e = absurd (never (sym e ∙ no_head))
  head-by (restarts at a) e = absurd (never (sym e ∙ no_head))

  own-soft : (x : Input) (soft : List ℤ) → InputFits x → ((p : ℕ) → ¬ LockBy 9296 (size_at (stretch_with h (symbol x own own soft))) p (length h.pushes)) →
      NoSoft (symbol x own own soft) (told_by s (symbol x own own soft))
  unfolding stretch_with lent_to handed_acc handed_store
  own-soft x soft f k =
      let c = symbol x own own soft in
      let l : Lent = record { acc = s.acc; store = s.store; soft = soft } in
      by_refusal (symbol_refusal s.receiver x l)
      (λ e.
      let d = taken_0 (symbol_refusal s.receiver x l) (refusal_in h c) (own-refusal s h t x soft) e in
      quiet_none s h t x soft f e
      (by_test (any_head (synced 9296 s.receiver x l).events)
      (λ a.
      let w = head_lock x (sym (ap any_head (events-are s h t x soft)) ∙ a) in
      absurd (k w.0 (rw (if_yes (eqb (refusal_in h c) 0) (with_symbol h x) h.pushes d) w.1)))
      (λ a. a)))
      (refused_none s x own own soft)

  soft-by : (c : Call) → CallFits c → ((p : ℕ) → ¬ LockBy 9296 (size_at (stretch_with h c)) p (length h.pushes)) → NoSoft c (told_by s c)
  soft-by c f k =
      no-soft-by s (λ (u : Call). CallFits u × ((p : ℕ) → ¬ LockBy 9296 (size_at (stretch_with h u)) p (length h.pushes)))
      (λ x a b soft p.
      own-or-wrong (λ (u : Accumulators) (v : SlotStore). ((i : ℕ) → ¬ LockBy 9296 (size_at (stretch_with h (symbol x u v soft))) i (length h.pushes)) → NoSoft (symbol x u v soft) (told_by s (symbol x u v soft)))
      (own-soft x soft p.0)
      (λ u v z n. wrong-none x u v soft p.0 z) a b p.1) c (f, k)

  pub before-lock : (c : Call) → CallFits c → (rest : List Call) → BeforeLock h s c (told_by s c) rest
  before-lock c f rest =
      record {
        heads = λ e. head-by c (sym (ap any_head (call_steps s h c t f).events) ∙ e);
        soft = soft-by c f;
        losses = lost_locked s h t c;
        few = λ l p. no_lock_before (size_at (stretch_with h c)) p (length (stretch_with h c)) l;
      }
