-- What comes out of a call: all of the slot that it completes but its last five, behind the five of the slot before. Assumes nothing.
use Rattle.std.specs.Prelude.{None, Some, Result, Ok}
use Rattle.refusal.specs.declared.Refused.{Refused}
use Rattle.receiver_range.proofs.Codes.{by_refusal, let_through, taken_0}
use Prim.Native.Nat.{ℕ, ◌+◌, ◌-◌, ◌≤◌}
use Rattle.frame.specs.Align.{joined_to}
use Rattle.frame.specs.declared.Back.{Back}
use Rattle.frame_line.specs.Line.{gap_at}
use Rattle.guarantee.proofs.Follow.{answer_is, own-or-wrong, says-1}
use Rattle.guarantee.proofs.Lists.{call_steps}
use Rattle.guarantee.proofs.Quiet.{no_head, no-slot-none, no-soft-by, quiet_none, refused_none, wrong-none}
use Rattle.guarantee.proofs.Refusals.{own-refusal}
use Rattle.guarantee.proofs.Slots.{Slots, first-due, later-due}
use Rattle.guarantee.proofs.Tied.{Tied, events-are, head-locked, next-is, told_in}
use Rattle.guarantee.specs.Calls.{Accumulators, Call, CallFits, InputFits, SlotStore, System, handed_acc, handed_store, lent_to, told_by}
use Rattle.guarantee.specs.Calls.{symbol, points, taps, opens, ends, restarts, own}
use Rattle.guarantee.specs.Demand.{NoSoft, SlotTold}
use Rattle.guarantee.specs.History.{History, events_in, events_with, refusal_in, run_in, runs_in, runs_with, slot_at}
use Rattle.laws.proofs.Tests.{by_test, never}
use Rattle.laws.specs.Choice.{if_no, if_yes, when◌then◌else◌}
use Rattle.phase.specs.declared.WholeSlot.{WholeSlot}
use Rattle.receiver.specs.Answers.{no_runs, runs_told, symbol_refusal}
use Rattle.receiver.specs.Symbol.{Input, Lent, aligned, heads, next_of, runs, synced}
use Rattle.receiver.specs.declared.Answer.{Answer}
use Rattle.receiver.specs.declared.Receiver.{Receiver}
use Rattle.receiver_laws.proofs.Aligned.{runs_are}
use Rattle.receiver_laws.specs.Aligned.{RunsAre}
use Rattle.receiver_range.proofs.Symbols.{due_is, slot_is}
use Rattle.receiver_range.specs.Coherent.{Adjoins, CoherentReceiver, Untouched}
use Rattle.receiver_slot.specs.Slot.{no_run, points_for}
use Rattle.receiver_slot.specs.declared.AlignedRun.{AlignedRun}
use Rattle.receiver_slot.specs.declared.Points.{Points}
use Rattle.sync_step.specs.Events.{no_events}
use Rattle.sync_tie.specs.Claims.{any_head}
use borrow.Author.Tests.{eq-eqb, eqb-false, eqb-true, ne_eqb}
use lib.Dec.{eqb}
use lib.IntN.{ℤ}
use mathlib.Core.Bool.{false, true}
use mathlib.Core.List.{List}
use mathlib.Core.Logic.{◌⊎◌, inl, inr}
use mathlib.Core.Path.{◌∙◌, ◌≡◌, ap, ap₂, sym}
use native.Mathlib.Omega.{arith}

-- a refused symbol tells no head
wrong_quiet : (h : History) (x : Input) (a : Accumulators) (b : SlotStore) (soft : List ℤ) → refusal_in h (symbol x a b soft) ≡ 1 → any_head (events_in h (symbol x a b soft)) ≡ false
unfolding events_in
wrong_quiet h x a b soft e =
    ap any_head (if_no (eqb (refusal_in h (symbol x a b soft)) 0) (events_with h x) no_events (ap (λ (n : ℕ). eqb n 0) e)) ∙ no_head

-- a run by its numbers
run_is : (u : AlignedRun) {a j n b : ℕ} → u.at ≡ a → u.j ≡ j → u.count ≡ n → u.bits ≡ b → u ≡ record { at = a; j = j; count = n; bits = b }
run_is u p q r s = λ i. record { at = p i; j = q i; count = r i; bits = s i }

-- a slot that adjoins, or the first, finds the alignment as it is
pub no_gap_first : (b : Back) (at : ℕ) → Untouched b → joined_to b at ≡ b
unfolding joined_to gap_at when◌then◌else◌
no_gap_first b at u = rw u.last

pub no_gap_next : (b : Back) (at : ℕ) → Adjoins at b → joined_to b at ≡ b
unfolding joined_to gap_at when◌then◌else◌
no_gap_next b at a = rw (a.last, eq-eqb (a.before + 1) at a.next)

module _ (r : Receiver) (x : Input) (l : Lent) (c : CoherentReceiver r) (w : WholeSlot) (e : (heads 9296 r x l).due ≡ Some w) where
  pub few : r.back.metas.count ≤ 5
  few = go (due_is r x l c w e).back
    where
      go : Untouched r.back ⊎ Adjoins w.head.at r.back → r.back.metas.count ≤ 5
      go (inl u) = omega (arith, u.none)
      go (inr u) = omega (arith, u.five)

  pub outs : RunsAre r.points r.back w x.table l.store (runs 9296 r x l)
  unfolding runs aligned
  outs = rw (slot_is r x l c w e) (runs_are r.points r.back w x.table l.store x.f x.s few)

  -- from where
  abbrev begins-at : Type 0
  begins-at = w.head.at + 9296 + 23 ≡ next_of r

  body_run : begins-at → (runs 9296 r x l).body ≡ record { at = next_of r - 23 - 9296; j = 0; count = 9291; bits = r.points.bits }
  unfolding points_for
  body_run q = run_is _ (outs.body_at ∙ omega (arith, q)) outs.body_j outs.body_count outs.body_begins.bits_are

  -- those that waited
  pub first_run : Untouched r.back → (runs 9296 r x l).tail ≡ no_run
  first_run u = outs.tail_none (outs.tail_count ∙ ap (λ (b : Back). b.metas.count) (no_gap_first r.back w.head.at u) ∙ u.none)

  next-run : begins-at → Adjoins w.head.at r.back → (runs 9296 r x l).tail ≡ record { at = next_of r - 23 - 9296 - 5; j = 9291; count = 5; bits = r.points.bits }
  unfolding points_for
  next-run q u =
      let n : (runs 9296 r x l).tail.count ≡ 5 = outs.tail_count ∙ ap (λ (b : Back). b.metas.count) (no_gap_next r.back w.head.at u) ∙ u.five in
      let b = outs.tail_begins (omega (arith, n)) in
      run_is _ (b.at_is ∙ omega (arith, q, u.first.at_is)) (b.j_is ∙ omega (arith, u.first.j)) n b.bits_are

  tail-run : (k : ℕ) → Slots k r.front.phase r.back → 1 ≤ k → begins-at →
      (runs 9296 r x l).tail ≡ (when eqb k 1 then no_run else record { at = next_of r - 23 - 9296 - 5; j = 9291; count = 5; bits = r.points.bits })
  unfolding when◌then◌else◌
  tail-run k s z q = go (due_is r x l c w e).back
    where
      go : Untouched r.back ⊎ Adjoins w.head.at r.back →
          (runs 9296 r x l).tail ≡ (when eqb k 1 then no_run else record { at = next_of r - 23 - 9296 - 5; j = 9291; count = 5; bits = r.points.bits })
      go (inl u) =
          by_test (eqb k 1) (λ t. rw t (first_run u))
          (λ t. absurd (omega (arith, s.full_line (omega (arith, z, eqb-false k 1 t)), u.empty)))
      go (inr u) =
          by_test (eqb k 1) (λ t. absurd (omega (arith, s.empty (omega (arith, eqb-true k 1 t)), u.full)))
          (λ t. rw t (next-run q u))

-- ---- a symbol with the receiver's own stores
module _ (s : System) (h : History) (t : Tied s h) (x : Input) (soft : List ℤ) (f : InputFits x) where
  abbrev l₀ : Lent
  l₀ = record { acc = s.acc; store = s.store; soft = soft }

  abbrev r₀ : Receiver
  r₀ = s.receiver

  pub own_runs : symbol_refusal r₀ x l₀ ≡ Ok tt → (told_by s (symbol x own own soft)).runs ≡ runs 9296 r₀ x l₀
  unfolding told_by lent_to handed_acc handed_store
  own_runs z = ap (λ (y : Result Answer (Refused Receiver)). runs_told y) (answer_is s h t x soft f z)

  -- a later head of the stretch
  later-runs : symbol_refusal r₀ x l₀ ≡ Ok tt → any_head (synced 9296 r₀ x l₀).events ≡ true → 1 ≤ told_in h → (told_by s (symbol x own own soft)).runs ≡ runs_with h
  unfolding runs_with run_in slot_at
  later-runs z a k =
      let d = later-due r₀ x l₀ t.coherent a (head-locked s h t x soft a) (t.slots.held k) in
      let p : Points = r₀.points in
      let b = body_run r₀ x l₀ t.coherent d.0 d.1 d.2 in
      let w = tail-run r₀ x l₀ t.coherent d.0 d.1 (told_in h) t.slots k d.2 in
      let n = next-is s h t in
      own_runs z
      ∙ ap₂ (λ (u v : AlignedRun). record { tail = u; body = v }) w b
      ∙ ap₂ (λ (i : ℕ) (q : Points). record { tail = when eqb (told_in h) 1 then no_run else record { at = i - 23 - 9296 - 5; j = 9291; count = 5; bits = q.bits }; body = record { at = i - 23 - 9296; j = 0; count = 9291; bits = q.bits } }) n t.points
      ∙ sym (if_no (eqb (told_in h) 0) no_runs _ (ne_eqb (told_in h) 0 (λ e. omega (arith, e, k))))

  -- nothing without a head, nor with the first of the stretch
  own-none : any_head (events_in h (symbol x own own soft)) ≡ false → NoSoft (symbol x own own soft) (told_by s (symbol x own own soft))
  unfolding events_in lent_to handed_acc handed_store
  own-none a =
      let c = symbol x own own soft in
      by_refusal (symbol_refusal r₀ x l₀)
      (λ e.
      let d = taken_0 (symbol_refusal r₀ x l₀) (refusal_in h c) (own-refusal s h t x soft) e in
      quiet_none s h t x soft f e
      (ap any_head (events-are s h t x soft) ∙ sym (ap any_head (if_yes (eqb (refusal_in h c) 0) (events_with h x) no_events d)) ∙ a))
      (refused_none s x own own soft)

  own_first : told_in h ≡ 0 → NoSoft (symbol x own own soft) (told_by s (symbol x own own soft))
  unfolding lent_to handed_acc handed_store
  own_first k =
      by_refusal (symbol_refusal r₀ x l₀)
      (λ e.
      by_test (any_head (synced 9296 r₀ x l₀).events)
      (λ a. due-none e (first-due r₀ x l₀ t.coherent a (t.slots.idle k)))
      (λ a. quiet_none s h t x soft f e a))
      (refused_none s x own own soft)
    where
      due-none : symbol_refusal r₀ x l₀ ≡ Ok tt → (heads 9296 r₀ x l₀).due ≡ None → NoSoft (symbol x own own soft) (told_by s (symbol x own own soft))
      due-none z d = no-slot-none s h t x soft f z d

-- ---- every call
module _ (s : System) (h : History) (t : Tied s h) where
  own-head : (x : Input) (soft : List ℤ) → InputFits x → 1 ≤ told_in h → any_head (events_in h (symbol x own own soft)) ≡ true → (told_by s (symbol x own own soft)).runs ≡ runs_with h
  unfolding events_in
  own-head x soft f k a =
      let c = symbol x own own soft in
      by_test (eqb (refusal_in h c) 0)
      (λ e.
      later-runs s h t x soft f (let_through _ (own-refusal s h t x soft ∙ eqb-true (refusal_in h c) 0 e))
      (ap any_head (events-are s h t x soft) ∙ sym (ap any_head (if_yes (eqb (refusal_in h c) 0) (events_with h x) no_events e)) ∙ a) k)
      (λ e. absurd (never (sym a ∙ ap any_head (if_no (eqb (refusal_in h c) 0) (events_with h x) no_events e) ∙ no_head)))

  head-runs : (c : Call) → CallFits c → any_head (events_in h c) ≡ true → 1 ≤ told_in h → (told_by s c).runs ≡ runs_with h
  head-runs (symbol x a b soft) f e k =
      own-or-wrong (λ (u : Accumulators) (v : SlotStore). any_head (events_in h (symbol x u v soft)) ≡ true → (told_by s (symbol x u v soft)).runs ≡ runs_with h)
      (own-head x soft f k)
      (λ u v z d. absurd (never (sym d ∙ wrong_quiet h x u v soft (says-1 s h t x u v soft z)))) a b e
  head-runs (points bits ps q) f a k = unfold events_in in absurd (never (sym a ∙ no_head))
  head-runs (taps ts frame) f a k = unfold events_in in absurd (never (sym a ∙ no_head))
  head-runs (opens frame) f a k = unfold events_in in absurd (never (sym a ∙ no_head))
  head-runs ends f a k = unfold events_in in absurd (never (sym a ∙ no_head))
  head-runs (restarts at u) f a k = unfold events_in in absurd (never (sym a ∙ no_head))

  none-by : (c : Call) → CallFits c → any_head (events_in h c) ≡ false → NoSoft c (told_by s c)
  none-by c f e =
      no-soft-by s (λ (u : Call). CallFits u × (any_head (events_in h u) ≡ false))
      (λ x a b soft p.
      own-or-wrong (λ (u : Accumulators) (v : SlotStore). any_head (events_in h (symbol x u v soft)) ≡ false → NoSoft (symbol x u v soft) (told_by s (symbol x u v soft)))
      (own-none s h t x soft p.0)
      (λ u v z d. wrong-none s h t x u v soft p.0 z) a b p.1) c (f, e)

  first_by : (c : Call) → CallFits c → told_in h ≡ 0 → NoSoft c (told_by s c)
  first_by c f k =
      no-soft-by s CallFits
      (λ x a b soft p.
      own-or-wrong (λ (u : Accumulators) (v : SlotStore). NoSoft (symbol x u v soft) (told_by s (symbol x u v soft))) (own_first s h t x soft p k) (λ u v z. wrong-none s h t x u v soft p z) a b) c f

  first_runs : told_in h ≡ 0 → runs_with h ≡ no_runs
  unfolding runs_with
  first_runs k = if_yes (eqb (told_in h) 0) no_runs _ (eq-eqb (told_in h) 0 k)

  -- ---- the runs, and nothing otherwise
  pub runs_by : (c : Call) → CallFits c → (told_by s c).runs ≡ runs_in h c
  unfolding runs_in
  runs_by c f =
      by_test (any_head (events_in h c))
      (λ a.
      by_test (eqb (told_in h) 0)
      (λ k. let z = eqb-true (told_in h) 0 k in (first_by c f z).runs ∙ sym (first_runs z))
      (λ k. head-runs c f a (omega (arith, eqb-false (told_in h) 0 k)))
      ∙ sym (if_yes (any_head (events_in h c)) (runs_with h) no_runs a))
      (λ a. (none-by c f a).runs ∙ sym (if_no (any_head (events_in h c)) (runs_with h) no_runs a))

  pub slots-told : (c : Call) → CallFits c → (rest : List Call) → SlotTold h s c (told_by s c) rest
  slots-told c f rest = let e = ap any_head (call_steps s h c t f).events in record { no_head = λ a. none-by c f (sym e ∙ a); first_head = first_by c f }
