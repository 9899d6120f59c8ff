-- Every call answers by the history, and keeps the tie. Assumes nothing.
use Prim.Native.Nat.{ℕ}
use Rattle.guarantee.proofs.Refusals.{own-refusal, wrong_fit}
use Rattle.guarantee.proofs.Taken.{symbol-tied}
use Rattle.guarantee.proofs.Tied.{Tied, events-are}
use Rattle.guarantee.specs.Calls.{Accumulators, Call, InputFits, SlotStore, System, after_call, handed_acc, handed_store, kept_acc, kept_store, lent_to, told_by}
use Rattle.guarantee.specs.Calls.{symbol, own, wrong}
use Rattle.guarantee.specs.History.{History, accepts, events_in, events_with, happens, own_acc, own_store, refusal_in, takes}
use Rattle.laws.specs.Choice.{if_no, if_yes, when◌then◌else◌}
use Rattle.refusal.specs.declared.Refusal.{Refusal}
use Rattle.refusal.specs.declared.Refusal.TheVariants.{Stores}
use Rattle.refusal.specs.declared.Refused.{Refused}
use Rattle.refusal.specs.Refusals.{code_of}
use Rattle.std.specs.Prelude.{Result, Ok, Err}
use Rattle.receiver.specs.declared.Answer.{Answer}
use Rattle.receiver.specs.declared.Receiver.{Receiver}
use Rattle.receiver.specs.Answers.{accepted_symbol, code_in, events_told, receiver_left, symbol_answer, symbol_lent, symbol_refusal}
use Rattle.receiver.specs.Symbol.{Input, Lent, acc_after, lent_after, receiver_after, runs, store_after, synced}
use Rattle.receiver_range.proofs.Codes.{by_refusal, code_shown, refused_0, taken_0}
use Rattle.receiver_range.proofs.Theorems.{symbol-accepts}
use Rattle.receiver_range.specs.Calls.{SymbolFits}
use Rattle.sync_step.specs.Events.{no_events}
use lib.Dec.{eqb}
use lib.IntN.{ℤ}
use lib.ListN.{length}
use mathlib.Core.Bool.{false, true, ◌&&◌}
use mathlib.Core.List.{List}
use mathlib.Core.Path.{◌∙◌, ◌≡◌, ap, ap₂, refl, sym}

pub record Steps (s : System) (h : History) (c : Call) : Type 0 where
  pub refusal : (told_by s c).refusal ≡ refusal_in h c
  pub events : (told_by s c).events ≡ events_in h c
  pub tied : Tied (after_call s c) (happens h c)

-- ---- a symbol with the receiver's own stores
module _ (s : System) (h : History) (t : Tied s h) (x : Input) (soft : List ℤ) (f : InputFits x) where
  abbrev r : Receiver
  r = s.receiver

  abbrev l : Lent
  l = record { acc = s.acc; store = s.store; soft = soft }

  abbrev c : Call
  c = symbol x own own soft

  pub fits : SymbolFits x l
  fits = record { xi = f.xi; xq = f.xq; table = f.table; acc = t.short }

  abbrev yes : Answer
  yes = record { receiver = receiver_after 9296 r x l; events = (synced 9296 r x l).events; runs = runs 9296 r x l }

  refusal-told : code_in (symbol_answer r x l) ≡ code_of (symbol_refusal r x l)
  unfolding symbol_answer
  refusal-told = code_shown (symbol_refusal r x l) r (accepted_symbol r x l)

  -- taken
  module _ (e : symbol_refusal r x l ≡ Ok tt) where
    pub answer_is : symbol_answer r x l ≡ Ok yes
    unfolding symbol_answer accepted_symbol
    answer_is = rw e

    pub lent_is : symbol_lent r x l ≡ lent_after 9296 r x l
    unfolding symbol_lent
    lent_is = rw e

    pub after_is : after_call s c ≡ record { receiver = receiver_after 9296 r x l; acc = acc_after 9296 r x l; store = store_after 9296 r x l }
    unfolding after_call lent_to handed_acc handed_store kept_acc kept_store lent_after
    after_is = ap₂ (λ (a : Result Answer (Refused Receiver)) (m : Lent). record { receiver = receiver_left a; acc = m.acc; store = m.store }) answer_is lent_is

    accepted_is : eqb (refusal_in h c) 0 ≡ true
    accepted_is = taken_0 (symbol_refusal r x l) (refusal_in h c) (own-refusal s h t x soft) e

    happens-is : happens h c ≡ takes h x
    unfolding happens accepts
    happens-is = if_yes (eqb (refusal_in h c) 0) (takes h x) h accepted_is

    events-taken : (told_by s c).events ≡ events_in h c
    unfolding told_by lent_to handed_acc handed_store events_in
    events-taken =
        ap (λ (a : Result Answer (Refused Receiver)). events_told a) answer_is ∙ events-are s h t x soft ∙ sym (if_yes (eqb (refusal_in h c) 0) (events_with h x) no_events accepted_is)

    taken-tied : Tied (after_call s c) (happens h c)
    taken-tied =
        let q = symbol-accepts r x l t.coherent fits e in
        rw (after_is, happens-is) (symbol-tied s h t x soft q.takes q.room)

  -- refused
  module _ (why : Refusal) (e : symbol_refusal r x l ≡ Err why) where
    refused-answer : symbol_answer r x l ≡ Err (record { why = why; state = r })
    unfolding symbol_answer
    refused-answer = rw e

    refused-lent : symbol_lent r x l ≡ l
    unfolding symbol_lent
    refused-lent = rw e

    refused-test : eqb (refusal_in h c) 0 ≡ false
    refused-test = refused_0 (symbol_refusal r x l) (refusal_in h c) why (own-refusal s h t x soft) e

    refused-after : after_call s c ≡ s
    unfolding after_call lent_to handed_acc handed_store kept_acc kept_store
    refused-after = ap₂ (λ (a : Result Answer (Refused Receiver)) (m : Lent). record { receiver = receiver_left a; acc = m.acc; store = m.store }) refused-answer refused-lent

    refused-happens : happens h c ≡ h
    unfolding happens
    refused-happens = if_no (eqb (refusal_in h c) 0) (accepts h c) h refused-test

    refused-events : (told_by s c).events ≡ events_in h c
    unfolding told_by lent_to handed_acc handed_store events_in
    refused-events = ap (λ (a : Result Answer (Refused Receiver)). events_told a) refused-answer ∙ sym (if_no (eqb (refusal_in h c) 0) (events_with h x) no_events refused-test)

  own-told : (told_by s c).refusal ≡ refusal_in h c
  unfolding told_by lent_to handed_acc handed_store
  own-told = refusal-told ∙ own-refusal s h t x soft

  own-steps : Steps s h c
  own-steps =
      record {
        refusal = own-told;
        events = by_refusal (symbol_refusal r x l) events-taken refused-events;
        tied = by_refusal (symbol_refusal r x l) taken-tied (λ why e. rw (refused-after why e, refused-happens why e) t);
      }

-- ---- a symbol with stores that give 1
-- the own stores after a call that left what it was given as it was
pub kept-own : (s : System) (u : Accumulators) → kept_acc s u (handed_acc s u) ≡ s.acc
unfolding kept_acc handed_acc
kept-own s own = refl
kept-own s (wrong acc e) = refl

pub kept_slot : (s : System) (u : SlotStore) → kept_store s u (handed_store s u) ≡ s.store
unfolding kept_store handed_store
kept_slot s own = refl
kept_slot s (wrong store e) = refl

module _ (s : System) (h : History) (t : Tied s h) (x : Input) (a : Accumulators) (b : SlotStore) (soft : List ℤ) (z : (own_acc a && own_store b) ≡ false) where
  abbrev lent : Lent
  lent = lent_to s a b soft

  gives-1 : symbol_refusal s.receiver x lent ≡ Err Stores
  unfolding symbol_refusal when◌then◌else◌
  gives-1 = rw (wrong_fit s a b soft z)

  pub says-1 : refusal_in h (symbol x a b soft) ≡ 1
  unfolding refusal_in when◌then◌else◌
  says-1 = rw z

  wrong_answer : symbol_answer s.receiver x lent ≡ Err (record { why = Stores; state = s.receiver })
  unfolding symbol_answer
  wrong_answer = rw gives-1

  pub wrong-lent : symbol_lent s.receiver x lent ≡ lent
  unfolding symbol_lent
  wrong-lent = rw gives-1

  wrong-after : after_call s (symbol x a b soft) ≡ s
  unfolding after_call lent_to
  wrong-after =
      ap₂ (λ (y : Result Answer (Refused Receiver)) (m : Lent). record { receiver = receiver_left y; acc = kept_acc s a m.acc; store = kept_store s b m.store }) wrong_answer wrong-lent
      ∙ ap₂ (λ (u : List ℕ) (v : List ℤ). record { receiver = s.receiver; acc = u; store = v }) (kept-own s a) (kept_slot s b)

  wrong-happens : happens h (symbol x a b soft) ≡ h
  unfolding happens when◌then◌else◌
  wrong-happens = rw says-1

  told-1 : (told_by s (symbol x a b soft)).refusal ≡ refusal_in h (symbol x a b soft)
  unfolding told_by
  told-1 = ap (λ (y : Result Answer (Refused Receiver)). code_in y) wrong_answer ∙ sym says-1

  no-events : (told_by s (symbol x a b soft)).events ≡ events_in h (symbol x a b soft)
  unfolding told_by events_in
  no-events = ap (λ (y : Result Answer (Refused Receiver)). events_told y) wrong_answer ∙ sym (if_no (eqb (refusal_in h (symbol x a b soft)) 0) (events_with h x) no_events (ap (λ (n : ℕ). eqb n 0) says-1))

  wrong-steps : Steps s h (symbol x a b soft)
  wrong-steps = record { refusal = told-1; events = no-events; tied = rw (wrong-after, wrong-happens) t }

own_wrong : (store : List ℤ) (e : eqb (length store) 18592 ≡ false) → (own_acc own && own_store (wrong store e)) ≡ false
unfolding own_acc own_store
own_wrong store e = refl

pub wrong_any : (acc : List ℕ) (e : eqb (length acc) 9296 ≡ false) (b : SlotStore) → (own_acc (wrong acc e) && own_store b) ≡ false
unfolding own_acc
wrong_any acc e b = refl

-- what holds with the receiver's own stores, and wherever one gives 1, holds of every symbol's call
pub own-or-wrong : (P : Accumulators → SlotStore → Type 0) → P own own → ((a : Accumulators) (b : SlotStore) → (own_acc a && own_store b) ≡ false → P a b) →
    (a : Accumulators) (b : SlotStore) → P a b
own-or-wrong P p q own own = p
own-or-wrong P p q own (wrong store e) = q own (wrong store e) (own_wrong store e)
own-or-wrong P p q (wrong acc e) b = q (wrong acc e) b (wrong_any acc e b)

pub symbol_steps : (s : System) (h : History) (x : Input) (a : Accumulators) (b : SlotStore) (soft : List ℤ) → Tied s h → InputFits x → Steps s h (symbol x a b soft)
symbol_steps s h x a b soft t f = own-or-wrong (λ a b. Steps s h (symbol x a b soft)) (own-steps s h t x soft f) (λ a b z. wrong-steps s h t x a b soft z) a b
