-- The answer to a symbol, from what is known of it before its slot and after. Assumes nothing.
use Rattle.std.specs.Prelude.{None, Some, Result, Ok, Err, ⊤}
use Prim.Native.Nat.{ℕ, ◌^◌}
use mathlib.Core.Bool.{Bool, true, false, ◌&&◌, ◌||◌}
use mathlib.Core.List.{List, []}
use mathlib.Core.Path.{◌≡◌, ap, refl, ◌∙◌}
use lib.Dec.{eqb, leb}
use lib.IntN.{ℤ}
use lib.ListN.{get_or, length}
use Rattle.laws.specs.Choice.{when◌then◌else◌}
use Rattle.refusal.specs.declared.Refusal.{Refusal}
use Rattle.refusal.specs.declared.Refusal.TheVariants.{Stores, Words, Table, Arithmetic, Position, Counts}
use Rattle.refusal.specs.Refusals.{written}
use Rattle.sync_corr.specs.Correlate.{ones_of}
use Rattle.sync_step.specs.Step.{place_of}
use Rattle.sync.specs.Sync.{stored_of, symbol_of}
use Rattle.phase.specs.declared.WholeSlot.{WholeSlot}
use Rattle.frame.specs.declared.Back.{Back}
use Rattle.frame.specs.Stretch.{after_all}
use Rattle.receiver_slot.specs.declared.Runs.{Runs}
use Rattle.receiver_slot.specs.Slot.{aligned_all, corrected_all, due_symbols, overfull, run_of, runs_of, soft_all, waiting_before, written_on}
use Rattle.receiver_symbol.specs.declared.Ahead.{Ahead}
use Rattle.receiver.specs.declared.Receiver.{Receiver}
use Rattle.receiver.specs.Answers.{accepted_symbol, no_runs, range_refusal, stores_fit, symbol_answer, symbol_lent, symbol_refusal}
use Rattle.receiver_symbol.specs.Parts.{acc_by, accepted_by, after_by, ahead_by, aligned_now, answer_by, due_refusal, later_refusal, left_by, lent_refusal, next_refusal, phase_by, slot_store, soft_by, soon_refusal, state_refusal, store_by, stored_by, symbols_by, taken_by, tested, window_by}
use Rattle.receiver.specs.Ranges.{receiver_in_range}
use Rattle.receiver.specs.Symbol.{Input, Lent, acc_after, aligned, back23, enough, full, heads, left, lent_after, lost, next_of, past, receiver_after, rotated, runs, slot, slot_past, soft_after, store_after, sync_left, synced, window}

-- the refusals in order, cut where the slot comes in
cut : (a b c d e g h : Bool) →
    ◌≡◌ {A = Result ⊤ Refusal}
    (when a then when b then when c then when d then when e || g then Err Position else when h then Err Counts else Ok tt else Err Arithmetic else Err Table else Err Words else Err Stores)
    (tested
    (tested (when a then when b then when c then Ok tt else Err Table else Err Words else Err Stores)
    (tested (when d then Ok tt else Err Arithmetic) (when e then Err Position else Ok tt)))
    (when g then Err Position else when h then Err Counts else Ok tt))
unfolding when◌then◌else◌
cut false b c d e g h = refl
cut true false c d e g h = refl
cut true true false d e g h = refl
cut true true true false e g h = refl
cut true true true true true g h = refl
cut true true true true false g h = refl

-- a part of what is lent
written_ap : {A B : Type 0} (f : A → B) (t : Result ⊤ Refusal) (old new : A) → written t (f old) (f new) ≡ f (written t old new)
written_ap f (Ok x) old new = refl
written_ap f (Err why) old new = refl

module _ (r : Receiver) (x : Input) (l : Lent) where
  -- the symbol looked at
  abbrev seen : Ahead
  seen = ahead_by r x.xi x.xq x.f x.s x.table (get_or l.acc (place_of 9296 r.front.sync.run.t) 0)

  abbrev soon : Result ⊤ Refusal
  soon = soon_refusal r (length l.acc) (length l.store) (length l.soft) x.f x.s (length x.table)

  abbrev later : Result ⊤ Refusal
  later = later_refusal r seen x.f x.s x.table l.store

  refusal_is : symbol_refusal r x l ≡ tested soon later
  unfolding symbol_refusal stores_fit past full slot heads synced window rotated symbol_of soon_refusal lent_refusal state_refusal range_refusal next_refusal later_refusal due_refusal ahead_by window_by
  refusal_is =
      cut (eqb (length l.acc) 9296 && eqb (length l.store) 18592 && leb 44880 (length l.soft)) (ones_of x.f && ones_of x.s) (eqb (length x.table) 1024)
      (receiver_in_range r) (leb (2 ^ 62) (next_of r)) (slot_past 9296 (heads 9296 r x l).due) (full 9296 r x l)

  refusal-later : soon ≡ Ok tt → symbol_refusal r x l ≡ later
  refusal-later e = refusal_is ∙ ap (λ t. tested t later) e

  refusal-soon : (why : Refusal) → soon ≡ Err why → symbol_refusal r x l ≡ Err why
  refusal-soon why e = refusal_is ∙ ap (λ t. tested t later) e

  -- ---- not refused before its slot is known
  pub answer-later : soon ≡ Ok tt → answer_by r seen x.f x.s x.table l.store ≡ symbol_answer r x l
  unfolding symbol_answer accepted_symbol answer_by accepted_by receiver_after left lost sync_left enough heads synced window rotated symbol_of slot aligned runs symbols_by aligned_now taken_by after_by left_by phase_by ahead_by window_by
  answer-later e = rw (refusal-later e)

  pub acc-later : soon ≡ Ok tt → acc_by r seen x.f x.s x.table l.store (place_of 9296 r.front.sync.run.t) l.acc ≡ (symbol_lent r x l).acc
  unfolding symbol_lent acc_by lent_after acc_after synced rotated symbol_of ahead_by window_by
  acc-later e = rw (refusal-later e) (written_ap (λ (k : Lent). k.acc) later l (lent_after 9296 r x l))

  pub store-later : soon ≡ Ok tt → slot_store r seen x.f x.s x.table l.store ≡ (symbol_lent r x l).store
  unfolding symbol_lent slot_store store_by stored_by lent_after store_after lost enough back23 heads synced window rotated symbol_of ahead_by window_by
  store-later e = rw (refusal-later e) (written_ap (λ (k : Lent). k.store) later l (lent_after 9296 r x l))

  pub soft-later : soon ≡ Ok tt → soft_by r seen x.f x.s x.table l.store l.soft ≡ (symbol_lent r x l).soft
  unfolding symbol_lent soft_by aligned_now symbols_by lent_after soft_after aligned slot heads synced window rotated symbol_of ahead_by window_by
  soft-later e = rw (refusal-later e) (written_ap (λ (k : Lent). k.soft) later l (lent_after 9296 r x l))

  -- ---- refused at once
  pub answer-soon : (why : Refusal) → soon ≡ Err why → Err (record { why = why; state = r }) ≡ symbol_answer r x l
  unfolding symbol_answer
  answer-soon why e = rw (refusal-soon why e)

  pub lent-soon : (why : Refusal) → soon ≡ Err why → symbol_lent r x l ≡ l
  unfolding symbol_lent
  lent-soon why e = rw (refusal-soon why e)

-- ---- a symbol without a slot
module _ (r : Receiver) (a : Ahead) (f s table store : List ℤ) (d : a.heard.due ≡ None) where
  no-symbols : symbols_by r a f s table store ≡ []
  unfolding symbols_by due_symbols
  no-symbols = rw d

  no_refusal : later_refusal r a f s table store ≡ Ok tt
  unfolding later_refusal due_refusal slot_past due_symbols overfull when◌then◌else◌
  no_refusal = rw d

  none-aligned : aligned_now r a f s table store ≡ []
  unfolding aligned_now aligned_all
  none-aligned = rw no-symbols

  pub answer_none : Ok (taken_by r a r.back no_runs) ≡ answer_by r a f s table store
  unfolding answer_by accepted_by after_all runs_of waiting_before no_runs run_of when◌then◌else◌
  answer_none = rw (no_refusal, none-aligned, no-symbols)

  pub acc-none : (p : ℕ) (acc : List ℕ) → stored_of a.step.stores p acc ≡ acc_by r a f s table store p acc
  unfolding acc_by
  acc-none p acc = rw no_refusal

  pub store-none : store_by r a store ≡ slot_store r a f s table store
  unfolding slot_store
  store-none = rw no_refusal

  pub soft-none : (soft : List ℤ) → soft ≡ soft_by r a f s table store soft
  unfolding soft_by soft_all written_on
  soft-none soft = rw (no_refusal, none-aligned)

-- ---- .. and with one
module _ (r : Receiver) (a : Ahead) (f s table store : List ℤ) (w : WholeSlot) (d : a.heard.due ≡ Some w) where
  pub refusal-due : due_refusal r (Some w) f s table store ≡ later_refusal r a f s table store
  unfolding later_refusal
  refusal-due = rw d

  aligned-due : aligned_all r.back (corrected_all 9296 w table store) f s ≡ aligned_now r a f s table store
  unfolding aligned_now symbols_by due_symbols
  aligned-due = rw d

  module _ (e : later_refusal r a f s table store ≡ Ok tt) where
    pub answer-slot : (b : Back) (g : Runs) → b ≡ after_all r.back (corrected_all 9296 w table store) f s →
        g ≡ runs_of r.points (waiting_before r.back (corrected_all 9296 w table store)) (aligned_all r.back (corrected_all 9296 w table store) f s) →
        Ok (taken_by r a b g) ≡ answer_by r a f s table store
    unfolding answer_by accepted_by symbols_by due_symbols
    answer-slot b g eb eg = rw (eb, eg, aligned-due, e, d)

    pub acc-slot : (p : ℕ) (acc : List ℕ) → stored_of a.step.stores p acc ≡ acc_by r a f s table store p acc
    unfolding acc_by
    acc-slot p acc = rw e

    pub store-slot : store_by r a store ≡ slot_store r a f s table store
    unfolding slot_store
    store-slot = rw e

    pub soft-slot : (soft : List ℤ) → written_on (soft_all r.points (aligned_all r.back (corrected_all 9296 w table store) f s)) soft ≡ soft_by r a f s table store soft
    unfolding soft_by
    soft-slot soft = rw (e, aligned-due)

-- ---- .. that is refused
module _ (r : Receiver) (a : Ahead) (f s table store : List ℤ) (why : Refusal) (e : later_refusal r a f s table store ≡ Err why) where
  pub answer-full : Err (record { why = why; state = r }) ≡ answer_by r a f s table store
  unfolding answer_by
  answer-full = rw e

  pub acc-full : (p : ℕ) (acc : List ℕ) → acc ≡ acc_by r a f s table store p acc
  unfolding acc_by
  acc-full p acc = rw e

  pub store-full : store ≡ slot_store r a f s table store
  unfolding slot_store
  store-full = rw e

  pub soft-full : (soft : List ℤ) → soft ≡ soft_by r a f s table store soft
  unfolding soft_by
  soft-full soft = rw e
