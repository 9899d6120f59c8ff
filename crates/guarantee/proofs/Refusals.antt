-- Refusals are those of the history. Assumes nothing.
use Prim.Native.Nat.{ℕ, ◌+◌, ◌^◌}
use Rattle.guarantee.proofs.Slots.{Sums, symbol-sums, trainings_by}
use Rattle.guarantee.proofs.Taken.{trainings-are}
use Rattle.guarantee.proofs.Tied.{SumsTied, Tied, acc-long, head-locked, next-is, told_in}
use Rattle.guarantee.specs.Calls.{Accumulators, SlotStore, System, handed_acc, handed_store, lent_to}
use Rattle.guarantee.specs.Calls.{symbol, own, wrong}
use Rattle.guarantee.specs.History.{History, Training, full_by, next_in, own_acc, own_store, refusal_in, trainings_with}
use Rattle.guarantee.specs.History.{none, since}
use Rattle.laws.proofs.Tests.{and_both, never}
use Rattle.laws.specs.Choice.{if_yes, when◌then◌else◌}
use Rattle.refusal.specs.declared.Refusal.{Refusal}
use Rattle.refusal.specs.declared.Refusal.TheVariants.{Stores, Words, Table, Arithmetic, Position, Counts}
use Rattle.refusal.specs.Refusals.{code_of}
use Rattle.std.specs.Prelude.{Result, Ok, Err, ⊤}
use Rattle.receiver_range.proofs.Codes.{code_chosen}
use Rattle.receiver.specs.declared.Receiver.{Receiver}
use Rattle.receiver.specs.Answers.{stores_fit, symbol_refusal}
use Rattle.receiver.specs.Ranges.{receiver_in_range}
use Rattle.receiver.specs.Symbol.{Input, Lent, full, past, synced}
use Rattle.receiver_range.proofs.InRange.{in_range}
use Rattle.receiver_range.proofs.Symbols.{past_is}
use Rattle.sync_corr.specs.Correlate.{ones_of}
use Rattle.sync_tie.specs.Claims.{any_head}
use borrow.Author.Tests.{eq-eqb}
use lib.Dec.{eqb, leb, ltb}
use lib.IntN.{ℤ}
use lib.ListN.{length}
use mathlib.Core.Bool.{Bool, false, true, ◌&&◌}
use mathlib.Core.List.{List}
use Rattle.std.proofs.lemmas.Bool.{and_left, and_right}
use mathlib.Core.Path.{◌∙◌, ◌≡◌, ap, ap₂, refl}

-- 8, by the sums of the history
full_by_lem : (u : Training) (r : Receiver) (x : Input) (l : Lent) (n : ℕ) → SumsTied u r.back.eq → Sums r x l n → full 9296 r x l ≡ full_by u n
unfolding full_by
full_by_lem none r x l n t k = k.closed t
full_by_lem (since frame m) r x l n t k = k.full_is t.0 ∙ ap (λ (v : ℕ). ltb 4194304 (v + n)) t.1

module _ (s : System) (h : History) (t : Tied s h) (x : Input) (soft : List ℤ) where
  abbrev r : Receiver
  r = s.receiver

  abbrev l : Lent
  l = record { acc = s.acc; store = s.store; soft = soft }

  trainings-is : trainings_by (told_in h) (any_head (synced 9296 r x l).events) ≡ trainings_with h x
  trainings-is = trainings-are s h t x soft

  full_is : ones_of x.f ≡ true → ones_of x.s ≡ true → full 9296 r x l ≡ full_by h.sums (trainings_with h x)
  full_is hf hs =
      full_by_lem h.sums r x l (trainings_by (told_in h) (any_head (synced 9296 r x l).events)) t.sums
      (symbol-sums r x l t.coherent hf hs (told_in h) t.slots (head-locked s h t x soft))
      ∙ ap (full_by h.sums) trainings-is

  -- 7, by the position of the history
  past_by : past 9296 r x l ≡ leb (2 ^ 62) (next_in h)
  past_by = past_is r x l t.coherent ∙ ap (leb (2 ^ 62)) (next-is s h t)

  pub own-fit : stores_fit l ≡ (true && true && leb 44880 (length soft))
  unfolding stores_fit
  own-fit = rw (eq-eqb (length s.acc) 9296 (acc-long s h t), eq-eqb (length s.store) 18592 t.store)

  pub own-refusal : code_of (symbol_refusal r x l) ≡ refusal_in h (symbol x own own soft)
  unfolding symbol_refusal refusal_in own_acc own_store
  own-refusal =
      let ones = ones_of x.f && ones_of x.s in
      let long = eqb (length x.table) 1024 in
      ap (λ (v : Bool). code_of (when v then when ones then when long then when receiver_in_range r then when past 9296 r x l then Err Position else when full 9296 r x l then Err Counts else Ok tt else Err Arithmetic else Err Table else Err Words else Err Stores)) own-fit
      ∙ code_chosen (true && true && leb 44880 (length soft)) _ (Err Stores) _ 1
      (λ a.
      code_chosen ones _ (Err Words) _ 2
      (λ o.
      let b = and_both (ones_of x.f) (ones_of x.s) o in
      code_chosen long _ (Err Table) _ 3
      (λ u.
      ap (λ (v : Result ⊤ Refusal). code_of v) (if_yes (receiver_in_range r) _ (Err Arithmetic) (in_range r t.coherent))
      ∙ code_chosen (past 9296 r x l) (Err Position) _ 7 _ (λ p. refl) (λ p. code_chosen (full 9296 r x l) (Err Counts) (Ok tt) 8 0 (λ q. refl) (λ q. refl))
      ∙ ap₂ (λ (p q : Bool). when p then 7 else when q then 8 else 0) past_by (full_is b.0 b.1))
      (λ u. refl))
      (λ o. refl))
      (λ a. refl)

-- ---- stores that give 1
pub wrong_fit : (s : System) (a : Accumulators) (b : SlotStore) (soft : List ℤ) → (own_acc a && own_store b) ≡ false → stores_fit (lent_to s a b soft) ≡ false
unfolding stores_fit lent_to handed_acc handed_store own_acc own_store
wrong_fit s own own soft e = absurd (never e)
wrong_fit s own (wrong store d) soft e = and_left (eqb (length s.acc) 9296 && eqb (length store) 18592) (leb 44880 (length soft)) (and_right (eqb (length s.acc) 9296) (eqb (length store) 18592) d)
wrong_fit s (wrong acc d) own soft e = rw d
wrong_fit s (wrong acc d) (wrong store f) soft e = rw d
