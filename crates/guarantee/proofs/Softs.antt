-- The soft bits of a call: they stand in the buffer, fit it, and are true. Assumes nothing.
use Rattle.std.specs.Prelude.{Option, None, Some, Ok}
use Rattle.receiver_range.proofs.Codes.{let_through}
use Rattle.phase.specs.declared.Held.{Held}
use Rattle.phase.specs.declared.WholeSlot.{WholeSlot}
use Prim.Native.Nat.{ℕ, ◌≤◌}
use Rattle.frame.specs.declared.Back.{Back}
use Rattle.guarantee.proofs.Follow.{lent_is, own-or-wrong, says-1}
use Rattle.guarantee.proofs.Outs.{own_runs}
use Rattle.guarantee.proofs.Places.{all_placed}
use Rattle.guarantee.proofs.Quiet.{one_not}
use Rattle.guarantee.proofs.Refusals.{own-refusal}
use Rattle.guarantee.proofs.Tied.{Tied}
use Rattle.guarantee.specs.Calls.{Accumulators, Call, CallFits, InputFits, SlotStore, System, handed_acc, handed_store, lent_to, told_by}
use Rattle.guarantee.specs.Calls.{symbol, own}
use Rattle.guarantee.specs.Demand.{SingleClaim, SoftBits, places_in, places_of}
use Rattle.guarantee.specs.History.{History, refusal_in}
use Rattle.receiver.specs.Answers.{symbol_lent, symbol_refusal}
use Rattle.receiver_slot.specs.Aligned.{Between}
use Rattle.receiver_slot.specs.Aligned.Between.{five, none}
use Rattle.receiver_slot.specs.Slot.{aligned_all, due_symbols, soft_all, written_on}
use Rattle.receiver.specs.Symbol.{Input, Lent, aligned, heads, lent_after, slot, soft_after}
use Rattle.receiver_slot.specs.declared.Points.{Points}
use Rattle.receiver_slot.specs.declared.Runs.{Runs}
use Rattle.receiver.specs.declared.Receiver.{Receiver}
use Rattle.receiver_laws.proofs.Softs.{bit_true, softs_fit, softs_true}
use Rattle.receiver_range.specs.Coherent.{Adjoins, BackFits, Untouched}
use lib.IntN.{ℤ}
use lib.ListN.{length}
use mathlib.Core.List.{List, ◌++◌}
use mathlib.Core.Logic.{⊎_elim}
use mathlib.Core.Path.{◌∙◌, ◌≡◌, ap, subst, sym}
use native.Mathlib.Omega.{arith}

-- ---- what waits between calls: nothing, or the last five of a slot
none_between : (b : Back) → Untouched b → Between b.metas
none_between b u = none u.none

five_between : (at : ℕ) (b : Back) → Adjoins at b → Between b.metas
five_between at b a = five a.five a.first.j a.second.j a.third.j a.fourth.j a.fifth.j

between : (p : Option Held) (b : Back) → BackFits p b → Between b.metas
between None b u = none_between b u
between (Some x) b e = ⊎_elim (none_between b) (five_between x.head.at b) e

-- ---- they fit
due_fit : (d : Option WholeSlot) (p : Points) (b : Back) (table store f s : List ℤ) → p.bits ≤ 5 → Between b.metas → length (soft_all p (aligned_all b (due_symbols 9296 d table store) f s)) ≤ 44880
unfolding due_symbols
due_fit None p b table store f s l w = unfold soft_all aligned_all in omega arith
due_fit (Some k) p b table store f s l w = softs_fit p b k table store f s l w

module _ (s : System) (h : History) (t : Tied s h) (x : Input) (soft : List ℤ) (f : InputFits x) where
  abbrev l : Lent
  l = record { acc = s.acc; store = s.store; soft = soft }

  abbrev r : Receiver
  r = s.receiver

  all_fit : length (soft_all h.points (aligned 9296 r x l)) ≤ 44880
  unfolding aligned slot
  all_fit =
      due_fit (heads 9296 r x l).due h.points r.back x.table s.store x.f x.s (subst (λ (p : Points). p.bits ≤ 5) t.points t.coherent.points.bits)
      (between r.front.phase r.back t.coherent.back)

  all-stand : symbol_refusal r x l ≡ Ok tt → (symbol_lent r x l).soft ≡ written_on (soft_all h.points (aligned 9296 r x l)) soft
  unfolding lent_after soft_after
  all-stand z =
      ap (λ (y : Lent). y.soft) (lent_is s h t x soft f z) ∙ ap (λ (p : Points). written_on (soft_all p (aligned 9296 r x l)) soft) t.points

  placed_by : symbol_refusal r x l ≡ Ok tt →
      places_in (aligned 9296 r x l) ≡ places_of (told_by s (symbol x own own soft)).runs.tail ++ places_of (told_by s (symbol x own own soft)).runs.body
  placed_by z =
      all_placed r x l t.coherent
      ∙ ap (λ (u : Runs). places_of u.tail ++ places_of u.body) (sym (own_runs s h t x soft f z))

  own-softs : (rest : List Call) → refusal_in h (symbol x own own soft) ≡ 0 → SoftBits h s (symbol x own own soft) (told_by s (symbol x own own soft)) rest x (lent_to s own own soft)
  unfolding told_by lent_to handed_acc handed_store
  own-softs rest e =
      let z = let_through (symbol_refusal r x l) (own-refusal s h t x soft ∙ e) in
      record { placed = placed_by z; stand = all-stand z; fit = all_fit; are-true = softs_true h.points (aligned 9296 r x l) }

pub soft_bits : (s : System) (h : History) → Tied s h → (c : Call) → CallFits c → (rest : List Call) → (x : Input) (a : Accumulators) (b : SlotStore) (soft : List ℤ) →
    c ≡ symbol x a b soft → refusal_in h c ≡ 0 → SoftBits h s c (told_by s c) rest x (lent_to s a b soft)
soft_bits s h t c f rest x a b soft e z = subst (λ (k : Call). CallFits k → refusal_in h k ≡ 0 → SoftBits h s k (told_by s k) rest x (lent_to s a b soft)) (sym e) (go a b) f z
  where
    go : (a : Accumulators) (b : SlotStore) → CallFits (symbol x a b soft) → refusal_in h (symbol x a b soft) ≡ 0 →
        SoftBits h s (symbol x a b soft) (told_by s (symbol x a b soft)) rest x (lent_to s a b soft)
    go =
        own-or-wrong
        (λ (u : Accumulators) (v : SlotStore). CallFits (symbol x u v soft) → refusal_in h (symbol x u v soft) ≡ 0 → SoftBits h s (symbol x u v soft) (told_by s (symbol x u v soft)) rest x (lent_to s u v soft))
        (λ f z. own-softs s h t x soft f rest z)
        (λ u v w f z. absurd (one_not (sym (says-1 s h t x u v soft w) ∙ z)))

pub single : SingleClaim
single = bit_true
