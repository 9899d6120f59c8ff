-- The aligned symbols of a call are those that its runs tell of. Assumes nothing.
use Rattle.std.specs.Prelude.{Option, None, Some}
use Prim.Native.Nat.{ℕ, zero, suc, ◌+◌}
use Rattle.frame.specs.Align.{joined_to}
use Rattle.frame.specs.declared.AlignedSymbol.{AlignedSymbol}
use Rattle.frame.specs.declared.Back.{Back}
use Rattle.frame_line.specs.Line.{meta_of}
use Rattle.frame_line.specs.Waiting.{waiting_of}
use Rattle.frame_line.specs.declared.Meta.{Meta}
use Rattle.frame_line.specs.declared.Metas.{Metas}
use Rattle.guarantee.proofs.Outs.{few, first_run, no_gap_first, no_gap_next, outs}
use Rattle.guarantee.specs.Demand.{Place, places_in, places_of}
use Rattle.laws.proofs.Lists.{firsts-ext}
use Rattle.laws.specs.Ranges.{firsts}
use Rattle.phase.specs.Phase.{corrected_of}
use Rattle.phase.specs.declared.WholeSlot.{WholeSlot}
use Rattle.receiver.specs.Symbol.{Input, Lent, aligned, heads, runs}
use Rattle.receiver.specs.declared.Receiver.{Receiver}
use Rattle.receiver_range.proofs.Symbols.{due_is, none-due, slot_is}
use Rattle.receiver_range.specs.Coherent.{Adjoins, CoherentReceiver, Untouched}
use Rattle.receiver_slot.proofs.Aligned.{aligned_are}
use Rattle.receiver_slot.specs.Aligned.{comes_out, metas_in}
use Rattle.receiver_slot.specs.Slot.{aligned_all, no_run, run_of, runs_of, waiting_before}
use Rattle.receiver_slot.specs.declared.AlignedRun.{AlignedRun}
use mathlib.Core.List.{List, [], ◌∷◌, ◌++◌}
use mathlib.Core.Logic.{◌⊎◌, inl, inr}
use mathlib.Core.Path.{◌∙◌, ◌≡◌, ap, ap₂, refl, sym}
use native.Mathlib.Omega.{arith}

-- ---- by what was noted of the symbols
abbrev place_of : Meta → Place
place_of m = record { at = m.at; j = m.j }

places_by : List Meta → List Place
places_by [] = []
places_by (m ∷ ms) = place_of m ∷ places_by ms

places_by_lem : (given : List AlignedSymbol) → places_in given ≡ places_by (metas_in given)
unfolding places_in metas_in places_by
places_by_lem [] = refl
places_by_lem (a ∷ rest) = ap (λ (l : List Place). place_of a.meta ∷ l) (places_by_lem rest)

by_append : (xs ys : List Meta) → places_by (xs ++ ys) ≡ places_by xs ++ places_by ys
unfolding places_by
by_append [] ys = refl
by_append (x ∷ xs) ys = ap (λ (l : List Place). place_of x ∷ l) (by_append xs ys)

by_firsts : (g : ℕ → Meta) (n : ℕ) → places_by (firsts g n) ≡ firsts (λ (i : ℕ). place_of (g i)) n
unfolding places_by firsts
by_firsts g zero = refl
by_firsts g (suc n) = by_append (firsts g n) (g n ∷ []) ∙ ap (λ (l : List Place). l ++ (place_of (g n) ∷ [])) (by_firsts g n)

place_is : {a b c d : ℕ} → a ≡ c → b ≡ d → ◌≡◌ {A = Place} (record { at = a; j = b }) (record { at = c; j = d })
place_is p q = λ i. record { at = p i; j = q i }

-- a run by its numbers
run-places : (u : AlignedRun) {a j n : ℕ} → u.at ≡ a → u.j ≡ j → u.count ≡ n → places_of u ≡ firsts (λ (i : ℕ). record { at = a + i; j = j + i }) n
unfolding places_of
run-places u p q r = λ k. firsts (λ (i : ℕ). record { at = p k + i; j = q k + i }) (r k)

no_places : places_of no_run ≡ []
unfolding places_of no_run firsts
no_places = refl

-- ---- those that waited
none_wait : (w : Metas) → w.count ≡ 0 → waiting_of w ≡ []
unfolding waiting_of
none_wait w e = rw e

five_wait : (w : Metas) → w.count ≡ 5 → waiting_of w ≡ w.first ∷ w.second ∷ w.third ∷ w.fourth ∷ w.fifth ∷ []
unfolding waiting_of
five_wait w e = rw e

five_places : (f : ℕ → Place) {a b c d e : Place} → a ≡ f 0 → b ≡ f 1 → c ≡ f 2 → d ≡ f 3 → e ≡ f 4 → a ∷ b ∷ c ∷ d ∷ e ∷ [] ≡ firsts f 5
unfolding firsts
five_places f p q r s t = λ i. p i ∷ q i ∷ r i ∷ s i ∷ t i ∷ []

module _ (r : Receiver) (x : Input) (l : Lent) (c : CoherentReceiver r) (w : WholeSlot) (e : (heads 9296 r x l).due ≡ Some w) where
  abbrev g : ℕ → Meta
  g j = meta_of (corrected_of w x.table l.store j)

  noted : metas_in (aligned 9296 r x l) ≡ waiting_of (joined_to r.back w.head.at).metas ++ firsts g 9291
  unfolding aligned comes_out
  noted = rw (slot_is r x l c w e) (aligned_are r.back w x.table l.store x.f x.s (few r x l c w e))

  body-places : places_by (firsts g 9291) ≡ places_of (runs 9296 r x l).body
  unfolding meta_of corrected_of
  body-places =
      let o = outs r x l c w e in
      let n : ℕ = 9291 in
      by_firsts g n
      ∙ firsts-ext (λ (i : ℕ). place_of (g i)) (λ (i : ℕ). record { at = w.head.at + i; j = 0 + i }) n (λ i k. place_is refl (omega arith))
      ∙ sym (run-places (runs 9296 r x l).body o.body_at o.body_j o.body_count)

  tail-first : Untouched r.back → places_by (waiting_of (joined_to r.back w.head.at).metas) ≡ places_of (runs 9296 r x l).tail
  unfolding places_by
  tail-first u =
      ap (λ (b : Back). places_by (waiting_of b.metas)) (no_gap_first r.back w.head.at u)
      ∙ ap places_by (none_wait r.back.metas u.none)
      ∙ sym (ap places_of (first_run r x l c w e u) ∙ no_places)

  tail-next : Adjoins w.head.at r.back → places_by (waiting_of (joined_to r.back w.head.at).metas) ≡ places_of (runs 9296 r x l).tail
  unfolding places_by
  tail-next u =
      let o = outs r x l c w e in
      let m = r.back.metas in
      let n : (runs 9296 r x l).tail.count ≡ 5 = o.tail_count ∙ ap (λ (b : Back). b.metas.count) (no_gap_next r.back w.head.at u) ∙ u.five in
      let b = o.tail_begins (omega (arith, n)) in
      ap (λ (b : Back). places_by (waiting_of b.metas)) (no_gap_next r.back w.head.at u)
      ∙ ap places_by (five_wait m u.five)
      ∙ five_places (λ (i : ℕ). record { at = m.first.at + i; j = m.first.j + i })
      (place_is (omega arith) (omega arith))
      (place_is (omega (arith, u.first.at_is, u.second.at_is)) (omega (arith, u.first.j, u.second.j)))
      (place_is (omega (arith, u.first.at_is, u.third.at_is)) (omega (arith, u.first.j, u.third.j)))
      (place_is (omega (arith, u.first.at_is, u.fourth.at_is)) (omega (arith, u.first.j, u.fourth.j)))
      (place_is (omega (arith, u.first.at_is, u.fifth.at_is)) (omega (arith, u.first.j, u.fifth.j)))
      ∙ sym (run-places (runs 9296 r x l).tail b.at_is b.j_is n)

  tail-places : places_by (waiting_of (joined_to r.back w.head.at).metas) ≡ places_of (runs 9296 r x l).tail
  tail-places = go (due_is r x l c w e).back
    where
      go : Untouched r.back ⊎ Adjoins w.head.at r.back → places_by (waiting_of (joined_to r.back w.head.at).metas) ≡ places_of (runs 9296 r x l).tail
      go (inl u) = tail-first u
      go (inr u) = tail-next u

  slot_placed : places_in (aligned 9296 r x l) ≡ places_of (runs 9296 r x l).tail ++ places_of (runs 9296 r x l).body
  slot_placed =
      places_by_lem (aligned 9296 r x l)
      ∙ ap places_by noted
      ∙ by_append (waiting_of (joined_to r.back w.head.at).metas) (firsts g 9291)
      ∙ ap₂ (λ (u v : List Place). u ++ v) tail-places body-places

-- ---- with no slot there are none
module _ (r : Receiver) (x : Input) (l : Lent) (c : CoherentReceiver r) where
  none-placed : (heads 9296 r x l).due ≡ None → places_in (aligned 9296 r x l) ≡ places_of (runs 9296 r x l).tail ++ places_of (runs 9296 r x l).body
  unfolding runs runs_of waiting_before aligned aligned_all run_of places_in places_of no_run firsts
  none-placed e = rw (none-due r x l c e).0

  pub all_placed : places_in (aligned 9296 r x l) ≡ places_of (runs 9296 r x l).tail ++ places_of (runs 9296 r x l).body
  all_placed = go (heads 9296 r x l).due refl
    where
      go : (d : Option WholeSlot) → (heads 9296 r x l).due ≡ d → places_in (aligned 9296 r x l) ≡ places_of (runs 9296 r x l).tail ++ places_of (runs 9296 r x l).body
      go None e = none-placed e
      go (Some w) e = slot_placed r x l c w e
