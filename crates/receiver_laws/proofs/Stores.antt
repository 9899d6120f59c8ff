-- A symbol's call does not see what its slot store holds beyond the held slot's symbols. Assumes nothing.
use Rattle.std.specs.Prelude.{Option, None, Some, Result, Ok, Err, ⊤}
use Rattle.refusal.specs.Refusals.{answered, written}
use Rattle.refusal.specs.declared.Refusal.{Refusal}
use Rattle.phase.specs.declared.Held.{Held}
use Rattle.phase.specs.declared.WholeSlot.{WholeSlot}
use Prim.Native.Nat.{ℕ, zero, suc, ◌+◌, ◌<◌}
use Rattle.laws.proofs.Tests.{by_test}
use Rattle.laws.specs.Choice.{if_no, if_yes, when◌then◌else◌}
use Rattle.laws.specs.Ranges.{firsts}
use Rattle.phase.specs.Phase.{begun_of, corrected_of, due_in, pushed_in, stored_in}
use Rattle.phase_range.proofs.Theorems.{agree_pushed, corrected_alike, length_stored}
use Rattle.phase_range.specs.Calls.{AgreeOn}
use Rattle.receiver.specs.declared.Receiver.{Receiver}
use Rattle.receiver_slot.specs.Slot.{corrected_all, due_symbols}
use Rattle.receiver.specs.Started.{kept_of, started}
use Rattle.receiver.specs.Symbol.{Input, Lent, aligned, acc_after, back23, enough, full, heads, left, lent_after, lost, next_of, past, receiver_after, rotated, runs, slot, soft_after, store_after, sync_left, synced, window}
use Rattle.receiver.specs.Answers.{accepted_symbol, receiver_left, stores_fit, symbol_answer, symbol_lent, symbol_refusal}
use Rattle.receiver_laws.specs.Stores.{Agree, Alike, lent}
use Rattle.receiver_laws.proofs.Heads.{From, events_from, untouched, begun}
use Rattle.sync_heads.specs.declared.Head.{Head}
use lib.Dec.{lit≤}
use lib.IntN.{ℤ}
use mathlib.Core.List.{List}
use mathlib.Core.Path.{◌∙◌, ◌≡◌, ap₂, refl, sym}
use native.Mathlib.Nat.{not-suc-le-zero}
use native.Mathlib.Omega.{arith}

firsts_same : {A : Type 0} (f g : ℕ → A) (n : ℕ) → ((j : ℕ) → j < n → f j ≡ g j) → firsts f n ≡ firsts g n
unfolding firsts
firsts_same f g zero h = refl
firsts_same f g (suc n) h = rw (firsts_same f g n (λ j l. h j (omega arith)), h n (omega arith))

-- the symbols of a slot that a head makes due
due_same : (d : Option WholeSlot) (p : Option Held) (h : Head) (table a b : List ℤ) → AgreeOn p a b → d ≡ due_in 9296 p h → due_symbols 9296 d table a ≡ due_symbols 9296 d table b
unfolding due_symbols corrected_all
due_same None p h table a b g e = refl
due_same (Some w) p h table a b g e =
    firsts_same (corrected_of w table a) (corrected_of w table b) 9296 (λ j l. corrected_alike p h w j table a b g (sym e) l)

none-same : (table a b : List ℤ) → due_symbols 9296 None table a ≡ due_symbols 9296 None table b
unfolding due_symbols
none-same table a b = refl

agree_begun : (q : Head) (a b : List ℤ) → AgreeOn (begun_of q) a b
unfolding begun_of
agree_begun q a b = λ k l. absurd (not-suc-le-zero l)

-- a part of what is lent, written or not
part_written : {A : Type 0} (f : Lent → A) (t : Result ⊤ Refusal) (old new : Lent) → f (written t old new) ≡ written t (f old) (f new)
part_written f (Ok y) old new = refl
part_written f (Err why) old new = refl

module _ (r : Receiver) (x : Input) (acc : List ℕ) (soft a b : List ℤ) (g : Agree r.front.phase a b) where
  abbrev la : Lent
  la = lent acc soft a

  abbrev lb : Lent
  lb = lent acc soft b

  -- the heads of the call come from the accumulators alone
  from : From 9296 r.front.phase (heads 9296 r x la)
  unfolding heads
  from = events_from 9296 _ (synced 9296 r x la).events (lit≤ tt) refl

  heads-same : heads 9296 r x la ≡ heads 9296 r x lb
  unfolding heads synced rotated
  heads-same = refl

  slot-from : From 9296 r.front.phase (heads 9296 r x la) → due_symbols 9296 (heads 9296 r x la).due x.table a ≡ due_symbols 9296 (heads 9296 r x la).due x.table b
  slot-from (untouched p d) = rw d (none-same x.table a b)
  slot-from (begun k) = due_same (heads 9296 r x la).due r.front.phase k.first x.table a b g.held k.due

  slot_same : slot 9296 r x la ≡ slot 9296 r x lb
  unfolding slot heads synced rotated
  slot_same = slot-from from

  receiver-same : receiver_after 9296 r x la ≡ receiver_after 9296 r x lb
  unfolding receiver_after left lost sync_left heads synced enough window rotated
  receiver-same = rw slot_same

  runs_same : runs 9296 r x la ≡ runs 9296 r x lb
  unfolding runs aligned
  runs_same = rw slot_same

  soft-same : soft_after 9296 r x la ≡ soft_after 9296 r x lb
  unfolding soft_after aligned
  soft-same = rw slot_same

  acc-same : acc_after 9296 r x la ≡ acc_after 9296 r x lb
  unfolding acc_after synced rotated
  acc-same = refl

  events-same : (synced 9296 r x la).events ≡ (synced 9296 r x lb).events
  unfolding synced rotated
  events-same = refl

  past_same : past 9296 r x la ≡ past 9296 r x lb
  unfolding past heads synced rotated
  past_same = refl

  full-same : full 9296 r x la ≡ full 9296 r x lb
  unfolding full
  full-same = rw slot_same

  fit_same : stores_fit la ≡ stores_fit lb
  unfolding stores_fit
  fit_same = rw (g.first, g.second)

  refusal-same : symbol_refusal r x la ≡ symbol_refusal r x lb
  unfolding symbol_refusal
  refusal-same = rw (fit_same, past_same, full-same)

  -- ---- the stores afterwards
  -- the slot that the heads leave: the one held, or one of which no symbol came yet
  agree-heads : From 9296 r.front.phase (heads 9296 r x la) → AgreeOn (heads 9296 r x la).phase a b
  agree-heads (untouched p d) = rw p g.held
  agree-heads (begun k) = rw k.phase (agree_begun k.last a b)

  agree_left : Agree (left 9296 r x la).front.phase (when enough 9296 r x la then stored_in 9296 (heads 9296 r x la).phase (back23 9296 r x la).i (back23 9296 r x la).q a else a)
      (when enough 9296 r x lb then stored_in 9296 (heads 9296 r x lb).phase (back23 9296 r x lb).i (back23 9296 r x lb).q b else b)
  unfolding left enough heads synced rotated back23 window
  agree_left =
      let s = (heads 9296 r x la).phase in
      let y = back23 9296 r x la in
      by_test (enough 9296 r x la)
      (λ t.
      rw (if_yes (enough 9296 r x la) (pushed_in 9296 s) s t, if_yes (enough 9296 r x la) (stored_in 9296 s y.i y.q a) a t, if_yes (enough 9296 r x la) (stored_in 9296 s y.i y.q b) b t)
      (record {
        first = length_stored s y a ∙ g.first;
        second = length_stored s y b ∙ g.second;
        held = agree_pushed s y a b g.first g.second (agree-heads from);
      }))
      (λ t.
      rw (if_no (enough 9296 r x la) (pushed_in 9296 s) s t, if_no (enough 9296 r x la) (stored_in 9296 s y.i y.q a) a t, if_no (enough 9296 r x la) (stored_in 9296 s y.i y.q b) b t)
      (record { first = g.first; second = g.second; held = agree-heads from }))

  agree_after : Agree (receiver_after 9296 r x la).front.phase (store_after 9296 r x la) (store_after 9296 r x lb)
  unfolding receiver_after store_after lost synced rotated started
  agree_after =
      let q = lost 9296 r x la in
      let s = started (next_of r + 1) (kept_of (left 9296 r x la)) in
      let l = left 9296 r x la in
      let ya = back23 9296 r x la in
      let yb = back23 9296 r x lb in
      let u = when enough 9296 r x la then stored_in 9296 (heads 9296 r x la).phase ya.i ya.q a else a in
      let v = when enough 9296 r x lb then stored_in 9296 (heads 9296 r x lb).phase yb.i yb.q b else b in
      by_test q
      (λ t. rw (if_yes q s l t, if_yes q a u t, if_yes q b v t) (record { first = g.first; second = g.second; held = tt }))
      (λ t. rw (if_no q s l t, if_no q a u t, if_no q b v t) agree_left)

  answer-same : symbol_answer r x la ≡ symbol_answer r x lb
  unfolding symbol_answer accepted_symbol
  answer-same = rw (refusal-same, receiver-same, events-same, runs_same)

  lent-acc : (symbol_lent r x la).acc ≡ (symbol_lent r x lb).acc
  unfolding symbol_lent lent_after
  lent-acc =
      part_written (λ (l : Lent). l.acc) (symbol_refusal r x la) la (lent_after 9296 r x la)
      ∙ ap₂ (λ (t : Result ⊤ Refusal) (v : List ℕ). written t acc v) refusal-same acc-same
      ∙ sym (part_written (λ (l : Lent). l.acc) (symbol_refusal r x lb) lb (lent_after 9296 r x lb))

  lent-soft : (symbol_lent r x la).soft ≡ (symbol_lent r x lb).soft
  unfolding symbol_lent lent_after
  lent-soft =
      part_written (λ (l : Lent). l.soft) (symbol_refusal r x la) la (lent_after 9296 r x la)
      ∙ ap₂ (λ (t : Result ⊤ Refusal) (v : List ℤ). written t soft v) refusal-same soft-same
      ∙ sym (part_written (λ (l : Lent). l.soft) (symbol_refusal r x lb) lb (lent_after 9296 r x lb))

  agree_by : (t : Result ⊤ Refusal) → Agree (receiver_left (answered t r (accepted_symbol r x la))).front.phase (written t la (lent_after 9296 r x la)).store (written t lb (lent_after 9296 r x lb)).store
  unfolding accepted_symbol lent_after
  agree_by (Ok y) = agree_after
  agree_by (Err why) = g

  lent-agree : Agree (receiver_left (symbol_answer r x la)).front.phase (symbol_lent r x la).store (symbol_lent r x lb).store
  unfolding symbol_answer symbol_lent
  lent-agree = rw (sym refusal-same) (agree_by (symbol_refusal r x la))

  pub alike : Alike r x acc soft a b
  alike = record { refusal = refusal-same; answer = answer-same; acc_is = lent-acc; soft_is = lent-soft; agree = lent-agree }
