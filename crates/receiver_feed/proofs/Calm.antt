-- A symbol that tells nothing changes what `move_one` says, and a stretch of them is a feed's symbols. Assumes nothing.
use Rattle.std.specs.Prelude.{Option, None, Some, Result, Ok}
use Rattle.phase.specs.declared.Held.{Held}
use Prim.Native.Nat.{ℕ, zero, suc, ◌+◌, ◌-◌, ◌*◌, ◌^◌, ◌<◌, ◌≤◌, min}
use mathlib.Core.Bool.{Bool, true, false, ◌&&◌}
use mathlib.Core.List.{List, [], ◌∷◌, ◌++◌}
use mathlib.Core.Path.{◌≡◌, refl, sym, ap, subst, ◌∙◌}
use native.Mathlib.Omega.{arith}
use native.Mathlib.Numerals.{add-one}
use borrow.Author.Tests.{eq-eqb, le-leb, leb-true, lt-leb, le-ltb, ltb-true, ltb-false}
use lib.Dec.{leb, ltb}
use lib.IntN.{ℤ, nat_abs, pos}
use lib.ListN.{drop, get_or, length, length-set, set}
use Rattle.laws.specs.Choice.{when◌then◌else◌, if_yes, if_no}
use Rattle.laws.proofs.Tests.{and_both, by_test, if_both}
use Rattle.sync_corr.proofs.Laws.{dots_both}
use Rattle.sync_corr.specs.Rows.{rows_of}
use Rattle.angles.specs.Angles.{turned_by}
use Rattle.angles.specs.declared.Symbol.{Symbol}
use Rattle.sync_lock.specs.declared.Tally.{Tally}
use Rattle.sync_lock.specs.Ranges.{lock_in_range}
use Rattle.sync_lock.specs.Rule.{locked_at}
use Rattle.sync_heads.specs.Ranges.{course_in_range}
use Rattle.sync_step.specs.declared.LastCorr.{LastCorr}
use Rattle.sync_step.specs.declared.Run.{Run}
use Rattle.sync_step.specs.Events.{event_of, heads_of, is_nothing, no_events}
use Rattle.sync_step.specs.Step.{after_of, kept_of, place_of}
use Rattle.sync.specs.Sync.{kept_window, stored_of, symbol_of, window_after}
use Rattle.sync_block.specs.Quiet.{Ahead, Rolled, passed_run, roll_one, rolled}
use Rattle.sync_block.specs.Reach.{reach_of}
use Rattle.sync_step.proofs.Laws.{run_ready}
use Rattle.receiver_bounds.proofs.Ready.{run-wide}
use Rattle.sync_block.proofs.Laws.{ahead, both_at, level_at, place-on, silent, symbol-quiet}
use Rattle.carrier.specs.declared.Nco.{Nco}
use Rattle.carrier.specs.Carrier.{advanced_nco, rotated_of}
use Rattle.phase.specs.Phase.{counted_in, pushed_in, stored_in, symbol_at}
use Rattle.receiver_slot.specs.Slot.{no_run}
use Rattle.receiver_bounds.specs.Bounds.{all_within, back_within, head_within, held_within, nco_within, phase_within, points_within, run_within, stage_within, tally_within, trail_within, within}
use Rattle.receiver.specs.declared.Receiver.{Receiver}
use Rattle.refusal.specs.declared.Refused.{Refused}
use Rattle.receiver.specs.declared.Answer.{Answer}
use Rattle.receiver.specs.declared.Listened.{Listened}
use Rattle.receiver.specs.Heads.{event_heard, is_lost, listened, loses_in}
use Rattle.receiver.specs.Symbol.{Input, Lent, next_of}
use Rattle.receiver.specs.Ranges.{front_within, receiver_in_range}
use Rattle.receiver.specs.Answers.{no_runs, range_refusal, symbol_answer, symbol_lent}
use Rattle.receiver.specs.Feed.{Block, any_event, input_at, tells_any}
use Rattle.receiver_symbol.specs.declared.Ahead.{Ahead as Seen}
use Rattle.receiver_symbol.specs.Parts.{after_by, ahead_by, left_by, lent_refusal, next_refusal, phase_by, soon_refusal, state_refusal, store_by, stored_by, taken_by, window_by}
use Rattle.receiver_symbol.proofs.Symbols.{answer-later, acc-later, store-later, soft-later, answer_none, acc-none, store-none, soft-none}
use Rattle.receiver_feed.specs.Quiet.{Course, Fits, Moving, course_of, kept_at, lent_by, move_one, moves, moves_from, moving, passed_by, phase_on, place_in, start_of}
use Rattle.receiver_feed.specs.Turns.{Stands, calm_of, stand_by, stand_from}

abbrev accepted : Answer → Result Answer (Refused Receiver)
accepted a = Ok a

-- ---- a symbol looked at that tells nothing: what it leaves
module _ (r : Receiver) (a : Seen) (n : Nco) (s : Option Held) (q : Run) (last : LastCorr) (late : 23 ≤ r.front.sync.run.t)
    (es : a.step ≡ kept_of q last no_events) (eh : a.heard ≡ record { nco = n; phase = s; due = None }) where
  quiet-taken : taken_by r a r.back no_runs
      ≡ record { receiver = record { front = record { nco = n; sync = record { win = a.win; run = q }; phase = pushed_in 9296 s }; back = r.back; points = r.points }; events = no_events; runs = no_runs }
  unfolding taken_by after_by left_by phase_by kept_of kept_window loses_in is_lost no_events when◌then◌else◌
  quiet-taken = rw (es, eh, le-leb 23 r.front.sync.run.t late)

  quiet-store : (store : List ℤ) → store_by r a store ≡ stored_in 9296 s (symbol_at a.win 0).i (symbol_at a.win 0).q store
  unfolding store_by stored_by kept_of loses_in is_lost no_events when◌then◌else◌
  quiet-store store = rw (es, eh, le-leb 23 r.front.sync.run.t late)

  quiet-acc : (p : ℕ) (acc : List ℕ) → stored_of a.step.stores p acc ≡ set acc p last.level
  unfolding stored_of kept_of
  quiet-acc p acc = rw es

  quiet-due : a.heard.due ≡ None
  quiet-due = rw eh

-- ---- a symbol of a receiver that tells nothing
module _ (r : Receiver) (x : Input) (l : Lent) where
  abbrev turned-i : ℤ
  turned-i = (rotated_of x.table r.front.nco.phase x.xi x.xq).i

  abbrev turned-q : ℤ
  turned-q = (rotated_of x.table r.front.nco.phase x.xi x.xq).q

  abbrev place : ℕ
  place = place_of 9296 r.front.sync.run.t

  abbrev looked : Seen
  looked = ahead_by r x.xi x.xq x.f x.s x.table (get_or l.acc place 0)

  abbrev level : ℕ
  level = level_at r.front.sync turned-i turned-q x.f x.s l.acc place

  abbrev after : Run
  after = after_of r.front.sync.run place level (silent r.front.sync.run)

  abbrev seen_last : LastCorr
  seen_last = record { both = both_at r.front.sync turned-i turned-q x.f x.s; level = level }

  -- what makes it so
  pub record Calm : Type 0 where
    pub soon : soon_refusal r (length l.acc) (length l.store) (length l.soft) x.f x.s (length x.table) ≡ Ok tt
    pub late : 23 ≤ r.front.sync.run.t
    pub silent : locked_at r.front.sync.run.lock place ≡ false
    pub early : place < 9295

  module _ (c : Calm) where
    step_is : looked.step ≡ kept_of after seen_last no_events
    unfolding ahead_by window_by symbol_of heads_of event_of no_events
    step_is = symbol-quiet r.front.sync turned-i turned-q x.f x.s l.acc place c.late refl c.silent c.early

    heard-none : (h : Listened) → listened 9296 h no_events ≡ h
    unfolding listened event_heard no_events
    heard-none h = refl

    heard-is : looked.heard ≡ record { nco = advanced_nco r.front.nco; phase = r.front.phase; due = None }
    unfolding ahead_by kept_of
    heard-is = ap (listened 9296 (record { nco = advanced_nco r.front.nco; phase = r.front.phase; due = None })) events-are ∙ heard-none _
      where
        events-are : looked.step.events ≡ no_events
        events-are = unfold kept_of in ap (λ (s : _). s.events) step_is

    win-is : looked.win ≡ window_after r.front.sync.win turned-i turned-q
    unfolding ahead_by window_by
    win-is = refl

    abbrev v : List ℤ
    v = window_after r.front.sync.win turned-i turned-q

    pub quiet-answer : symbol_answer r x l
        ≡ Ok (record { receiver = record { front = record { nco = advanced_nco r.front.nco; sync = record { win = v; run = after }; phase = pushed_in 9296 r.front.phase }; back = r.back; points = r.points }; events = no_events; runs = no_runs })
    quiet-answer =
        sym (answer-later r x l c.soon) ∙ sym (answer_none r looked x.f x.s x.table l.store (quiet-due r looked _ _ _ _ c.late step_is heard-is))
        ∙ ap accepted (quiet-taken r looked _ _ _ _ c.late step_is heard-is ∙ rw win-is)

    pub quiet-lent : symbol_lent r x l
        ≡ record { acc = set l.acc place level; store = stored_in 9296 r.front.phase (symbol_at v 0).i (symbol_at v 0).q l.store; soft = l.soft }
    quiet-lent =
        let d = quiet-due r looked _ _ _ _ c.late step_is heard-is in
        let ea = sym (acc-later r x l c.soon) ∙ sym (acc-none r looked x.f x.s x.table l.store d place l.acc) ∙ quiet-acc r looked _ _ _ _ c.late step_is heard-is place l.acc in
        let eb = sym (store-later r x l c.soon) ∙ sym (store-none r looked x.f x.s x.table l.store d) ∙ quiet-store r looked _ _ _ _ c.late step_is heard-is l.store in
        let ec = sym (soft-later r x l c.soon) ∙ sym (soft-none r looked x.f x.s x.table l.store d l.soft) in
        lent_eq (symbol_lent r x l) _ _ _ ea (eb ∙ rw win-is) ec
      where
        lent_eq : (m : Lent) (a : List ℕ) (b d : List ℤ) → m.acc ≡ a → m.store ≡ b → m.soft ≡ d → m ≡ record { acc = a; store = b; soft = d }
        lent_eq m a b d ea eb ed = rw (← ea, ← eb, ← ed)

-- ---- the ranges of a receiver's front
and_yes : (a b : Bool) → a ≡ true → b ≡ true → (a && b) ≡ true
and_yes a b p q = rw (p, q)

record Front-in (r : Receiver) : Type 0 where
  pub nco : nco_within r.front.nco ≡ true
  pub win : all_within 4096 r.front.sync.win ≡ true
  pub run : run_within r.front.sync.run ≡ true
  pub phase : phase_within r.front.phase ≡ true
  pub back : back_within r.back ≡ true
  pub points : points_within r.points ≡ true

front_in : (r : Receiver) → receiver_in_range r ≡ true → Front-in r
unfolding receiver_in_range front_within
front_in r e =
    let a = and_both (front_within r.front && back_within r.back) (points_within r.points) e in
    let b = and_both (front_within r.front) (back_within r.back) a.0 in
    let n = nco_within r.front.nco in
    let w = all_within 4096 r.front.sync.win in
    let c = and_both (n && w && run_within r.front.sync.run) (phase_within r.front.phase) b.0 in
    let d = and_both (n && w) (run_within r.front.sync.run) c.0 in
    let f = and_both n w d.0 in
    record { nco = f.0; win = f.1; run = d.1; phase = c.1; back = b.1; points = a.1 }

pub run_in : (r : Receiver) → receiver_in_range r ≡ true → run_within r.front.sync.run ≡ true
run_in r e = (front_in r e).run

pub tally_in : (r : Receiver) → receiver_in_range r ≡ true → tally_within r.front.sync.run.tally ≡ true
unfolding run_within
tally_in r e =
    let q = r.front.sync.run in
    let t = leb q.t (2 ^ 62) in
    let a = and_both (t && tally_within q.tally && lock_in_range q.lock && stage_within q.stage) (course_in_range q.course) (run_in r e) in
    let b = and_both (t && tally_within q.tally && lock_in_range q.lock) (stage_within q.stage) a.0 in
    let c = and_both (t && tally_within q.tally) (lock_in_range q.lock) b.0 in
    (and_both t (tally_within q.tally) c.0).1

pub window_in : (r : Receiver) → receiver_in_range r ≡ true → all_within 4096 r.front.sync.win ≡ true
window_in r e = (front_in r e).win

pub place_in_lem : (r : Receiver) → receiver_in_range r ≡ true → place_in r.front.phase ≤ 9296
place_in_lem r e = go r.front.phase (front_in r e).phase
  where
    go : (s : Option Held) → phase_within s ≡ true → place_in s ≤ 9296
    go None h = unfold place_in in omega arith
    go (Some x) h = unfold place_in phase_within held_within within in
        leb-true x.count 9296 (and_both (leb 1 x.count) (leb x.count 9296) (and_both (head_within x.head) (leb 1 x.count && leb x.count 9296) h).1).1

-- ---- a window with one more symbol in range
all_append : (n : ℕ) (u v : List ℤ) → all_within n u ≡ true → all_within n v ≡ true → all_within n (u ++ v) ≡ true
unfolding all_within
all_append n [] v a b = b
all_append n (x ∷ u) v a b =
    let h = and_both (leb (nat_abs x) n) (all_within n u) a in
    and_yes (leb (nat_abs x) n) (all_within n (u ++ v)) h.0 (all_append n u v h.1 b)

all_drop : (n k : ℕ) (u : List ℤ) → all_within n u ≡ true → all_within n (drop k u) ≡ true
unfolding all_within
all_drop n zero u a = a
all_drop n (suc k) [] a = a
all_drop n (suc k) (x ∷ u) a = all_drop n k u (and_both (leb (nat_abs x) n) (all_within n u) a).1

window_on : (n : ℕ) (w : List ℤ) (i q : ℤ) → all_within n w ≡ true → nat_abs i ≤ n → nat_abs q ≤ n → all_within n (window_after w i q) ≡ true
unfolding window_after all_within
window_on n w i q a b c =
    all_append n (drop 2 w) (i ∷ q ∷ []) (all_drop n 2 w a) (and_yes (leb (nat_abs i) n) (leb (nat_abs q) n && true) (le-leb (nat_abs i) n b) (and_yes (leb (nat_abs q) n) true (le-leb (nat_abs q) n c) refl))

pub rolled-within : (rows : List ℤ) (zi zq : ℤ) (p : ℕ) (x y : Rolled) → y ≡ roll_one rows zi zq p x → all_within 4096 x.win ≡ true → nat_abs zi ≤ 4096 → nat_abs zq ≤ 4096 →
    all_within 4096 y.win ≡ true
unfolding roll_one
rolled-within rows zi zq p x y e a b c = rw e (window_on 4096 x.win zi zq a b c)

-- a turn of the loop
pub goes_on_lem : (t : Bool) (n k e : ℕ) → e ≡ (when t then n else k) → k < e → t ≡ true
goes_on_lem t n k e h l = by_test t (λ z. z) (λ z. absurd (omega (arith, l, h ∙ if_no t n k z)))

pub end_most : (t : Bool) (n k e : ℕ) → e ≡ (when t then n else k) → k ≤ n → e ≤ n
end_most t n k e h l = rw h (if_both (λ (v : ℕ). v ≤ n) t n k (omega arith) l)

pub tally_sum : (y : Tally) → tally_within y ≡ true → y.sum ≤ 2 ^ 61
unfolding tally_within
tally_sum y e = omega (arith, leb-true y.sum 34935435329536 (and_both (leb y.peak 3758114816 && leb y.place 9295) (leb y.sum 34935435329536) e).1)

pub some_moved : (t : Bool) (n k e : ℕ) → e ≡ (when t then n else k) → e ≤ k → 1 ≤ n → (k ≡ 0 → t ≡ true) → 1 ≤ k
some_moved t n zero e h l m z = absurd (omega (arith, l, m, h ∙ if_yes t n 0 (z refl)))
some_moved t n (suc k) e h l m z = omega arith

pub fits_more : (d : Course) (i p c k : ℕ) (o x : Moving) → x ≡ moves d i p c k o → Fits x → ((j : ℕ) → j < k → Fits (moves d i p c j o)) → (j : ℕ) → j < k + 1 → Fits (moves d i p c j o)
fits_more d i p c k o x e f h j l =
    by_test (ltb j k)
    (λ t. h j (ltb-true j k t))
    (λ t.
    let q = ltb-false j k t in
    let z : k ≡ j = omega (arith, q, l) in
    subst (λ (v : ℕ). Fits (moves d i p c v o)) z (subst Fits e f))

pub first_fits : (d : Course) (i p c k : ℕ) (o : Moving) (win : List ℤ) (y : Tally) (acc : List ℕ) (store : List ℤ) (a : ℕ) → moving win y acc store a ≡ moves d i p c k o → k ≡ 0 → y ≡ o.tally
first_fits d i p c k o win y acc store a e z = go (rw z at e)
  where
    go : moving win y acc store a ≡ moves d i p c 0 o → y ≡ o.tally
    go h = unfold moves in ap (λ (m : Moving). m.tally) h

pub moves_more : (d : Course) (i p c k : ℕ) (o : Moving) (win w : List ℤ) (y v : Tally) (acc e : List ℕ) (store g : List ℤ) (a t : ℕ) (xi xq : ℤ) (z : Symbol) →
    moving win y acc store a ≡ moves d i p c k o → xi ≡ get_or d.bytes (2 * (i + k)) (pos 0) → xq ≡ get_or d.bytes (2 * (i + k) + 1) (pos 0) → z ≡ rotated_of d.table a xi xq →
    rolled w v e ≡ roll_one d.rows z.i z.q (p + k) (rolled win y acc) → g ≡ kept_at (c + k) (get_or w 0 (pos 0)) (get_or w 1 (pos 0)) store → t ≡ turned_by a d.freq →
    moving w v e g t ≡ moves d i p c (k + 1) o
unfolding moves move_one symbol_at
moves_more d i p c k o win w y v acc e store g a t xi xq z em ei eq ez er eg et = rw (add-one k, ← em, ← ei, ← eq, ← ez, ← er, eg, et)

-- ---- a receiver in the midst of such symbols
phase_start : (s : Option Held) → phase_within s ≡ true → phase_on 0 s ≡ s
unfolding phase_on phase_within held_within within
phase_start None h = refl
phase_start (Some x) h =
    let a = leb-true x.count 9296 (and_both (leb 1 x.count) (leb x.count 9296) (and_both (head_within x.head) (leb 1 x.count && leb x.count 9296) h).1).1 in
    let e : min (x.count + 0) 9296 ≡ x.count = omega (arith, a) in
    rw e

phase_more : (k : ℕ) (s : Option Held) → pushed_in 9296 (phase_on k s) ≡ phase_on (suc k) s
unfolding phase_on pushed_in counted_in
phase_more k None = refl
phase_more k (Some x) =
    by_test (ltb (min (x.count + k) 9296) 9296)
    (λ t.
    let h = ltb-true (min (x.count + k) 9296) 9296 t in
    let e : min (x.count + k) 9296 + 1 ≡ min (x.count + suc k) 9296 = omega (arith, h) in
    ap Some (if_yes _ _ _ t ∙ ap (λ (n : ℕ). record { head = x.head; count = n }) e))
    (λ t.
    let h = ltb-false (min (x.count + k) 9296) 9296 t in
    let e : min (x.count + k) 9296 ≡ min (x.count + suc k) 9296 = omega (arith, h) in
    ap Some (if_no _ _ _ t ∙ ap (λ (n : ℕ). record { head = x.head; count = n }) e))

phase_stays : (k : ℕ) (s : Option Held) → phase_within s ≡ true → phase_within (phase_on k s) ≡ true
unfolding phase_on phase_within held_within within
phase_stays k None h = refl
phase_stays k (Some x) h =
    let a = and_both (head_within x.head) (leb 1 x.count && leb x.count 9296) h in
    let b = leb-true 1 x.count (and_both (leb 1 x.count) (leb x.count 9296) a.1).0 in
    let n = min (x.count + k) 9296 in
    and_yes _ _ a.0 (and_yes (leb 1 n) (leb n 9296) (le-leb 1 n (omega (arith, b))) (le-leb n 9296 (omega arith)))

stored_more : (k : ℕ) (s : Option Held) (i q : ℤ) (store : List ℤ) → phase_within s ≡ true → stored_in 9296 (phase_on k s) i q store ≡ kept_at (place_in s + k) i q store
unfolding phase_on stored_in kept_at place_in
stored_more k None i q store h = sym (if_no (ltb (9296 + k) 9296) _ _ (le-ltb (9296 + k) 9296 (omega arith)))
stored_more k (Some x) i q store h =
    by_test (ltb (x.count + k) 9296)
    (λ t.
    let a = ltb-true (x.count + k) 9296 t in
    let e : min (x.count + k) 9296 ≡ x.count + k = omega (arith, a) in
    rw e)
    (λ t.
    let a = ltb-false (x.count + k) 9296 t in
    if_no _ _ _ (le-ltb (min (x.count + k) 9296) 9296 (omega (arith, a))) ∙ sym (if_no _ _ _ t))

run_stays : (q : Run) (w : List ℤ) (k : ℕ) (y : Tally) → run_within q ≡ true → tally_within y ≡ true → q.t + k ≤ 2 ^ 62 → run_within (passed_run q w k y).run ≡ true
unfolding run_within
run_stays q w k y e h l =
    let t = leb q.t (2 ^ 62) in
    let a = and_both (t && tally_within q.tally && lock_in_range q.lock && stage_within q.stage) (course_in_range q.course) e in
    let b = and_both (t && tally_within q.tally && lock_in_range q.lock) (stage_within q.stage) a.0 in
    let c = and_both (t && tally_within q.tally) (lock_in_range q.lock) b.0 in
    and_yes _ _ (and_yes _ _ (and_yes _ _ (and_yes _ _ (le-leb (q.t + k) (2 ^ 62) l) h) c.1) b.1) a.1

module _ (r : Receiver) (k : ℕ) (x : Moving) (e : receiver_in_range r ≡ true) (f : Fits x) (l : r.front.sync.run.t + k ≤ 2 ^ 62) where
  passed-in : receiver_in_range (passed_by r k x) ≡ true
  unfolding receiver_in_range front_within passed_by nco_within
  passed-in =
      let a = front_in r e in
      and_yes _ _ (and_yes _ _ (and_yes _ _ (and_yes _ _ (and_yes _ _ (nco-in a.nco) f.win) (run_stays r.front.sync.run x.win k x.tally a.run f.tally l)) (phase_stays k r.front.phase a.phase)) a.back) a.points
    where
      nco-in : nco_within r.front.nco ≡ true → trail_within r.front.nco.trail ≡ true
      nco-in h = unfold nco_within in h

-- only the figures can leave their range
pub figures_in : (r : Receiver) (k : ℕ) (x : Moving) → receiver_in_range r ≡ true → all_within 4096 x.win ≡ true → r.front.sync.run.t + k ≤ 2 ^ 62 →
    receiver_in_range (passed_by r k x) ≡ tally_within (passed_by r k x).front.sync.run.tally
figures_in r k x e w l =
    by_test (tally_within x.tally)
    (λ t. passed-in r k x e (record { win = w; tally = t }) l ∙ sym (tally-is ∙ t))
    (λ t. by_test (receiver_in_range (passed_by r k x))
    (λ u. u ∙ sym (tally_in (passed_by r k x) u))
    (λ u. u ∙ sym (tally-is ∙ t)))
  where
    tally-is : tally_within (passed_by r k x).front.sync.run.tally ≡ tally_within x.tally
    tally-is = unfold passed_by in refl

-- the next of them, as a symbol's call
module _ (r : Receiver) (k i : ℕ) (x : Moving) (b : Block) (soft : List ℤ) (e : receiver_in_range r ≡ true) (f : Fits x) (m : ℕ) (o : Ahead r.front.sync.run (suc m)) (l : k < m)
    (g : Stands (length x.acc) (length x.store) (length soft) b.f b.s (length b.table)) where
  abbrev here : Receiver
  here = passed_by r k x

  abbrev lent : Lent
  lent = lent_by soft x

  abbrev input : Input
  input = input_at b i

  abbrev next : Moving
  next = move_one (course_of r b.bytes b.table (rows_of b.f b.s)) i (place_of 9296 r.front.sync.run.t + k) (place_in r.front.phase + k) x

  at_place : place_of 9296 (r.front.sync.run.t + k) ≡ place_of 9296 r.front.sync.run.t + k
  at_place = place-on r.front.sync.run.t k o.late (omega (arith, o.within, l))

  in-range-here : receiver_in_range here ≡ true
  in-range-here = passed-in r k x e f (omega (arith, o.time, l))

  soon-none : soon_refusal here (length lent.acc) (length lent.store) (length lent.soft) input.f input.s (length input.table) ≡ Ok tt
  unfolding soon_refusal lent_refusal state_refusal range_refusal next_refusal next_of lent_by input_at when◌then◌else◌
  soon-none =
      rw (eq-eqb (length x.acc) 9296 g.long, eq-eqb (length x.store) 18592 g.held, le-leb 44880 (length soft) g.buffer, g.first, g.second, eq-eqb (length b.table) 1024 g.cosines, in-range-here)
      (rw below)
    where
      below : leb (2 ^ 62) (here.front.sync.run.base + here.front.sync.run.t) ≡ false
      below = unfold passed_by in lt-leb (2 ^ 62) (r.front.sync.run.base + (r.front.sync.run.t + k)) (omega (arith, o.time, l))

  calm-here : Calm here input lent
  unfolding passed_by
  calm-here =
      record {
        soon = soon-none;
        late = omega (arith, o.late);
        silent = rw at_place (o.silent k (omega (arith, l)));
        early = rw at_place (omega (arith, o.within, l));
      }

  receiver-next : record {
    front = record {
      nco = advanced_nco here.front.nco;
      sync = record { win = window_after here.front.sync.win (turned-i here input lent) (turned-q here input lent); run = after here input lent };
      phase = pushed_in 9296 here.front.phase;
    };
    back = here.back;
    points = here.points;
  }
      ≡ passed_by r (suc k) next
  unfolding passed_by advanced_nco move_one course_of roll_one after_of input_at lent_by
  receiver-next =
      let t : r.front.sync.run.t + k + 1 ≡ r.front.sync.run.t + suc k = omega arith in
      rw (phase_more k r.front.phase, at_place, t, dots_both (window_after x.win _ _) b.f b.s)

  lent-next : record {
    acc = set lent.acc (place here input lent) (level here input lent);
    store = stored_in 9296 here.front.phase (symbol_at (window_after here.front.sync.win (turned-i here input lent) (turned-q here input lent)) 0).i
        (symbol_at (window_after here.front.sync.win (turned-i here input lent) (turned-q here input lent)) 0).q lent.store;
    soft = lent.soft;
  }
      ≡ lent_by soft next
  unfolding passed_by move_one course_of roll_one input_at lent_by
  lent-next = rw (stored_more k r.front.phase _ _ x.store (front_in r e).phase, at_place, dots_both (window_after x.win _ _) b.f b.s)

  pub answer-next : symbol_answer here input lent ≡ Ok (record { receiver = passed_by r (suc k) next; events = no_events; runs = no_runs })
  answer-next = quiet-answer here input lent calm-here ∙ ap (λ (n : Receiver). accepted (record { receiver = n; events = no_events; runs = no_runs })) receiver-next

  pub leaves-next : symbol_lent here input lent ≡ lent_by soft next
  leaves-next = quiet-lent here input lent calm-here ∙ lent-next

-- ---- a stretch of them
stand_quiet : (b : Block) (rest i : ℕ) (r n : Receiver) (l m : Lent) → symbol_answer r (input_at b i) l ≡ Ok (record { receiver = n; events = no_events; runs = no_runs }) →
    symbol_lent r (input_at b i) l ≡ m → stand_from b (suc rest) i r l ≡ stand_from b rest (i + 1) n m
unfolding stand_from stand_by tells_any any_event is_nothing no_events no_runs no_run when◌then◌else◌
stand_quiet b rest i r n l m ea em = rw (ea, em)

module _ (r : Receiver) (b : Block) (i m : ℕ) (acc : List ℕ) (store soft : List ℤ) (e : receiver_in_range r ≡ true) (o : Ahead r.front.sync.run (suc m))
    (g : Stands (length acc) (length store) (length soft) b.f b.s (length b.table)) where
  abbrev X : ℕ → Moving
  X k = moves_from r b.bytes b.table (rows_of b.f b.s) acc store i k

  acc-long : (k : ℕ) → length (X k).acc ≡ length acc
  unfolding moves_from moves move_one roll_one start_of
  acc-long zero = refl
  acc-long (suc k) = length-set (X k).acc _ _ ∙ acc-long k

  kept-long : (c : ℕ) (u v : ℤ) (s : List ℤ) → length (kept_at c u v s) ≡ length s
  unfolding kept_at
  kept-long c u v s = if_both (λ (w : List ℤ). length w ≡ length s) (ltb c 9296) _ _ (length-set (set s (2 * c) u) (2 * c + 1) v ∙ length-set s (2 * c) u) refl

  store_long : (k : ℕ) → length (X k).store ≡ length store
  unfolding moves_from moves move_one start_of
  store_long zero = refl
  store_long (suc k) = kept-long _ _ _ (X k).store ∙ store_long k

  fits-there : (k : ℕ) → Stands (length (X k).acc) (length (X k).store) (length soft) b.f b.s (length b.table)
  fits-there k = record { long = acc-long k ∙ g.long; held = store_long k ∙ g.held; buffer = g.buffer; first = g.first; second = g.second; cosines = g.cosines }

  start_is : (passed_by r 0 (X 0) ≡ r) × (lent_by soft (X 0) ≡ record { acc = acc; store = store; soft = soft })
  unfolding moves_from moves start_of passed_by lent_by
  start_is =
      let t : r.front.sync.run.t + 0 ≡ r.front.sync.run.t = omega arith in
      (rw (t, phase_start r.front.phase (front_in r e).phase), refl)

  next-is : (k : ℕ) → X (suc k) ≡ move_one (course_of r b.bytes b.table (rows_of b.f b.s)) (i + k) (place_of 9296 r.front.sync.run.t + k) (place_in r.front.phase + k) (X k)
  unfolding moves_from moves
  next-is k = refl

  pub stretch-stands : (k rest : ℕ) → k ≤ m → ((j : ℕ) → j < k → Fits (X j)) →
      stand_from b (k + rest) i r (record { acc = acc; store = store; soft = soft }) ≡ stand_from b rest (i + k) (passed_by r k (X k)) (lent_by soft (X k))
  stretch-stands zero rest l h =
      let a : i + 0 ≡ i = omega arith in
      let z : 0 + rest ≡ rest = omega arith in
      rw (start_is.0, start_is.1, a, z)
  stretch-stands (suc k) rest l h =
      let a : suc k + rest ≡ k + suc rest = omega arith in
      let c : i + k + 1 ≡ i + suc k = omega arith in
      let y = answer-next r k (i + k) (X k) b soft e (h k (omega arith)) m o (omega (arith, l)) (fits-there k) in
      let z = leaves-next r k (i + k) (X k) b soft e (h k (omega arith)) m o (omega (arith, l)) (fits-there k) in
      ap (λ (n : ℕ). stand_from b n i r (record { acc = acc; store = store; soft = soft })) a
      ∙ stretch-stands k (suc rest) (omega (arith, l)) (λ j q. h j (omega (arith, q)))
      ∙ stand_quiet b rest (i + k) (passed_by r k (X k)) _ (lent_by soft (X k)) _ y z
      ∙ rw (c, next-is k)

-- ---- how many there are
pub calm_known : (r : Receiver) (left m : ℕ) → m ≡ calm_of r left → (m ≡ 0 → ⊥) → (receiver_in_range r ≡ true) × (Ahead r.front.sync.run (suc m)) × (m ≤ left)
unfolding calm_of next_of
calm_known r left m e h =
    let q = r.front.sync.run in
    let past = leb (2 ^ 62) (q.base + q.t) in
    let few = min (reach_of q - 1) left in
    by_test (receiver_in_range r)
    (λ a. by_test past
    (λ b. absurd (h (e ∙ if_yes (receiver_in_range r) (when past then 0 else few) 0 a ∙ if_yes past 0 few b)))
    (λ b.
    let z : m ≡ few = e ∙ if_yes (receiver_in_range r) (when past then 0 else few) 0 a ∙ if_no past 0 few b in
    let k : 1 ≤ m = omega (arith, h) in
    let w = run-wide q (run_in r a) in
    (a, ahead q (run_ready q w b) w (omega (arith, z, k)) (suc m) (omega arith) (omega (arith, z, k)), omega (arith, z))))
    (λ a. absurd (h (e ∙ if_no (receiver_in_range r) (when past then 0 else few) 0 a)))

-- ---- the loop's results as a receiver's
pub moves_from_lem : (r : Receiver) (bytes table rows : List ℤ) (acc : List ℕ) (store : List ℤ) (i p c k : ℕ) → p ≡ place_of 9296 r.front.sync.run.t → c ≡ place_in r.front.phase →
    moves (record { bytes = bytes; table = table; rows = rows; freq = r.front.nco.freq }) i p c k (moving r.front.sync.win r.front.sync.run.tally acc store r.front.nco.phase)
    ≡ moves_from r bytes table rows acc store i k
unfolding moves_from course_of start_of
moves_from_lem r bytes table rows acc store i p c k ep ec = rw (ep, ec)

pub passed_any : (r : Receiver) (k : ℕ) (w : List ℤ) (y : Tally) (acc : List ℕ) (store : List ℤ) (p : ℕ) → passed_by r k (moving w y [] [] p) ≡ passed_by r k (moving w y acc store p)
unfolding passed_by
passed_any r k w y acc store p = refl
