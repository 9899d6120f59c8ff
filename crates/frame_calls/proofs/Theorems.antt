-- What was received says what calls come to. Each statement stands above its proof. Assumes nothing.
use Rattle.std.specs.Prelude.{Option, None, Some, is_some, unwrap_or, Result, Ok, Err, ⊤}
use Prim.Native.Nat.{ℕ, ◌+◌, ◌-◌, ◌≤◌, min}
use native.Mathlib.Omega.{arith}
use mathlib.Core.Bool.{Bool, true, false, ◌&&◌}
use mathlib.Core.List.{List, [], ◌∷◌, ◌++◌}
use mathlib.Core.Path.{◌≡◌, refl, sym, ap, ◌∙◌}
use borrow.Author.Tests.{le-leb, lt-leb, leb-true, leb-false, lt-ltb, le-ltb, ltb-true, ltb-false}
use lib.Dec.{leb, ltb}
use lib.IntN.{ℤ}
use lib.ListN.{length, get_or, drop, length-append, length-drop}
use lib.Seq.{drop-append_seam, drop-append-le, drop-drop, get_or-drop}
use Rattle.laws.specs.Choice.{when◌then◌else◌, if_yes, if_no}
use Rattle.laws.proofs.Tests.{by_test, if_either, never}
use Rattle.refusal.specs.Refusals.{answered, written}
use Rattle.refusal.specs.declared.Refusal.{Refusal}
use Rattle.phase.specs.declared.Corrected.{Corrected}
use Rattle.sums.specs.declared.Sums.{Sums}
use Rattle.sums.specs.Sums.{empty_sums}
use Rattle.eq_train.specs.Train.{trained_sums}
use Rattle.eq.specs.declared.Equaliser.{Equaliser}
use Rattle.eq.specs.Eq.{new_eq, started_eq, pushed_eq, trains_eq, trained_eq, with_sums, closed_eq, loaded_eq}
use Rattle.eq.specs.Ranges.{eq_in_range}
use Rattle.eq.specs.Answers.{range_refusal, open_answer, close_answer, load_answer, eq_after_close}
use Rattle.eq_train.proofs.Theorems.{empty_sound}
use Rattle.eq_range.specs.Coherent.{Coherent}
use Rattle.eq_range.proofs.Kept.{coherent_in_range, open_coherent, closed_coherent, loaded_coherent, trains_open}
use Rattle.frame_map.specs.Map.{part_of}
use Rattle.frame_map.proofs.Laws.{part_sync}
use Rattle.frame_line.specs.declared.Meta.{Meta}
use Rattle.frame_line.specs.declared.Metas.{Metas}
use Rattle.frame_line.specs.Line.{no_metas, meta_of, gap_at}
use Rattle.frame_line.specs.Waiting.{waiting_of}
use Rattle.frame_line.proofs.Theorems.{waiting_length}
use Rattle.frame.specs.declared.Back.{Back}
use Rattle.frame.specs.declared.Pushed.{Pushed}
use Rattle.frame.specs.Align.{started_back, new_back, restarted_back, joined_to, is_sync, trained_part, trained_at, taken_by, pushed_back}
use Rattle.frame.specs.Ranges.{back_in_range}
use Rattle.frame.specs.Answers.{restart_answer, push_answer, push_refusal, trains_back, full_back, back_of, out_of}
use Rattle.frame.specs.Stretch.{trained_in, after_all, given_by, given_all, unbroken, metas_of}
use Rattle.frame.proofs.Laws.{untrained}
use Rattle.frame.proofs.Theorems.{no_gap, aligned_theorem, waiting_theorem, count_theorem, gap_theorem}
use Rattle.frame_range.specs.Coherent.{CoherentBack}
use Rattle.frame_range.proofs.Theorems.{trained_filled, restarted_coherent, new_coherent, push_keeps, coherent_back}
use Rattle.frame_calls.specs.Calls.{Call, pushes, restarts, opens, closes, loads, CallFits, CallsFit, with_eq, after_call, after_calls, refusal_of, test_of, sums_ended}
use Rattle.frame_calls.specs.Received.{Received, none, nothing, is_open, frame_of, trained_by, trained_since, last_of, dropped, joining, joined_by, full_for, push_refused, refused_by, heard, heard_all, received}
use Rattle.frame_calls.specs.Claims.{Brings, Told, CallsTold}
use Rattle.frame_calls.proofs.Stretches.{last_snoc, metas_snoc, metas_length, metas_at, length_snoc, trains_next, begins, trained_next, none_yet}

-- ---- an alignment that has received h
record Tied (b : Back) (h : Received) : Type 0 where
  pub last : b.last ≡ last_of h.stretch
  pub count : b.metas.count ≡ min (length h.stretch) 5
  pub waiting : waiting_of b.metas ≡ drop (length h.stretch - 5) (metas_of h.stretch)
  pub filled : b.eq.filled ≡ min (length h.stretch) 11
  pub opened : b.eq.opened ≡ is_open h.sums
  pub frame : b.eq.sums.frame ≡ frame_of h.sums
  pub trained : b.eq.sums.count ≡ trained_since h
  pub begun : begins h.sums ≤ length h.stretch

restarted_tied : (b : Back) (h : Received) → Tied (restarted_back b) (dropped h)
unfolding restarted_back started_back started_eq empty_sums no_metas waiting_of dropped last_of metas_of is_open frame_of trained_since trained_by begins
restarted_tied b h =
    record { last = refl; count = omega arith; waiting = refl; filled = omega arith; opened = refl; frame = refl; trained = refl; begun = omega arith }

-- ---- one symbol, without a gap: the equaliser
-- what holds of an equaliser, and of it with one more training, holds of it once a symbol is aligned
trained_also : (P : Equaliser → Type 0) (e : Equaliser) (m : Meta) (f s : List ℤ) → P e
    → ((di dq : ℤ) → trains_eq e ≡ true → P (with_sums e true (trained_sums e.sums e.line di dq))) → P (trained_at e m f s)
unfolding trained_at trained_part trained_eq
trained_also P e m f s p q =
    by_test (ltb m.j 24) (λ t. rw (part_sync m.j (ltb-true m.j 24 t)) (if_either P (trains_eq e) _ e (λ u. q _ _ u) (λ u. p)))
    (λ t. rw (untrained e m f s (ltb-false m.j 24 t)) p)

record Filled (b : Back) (c : Corrected) (f s : List ℤ) : Type 0 where
  pub last : (pushed_back b c f s).back.last ≡ Some c.at
  pub filled : (pushed_back b c f s).back.eq.filled ≡ min (b.eq.filled + 1) 11
  pub opened : (pushed_back b c f s).back.eq.opened ≡ b.eq.opened
  pub frame : (pushed_back b c f s).back.eq.sums.frame ≡ b.eq.sums.frame

pushed_filled : (b : Back) (c : Corrected) (f s : List ℤ) → gap_at b.last c.at ≡ false → Filled b c f s
unfolding pushed_back taken_by pushed_eq with_sums trained_sums when◌then◌else◌
pushed_filled b c f s g =
    let e = pushed_eq b.eq c.y.i c.y.q in
    let m = b.metas.first in
    by_test (ltb b.metas.count 5)
    (λ t. record { last = rw (no_gap b c.at g, t); filled = rw (no_gap b c.at g, t); opened = rw (no_gap b c.at g, t); frame = rw (no_gap b c.at g, t) })
    (λ t.
    record {
      last = rw (no_gap b c.at g, t);
      filled = rw (no_gap b c.at g, t) (trained_filled e m f s);
      opened = rw (no_gap b c.at g, t) (trained_also (λ (x : Equaliser). x.opened ≡ b.eq.opened) e m f s refl (λ di dq u. sym (trains_open e u)));
      frame = rw (no_gap b c.at g, t) (trained_also (λ (x : Equaliser). x.sums.frame ≡ b.eq.sums.frame) e m f s refl (λ di dq u. refl));
    })

-- .. those that wait
alone : (b : Back) (c : Corrected) → gap_at b.last c.at ≡ false → unbroken b.last (c ∷ []) ≡ true
unfolding unbroken
alone b c g = rw g

-- G came out, and what waits are the last five
last_five : (n : ℕ) (G W W' ms : List Meta) (m : Meta) → length ms ≡ n → G ++ W' ≡ W ++ m ∷ [] → W ≡ drop (n - 5) ms → length W' ≡ min (n + 1) 5
    → W' ≡ drop (n + 1 - 5) (ms ++ m ∷ [])
last_five n G W W' ms m hn e hw hl =
    let w : length W ≡ n - (n - 5) = ap length hw ∙ length-drop (n - 5) ms ∙ omega (arith, hn) in
    let g : length G + length W' ≡ length W + 1 = sym (length-append G W') ∙ ap length e ∙ length-append W (m ∷ []) in
    let k : n - 5 + length G ≡ n + 1 - 5 = omega (arith, w, g, hl) in
    sym (drop-append_seam G W') ∙ ap (drop (length G)) (e ∙ ap (λ (l : List Meta). l ++ m ∷ []) hw ∙ sym (drop-append-le (n - 5) ms (m ∷ []) (omega (arith, hn))))
    ∙ drop-drop (length G) (n - 5) (ms ++ m ∷ [])
    ∙ ap (λ (x : ℕ). drop x (ms ++ m ∷ [])) k

pushed_waiting : (b : Back) (h : Received) (c : Corrected) (f s : List ℤ) → Tied b h → gap_at b.last c.at ≡ false
    → ((pushed_back b c f s).back.metas.count ≡ min (length h.stretch + 1) 5)
    × (waiting_of (pushed_back b c f s).back.metas ≡ drop (length h.stretch + 1 - 5) (metas_of (h.stretch ++ c ∷ [])))
unfolding given_all after_all metas_of
pushed_waiting b h c f s t g =
    let n = length h.stretch in
    let p = pushed_back b c f s in
    let five : b.metas.count ≤ 5 = omega (arith, t.count) in
    let k : p.back.metas.count ≡ min (n + 1) 5 = waiting_theorem b (c ∷ []) f s five (alone b c g) ∙ omega (arith, t.count) in
    let o = aligned_theorem b (c ∷ []) f s five (alone b c g) in (
      k,
      rw (metas_snoc h.stretch c)
          (last_five n (given_by p.out ++ []) (waiting_of b.metas) (waiting_of p.back.metas) (metas_of h.stretch) (meta_of c) (metas_length h.stretch) o t.waiting
          (waiting_length p.back.metas (omega (arith, k)) ∙ k)),
    )

-- .. and whether it trains
first-waits : (w : Metas) (m : Meta) → w.count ≡ 5 → get_or (waiting_of w) 0 m ≡ w.first
unfolding waiting_of
first-waits w m h = rw h

full_order : (a o : Bool) → (a && o && true) ≡ (o && true && a)
full_order true true = refl
full_order true false = refl
full_order false true = refl
full_order false false = refl

short_order : (a o z : Bool) → (z && false) ≡ (o && false && a)
short_order a true true = refl
short_order a true false = refl
short_order a false true = refl
short_order a false false = refl

-- once five wait, the oldest is the symbol five before the next
oldest : (b : Back) (h : Received) (c : Corrected) → Tied b h → 5 ≤ length h.stretch → b.metas.first ≡ meta_of (get_or h.stretch (length h.stretch - 5) c)
oldest b h c t l =
    let k = length h.stretch - 5 in
    let z : k + 0 ≡ k = omega arith in
    sym (first-waits b.metas (meta_of c) (omega (arith, t.count, l)))
    ∙ ap (λ (q : List Meta). get_or q 0 (meta_of c)) t.waiting
    ∙ get_or-drop k (metas_of h.stretch) 0 (meta_of c)
    ∙ metas_at h.stretch (k + 0) c
    ∙ ap (λ (x : ℕ). meta_of (get_or h.stretch x c)) z

trains_told : (b : Back) (h : Received) (c : Corrected) → Tied b h → trains_back b ≡ trains_next h c
unfolding trains_back trains_next meta_of
trains_told b h c t =
    let n = length h.stretch in
    let w = b.metas in
    let x = is_sync (part_of (get_or h.stretch (n - 5) c).j) in
    by_test (leb 10 n)
    (λ u.
    let l = leb-true 10 n u in
    let same : w.first.j ≡ (get_or h.stretch (n - 5) c).j = ap (λ (m : Meta). m.j) (oldest b h c t (omega (arith, l))) in
    rw (le-leb 5 w.count (omega (arith, t.count, l)), le-leb 11 (b.eq.filled + 1) (omega (arith, t.filled, l)), same, t.opened, u)
    (full_order x (is_open h.sums)))
    (λ u.
    let l = leb-false 10 n u in
    rw (lt-leb 11 (b.eq.filled + 1) (omega (arith, t.filled, l)), u)
    (short_order x (is_open h.sums) (leb 5 w.count && is_sync (part_of w.first.j) && b.eq.opened)))

pushed_trained : (b : Back) (h : Received) (c : Corrected) (f s : List ℤ) → Tied b h → gap_at b.last c.at ≡ false
    → (pushed_back b c f s).back.eq.sums.count ≡ trained_since (joined_by h c)
unfolding after_all trained_in
pushed_trained b h c f s t g =
    let n = count_theorem b (c ∷ []) f s (omega (arith, t.count)) (alone b c g) in
    let e = ap {B = ℕ} (λ (x : Bool). when x then 1 else 0) (trains_told b h c t) in
    omega (arith, n, e, t.trained, trained_next h c t.begun)

-- ---- one symbol
pushed_tied : (b : Back) (h : Received) (c : Corrected) (f s : List ℤ) → Tied b h → gap_at b.last c.at ≡ false → Tied (pushed_back b c f s).back (joined_by h c)
unfolding joined_by
pushed_tied b h c f s t g =
    let fl = pushed_filled b c f s g in
    let w = pushed_waiting b h c f s t g in
    let l = length_snoc h.stretch c in
    record {
      last = fl.last ∙ sym (last_snoc h.stretch c);
      count = omega (arith, w.0, l);
      waiting = w.1 ∙ ap (λ (k : ℕ). drop (k - 5) (metas_of (h.stretch ++ c ∷ []))) (sym l);
      filled = omega (arith, fl.filled, t.filled, l);
      opened = fl.opened ∙ t.opened;
      frame = fl.frame ∙ t.frame;
      trained = pushed_trained b h c f s t g;
      begun = omega (arith, t.begun, l);
    }

joined_tied : (b : Back) (h : Received) (c : Corrected) → Tied b h → Tied (joined_to b c.at) (joining h c)
unfolding joined_to joining
joined_tied b h c t =
    let gap = gap_at (last_of h.stretch) c.at in
    let e : gap_at b.last c.at ≡ gap = ap (λ (x : Option ℕ). gap_at x c.at) t.last in
    by_test gap (λ u. rw (if_yes (gap_at b.last c.at) (restarted_back b) b (e ∙ u), if_yes gap (dropped h) h u) (restarted_tied b h))
    (λ u. rw (if_no (gap_at b.last c.at) (restarted_back b) b (e ∙ u), if_no gap (dropped h) h u) t)

-- .. after a gap too
any_tied : (b : Back) (h : Received) (c : Corrected) (f s : List ℤ) → Tied b h → Tied (pushed_back b c f s).back (joined_by (joining h c) c)
unfolding joining restarted_back started_back gap_at
any_tied b h c f s t =
    let gap = gap_at (last_of h.stretch) c.at in
    let e : gap_at b.last c.at ≡ gap = ap (λ (x : Option ℕ). gap_at x c.at) t.last in
    by_test gap (λ u. rw (gap_theorem b c f s (e ∙ u), if_yes gap (dropped h) h u) (pushed_tied (restarted_back b) (dropped h) c f s (restarted_tied b h) refl))
    (λ u. rw (if_no gap (dropped h) h u) (pushed_tied b h c f s t (e ∙ u)))

-- ---- refusals
more_than : (n : ℕ) (t : Bool) → ltb n (n + (when t then 1 else 0)) ≡ t
unfolding when◌then◌else◌
more_than n true = lt-ltb n (n + 1) (omega arith)
more_than n false = le-ltb n (n + 0) (omega arith)

full_told : (b : Back) (h : Received) (c : Corrected) → Tied b h → full_back b ≡ full_for h c
unfolding full_back full_for
full_told b h c t = rw (trains_told b h c t, t.trained, trained_next h c t.begun, more_than (trained_since h) (trains_next h c))

push_told : (b : Back) (h : Received) (c : Corrected) (f s : List ℤ) → CoherentBack b → Tied b h → push_refusal b c f s ≡ push_refused h c f s
unfolding push_refusal push_refused
push_told b h c f s k t = rw (coherent_back b k, full_told (joined_to b c.at) (joining h c) c (joined_tied b h c t))

-- ---- each other call, of an equaliser in range
open_is : (e : Equaliser) (frame : ℕ) → eq_in_range e ≡ true → open_answer e frame ≡ Ok (with_sums e true (empty_sums frame))
unfolding open_answer range_refusal
open_is e frame r = rw (if_yes (eq_in_range e) _ _ r)

load_is : (e : Equaliser) (taps : List ℤ) (frame : ℕ) → eq_in_range e ≡ true → load_answer e taps frame ≡ Ok (loaded_eq e taps frame)
unfolding load_answer range_refusal
load_is e taps frame r = rw (if_yes (eq_in_range e) _ _ r)

restart_is : (b : Back) → back_in_range b ≡ true → restart_answer b ≡ Ok (restarted_back b)
unfolding restart_answer
restart_is b r = if_yes (back_in_range b) _ _ r

-- closing answers the open sums, and leaves none
record Closes (e : Equaliser) : Type 0 where
  pub refusal : test_of (close_answer e) ≡ Ok tt
  pub eq : eq_after_close (close_answer e) ≡ with_sums e false (empty_sums 0)
  pub ended : is_some (sums_ended (close_answer e)) ≡ e.opened
  pub sums : (s : Sums) → sums_ended (close_answer e) ≡ Some s → s ≡ e.sums

close_is : (e : Equaliser) → Coherent e → Closes e
unfolding close_answer range_refusal closed_eq with_sums when◌then◌else◌
close_is e k =
    let r = coherent_in_range e k in
    by_test e.opened (λ o. record { refusal = rw r; eq = rw (r, o); ended = rw (r, o); sums = λ s h. sym (same e.sums s (rw (r, o) at h)) })
    (λ o. record { refusal = rw r; eq = rw (r, o) (ap (λ (x : Sums). with_sums e false x) (k.no_sums o)); ended = rw (r, o); sums = λ s h. absurd (nothing_some s (rw (r, o) at h)) })
  where
    same : (x y : Sums) → Some x ≡ Some y → x ≡ y
    same x y h = ap (λ (o : Option Sums). unwrap_or o x) h

    nothing_some : (x : Sums) → None ≡ Some x → ⊥
    nothing_some x h = never (sym (ap (λ (o : Option Sums). is_some o) h))

-- ---- the field `eq` replaced
with_coherent : (b : Back) (e : Equaliser) → CoherentBack b → Coherent e → e.filled ≡ b.eq.filled → CoherentBack (with_eq b e)
unfolding with_eq
with_coherent b e k c h = record { eq = c; metas = k.metas; last = k.last; fill = omega (arith, k.fill, h); there = k.there; adjoin = k.adjoin }

opened_tied : (b : Back) (h : Received) (frame : ℕ) → Tied b h → Tied (with_eq b (with_sums b.eq true (empty_sums frame))) (heard h (opens frame))
unfolding heard with_eq with_sums empty_sums is_open frame_of trained_since begins
opened_tied b h frame t =
    record {
      last = t.last;
      count = t.count;
      waiting = t.waiting;
      filled = t.filled;
      opened = refl;
      frame = refl;
      trained = sym (none_yet frame _ h.stretch (omega arith));
      begun = omega arith;
    }

closed_tied : (b : Back) (h : Received) → Tied b h → Tied (with_eq b (with_sums b.eq false (empty_sums 0))) (record { stretch = h.stretch; sums = none })
unfolding with_eq with_sums empty_sums is_open frame_of trained_since trained_by begins
closed_tied b h t =
    record { last = t.last; count = t.count; waiting = t.waiting; filled = t.filled; opened = refl; frame = refl; trained = refl; begun = omega arith }

loaded_tied : (b : Back) (h : Received) (taps : List ℤ) (frame : ℕ) → Tied b h → Tied (with_eq b (loaded_eq b.eq taps frame)) h
unfolding with_eq loaded_eq
loaded_tied b h taps frame t =
    record {
      last = t.last;
      count = t.count;
      waiting = t.waiting;
      filled = t.filled;
      opened = t.opened;
      frame = t.frame;
      trained = t.trained;
      begun = t.begun;
    }

-- ---- a push, by its refusal
test_shown : (r : Result ⊤ Refusal) (b : Back) (p : Pushed) → test_of (answered r b p) ≡ r
test_shown (Ok x) b p = refl
test_shown (Err why) b p = refl

-- what is taken is heard, and what is refused is not
heard_so : (r : Result ⊤ Refusal) (b : Back) (p : Pushed) (h x : Received) → Tied p.back x → Tied b h → Tied (back_of (answered r b p)) (written r h x)
heard_so (Ok y) b p h x s t = s
heard_so (Err why) b p h x s t = t

-- ---- EVERY CALL KEEPS THE RANGES, a refused one too
pub call_keeps : (b : Back) (c : Call) → CoherentBack b → CallFits c → CoherentBack (after_call b c)
unfolding after_call with_sums loaded_eq
call_keeps b (pushes c f s) k y = push_keeps b c f s k y
call_keeps b restarts k y = rw (after_call, restart_is b (coherent_back b k)) (restarted_coherent b)
call_keeps b (opens frame) k y =
    rw (after_call, open_is b.eq frame (coherent_in_range b.eq k.eq))
    (with_coherent b (with_sums b.eq true (empty_sums frame)) k (open_coherent b.eq (empty_sums frame) k.eq (empty_sound frame)) refl)
call_keeps b closes k y =
    rw (after_call, (close_is b.eq k.eq).eq) (with_coherent b (with_sums b.eq false (empty_sums 0)) k (closed_coherent b.eq k.eq) refl)
call_keeps b (loads taps frame) k y =
    rw (after_call, load_is b.eq taps frame (coherent_in_range b.eq k.eq))
    (with_coherent b (loaded_eq b.eq taps frame) k (loaded_coherent b.eq taps frame k.eq) refl)

-- ---- .. AND IS HEARD
call_tied : (b : Back) (h : Received) (c : Call) → CoherentBack b → Tied b h → Tied (after_call b c) (heard h c)
unfolding after_call heard push_answer
call_tied b h (pushes c f s) k t =
    rw (push_told b h c f s k t) (heard_so (push_refused h c f s) b (pushed_back b c f s) h (joined_by (joining h c) c) (any_tied b h c f s t) t)
call_tied b h restarts k t = rw (after_call, restart_is b (coherent_back b k)) (restarted_tied b h)
call_tied b h (opens frame) k t = rw (after_call, open_is b.eq frame (coherent_in_range b.eq k.eq)) (opened_tied b h frame t)
call_tied b h closes k t = rw (after_call, (close_is b.eq k.eq).eq) (closed_tied b h t)
call_tied b h (loads taps frame) k t = rw (after_call, load_is b.eq taps frame (coherent_in_range b.eq k.eq)) (loaded_tied b h taps frame t)

-- ---- EACH CALL'S REFUSAL, by what was received
call_refusal : (b : Back) (h : Received) (c : Call) → CoherentBack b → Tied b h → refusal_of b c ≡ refused_by h c
unfolding refusal_of refused_by push_answer
call_refusal b h (pushes c f s) k t = test_shown (push_refusal b c f s) b (pushed_back b c f s) ∙ push_told b h c f s k t
call_refusal b h restarts k t = rw (restart_is b (coherent_back b k))
call_refusal b h (opens frame) k t = rw (open_is b.eq frame (coherent_in_range b.eq k.eq))
call_refusal b h closes k t = (close_is b.eq k.eq).refusal
call_refusal b h (loads taps frame) k t = rw (load_is b.eq taps frame (coherent_in_range b.eq k.eq))

-- ---- WHAT COMES OUT, by what was received
taken_out : (b : Back) (h : Received) (c : Corrected) (f s : List ℤ) → Tied b h → Brings h c (taken_by b c f s).out
unfolding taken_by given_by when◌then◌else◌
taken_out b h c f s t =
    record {
      few = λ l. rw (lt-ltb b.metas.count 5 (omega (arith, t.count, l)));
      enough = λ l. rw (le-ltb b.metas.count 5 (omega (arith, t.count, l))) (ap (λ (m : Meta). m ∷ []) (oldest b h c t l));
    }

push_out : (b : Back) (h : Received) (c : Corrected) (f s : List ℤ) → CoherentBack b → Tied b h → push_refused h c f s ≡ Ok tt → Brings (joining h c) c (out_of (push_answer b c f s))
unfolding push_answer pushed_back
push_out b h c f s k t z =
    let e : push_refusal b c f s ≡ Ok tt = push_told b h c f s k t ∙ z in
    rw e (taken_out (joined_to b c.at) (joining h c) c f s (joined_tied b h c t))

-- ---- CALLS: of every list of calls from a new alignment on, what was received says the refusals, whether sums are open, and their count
told : (b : Back) (h : Received) → CoherentBack b → Tied b h → Told b h
told b h k t =
    let c = close_is b.eq k.eq in
    record {
      coherent = k;
      in_range = coherent_back b k;
      refusal = λ x. call_refusal b h x k t;
      given = λ c f s z. push_out b h c f s k t z;
      ended = c.ended ∙ t.opened;
      frame = λ s e. ap (λ (x : Sums). x.frame) (c.sums s e) ∙ t.frame;
      count = λ s e. ap (λ (x : Sums). x.count) (c.sums s e) ∙ t.trained;
    }

calls_go : (b : Back) (h : Received) (cs : List Call) → CoherentBack b → Tied b h → CallsFit cs → Told (after_calls b cs) (heard_all h cs)
unfolding after_calls heard_all
calls_go b h [] k t y = told b h k t
calls_go b h (c ∷ cs) k t y = calls_go (after_call b c) (heard h c) cs (call_keeps b c k y.0) (call_tied b h c k t) y.1

new_tied : Tied new_back nothing
unfolding new_back new_eq started_eq restarted_back started_back nothing dropped
new_tied = restarted_tied new_back nothing

pub calls_told : CallsTold
unfolding received
calls_told cs y = calls_go new_back nothing cs new_coherent new_tied y
