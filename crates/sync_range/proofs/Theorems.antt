-- Calls keep a slot sync coherent, so its numbers stay in range and no call is refused with 6. Assumes nothing.
use Rattle.std.specs.Prelude.{Option, None, Some, Result, Ok, Err, is_some, ⊤}
use Rattle.sync_heads.specs.declared.SlotNumber.{SlotNumber}
use Prim.Native.Nat.{◌+◌, ◌<◌, ◌^◌, ◌≤◌, suc, ℕ}
use Rattle.laws.proofs.Tests.{and_both, if_both, if_either, never}
use Rattle.sync.specs.Answers.{accepted_push, new_answer, push_answer, push_refusal, restart_answer, restart_refusal, sync_left}
use Rattle.laws.proofs.Taken.{err_not_ok, ok_no, ok_yes}
use Rattle.refusal.proofs.Answered.{answered_both, answered_either}
use Rattle.refusal.specs.Refusals.{answered, code_of, number_of, state_after}
use Rattle.refusal.specs.declared.Refusal.{Refusal}
use Rattle.refusal.specs.declared.Refusal.TheVariants.{Stores, Words, Arithmetic, Position}
use Rattle.refusal.specs.declared.Refused.{Refused}
use Rattle.sync.specs.Sync.{started_sync, symbol_of, window_after}
use Rattle.sync.specs.declared.Pushed.{Pushed}
use Rattle.sync.specs.declared.SlotSync.{SlotSync}
use Rattle.sync_corr.specs.Correlate.{both_of, ones_of}
use Rattle.sync_heads.specs.Ranges.{record_in_range}
use Rattle.sync_heads.specs.declared.Stage.TheVariants.{Before, First, Known}
use Rattle.sync_heads.specs.declared.Stage.{Stage}
use Rattle.sync_lock.specs.declared.Lock.TheVariants.{Locked, Search}
use Rattle.sync_lock.specs.declared.Lock.{Lock}
use Rattle.sync_range.proofs.Corr.{both_fits}
use Rattle.sync_range.proofs.Steps.{started_coherent, step_good}
use Rattle.sync_range.proofs.Tally.{place_most}
use Rattle.sync_range.proofs.Window.{window_after_fits}
use Rattle.sync_range.proofs.Within.{coherent_in_range}
use Rattle.sync_range.specs.Calls.{Call, CallFits, CallsFit, CallsKeep, Figures, Keeps, PushFits, Sound, refused_for, refusal_of, sync_after, sync_of}
use Rattle.sync_range.specs.Coherent.{Bound, Coherent, Fresh, LockFits, Short, SlotFits, StageFits, any16, f_heads_of, most_of, rotated}
use Rattle.sync_step.specs.Ranges.{run_in_range}
use Rattle.sync_step.specs.Step.{is_locked, place_of}
use Rattle.sync_step.specs.declared.Run.{Run}
use borrow.Author.Tests.{eqb-true, leb-false}
use lib.Dec.{eqb, leb}
use lib.IntN.{nat_abs, negsuc, pos, ℤ}
use lib.ListN.{get_or, length}
use mathlib.Core.Bool.{◌&&◌, false, true}
use mathlib.Core.List.{List, [], ◌∷◌}
use mathlib.Core.Path.{◌∙◌, ◌≡◌, ap, refl, sym}
use native.Mathlib.Nat.{le_refl}
use native.Mathlib.Omega.{arith}
use Rattle.sync_range.specs.Calls.{push, restart}

-- ---- a new sync, and one restarted: at any position
pub new_coherent : (b : Bound) (at : ℕ) (acc : List ℕ) → Coherent b (state_after (new_answer at acc))
unfolding new_answer
new_coherent b at acc =
    let c = started_coherent b at None never-fits in
    if_both (λ (x : Result SlotSync (Refused SlotSync)). Coherent b (state_after x)) (eqb (length acc) 9296) _ _ c c
  where
    never-fits : record_in_range None ≡ true
    never-fits = unfold record_in_range in refl

pub restart_coherent : (b : Bound) (s : SlotSync) (at : ℕ) → Coherent b s → Coherent b (started_sync at s.run.course.last)
restart_coherent b s at c = started_coherent b at s.run.course.last c.course.last

-- ---- a symbol
pub push_coherent : (b : Bound) (s : SlotSync) (i q : ℤ) (f w : List ℤ) (acc : List ℕ) → Coherent b s → PushFits b i q acc → ones_of f ≡ true →
    ones_of w ≡ true →
    length acc ≡ 9296 → s.run.base + s.run.t < 2 ^ 62 → Coherent b (accepted_push s i q f w acc).sync
unfolding accepted_push symbol_of
push_coherent b s i q f w acc c p ef ew e l =
    let win = window_after s.win i q in
    let z = window_after_fits b s.win i q c.window p.first p.second p.both in
    let a = place_of 9296 s.run.t in
    step_good b (get_or acc a 0) win s (both_of win f w) c z (both_fits b win f w z ef ew) (p.lent a (omega (arith, e, place_most s.run.t))) l

-- ---- as the entries answer, whatever they are given
apart : (k : ℕ) → suc k ≡ 0 → ⊥
apart k e = omega arith

-- what is accepted
abbrev Accepts : ℕ → List ℤ → List ℤ → Run → Type 0
Accepts len f w r = (len ≡ 9296) × (ones_of f ≡ true) × (ones_of w ≡ true) × (r.base + r.t < 2 ^ 62)

push_accepts : (len : ℕ) (f w : List ℤ) (r : Run) → push_refusal len f w r ≡ Ok tt → Accepts len f w r
unfolding push_refusal
push_accepts len f w r h =
    let a = ok_yes (eqb len 9296) _ Stores h in
    let o = ok_yes (ones_of f && ones_of w) _ Words a.1 in
    let u = ok_no (leb (2 ^ 62) (r.base + r.t)) Position _ (ok_yes (run_in_range r) _ Arithmetic o.1).1 in
    let v = and_both (ones_of f) (ones_of w) o.0 in
    (eqb-true len 9296 a.0, v.0, v.1, leb-false (2 ^ 62) (r.base + r.t) u.0)

pub answer_coherent : (b : Bound) (s : SlotSync) (c : Call) → Coherent b s → CallFits b c → Coherent b (sync_of s c)
unfolding sync_of push_answer restart_answer
answer_coherent b s (push i q f w acc) h p =
    answered_either (λ (x : Result Pushed (Refused SlotSync)). Coherent b (sync_left x)) (push_refusal (length acc) f w s.run) s _
    (λ e. let a = push_accepts (length acc) f w s.run e in push_coherent b s i q f w acc h p a.1 a.2 a.0 a.3)
    (λ why e. h)
answer_coherent b s (restart at acc) h p =
    answered_both (λ (x : Result SlotSync (Refused SlotSync)). Coherent b (state_after x)) (restart_refusal (length acc) at s.run) s _ (restart_coherent b s at h) (λ why. h)

pub answers_coherent : (b : Bound) (s : SlotSync) (cs : List Call) → Coherent b s → CallsFit b cs → Coherent b (sync_after s cs)
unfolding sync_after
answers_coherent b s [] h p = h
answers_coherent b s (c ∷ cs) h p = answers_coherent b (sync_of s c) cs (answer_coherent b s c h p.0) p.1

-- ---- in range, no call answers 6
-- a refusal that is none for the state's numbers
abbrev Not6 : Result ⊤ Refusal → Type 0
Not6 x = x ≡ Err Arithmetic → ⊥

other : (why : Refusal) → eqb (number_of why) 6 ≡ false → Not6 (Err why)
other why k z = never (sym (ap (λ (x : Result ⊤ Refusal). eqb (code_of x) 6) z) ∙ k)

taken : Not6 (Ok tt)
taken z = err_not_ok (sym z)

none_some : {A : Type 0} {x : A} → None ≡ Some x → ⊥
none_some z = never (ap is_some (sym z))

same_some : {A : Type 0} {x y : A} → Some x ≡ Some y → x ≡ y
same_some z = cc

push_not_6 : (len : ℕ) (f w : List ℤ) (r : Run) → run_in_range r ≡ true → Not6 (push_refusal len f w r)
unfolding push_refusal
push_not_6 len f w r e =
    if_both Not6 _ _ _
    (if_both Not6 _ _ _ (if_either Not6 (run_in_range r) _ _ (λ u. if_both Not6 _ _ _ (other Position refl) taken) (λ u. absurd (never (sym e ∙ u)))) (other Words refl))
    (other Stores refl)

restart_not_6 : (len at : ℕ) (r : Run) → run_in_range r ≡ true → Not6 (restart_refusal len at r)
unfolding restart_refusal
restart_not_6 len at r e =
    if_both Not6 _ _ _ (if_either Not6 (run_in_range r) _ _ (λ u. if_both Not6 _ _ _ (other Position refl) taken) (λ u. absurd (never (sym e ∙ u)))) (other Stores refl)

-- an answer refuses for what its test refuses
answer_not_6 : {T : Type 0} (r : Result ⊤ Refusal) (s : SlotSync) (a : T) → Not6 r → refused_for (answered r s a) ≡ Some Arithmetic → ⊥
answer_not_6 (Ok x) s a h z = none_some z
answer_not_6 (Err why) s a h z = h (ap Err (same_some z))

never_6 : (s : SlotSync) (c : Call) → run_in_range s.run ≡ true → refusal_of s c ≡ Some Arithmetic → ⊥
unfolding refusal_of push_answer restart_answer
never_6 s (push i q f w acc) e = answer_not_6 (push_refusal (length acc) f w s.run) s _ (push_not_6 (length acc) f w s.run e)
never_6 s (restart at acc) e = answer_not_6 (restart_refusal (length acc) at s.run) s _ (restart_not_6 (length acc) at s.run e)

-- ---- not locked, nothing is read
lock_none : (t h : ℕ) (k : Lock) → LockFits t h k → is_locked k ≡ false → h ≡ 0
unfolding is_locked
lock_none t h (Search cand count) g e = g.none
lock_none t h (Locked offset misses) g e = absurd (never e)

stage_none : (b : Bound) (h : ℕ) (k : Stage) → StageFits b h k → h ≡ 0 → k ≡ Before
stage_none b h Before g e = refl
stage_none b h (First z) g e = absurd (apart 0 (sym g.0 ∙ e))
stage_none b h (Known p) g e = absurd (two h g.heads e)
  where
    two : (h : ℕ) → 2 ≤ h → h ≡ 0 → ⊥
    two h l e = omega arith

slot_none : (h misses : ℕ) (k : Option SlotNumber) → SlotFits h misses k → h ≡ 0 → (k ≡ None) × (misses ≡ 0)
slot_none h misses None g e = (refl, g)
slot_none h misses (Some s) g e = absurd (six h g.heads e)
  where
    six : (h : ℕ) → 6 ≤ h → h ≡ 0 → ⊥
    six h l e = omega arith

f_heads_none : (h : ℕ) (k : Stage) → h ≡ 0 → f_heads_of h k ≡ 0
unfolding f_heads_of
f_heads_none h k e = omega arith

majority_none : (z : ℤ) (m : ℕ) → nat_abs z ≤ m → m ≡ 0 → z ≡ pos 0
majority_none (pos a) m l e = ap pos (omega arith)
majority_none (negsuc a) m l e = absurd (less a m l e)
  where
    less : (a m : ℕ) → suc a ≤ m → m ≡ 0 → ⊥
    less a m l e = omega arith

pub search_fresh : (b : Bound) (s : SlotSync) → Coherent b s → is_locked s.run.lock ≡ false → Fresh s.run
search_fresh b s c e =
    let r = s.run in
    let z = lock_none r.t c.heads r.lock c.lock e in
    let k = slot_none c.heads r.course.misses r.course.slot c.course.slot z in
    record {
      stage = stage_none b c.heads r.stage c.stage z;
      majority = majority_none r.course.majority (f_heads_of c.heads r.stage) c.course.majority (f_heads_none c.heads r.stage z);
      slot = k.0;
      misses = k.1;
    }

-- ---- together
pub keeps : (b : Bound) → Keeps b
keeps b =
    record {
      started = started_coherent b;
      pushed = push_coherent b;
      restarted = restart_coherent b;
      answered = answer_coherent b;
      fresh = search_fresh b;
      in_range = coherent_in_range b;
    }

pub calls_keep : CallsKeep
calls_keep b at acc cs l p =
    let s = sync_after (state_after (new_answer at acc)) cs in
    let h = answers_coherent b (state_after (new_answer at acc)) cs (new_coherent b at acc) p in
    let r = coherent_in_range b s l h in
    record { coherent = h; in_range = r; never_6 = λ c. never_6 s c r }

-- ---- the two bounds, and docs/RANGES.md's figures for them
pub any16_short : Short any16
any16_short = record { part = le_refl 32768; sum = le_refl 65536 }

-- with symbols of 16 bits the bound of both parts together says nothing more
pub any16_push : (i q : ℤ) (acc : List ℕ) → nat_abs i ≤ 32768 → nat_abs q ≤ 32768 → ((j : ℕ) → j < length acc → get_or acc j 0 < 2 ^ 32) →
    PushFits any16 i q acc
any16_push i q acc hi hq l = record { first = hi; second = hq; both = omega arith; lent = l }

pub any16-figures : Figures any16 1572864 3758292991 34937091644336
unfolding most_of
any16-figures = record { corr_is = refl; peak_is = refl; sum_is = refl }

pub rotated_short : Short rotated
rotated_short = record { part = omega arith; sum = omega arith }

pub rotated-figures : Figures rotated 98328 3758114816 34935435329536
unfolding most_of
rotated-figures = record { corr_is = refl; peak_is = refl; sum_is = refl }
