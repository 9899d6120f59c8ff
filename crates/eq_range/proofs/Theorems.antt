-- Calls keep an equaliser coherent, so its numbers stay in range; a restart keeps the taps alone; when there is an output and a training; what
-- closed sums hold. Assumes nothing.
use Rattle.std.specs.Prelude.{Option, None, Some, Result, Ok, Err, ⊤, ◌≢◌, is_ok, is_some, IsOkAnd}
use Rattle.std.specs.Result.{result_err}
use Rattle.refusal.proofs.Answered.{answered_both, answered_either}
use Rattle.refusal.specs.Refusals.{answered, state_after}
use Rattle.refusal.specs.declared.Refusal.{Refusal}
use Rattle.refusal.specs.declared.Refused.{Refused}
use Rattle.refusal.specs.declared.Refusal.TheVariants.{Arithmetic, Counts}
use Prim.Native.Nat.{◌+◌, min, ℕ}
use Rattle.eq.specs.Answers.{range_refusal, eq_after_push, eq_after_close, close_answer, load_answer, open_answer, output_answer, push_answer, restart_answer, train_answer, train_refusal}
use Rattle.eq.specs.Eq.{closed_eq, loaded_eq, new_eq, output_at, pushed_eq, started_eq, trained_eq, trains_eq, with_sums}
use Rattle.eq.specs.Ranges.{eq_in_range}
use Rattle.eq_fir.specs.Fir.{output_of}
use Rattle.eq.specs.declared.Closed.{Closed}
use Rattle.eq.specs.declared.Equaliser.{Equaliser}
use Rattle.eq_range.proofs.Kept.{closed_coherent, coherent_in_range, loaded_coherent, open_coherent, pushed_coherent, accepted, no_refusal, refusal_8, started_coherent, trained_coherent, trains_open}
use Rattle.eq_range.specs.Calls.{Call, CallFits, CallsFit, CallsKeep, Keeps, Sound, eq_after, eq_of, refusal_of, why_of, closes, loads, opens, outputs, pushes, restarts, trains}
use Rattle.eq_range.specs.Coherent.{Coherent}
use Rattle.eq_range.specs.History.{Gives, NoRestart, Pushes, StaysOpen, counts, symbols_in, trainings_in}
use Rattle.eq_train.proofs.Theorems.{empty_sound, holds_trainings}
use Rattle.eq_train.specs.Sound.{Training, trained_all}
use Rattle.eq_train.specs.Train.{trained_sums}
use Rattle.laws.proofs.Tests.{and_both, by_test, if_both, if_either, never}
use Rattle.laws.specs.Choice.{if_no, if_yes}
use Rattle.sums.specs.Sums.{empty_sums}
use Rattle.sums.specs.declared.Sums.{Sums}
use borrow.Author.Tests.{le-leb, le-ltb, leb-false, leb-true, lt-leb, lt-ltb}
use lib.Dec.{leb, ltb}
use lib.IntN.{ℤ}
use mathlib.Core.Bool.{Bool, ◌&&◌, false, true}
use mathlib.Core.List.{List, [], ◌∷◌}
use mathlib.Core.Path.{◌∙◌, ◌≡◌, ap, refl, subst, sym}
use native.Mathlib.Omega.{arith}

-- ---- COHERENT: any call of a coherent equaliser, refused or not, leaves a coherent one
pub answer_coherent : (e : Equaliser) (c : Call) → Coherent e → CallFits c → Coherent (eq_of e c)
unfolding eq_of restart_answer push_answer open_answer train_answer close_answer load_answer closed_eq
answer_coherent e restarts k f = answered_both (λ x. Coherent (state_after x)) (range_refusal e) e _ (started_coherent e.taps e.from) (λ why. k)
answer_coherent e (pushes i q) k f = answered_both (λ x. Coherent (eq_after_push x)) (range_refusal e) e _ (pushed_coherent e i q k f.0 f.1) (λ why. k)
answer_coherent e outputs k f = k
answer_coherent e (opens frame) k f =
    answered_both (λ x. Coherent (state_after x)) (range_refusal e) e _ (open_coherent e (empty_sums frame) k (empty_sound frame)) (λ why. k)
answer_coherent e (trains di dq) k f =
    answered_either (λ x. Coherent (state_after x)) (train_refusal e) e _ (λ z. trained_coherent e di dq k f.0 f.1 z) (λ why z. k)
answer_coherent e closes k f =
    answered_both (λ x. Coherent (eq_after_close x)) (range_refusal e) e _ (if_both (λ (x : Closed). Coherent x.eq) e.opened _ _ (closed_coherent e k) k) (λ why. k)
answer_coherent e (loads taps frame) k f = answered_both (λ x. Coherent (state_after x)) (range_refusal e) e _ (loaded_coherent e taps frame k) (λ why. k)

-- .. and so do several
pub answers_coherent : (e : Equaliser) (cs : List Call) → Coherent e → CallsFit cs → Coherent (eq_after e cs)
unfolding eq_after
answers_coherent e [] k f = k
answers_coherent e (c ∷ cs) k f = answers_coherent (eq_of e c) cs (answer_coherent e c k f.0) f.1

pub keeps : Keeps
keeps = record { started = started_coherent; answered = answer_coherent; in_range = coherent_in_range }

-- what a test that lets the call through answers
through : {T S : Type 0} (r : Result ⊤ Refusal) (s : S) (a : T) → r ≡ Ok tt → answered r s a ≡ Ok a
through r s a h = rw h

-- the refusal of an answer is its test's
why_tested : {T S : Type 0} (r : Result ⊤ Refusal) (s : S) (a : T) → why_of (answered r s a) ≡ result_err r
why_tested (Ok x) s a = refl
why_tested (Err why) s a = refl

-- in range, it is refused nothing with 6
not_6_by : {T S : Type 0} (r : Result ⊤ Refusal) (s : S) (a : T) → result_err r ≢ Some Arithmetic → why_of (answered r s a) ≢ Some Arithmetic
not_6_by r s a n h = n (sym (why_tested r s a) ∙ h)

none_not_6 : (r : Result ⊤ Refusal) → r ≡ Ok tt → result_err r ≢ Some Arithmetic
none_not_6 r e h = never (sym (ap is_some (rw e at h)))

abbrev is_8 : Option Refusal → Bool
is_8 (Some Counts) = true
is_8 x = false

full_not_6 : (r : Result ⊤ Refusal) → r ≡ Err Counts → result_err r ≢ Some Arithmetic
full_not_6 r e h = never (ap is_8 (rw e at h))

train_not_6 : (e : Equaliser) → eq_in_range e ≡ true → result_err (train_refusal e) ≢ Some Arithmetic
train_not_6 e r =
    by_test (trains_eq e && leb 4194304 e.sums.count)
    (λ t. full_not_6 (train_refusal e) (refusal_8 e r t))
    (λ t. none_not_6 (train_refusal e) (no_refusal e r t))

not_6 : (e : Equaliser) → eq_in_range e ≡ true → (c : Call) → refusal_of e c ≢ Some Arithmetic
unfolding refusal_of restart_answer push_answer output_answer open_answer train_answer close_answer load_answer
not_6 e r restarts = not_6_by (range_refusal e) e _ (none_not_6 _ (accepted e r))
not_6 e r (pushes i q) = not_6_by (range_refusal e) e _ (none_not_6 _ (accepted e r))
not_6 e r outputs = not_6_by (range_refusal e) e _ (none_not_6 _ (accepted e r))
not_6 e r (opens frame) = not_6_by (range_refusal e) e _ (none_not_6 _ (accepted e r))
not_6 e r (trains di dq) = not_6_by (train_refusal e) e _ (train_not_6 e r)
not_6 e r closes = not_6_by (range_refusal e) e _ (none_not_6 _ (accepted e r))
not_6 e r (loads taps frame) = not_6_by (range_refusal e) e _ (none_not_6 _ (accepted e r))

-- .. and a training only with a full count
train_full : (e : Equaliser) → Coherent e → (di dq : ℤ) → refusal_of e (trains di dq) ≢ None → (trains_eq e ≡ true) × (e.sums.count ≡ 4194304)
unfolding refusal_of train_answer
train_full e k di dq h =
    by_test (trains_eq e && leb 4194304 e.sums.count)
    (λ t.
    let b = and_both (trains_eq e) (leb 4194304 e.sums.count) t in
    (b.0, omega (arith, leb-true 4194304 e.sums.count b.1, (k.open_sums (trains_open e b.0)).count)))
    (λ t. absurd (h (why_tested (train_refusal e) e _ ∙ ap result_err (no_refusal e (coherent_in_range e k) t))))

-- ---- CALLS: a new equaliser that any calls then leave is coherent and in range, and is not refused with 6
pub sound : (e : Equaliser) → Coherent e → Sound e
sound e k = record { coherent = k; in_range = coherent_in_range e k; never_6 = not_6 e (coherent_in_range e k); full = train_full e k }

pub calls_keep : CallsKeep
unfolding new_eq
calls_keep cs f = sound (eq_after new_eq cs) (answers_coherent new_eq cs (started_coherent _ _) f)

-- ---- RESTART: an equaliser started anew with the taps that it had, and nothing else
pub restart_starts : (e : Equaliser) → eq_in_range e ≡ true → restart_answer e ≡ Ok (started_eq e.taps e.from)
unfolding restart_answer
restart_starts e r = through _ _ _ (accepted e r)

-- ---- OUTPUT: none at the first five pushes since a start, whatever other calls come between, and one at each later push
-- calls but a push and a restart leave the fill
open_fill : (e : Equaliser) (frame : ℕ) → (state_after (open_answer e frame)).filled ≡ e.filled
unfolding open_answer with_sums
open_fill e frame = answered_both (λ (x : Result Equaliser (Refused Equaliser)). (state_after x).filled ≡ e.filled) (range_refusal e) e _ refl (λ why. refl)

train_fill : (e : Equaliser) (di dq : ℤ) → (state_after (train_answer e di dq)).filled ≡ e.filled
unfolding train_answer trained_eq with_sums
train_fill e di dq =
    answered_both (λ (x : Result Equaliser (Refused Equaliser)). (state_after x).filled ≡ e.filled) (train_refusal e) e _
    (if_both (λ (x : Equaliser). x.filled ≡ e.filled) (trains_eq e) _ _ refl refl)
    (λ why. refl)

close_fill : (e : Equaliser) → (eq_after_close (close_answer e)).filled ≡ e.filled
unfolding close_answer closed_eq with_sums
close_fill e =
    answered_both (λ x. (eq_after_close x).filled ≡ e.filled) (range_refusal e) e _
    (if_both (λ (x : Closed). x.eq.filled ≡ e.filled) e.opened _ _ refl refl)
    (λ why. refl)

load_fill : (e : Equaliser) (taps : List ℤ) (frame : ℕ) → (state_after (load_answer e taps frame)).filled ≡ e.filled
unfolding load_answer loaded_eq
load_fill e taps frame = answered_both (λ (x : Result Equaliser (Refused Equaliser)). (state_after x).filled ≡ e.filled) (range_refusal e) e _ refl (λ why. refl)

pushed_ok : (e : Equaliser) (i q : ℤ) → eq_in_range e ≡ true → push_answer e i q ≡ Ok (record { eq = pushed_eq e i q; out = output_at (pushed_eq e i q) })
unfolding push_answer
pushed_ok e i q r = through _ _ _ (accepted e r)

push_fill : (e : Equaliser) (i q : ℤ) → eq_in_range e ≡ true → (eq_after_push (push_answer e i q)).filled ≡ min (e.filled + 1) 11
unfolding pushed_eq
push_fill e i q r = rw (pushed_ok e i q r)

fill_go : (e : Equaliser) (n : ℕ) (cs : List Call) → Coherent e → CallsFit cs → NoRestart cs → e.filled ≡ min n 11 → (eq_after e cs).filled ≡ min (n + symbols_in cs) 11
unfolding eq_after symbols_in eq_of
fill_go e n [] k f r h = rw h (omega arith)
fill_go e n (restarts ∷ cs) k f r h = absurd r
fill_go e n (pushes i q ∷ cs) k f r h =
    let g = fill_go (eq_of e (pushes i q)) (n + 1) cs (answer_coherent e (pushes i q) k f.0) f.1 r (push_fill e i q (coherent_in_range e k) ∙ omega arith) in
    g ∙ omega arith
fill_go e n (outputs ∷ cs) k f r h = fill_go e n cs k f.1 r h
fill_go e n (opens frame ∷ cs) k f r h = fill_go (eq_of e (opens frame)) n cs (answer_coherent e (opens frame) k f.0) f.1 r (open_fill e frame ∙ h)
fill_go e n (trains di dq ∷ cs) k f r h = fill_go (eq_of e (trains di dq)) n cs (answer_coherent e (trains di dq) k f.0) f.1 r (train_fill e di dq ∙ h)
fill_go e n (closes ∷ cs) k f r h = fill_go (eq_of e closes) n cs (answer_coherent e closes k f.0) f.1 r (close_fill e ∙ h)
fill_go e n (loads taps frame ∷ cs) k f r h = fill_go (eq_of e (loads taps frame)) n cs (answer_coherent e (loads taps frame) k f.0) f.1 r (load_fill e taps frame ∙ h)

start_fill : (taps : List ℤ) (from : Option ℕ) → (started_eq taps from).filled ≡ 0
unfolding started_eq
start_fill taps from = refl

pushes_by_fill : (e : Equaliser) (n : ℕ) (i q : ℤ) → eq_in_range e ≡ true → e.filled ≡ min n 11 → Pushes e n i q
unfolding output_at pushed_eq
pushes_by_fill e n i q r h =
    let ok = pushed_ok e i q r in
    record {
      taken = ap is_ok ok;
      few = λ l. subst (λ x. IsOkAnd x (λ p. p.out ≡ None)) (sym ok) (if_no (ltb 5 (min (e.filled + 1) 11)) _ _ (le-ltb 5 (min (e.filled + 1) 11) (omega arith)));
      enough = λ l.
          subst (λ x. IsOkAnd x (λ p. p.out ≡ Some (output_of e.taps (pushed_eq e i q).line))) (sym ok)
          (if_yes (ltb 5 (min (e.filled + 1) 11)) _ _ (lt-ltb 5 (min (e.filled + 1) 11) (omega arith)));
    }

since_start : (taps : List ℤ) (from : Option ℕ) (cs : List Call) → CallsFit cs → NoRestart cs → (eq_after (started_eq taps from) cs).filled ≡ min (symbols_in cs) 11
since_start taps from cs f r = fill_go (started_eq taps from) 0 cs (started_coherent taps from) f r (rw (start_fill taps from) (omega arith)) ∙ omega arith

pub output_after_five : (taps : List ℤ) (from : Option ℕ) (cs : List Call) (i q : ℤ) → CallsFit cs → NoRestart cs →
    Pushes (eq_after (started_eq taps from) cs) (symbols_in cs) i q
output_after_five taps from cs i q f r =
    let e = eq_after (started_eq taps from) cs in
    pushes_by_fill e (symbols_in cs) i q (coherent_in_range e (answers_coherent (started_eq taps from) cs (started_coherent taps from) f)) (since_start taps from cs f r)

-- ---- TRAINING: it takes eleven pushes since a start, whatever other calls come between
eleven : (n : ℕ) → leb 11 (min n 11) ≡ leb 11 n
eleven n =
    by_test (leb 11 n)
    (λ t. le-leb 11 (min n 11) (omega (arith, leb-true 11 n t)) ∙ sym t)
    (λ t. lt-leb 11 (min n 11) (omega (arith, leb-false 11 n t)) ∙ sym t)

pub trains_from_eleven : (taps : List ℤ) (from : Option ℕ) (cs : List Call) → CallsFit cs → NoRestart cs →
    let e = eq_after (started_eq taps from) cs in
    trains_eq e ≡ (e.opened && leb 11 (symbols_in cs))
unfolding trains_eq
trains_from_eleven taps from cs f r =
    let e = eq_after (started_eq taps from) cs in
    let h : e.filled ≡ min (symbols_in cs) 11 = since_start taps from cs f r in
    ap (λ (n : ℕ). e.opened && leb 11 n) h ∙ ap (λ (b : Bool). e.opened && b) (eleven (symbols_in cs))

-- ---- SUMS: those that closing gives hold exactly the trainings that counted since the opening
-- a training that counts, and one that does not
train_counted : (e : Equaliser) (di dq : ℤ) → counts e ≡ true → state_after (train_answer e di dq) ≡ with_sums e true (trained_sums e.sums e.line di dq)
unfolding train_answer trained_eq counts
train_counted e di dq h =
    let b = and_both (trains_eq e) (is_ok (train_refusal e)) h in
    answered_either (λ x. state_after x ≡ with_sums e true (trained_sums e.sums e.line di dq)) (train_refusal e) e _
    (λ z. if_yes (trains_eq e) _ _ b.0)
    (λ why z. absurd (never (sym (rw z at b.1))))

train_idle : (e : Equaliser) (di dq : ℤ) → counts e ≡ false → state_after (train_answer e di dq) ≡ e
unfolding train_answer trained_eq counts
train_idle e di dq h =
    answered_either (λ x. state_after x ≡ e) (train_refusal e) e _
    (λ z. if_either (λ (x : Equaliser). x ≡ e) (trains_eq e) _ _ (λ t. absurd (never (rw (t, z) at h))) (λ t. refl))
    (λ why z. refl)

-- pushes and loads leave open what is open, and its sums
push_sums : (e : Equaliser) (i q : ℤ) →
    let n = eq_after_push (push_answer e i q) in
    (n.opened ≡ e.opened) × (n.sums ≡ e.sums)
unfolding push_answer pushed_eq
push_sums e i q =
    answered_both (λ x. ((eq_after_push x).opened ≡ e.opened) × ((eq_after_push x).sums ≡ e.sums)) (range_refusal e) e _ (refl, refl) (λ why. (refl, refl))

load_sums : (e : Equaliser) (taps : List ℤ) (frame : ℕ) →
    let n = state_after (load_answer e taps frame) in
    (n.opened ≡ e.opened) × (n.sums ≡ e.sums)
unfolding load_answer loaded_eq
load_sums e taps frame =
    answered_both (λ (x : Result Equaliser (Refused Equaliser)). ((state_after x).opened ≡ e.opened) × ((state_after x).sums ≡ e.sums)) (range_refusal e) e _ (refl, refl) (λ why. (refl, refl))

with_opened : (e : Equaliser) (s : Sums) → ((with_sums e true s).opened ≡ true) × ((with_sums e true s).sums ≡ s)
unfolding with_sums
with_opened e s = (refl, refl)

-- open, with these trainings in its sums
abbrev Has : Equaliser → Sums → List Training → Type 0
Has e s ts = (e.opened ≡ true) × (e.sums ≡ trained_all s ts)

train_first : (s : Sums) (t : Training) (ts : List Training) → trained_all s (t ∷ ts) ≡ trained_all (trained_sums s t.line t.di t.dq) ts
unfolding trained_all
train_first s t ts = refl

sums_go : (e : Equaliser) (cs : List Call) → e.opened ≡ true → StaysOpen cs → Has (eq_after e cs) e.sums (trainings_in e cs)
unfolding eq_after trainings_in eq_of
sums_go e [] o b = (o, unfold trained_all in refl)
sums_go e (restarts ∷ cs) o b = absurd b
sums_go e (pushes i q ∷ cs) o b =
    let x = push_sums e i q in
    let n = eq_after_push (push_answer e i q) in
    subst (λ (s : Sums). Has (eq_after n cs) s (trainings_in n cs)) x.1 (sums_go n cs (x.0 ∙ o) b)
sums_go e (outputs ∷ cs) o b = sums_go e cs o b
sums_go e (opens frame ∷ cs) o b = absurd b
sums_go e (trains di dq ∷ cs) o b =
    let n = state_after (train_answer e di dq) in
    if_either (Has (eq_after n cs) e.sums) (counts e) _ _
    (λ z.
    let w = with_opened e (trained_sums e.sums e.line di dq) in
    let p = train_counted e di dq z in
    let g = sums_go n cs (ap (λ (x : Equaliser). x.opened) p ∙ w.0) b in (
      g.0,
      g.1 ∙ ap (λ (s : Sums). trained_all s (trainings_in n cs)) (ap (λ (x : Equaliser). x.sums) p ∙ w.1)
          ∙ sym (train_first e.sums (record { line = e.line; di = di; dq = dq }) (trainings_in n cs)),
    ))
    (λ z.
    let p = train_idle e di dq z in
    let g = sums_go n cs (ap (λ (x : Equaliser). x.opened) p ∙ o) b in
    (g.0, g.1 ∙ ap (λ (x : Equaliser). trained_all x.sums (trainings_in n cs)) p))
sums_go e (closes ∷ cs) o b = absurd b
sums_go e (loads taps frame ∷ cs) o b =
    let x = load_sums e taps frame in
    let n = state_after (load_answer e taps frame) in
    subst (λ (s : Sums). Has (eq_after n cs) s (trainings_in n cs)) x.1 (sums_go n cs (x.0 ∙ o) b)

frame_all : (s : Sums) (ts : List Training) → (trained_all s ts).frame ≡ s.frame
unfolding trained_all trained_sums
frame_all s [] = refl
frame_all s (t ∷ ts) = frame_all (trained_sums s t.line t.di t.dq) ts

close_open : (e : Equaliser) → eq_in_range e ≡ true → e.opened ≡ true → close_answer e ≡ Ok (record { eq = with_sums e false (empty_sums 0); sums = Some e.sums })
unfolding close_answer closed_eq
close_open e r o = through _ _ _ (accepted e r) ∙ ap Ok (if_yes e.opened _ _ o)

closed_gives : (e : Equaliser) (frame : ℕ) (ts : List Training) → eq_in_range e ≡ true → Has e (empty_sums frame) ts → Gives (close_answer e) frame ts
closed_gives e frame ts r h =
    record {
      closed = record { eq = with_sums e false (empty_sums 0); sums = Some e.sums };
      sums = e.sums;
      taken = close_open e r h.0;
      ended = refl;
      of = ap (λ (s : Sums). s.frame) h.1 ∙ frame_all (empty_sums frame) ts ∙ unfold empty_sums in refl;
      holds = rw h.1 (holds_trainings frame ts);
    }

opened_by : (e : Equaliser) (frame : ℕ) → eq_in_range e ≡ true → state_after (open_answer e frame) ≡ with_sums e true (empty_sums frame)
unfolding open_answer
opened_by e frame r = rw (accepted e r)

pub closed_sums : (e : Equaliser) (frame : ℕ) (cs : List Call) → Coherent e → CallsFit cs → StaysOpen cs →
    let o = eq_of e (opens frame) in
    Gives (close_answer (eq_after o cs)) frame (trainings_in o cs)
unfolding eq_of
closed_sums e frame cs k f b =
    let o = state_after (open_answer e frame) in
    let p = opened_by e frame (coherent_in_range e k) in
    let w = with_opened e (empty_sums frame) in
    let g = sums_go o cs (ap (λ (x : Equaliser). x.opened) p ∙ w.0) b in
    let c = answers_coherent o cs (answer_coherent e (opens frame) k tt) f in
    let z = ap (λ (x : Equaliser). x.sums) p ∙ w.1 in
    closed_gives (eq_after o cs) frame (trainings_in o cs) (coherent_in_range (eq_after o cs) c) (g.0, g.1 ∙ ap (λ (s : Sums). trained_all s (trainings_in o cs)) z)
