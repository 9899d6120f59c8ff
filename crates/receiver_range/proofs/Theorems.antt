-- Calls keep a receiver coherent, so its numbers stay in range and no call is refused with 6. Each statement stands above its proof. Assumes
-- nothing.
use Prim.Native.Nat.{ℕ, ◌^◌}
use mathlib.Core.Bool.{true, false, ◌&&◌}
use mathlib.Core.List.{List, [], ◌∷◌}
use mathlib.Core.Path.{◌≡◌, sym, ◌∙◌}
use native.Mathlib.Omega.{arith}
use borrow.Author.Tests.{eqb-true, leb-false}
use lib.Dec.{eqb, leb}
use lib.IntN.{ℤ}
use lib.ListN.{length}
use Rattle.laws.specs.Choice.{when◌then◌else◌}
use Rattle.laws.proofs.Tests.{and_both, if_both, if_either, never}
use Rattle.laws.proofs.Taken.{ok_no, ok_yes}
use Rattle.refusal.proofs.Answered.{answered_both, answered_either}
use Rattle.refusal.specs.Refusals.{answered, code_of, state_after}
use Rattle.refusal.specs.declared.Refusal.{Refusal}
use Rattle.refusal.specs.declared.Refusal.TheVariants.{Stores, Words, Table, Points as BadPoints, Scale, Arithmetic, Position, Counts}
use Rattle.refusal.specs.declared.Refused.{Refused}
use Rattle.std.specs.Prelude.{Result, Ok, Err, ⊤}
use Rattle.sync_corr.specs.Correlate.{ones_of}
use Rattle.demap.specs.Answers.{bad_points, bad_scale}
use Rattle.receiver.specs.declared.Answer.{Answer}
use Rattle.receiver.specs.declared.Ended.{Ended}
use Rattle.receiver.specs.declared.Receiver.{Receiver}
use Rattle.receiver.specs.Ranges.{receiver_in_range}
use Rattle.receiver.specs.Symbol.{Input, Lent, next_of, past, full}
use Rattle.receiver.specs.Answers.{accepted_symbol, code_in, ended_of, range_refusal, receiver_ended, receiver_left, new_answer, stores_fit, symbol_refusal, symbol_answer, points_refusal, points_answer, eq_answer, taps_answer, open_answer, end_answer, restart_refusal, restart_answer}
use Rattle.receiver_range.specs.Coherent.{CoherentReceiver}
use Rattle.receiver_range.specs.Calls.{Call, symbol, points, taps, opens, ends, restarts, refusal_of, receiver_of, receiver_after, SymbolFits, CallFits, CallsFit, Sound, CallsKeep}
use Rattle.receiver_range.proofs.Codes.{code_shown}
use Rattle.receiver_range.proofs.InRange.{in_range}
use Rattle.receiver_range.proofs.Starts.{new_coherent, restart_coherent, loaded_points_fit, points_coherent, taps_coherent, open_sums_coherent, end_sums_coherent}
use Rattle.receiver_range.proofs.Symbols.{Takes, past_is, coherent-symbol}

-- ---- a new receiver, refused or not
pub new_answer_coherent : (at : ℕ) (step : ℤ) (acc : List ℕ) → CoherentReceiver (state_after (new_answer at step acc))
unfolding new_answer
new_answer_coherent at step acc =
    if_both (λ (a : Result Receiver (Refused Receiver)). CoherentReceiver (state_after a)) _ _ _ (new_coherent at step) (new_coherent at step)

-- ---- what is accepted
pub record Accepts (r : Receiver) (x : Input) (l : Lent) : Type 0 where
  pub takes : Takes r x l
  pub room : full 9296 r x l ≡ false

pub symbol-accepts : (r : Receiver) (x : Input) (l : Lent) → CoherentReceiver r → SymbolFits x l → symbol_refusal r x l ≡ Ok tt → Accepts r x l
unfolding symbol_refusal stores_fit
symbol-accepts r x l c f e =
    let a = ok_yes (stores_fit l) _ Stores e in
    let o = ok_yes (ones_of x.f && ones_of x.s) _ Words a.1 in
    let t = ok_yes (eqb (length x.table) 1024) _ Table o.1 in
    let i = ok_yes (receiver_in_range r) _ Arithmetic t.1 in
    let p = ok_no (past 9296 r x l) Position _ i.1 in
    let u = ok_no (full 9296 r x l) Counts _ p.1 in
    accepts a.0 o.0 p.0 u.0
  where
    accepts : (eqb (length l.acc) 9296 && eqb (length l.store) 18592 && leb 44880 (length l.soft)) ≡ true → (ones_of x.f && ones_of x.s) ≡ true →
        past 9296 r x l ≡ false → full 9296 r x l ≡ false → Accepts r x l
    accepts a o p u =
        let k = and_both (eqb (length l.acc) 9296 && eqb (length l.store) 18592) (leb 44880 (length l.soft)) a in
        let w = and_both (ones_of x.f) (ones_of x.s) o in
        record {
          takes = record {
            fits = f;
            long = eqb-true (length l.acc) 9296 (and_both (eqb (length l.acc) 9296) (eqb (length l.store) 18592) k.0).0;
            first = w.0;
            second = w.1;
            below = leb-false (2 ^ 62) (next_of r) (sym (past_is r x l c) ∙ p);
          };
          room = u;
        }

points-accepts : (r : Receiver) (bits len : ℕ) (k : ℤ) → points_refusal r bits len k ≡ Ok tt → (bad_points bits len ≡ false) × (bad_scale k ≡ false)
unfolding points_refusal
points-accepts r bits len k e =
    let a = ok_no (bad_points bits len) BadPoints _ e in
    let b = ok_no (bad_scale k) Scale _ a.1 in
    (a.0, b.0)

-- ---- EVERY CALL KEEPS IT, a refused one too
left_coherent : (r : Receiver) (t : Result ⊤ Refusal) (s : Receiver) → CoherentReceiver r → CoherentReceiver s → CoherentReceiver (state_after (answered t r s))
left_coherent r t s c k = answered_both (λ (a : Result Receiver (Refused Receiver)). CoherentReceiver (state_after a)) t r s k (λ why. c)

pub answer_coherent : (r : Receiver) (a : Call) → CoherentReceiver r → CallFits a → CoherentReceiver (receiver_of r a)
unfolding receiver_of symbol_answer accepted_symbol points_answer taps_answer open_answer eq_answer end_answer ended_of restart_answer
answer_coherent r (symbol x l) c f =
    answered_either (λ (a : Result Answer (Refused Receiver)). CoherentReceiver (receiver_left a)) (symbol_refusal r x l) r (accepted_symbol r x l)
    (λ e. let a = symbol-accepts r x l c f e in coherent-symbol r x l c a.takes a.room)
    (λ why e. c)
answer_coherent r (points bits ps k) c f =
    answered_either (λ (a : Result Receiver (Refused Receiver)). CoherentReceiver (state_after a)) (points_refusal r bits (length ps) k) r _
    (λ e. let a = points-accepts r bits (length ps) k e in points_coherent r _ (loaded_points_fit bits ps k a.0 a.1) c)
    (λ why e. c)
answer_coherent r (taps ts frame) c f = left_coherent r (range_refusal r) _ c (taps_coherent r ts frame c)
answer_coherent r (opens frame) c f = left_coherent r (range_refusal r) _ c (open_sums_coherent r frame c)
answer_coherent r ends c f =
    answered_both (λ (a : Result Ended (Refused Receiver)). CoherentReceiver (receiver_ended a)) (range_refusal r) r (ended_of r)
    (if_both (λ (a : Ended). CoherentReceiver a.receiver) _ _ _ (end_sums_coherent r c) c)
    (λ why. c)
answer_coherent r (restarts at acc) c f = left_coherent r (restart_refusal r at (length acc)) _ c (restart_coherent r at c)

-- .. and so do several
pub answers_coherent : (r : Receiver) (cs : List Call) → CoherentReceiver r → CallsFit cs → CoherentReceiver (receiver_after r cs)
unfolding receiver_after
answers_coherent r [] c f = c
answers_coherent r (a ∷ cs) c f = answers_coherent (receiver_of r a) cs (answer_coherent r a c f.0) f.1

-- ---- IN RANGE, NO CALL ANSWERS 6
abbrev Not6 : Result ⊤ Refusal → Type 0
Not6 t = code_of t ≡ 6 → ⊥

taken_not_6 : Not6 (Ok tt)
taken_not_6 e = omega arith

-- a choice by the range alone
in_range_not_6 : (r : Receiver) (t : Result ⊤ Refusal) → receiver_in_range r ≡ true → Not6 t → Not6 (when receiver_in_range r then t else Err Arithmetic)
in_range_not_6 r t e k = if_either Not6 (receiver_in_range r) t (Err Arithmetic) (λ y. k) (λ y. absurd (never (sym e ∙ y)))

symbol_not_6 : (r : Receiver) (x : Input) (l : Lent) → receiver_in_range r ≡ true → Not6 (symbol_refusal r x l)
unfolding symbol_refusal
symbol_not_6 r x l e =
    if_both Not6 _ _ (Err Stores)
    (if_both Not6 _ _ (Err Words)
    (if_both Not6 _ _ (Err Table) (in_range_not_6 r _ e (if_both Not6 _ (Err Position) _ (λ z. omega arith) (if_both Not6 _ (Err Counts) (Ok tt) (λ z. omega arith) taken_not_6))) (λ z. omega arith))
    (λ z. omega arith))
    (λ z. omega arith)

range_not_6 : (r : Receiver) → receiver_in_range r ≡ true → Not6 (range_refusal r)
unfolding range_refusal
range_not_6 r e = in_range_not_6 r (Ok tt) e taken_not_6

points_not_6 : (r : Receiver) (bits len : ℕ) (k : ℤ) → receiver_in_range r ≡ true → Not6 (points_refusal r bits len k)
unfolding points_refusal
points_not_6 r bits len k e = if_both Not6 _ (Err BadPoints) _ (λ z. omega arith) (if_both Not6 _ (Err Scale) _ (λ z. omega arith) (range_not_6 r e))

restart_not_6 : (r : Receiver) (at len : ℕ) → receiver_in_range r ≡ true → Not6 (restart_refusal r at len)
unfolding restart_refusal
restart_not_6 r at len e = if_both Not6 _ _ (Err Stores) (in_range_not_6 r _ e (if_both Not6 _ (Err Position) (Ok tt) (λ z. omega arith) taken_not_6)) (λ z. omega arith)

-- an answer is refused as its test says
answer_not_6 : {T : Type 0} (r : Receiver) (t : Result ⊤ Refusal) (a : T) → Not6 t → code_in (answered t r a) ≡ 6 → ⊥
answer_not_6 r t a k e = k (sym (code_shown t r a) ∙ e)

pub never_6 : (r : Receiver) (a : Call) → receiver_in_range r ≡ true → refusal_of r a ≡ 6 → ⊥
unfolding refusal_of symbol_answer points_answer taps_answer open_answer eq_answer end_answer restart_answer
never_6 r (symbol x l) e = answer_not_6 r _ _ (symbol_not_6 r x l e)
never_6 r (points bits ps k) e = answer_not_6 r _ _ (points_not_6 r bits (length ps) k e)
never_6 r (taps ts frame) e = answer_not_6 r _ _ (range_not_6 r e)
never_6 r (opens frame) e = answer_not_6 r _ _ (range_not_6 r e)
never_6 r ends e = answer_not_6 r _ _ (range_not_6 r e)
never_6 r (restarts at acc) e = answer_not_6 r _ _ (restart_not_6 r at (length acc) e)

-- ---- CALLS: a new receiver that any calls then leave is coherent and in range, and is not refused with 6
pub sound : (r : Receiver) → CoherentReceiver r → Sound r
sound r c = let e = in_range r c in record { coherent = c; in_range = e; never_6 = λ a. never_6 r a e }

pub calls_keep : CallsKeep
calls_keep at step acc cs f = sound (receiver_after (state_after (new_answer at step acc)) cs) (answers_coherent (state_after (new_answer at step acc)) cs (new_answer_coherent at step acc) f)
