-- The answer of a call, part by part. Assumes nothing.
use Prim.Native.Nat.{ℕ, suc, ◌+◌, ◌-◌, ◌/◌, ◌%◌}
use Rattle.guarantee.proofs.Follow.{wrong_any, wrong-lent}
use Rattle.guarantee.proofs.Lists.{call_steps}
use Rattle.guarantee.proofs.Loads.{end-answer}
use Rattle.guarantee.proofs.Outs.{runs_by}
use Rattle.guarantee.proofs.Tied.{SumsTied, Tied}
use Rattle.guarantee.specs.Calls.{Call, CallFits, System, after_call, handed_acc, kept_acc, lent_to, plain, told_by}
use Rattle.guarantee.specs.Calls.{symbol, points, taps, opens, ends, restarts, own, wrong}
use Rattle.guarantee.specs.Demand.{Accumulated, Answers, lent_back, taken_in}
use Rattle.guarantee.specs.History.{History, Training, count_of, ended_in, frame_of, happens, is_open}
use Rattle.guarantee.specs.History.{none, since}
use Rattle.laws.proofs.Tests.{never}
use Rattle.laws.specs.Choice.{when◌then◌else◌}
use Rattle.receiver.specs.Answers.{end_answer, restart_acc, sums_ended, restart_refusal}
use Rattle.receiver.specs.Symbol.{Lent}
use Rattle.sums.specs.declared.Sums.{Sums}
use Rattle.std.specs.Prelude.{Option, None, Some, false, is_some, unwrap_or}
use Rattle.sync_history.specs.History.{acc_after}
use Rattle.sync_tie.proofs.Follow.{follows}
use Rattle.sync_tie.proofs.Theorems.{kept-fold}
use Rattle.sync_tie.proofs.Track.{periods_at}
use Rattle.sync_tie.specs.Pushes.{size_at}
use Rattle.sync_tie.specs.Tie.{Held}
use lib.Dec.{lit≤, ltb}
use lib.ListN.{get_or, length}
use mathlib.Core.List.{List}
use mathlib.Core.Path.{◌∙◌, ◌≡◌, ap, refl, subst, sym}
use native.Mathlib.Omega.{arith}

-- ---- sums: those that an end gives, or none
record SumsTold (u : Training) (sums : Option Sums) : Type 0 where
  pub ended : is_some sums ≡ is_open u
  pub frame : (k : Sums) → sums ≡ Some k → k.frame ≡ frame_of u
  pub count : (k : Sums) → sums ≡ Some k → k.count ≡ count_of u
  pub no_sums : is_open u ≡ false → sums ≡ None

no_sums_told : SumsTold none None
unfolding is_open
no_sums_told = record { ended = refl; frame = λ k e. absurd (not_some k e); count = λ k e. absurd (not_some k e); no_sums = λ e. refl }
  where
    not_some : (k : Sums) → None ≡ Some k → ⊥
    not_some k e = never (sym (ap (λ (y : Option Sums). is_some y) e))

some_sums_told : (frame m : ℕ) (sums : Sums) → sums.frame ≡ frame → sums.count ≡ m → SumsTold (since frame m) (Some sums)
unfolding is_open frame_of count_of
some_sums_told frame m sums e f =
    record {
      ended = refl;
      frame = λ k q. ap (λ (y : Option Sums). (unwrap_or y sums).frame) (sym q) ∙ e;
      count = λ k q. ap (λ (y : Option Sums). (unwrap_or y sums).count) (sym q) ∙ f;
      no_sums = λ e. absurd (never e);
    }

module _ (s : System) (h : History) (t : Tied s h) where
  ended_by : (u : Training) → SumsTied u s.receiver.back.eq → SumsTold u (sums_ended (end_answer s.receiver))
  unfolding when◌then◌else◌
  ended_by none o = rw (end-answer s h t, o) no_sums_told
  ended_by (since frame m) o = rw (end-answer s h t, o.0) (some_sums_told frame m s.receiver.back.eq.sums o.2 o.1)

  sums-told : (c : Call) → SumsTold (ended_in h c) (told_by s c).sums
  unfolding told_by plain ended_in
  sums-told (symbol x a b soft) = no_sums_told
  sums-told (points bits ps k) = no_sums_told
  sums-told (taps ts frame) = no_sums_told
  sums-told (opens frame) = no_sums_told
  sums-told ends = ended_by h.sums t.sums
  sums-told (restarts at a) = no_sums_told

  -- ---- accumulators
  gives-lent : (c : Call) → (told_by s c).lent ≡ lent_back c (told_by s c).acc
  unfolding told_by plain lent_to handed_acc kept_acc restart_acc restart_refusal when◌then◌else◌
  gives-lent (symbol x own b soft) = refl
  gives-lent (symbol x (wrong acc e) b soft) = ap (λ (l : Lent). l.acc) (wrong-lent s h t x (wrong acc e) b soft (wrong_any acc e b))
  gives-lent (points bits ps k) = refl
  gives-lent (taps ts frame) = refl
  gives-lent (opens frame) = refl
  gives-lent ends = refl
  gives-lent (restarts at own) = refl
  gives-lent (restarts at (wrong acc e)) = rw e

  own-acc : (c : Call) → (told_by s c).acc ≡ (after_call s c).acc
  unfolding told_by plain after_call
  own-acc (symbol x a b soft) = refl
  own-acc (points bits ps k) = refl
  own-acc (taps ts frame) = refl
  own-acc (opens frame) = refl
  own-acc ends = refl
  own-acc (restarts at a) = refl

taken_is : (base : ℕ) (i c : ℕ) → taken_in i c ≡ (when ltb i (c % 9296) then suc (c / 9296) else c / 9296)
unfolding taken_in
taken_is base i c = let e : c / 9296 + 1 ≡ suc (c / 9296) = omega arith in rw e

-- of a receiver that stands as a history says
accumulated : (s : System) (h : History) → Tied s h → Accumulated h.pushes s.acc
unfolding periods_at
accumulated s h t =
    let f = follows 9296 h.base h.last h.pushes (length h.pushes) (lit≤ tt) (omega arith) (kept-fold 9296 h.base h.last h.pushes (length h.pushes) (lit≤ tt) t.kept) in
    let e = ap (λ (y : Held). y.acc) t.held in
    let n = length h.pushes - 23 in
    record {
      long = ap (λ (l : List ℕ). length l) e ∙ f.long;
      each = λ i k. ap (λ (l : List ℕ). get_or l i 0) e ∙ f.accs i k ∙ ap (acc_after 9296 (size_at h.pushes) 0 i) (sym (taken_is 0 i n));
    }

module _ (s : System) (h : History) (t : Tied s h) where
  pub answers : (c : Call) → CallFits c → (rest : List Call) → Answers h s c (told_by s c) rest
  answers c f rest =
      let k = call_steps s h c t f in
      let u = sums-told s h t c in
      record {
        refusal = k.refusal;
        events = k.events;
        runs = runs_by s h t c f;
        ended = u.ended;
        frame = u.frame;
        count = u.count;
        no_sums = u.no_sums;
        acc = subst (Accumulated (happens h c).pushes) (sym (own-acc s h t c)) (accumulated (after_call s c) (happens h c) k.tied);
        lent = gives-lent s h t c;
      }
