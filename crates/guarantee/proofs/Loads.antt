-- Loads, training calls and restarts answer by the history, and keep the tie. Assumes nothing.
use Prim.Native.Nat.{ℕ}
use Rattle.demap.specs.Answers.{bad_points, bad_scale}
use Rattle.eq.specs.Eq.{loaded_eq, with_sums}
use Rattle.eq.specs.declared.Equaliser.{Equaliser}
use Rattle.guarantee.proofs.Follow.{Steps}
use Rattle.guarantee.proofs.Slots.{Slots}
use Rattle.guarantee.proofs.Taken.{begins_tied, kept_eq}
use Rattle.guarantee.proofs.Tied.{SumsTied, Tied, acc-long, next-is, told_in}
use Rattle.guarantee.specs.Calls.{Call, System, after_call, begins, handed_acc, kept_acc, plain, told_by}
use Rattle.guarantee.specs.Calls.{points, taps, opens, ends, restarts, own, wrong}
use Rattle.guarantee.specs.History.{History, Training, accepts, begins_with, events_in, happens, kept_in, next_in, own_acc, refusal_in}
use Rattle.guarantee.specs.History.{none, since}
use Rattle.laws.proofs.Tests.{by_test, never}
use Rattle.laws.specs.Choice.{if_no, if_yes, when◌then◌else◌}
use Rattle.refusal.specs.declared.Refusal.{Refusal}
use Rattle.refusal.specs.declared.Refusal.TheVariants.{Stores, Points as BadPoints, Scale, Arithmetic, Position}
use Rattle.refusal.specs.declared.Refused.{Refused}
use Rattle.refusal.specs.Refusals.{answered, code_of}
use Rattle.std.specs.Prelude.{None, Some, Result, Ok, Err, ⊤}
use Rattle.receiver.specs.declared.Ended.{Ended}
use Rattle.receiver.specs.declared.Kept.{Kept as KeptValues}
use Rattle.receiver.specs.declared.Receiver.{Receiver}
use Rattle.receiver.specs.Answers.{code_in, ended_of, range_refusal, receiver_ended, end_answer, eq_answer, loaded_points, open_answer, points_answer, points_refusal, restart_acc, restart_answer, restart_refusal, taps_answer, with_eq, with_points}
use Rattle.receiver.specs.Ranges.{receiver_in_range}
use Rattle.receiver.specs.Started.{kept_of, started}
use Rattle.receiver.specs.Symbol.{next_of}
use Rattle.receiver_range.proofs.Codes.{by_refusal, code_chosen, code_shown, refused_0, taken_0}
use Rattle.receiver_range.proofs.InRange.{in_range}
use Rattle.receiver_range.proofs.Starts.{end_sums_coherent, loaded_points_fit, open_sums_coherent, points_coherent, restart_coherent, taps_coherent}
use Rattle.receiver_range.specs.Coherent.{CoherentReceiver, PointsFit}
use Rattle.sums.specs.Sums.{empty_sums}
use Rattle.sync_tie.proofs.Theorems.{record-now}
use Rattle.sync_tie.specs.Tie.{Held}
use borrow.Author.Tests.{eq-eqb}
use lib.Dec.{eqb, lit≤, ltb}
use lib.IntN.{ℤ}
use lib.ListN.{length, replicate}
use mathlib.Core.Bool.{false, true}
use mathlib.Core.List.{List}
use mathlib.Core.Path.{◌∙◌, ◌≡◌, ap, refl, subst, sym}
use native.Mathlib.Omega.{arith}

-- ---- a constellation
module _ (s : System) (h : History) (t : Tied s h) (bits : ℕ) (ps : List ℤ) (k : ℤ) where
  abbrev r : Receiver
  r = s.receiver

  abbrev c : Call
  c = points bits ps k

  points-refusal : code_of (points_refusal r bits (length ps) k) ≡ refusal_in h c
  unfolding points_refusal refusal_in range_refusal
  points-refusal =
      code_chosen (bad_points bits (length ps)) (Err BadPoints) _ 4 _ (λ a. refl)
      (λ a. code_chosen (bad_scale k) (Err Scale) _ 5 _ (λ b. refl) (λ b. ap (λ (u : Result ⊤ Refusal). code_of u) (if_yes (receiver_in_range r) (Ok tt) (Err Arithmetic) (in_range r t.coherent))))

  points-told : code_in (answered (points_refusal r bits (length ps) k) r (with_points r (loaded_points bits ps k))) ≡ refusal_in h c
  points-told = code_shown (points_refusal r bits (length ps) k) r (with_points r (loaded_points bits ps k)) ∙ points-refusal

  points_fit_lem : eqb (refusal_in h c) 0 ≡ true → PointsFit (loaded_points bits ps k)
  unfolding refusal_in when◌then◌else◌
  points_fit_lem e =
      by_test (bad_points bits (length ps)) (λ a. absurd (no-4 a e))
      (λ a. by_test (bad_scale k) (λ b. absurd (no-5 a b e)) (λ b. loaded_points_fit bits ps k a b))
    where
      no-4 : bad_points bits (length ps) ≡ true → eqb (refusal_in h c) 0 ≡ true → ⊥
      no-4 a e = never (sym e ∙ rw a)

      no-5 : bad_points bits (length ps) ≡ false → bad_scale k ≡ true → eqb (refusal_in h c) 0 ≡ true → ⊥
      no-5 a b e = never (sym e ∙ rw (a, b))

  points-tied : PointsFit (loaded_points bits ps k) → Tied (record { receiver = with_points r (loaded_points bits ps k); acc = s.acc; store = s.store }) (accepts h c)
  unfolding with_points accepts
  points-tied f =
      record {
        held = t.held;
        kept = t.kept;
        nco = t.nco;
        taps = t.taps;
        from = t.from;
        points = refl;
        sums = t.sums;
        slots = t.slots;
        coherent = points_coherent r (loaded_points bits ps k) f t.coherent;
        short = t.short;
        store = t.store;
      }

  pub points-steps : Steps s h c
  unfolding told_by plain events_in after_call happens points_answer
  points-steps =
      let n = points_refusal r bits (length ps) k in
      by_refusal n
      (λ e.
      let d = taken_0 n (refusal_in h c) points-refusal e in
      record { refusal = points-told; events = refl; tied = rw (e, if_yes (eqb (refusal_in h c) 0) (accepts h c) h d) (points-tied (points_fit_lem d)) })
      (λ why e. record { refusal = points-told; events = refl; tied = rw (e, if_no (eqb (refusal_in h c) 0) (accepts h c) h (refused_0 n (refusal_in h c) why points-refusal e)) t })

-- ---- calls that change the equaliser alone
module _ (s : System) (h : History) (t : Tied s h) where
  abbrev r₀ : Receiver
  r₀ = s.receiver

  -- the alignment stands as it did, if the line does
  same-slots : (e : Equaliser) → e.filled ≡ r₀.back.eq.filled → Slots (told_in h) (with_eq r₀ e).front.phase (with_eq r₀ e).back
  unfolding with_eq
  same-slots e q =
      let u = t.slots in
      record { idle = u.idle; held = u.held; empty = λ z. q ∙ u.empty z; full_line = λ z. q ∙ u.full_line z }

  ranged : range_refusal r₀ ≡ Ok tt
  unfolding range_refusal
  ranged = if_yes (receiver_in_range r₀) (Ok tt) (Err Arithmetic) (in_range r₀ t.coherent)

  eq-answer : (e : Equaliser) → eq_answer r₀ e ≡ Ok (with_eq r₀ e)
  unfolding eq_answer
  eq-answer e = rw ranged

  taps-tied : (ts : List ℤ) (frame : ℕ) → Tied (record { receiver = with_eq r₀ (loaded_eq r₀.back.eq ts frame); acc = s.acc; store = s.store }) (accepts h (taps ts frame))
  unfolding with_eq accepts loaded_eq
  taps-tied ts frame =
      record {
        held = t.held;
        kept = t.kept;
        nco = t.nco;
        taps = refl;
        from = refl;
        points = t.points;
        sums = same-sums h.sums t.sums;
        slots = same-slots (loaded_eq r₀.back.eq ts frame) refl;
        coherent = taps_coherent r₀ ts frame t.coherent;
        short = t.short;
        store = t.store;
      }
    where
      same-sums : (u : Training) → SumsTied u r₀.back.eq → SumsTied u (loaded_eq r₀.back.eq ts frame)
      same-sums none k = k
      same-sums (since frame m) k = k

  open-tied : (frame : ℕ) → Tied (record { receiver = with_eq r₀ (with_sums r₀.back.eq true (empty_sums frame)); acc = s.acc; store = s.store }) (accepts h (opens frame))
  unfolding with_eq accepts with_sums empty_sums
  open-tied frame =
      record {
        held = t.held;
        kept = t.kept;
        nco = t.nco;
        taps = t.taps;
        from = t.from;
        points = t.points;
        sums = (refl, refl, refl);
        slots = same-slots (with_sums r₀.back.eq true (empty_sums frame)) refl;
        coherent = open_sums_coherent r₀ frame t.coherent;
        short = t.short;
        store = t.store;
      }

  pub taps-steps : (ts : List ℤ) (frame : ℕ) → Steps s h (taps ts frame)
  unfolding told_by plain events_in after_call happens taps_answer refusal_in when◌then◌else◌
  taps-steps ts frame =
      let e = loaded_eq r₀.back.eq ts frame in
      record { refusal = ap (λ (a : Result Receiver (Refused Receiver)). code_in a) (eq-answer e); events = refl; tied = rw (eq-answer e) (taps-tied ts frame) }

  pub open-steps : (frame : ℕ) → Steps s h (opens frame)
  unfolding told_by plain events_in after_call happens open_answer refusal_in when◌then◌else◌
  open-steps frame =
      let e = with_sums r₀.back.eq true (empty_sums frame) in
      record { refusal = ap (λ (a : Result Receiver (Refused Receiver)). code_in a) (eq-answer e); events = refl; tied = rw (eq-answer e) (open-tied frame) }

  -- ---- an end
  abbrev with-sums : Ended
  with-sums = record { receiver = with_eq r₀ (with_sums r₀.back.eq false (empty_sums 0)); sums = Some r₀.back.eq.sums }

  abbrev without : Ended
  without = record { receiver = r₀; sums = None }

  pub end-answer : end_answer r₀ ≡ Ok (when r₀.back.eq.opened then with-sums else without)
  unfolding end_answer ended_of
  end-answer = rw ranged

  closed_tied : Tied (record { receiver = with_eq r₀ (with_sums r₀.back.eq false (empty_sums 0)); acc = s.acc; store = s.store }) (accepts h ends)
  unfolding with_eq accepts with_sums
  closed_tied =
      record {
        held = t.held;
        kept = t.kept;
        nco = t.nco;
        taps = t.taps;
        from = t.from;
        points = t.points;
        sums = refl;
        slots = same-slots (with_sums r₀.back.eq false (empty_sums 0)) refl;
        coherent = end_sums_coherent r₀ t.coherent;
        short = t.short;
        store = t.store;
      }

  none-tied : r₀.back.eq.opened ≡ false → Tied (record { receiver = r₀; acc = s.acc; store = s.store }) (accepts h ends)
  unfolding accepts
  none-tied o =
      record {
        held = t.held;
        kept = t.kept;
        nco = t.nco;
        taps = t.taps;
        from = t.from;
        points = t.points;
        sums = o;
        slots = t.slots;
        coherent = t.coherent;
        short = t.short;
        store = t.store;
      }

  pub end-steps : Steps s h ends
  unfolding told_by events_in after_call happens refusal_in when◌then◌else◌
  end-steps =
      by_test r₀.back.eq.opened
      (λ o. ended with-sums (end-answer ∙ rw o) closed_tied)
      (λ o. ended without (end-answer ∙ rw o) (none-tied o))
    where
      ended : (u : Ended) → end_answer r₀ ≡ Ok u → Tied (record { receiver = u.receiver; acc = s.acc; store = s.store }) (accepts h ends) → Steps s h ends
      ended u e k =
          record {
            refusal = ap (λ (a : Result Ended (Refused Receiver)). code_in a) e;
            events = refl;
            tied = subst (λ (a : Result Ended (Refused Receiver)). Tied (record { receiver = receiver_ended a; acc = s.acc; store = s.store }) (accepts h ends)) (sym e) k;
          }

  -- ---- a restart
  pub kept-now : kept_of r₀ ≡ kept_in h
  unfolding kept_of kept_in
  kept-now =
      let last = ap (λ (y : Held). y.sync.run.course.last) t.held ∙ record-now 9296 h.base h.last h.pushes (length h.pushes) (lit≤ tt) (omega arith) t.kept in
      kept_eq t.nco t.taps t.from t.points last

  module _ (at : ℕ) where
    restart-refusal : code_of (restart_refusal r₀ at (length s.acc)) ≡ refusal_in h (restarts at own)
    unfolding restart_refusal refusal_in own_acc
    restart-refusal =
        ap (λ (u : Result ⊤ Refusal). code_of u)
        (if_yes (eqb (length s.acc) 9296) _ (Err Stores) (eq-eqb (length s.acc) 9296 (acc-long s h t)) ∙ if_yes (receiver_in_range r₀) _ (Err Arithmetic) (in_range r₀ t.coherent))
        ∙ code_chosen (ltb at (next_of r₀)) (Err Position) (Ok tt) 7 0 (λ e. refl) (λ e. refl)
        ∙ ap (λ (n : ℕ). when ltb at n then 7 else 0) (next-is s h t)
        ∙ sym (if_yes true (when ltb at (next_in h) then 7 else 0) 1 refl)

    restart-told : code_in (answered (restart_refusal r₀ at (length s.acc)) r₀ (started at (kept_of r₀))) ≡ refusal_in h (restarts at own)
    restart-told = code_shown (restart_refusal r₀ at (length s.acc)) r₀ (started at (kept_of r₀)) ∙ restart-refusal

    restart-tied : Tied (record { receiver = started at (kept_of r₀); acc = replicate (length s.acc) 0; store = s.store }) (accepts h (restarts at own))
    unfolding accepts
    restart-tied =
        let b = begins_tied at (kept_in h) s.store t.store (subst (λ (k : KeptValues). CoherentReceiver (started at k)) kept-now (restart_coherent r₀ at t.coherent)) in
        rw (kept-now, acc-long s h t) (began b)
      where
        began : Tied (begins at (kept_in h) s.store) (begins_with at (kept_in h)) → Tied (record { receiver = started at (kept_in h); acc = replicate 9296 0; store = s.store }) (begins_with at (kept_in h))
        began b = unfold begins in b

    pub own-restart : Steps s h (restarts at own)
    unfolding told_by events_in after_call happens handed_acc kept_acc restart_answer restart_acc
    own-restart =
        let n = restart_refusal r₀ at (length s.acc) in
        let c = restarts at own in
        by_refusal n
        (λ e. record { refusal = restart-told; events = refl; tied = rw (e, if_yes (eqb (refusal_in h c) 0) (accepts h c) h (taken_0 n (refusal_in h c) restart-refusal e)) restart-tied })
        (λ why e.
        record { refusal = restart-told; events = refl; tied = rw (e, if_no (eqb (refusal_in h c) 0) (accepts h c) h (refused_0 n (refusal_in h c) why restart-refusal e)) t })

    -- with accumulators that give 1
    pub wrong-restart : (acc : List ℕ) (e : eqb (length acc) 9296 ≡ false) → Steps s h (restarts at (wrong acc e))
    unfolding told_by events_in after_call happens handed_acc kept_acc restart_answer restart_acc restart_refusal refusal_in own_acc when◌then◌else◌
    wrong-restart acc e = record { refusal = rw e; events = refl; tied = rw e t }
