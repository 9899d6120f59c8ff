-- A feed is its symbols. Assumes nothing.
use Prim.Native.Nat.{ℕ, zero, suc, ◌+◌, ◌≤◌, ◌<◌}
use Rattle.guarantee.specs.Calls.{Accumulators, Call, SlotStore, System, Told, after_call, after_calls, handed_acc, handed_store, kept_acc, kept_store, lent_to, told_by}
use Rattle.guarantee.specs.Calls.{symbol, own}
use Rattle.guarantee.specs.History.{own_acc, own_store}
use Rattle.guarantee.proofs.Follow.{kept-own, kept_slot, own-or-wrong}
use Rattle.guarantee.proofs.Refusals.{wrong_fit}
use Rattle.guarantee.specs.Feeds.{Feed, FeedClaim, FeedIs, Silent, after_feed, call_at, calls_from, fed_by, told_feed, told_nothing}
use Rattle.laws.proofs.Tests.{by_test, if_both, if_either, neither, never}
use Rattle.laws.specs.Choice.{if_no, when◌then◌else◌}
use Rattle.frame.specs.declared.AlignedSymbol.{AlignedSymbol}
use Rattle.std.specs.Prelude.{None, Result, Ok, Err, ⊤}
use Rattle.refusal.specs.declared.Refusal.{Refusal}
use Rattle.refusal.specs.declared.Refusal.TheVariants.{Stores}
use Rattle.refusal.specs.declared.Refused.{Refused}
use Rattle.refusal.specs.Refusals.{code_of}
use Rattle.receiver_range.proofs.Codes.{by_refusal, code_shown, written_both}
use Rattle.receiver.specs.Answers.{accepted_symbol, code_in, events_told, no_runs, receiver_left, runs_told, symbol_answer, symbol_lent, symbol_refusal}
use Rattle.receiver.specs.Feed.{Block, Fed, any_event, fed_by as fed_on, fed_from, feed_of, feed_refusal, input_at, quiet_at, standing_refusal, symbols_of, tells_any}
use Rattle.receiver.specs.Symbol.{Input, Lent, aligned, lent_after, receiver_after, runs, slot, soft_after, synced}
use Rattle.receiver.specs.declared.Answer.{Answer}
use Rattle.receiver.specs.declared.Receiver.{Receiver}
use Rattle.receiver_slot.specs.Slot.{run_of, runs_of, soft_all, waiting_before, written_on}
use Rattle.receiver_slot.specs.declared.Points.{Points}
use Rattle.sync_step.specs.Events.{is_nothing, no_events}
use Rattle.sync_step.specs.declared.Event.{Event}
use Rattle.sync_step.specs.declared.Event.TheVariants.{Head, Lost, Nothing, Period}
use Rattle.sync_step.specs.declared.Events.{Events}
use borrow.Author.Tests.{eqb-false, eqb-true, ne_eqb}
use lib.Dec.{eqb}
use lib.IntN.{ℤ}
use lib.ListN.{drop, take}
use mathlib.Core.Bool.{false, true, not, ◌&&◌, ◌||◌}
use mathlib.Core.List.{List, [], ◌∷◌, ◌++◌}
use Rattle.std.proofs.lemmas.Bool.{not-false}
use mathlib.Core.Path.{◌∙◌, ◌≡◌, ap, ap₂, refl, subst, sym}
use native.Mathlib.Omega.{arith}

-- ---- what a feed that is not refused and is given the receiver's own accumulators tells
abbrev told_of : Fed → Told
told_of x =
    record {
      refusal = 0;
      events = x.events;
      runs = x.runs;
      sums = None;
      soft = x.lent.soft;
      lent = x.lent.acc;
      acc = x.lent.acc;
    }

-- ---- an answer that tells nothing
nothing_is : (e : Event) → is_nothing e ≡ true → e ≡ Nothing
unfolding is_nothing
nothing_is Nothing k = refl
nothing_is (Head g) k = absurd (never (sym k))
nothing_is (Period p) k = absurd (never (sym k))
nothing_is (Lost at) k = absurd (never (sym k))

pub no_event : (es : Events) → any_event es ≡ false → es ≡ no_events
unfolding any_event no_events
no_event es k =
    let a = neither (not (is_nothing es.first) || not (is_nothing es.second)) (not (is_nothing es.third)) k in
    let b = neither (not (is_nothing es.first)) (not (is_nothing es.second)) a.0 in
    let e₁ = nothing_is es.first (not-false (is_nothing es.first) b.0) in
    let e₂ = nothing_is es.second (not-false (is_nothing es.second) b.1) in
    let e₃ = nothing_is es.third (not-false (is_nothing es.third) a.1) in
    ap₂ (λ (x y : Event). record { first = x; second = y; third = es.third }) e₁ e₂ ∙ ap (λ (z : Event). record { first = Nothing; second = Nothing; third = z }) e₃

-- runs of nothing are of no symbols
run_empty : (p : Points) (given : List AlignedSymbol) → (run_of p given).count ≡ 0 → given ≡ []
unfolding run_of
run_empty p [] e = refl
run_empty p (a ∷ rest) e = absurd (omega (arith, e))

take_drop : {A : Type 0} (n : ℕ) (l : List A) → take n l ++ drop n l ≡ l
take_drop zero l = refl
take_drop (suc n) [] = refl
take_drop (suc n) (x ∷ l) = rw (take_drop n l)

runs_empty : (p : Points) (n : ℕ) (given : List AlignedSymbol) → (runs_of p n given).tail.count ≡ 0 → (runs_of p n given).body.count ≡ 0 → given ≡ []
unfolding runs_of
runs_empty p n given e f = sym (take_drop n given) ∙ ap₂ (λ (x y : List AlignedSymbol). x ++ y) (run_empty p (take n given) e) (run_empty p (drop n given) f)

none_runs : (p : Points) (n : ℕ) → runs_of p n [] ≡ no_runs
unfolding runs_of run_of no_runs
none_runs p zero = refl
none_runs p (suc n) = refl

-- ---- one symbol of a feed with the receiver's own stores
module _ (s : System) (x : Input) (soft : List ℤ) where
  abbrev l : Lent
  l = record { acc = s.acc; store = s.store; soft = soft }

  abbrev c : Call
  c = symbol x own own soft

  abbrev a : Result Answer (Refused Receiver)
  a = symbol_answer s.receiver x l

  abbrev m : Lent
  m = symbol_lent s.receiver x l

  after_one : after_call s c ≡ record { receiver = receiver_left a; acc = m.acc; store = m.store }
  unfolding after_call lent_to handed_acc handed_store kept_acc kept_store
  after_one = refl

  pub told-one : ((told_by s c).refusal ≡ code_in a) × ((told_by s c).events ≡ events_told a) × ((told_by s c).runs ≡ runs_told a) × ((told_by s c).soft ≡ m.soft)
  unfolding told_by lent_to handed_acc handed_store
  told-one = (refl, refl, refl, refl)

  -- accepted: the answer's parts
  abbrev pub yes : Answer
  yes = record { receiver = receiver_after 9296 s.receiver x l; events = (synced 9296 s.receiver x l).events; runs = runs 9296 s.receiver x l }

  pub answer-yes : symbol_refusal s.receiver x l ≡ Ok tt → a ≡ Ok yes
  unfolding symbol_answer accepted_symbol
  answer-yes e = rw e

  lent-yes : symbol_refusal s.receiver x l ≡ Ok tt → m ≡ lent_after 9296 s.receiver x l
  unfolding symbol_lent
  lent-yes e = rw e

  pub answer-no : (why : Refusal) → symbol_refusal s.receiver x l ≡ Err why → a ≡ Err (record { why = why; state = s.receiver })
  unfolding symbol_answer
  answer-no why e = rw e

  -- it tells nothing: no aligned symbol, and the buffer as it was
  module _ (z : symbol_refusal s.receiver x l ≡ Ok tt) (q : tells_any yes ≡ false) where
    parts : (any_event yes.events ≡ false) × (yes.runs.tail.count ≡ 0) × (yes.runs.body.count ≡ 0)
    unfolding tells_any
    parts =
        let u = neither (any_event yes.events || not (eqb yes.runs.tail.count 0)) (not (eqb yes.runs.body.count 0)) q in
        let v = neither (any_event yes.events) (not (eqb yes.runs.tail.count 0)) u.0 in
        (v.0, eqb-true yes.runs.tail.count 0 (not-false (eqb yes.runs.tail.count 0) v.1), eqb-true yes.runs.body.count 0 (not-false (eqb yes.runs.body.count 0) u.1))

    no-aligned : aligned 9296 s.receiver x l ≡ []
    unfolding runs
    no-aligned = runs_empty s.receiver.points _ (aligned 9296 s.receiver x l) parts.1 parts.2

    runs_none : yes.runs ≡ no_runs
    unfolding runs
    runs_none =
        let n = waiting_before s.receiver.back (slot 9296 s.receiver x l) in
        ap (runs_of s.receiver.points n) no-aligned ∙ none_runs s.receiver.points n

    soft-none : m.soft ≡ soft
    unfolding lent_after soft_after soft_all written_on
    soft-none = ap (λ (y : Lent). y.soft) (lent-yes z) ∙ rw no-aligned

    -- what it leaves, with the buffer for the next
    pub left-alike : ((after_call s c).receiver ≡ receiver_left a) × (record { acc = (after_call s c).acc; store = (after_call s c).store; soft = soft } ≡ m)
    left-alike = (
      ap (λ (y : System). y.receiver) after_one,
      ap (λ (y : System). record { acc = y.acc; store = y.store; soft = soft }) after_one ∙ ap (λ (u : List ℤ). record { acc = m.acc; store = m.store; soft = u }) (sym soft-none),
    )

    silent-one : Silent soft (told_by s c)
    silent-one =
        record {
          refusal = told-one.0 ∙ ap (λ (y : Result Answer (Refused Receiver)). code_in y) (answer-yes z);
          events = told-one.1 ∙ ap (λ (y : Result Answer (Refused Receiver)). events_told y) (answer-yes z) ∙ no_event yes.events parts.0;
          runs = told-one.2 ∙ ap (λ (y : Result Answer (Refused Receiver)). runs_told y) (answer-yes z) ∙ runs_none;
          soft_is = told-one.3 ∙ soft-none;
        }

-- ---- a refused feed, and its first symbol
refused_feed_lem : (s : System) (d : Feed) → ((told_feed s d).refusal ≡ 0 → ⊥) → (fed_by s d).used ≡ 0
unfolding feed_of quiet_at told_feed
refused_feed_lem s d k =
    let l = lent_to s d.accumulators d.slots d.soft in
    by_refusal (feed_refusal s.receiver d.block l)
    (λ e. absurd (k (ap (λ (t : Result ⊤ Refusal). code_of t) e)))
    (λ why e. rw e)

-- one that uses some is not refused
accepted_feed : (s : System) (d : Feed) (j : ℕ) → suc j ≡ (fed_by s d).used → (told_feed s d).refusal ≡ 0
accepted_feed s d j e =
    let n = (told_feed s d).refusal in
    by_test (eqb n 0) (λ t. eqb-true n 0 t) (λ t. absurd (omega (arith, e, refused_feed_lem s d (eqb-false n 0 t))))

-- one that uses none leaves all
none_after : (s : System) (d : Feed) → after_feed s d ≡ after_calls s (calls_from d 0 (fed_by s d).used) → (fed_by s d).used ≡ 0 → after_feed s d ≡ s
unfolding after_calls calls_from
none_after s d e z = e ∙ ap (λ (n : ℕ). after_calls s (calls_from d 0 n)) z

first_feed : (s : System) (d : Feed) → 0 < symbols_of d.block → (told_feed s d).refusal ≡ (told_by s (call_at d 0)).refusal
unfolding feed_refusal call_at told_by told_feed symbol_answer
first_feed s d k =
    let x = input_at d.block 0 in
    let l = lent_to s d.accumulators d.slots d.soft in
    ap (λ (t : Result ⊤ Refusal). code_of t) (if_no (eqb (symbols_of d.block) 0) _ _ (ne_eqb (symbols_of d.block) 0 (λ e. omega (arith, e, k))))
    ∙ sym (code_shown (symbol_refusal s.receiver x l) s.receiver (accepted_symbol s.receiver x l))

-- ---- k symbols from symbol i on
module _ (b : Block) (soft : List ℤ) where
  abbrev d : Feed
  d = record { block = b; accumulators = own; slots = own; soft = soft }

  abbrev lent_of : System → Lent
  lent_of s = record { acc = s.acc; store = s.store; soft = soft }

  record FedIs (s : System) (i k : ℕ) (x : Fed) : Type 0 where
    pub n : ℕ
    pub most : n ≤ k
    pub used : x.used ≡ i + n
    pub after : record { receiver = x.receiver; acc = x.lent.acc; store = x.lent.store } ≡ after_calls s (calls_from d i n)
    pub silent : (j : ℕ) → suc j < n → Silent soft (told_by (after_calls s (calls_from d i j)) (call_at d (i + j)))
    pub last : (j : ℕ) → suc j ≡ n → told_of x ≡ told_by (after_calls s (calls_from d i j)) (call_at d (i + j))
    pub idle : n ≡ 0 → (x.events ≡ no_events) × (x.runs ≡ no_runs) × (x.lent.soft ≡ soft) × (x.lent.acc ≡ s.acc)

  none-fed : (s : System) (i k : ℕ) → FedIs s i k (quiet_at i s.receiver (lent_of s))
  unfolding quiet_at after_calls calls_from
  none-fed s i k =
      record {
        n = 0;
        most = omega arith;
        used = omega arith;
        after = refl;
        silent = λ j e. absurd (omega (arith, e));
        last = λ j e. absurd (omega (arith, e));
        idle = λ e. (refl, refl, refl, refl);
      }

  abbrev test : System → ℕ → Result ⊤ Refusal
  test s i = symbol_refusal s.receiver (input_at b i) (lent_of s)

  abbrev answer : System → ℕ → Result Answer (Refused Receiver)
  answer s i = symbol_answer s.receiver (input_at b i) (lent_of s)

  abbrev taken : System → ℕ → Answer
  taken s i = yes s (input_at b i) soft

  abbrev leaves : System → ℕ → Lent
  leaves s i = symbol_lent s.receiver (input_at b i) (lent_of s)

  -- the last one
  abbrev one : System → ℕ → Fed
  one s i = record { used = i + 1; receiver = (taken s i).receiver; lent = leaves s i; events = (taken s i).events; runs = (taken s i).runs }

  one_told : (s : System) (i : ℕ) → test s i ≡ Ok tt → told_of (one s i) ≡ told_by s (call_at d i)
  unfolding told_by call_at lent_to handed_acc handed_store kept_acc
  one_told s i z =
      let m = leaves s i in
      ap (λ (y : Result Answer (Refused Receiver)). record { refusal = code_in y; events = events_told y; runs = runs_told y; sums = None; soft = m.soft; lent = m.acc; acc = m.acc })
      (sym (answer-yes s (input_at b i) soft z))

  one-fed : (s : System) (i k : ℕ) → test s i ≡ Ok tt → FedIs s i (suc k) (one s i)
  unfolding after_calls calls_from call_at
  one-fed s i k z =
      record {
        n = 1;
        most = omega arith;
        used = refl;
        after =
            ap (λ (y : Result Answer (Refused Receiver)). record { receiver = receiver_left y; acc = (leaves s i).acc; store = (leaves s i).store }) (sym (answer-yes s (input_at b i) soft z))
            ∙ sym (after_one s (input_at b i) soft);
        silent = λ j e. absurd (omega (arith, e));
        last = λ j e. first-last j (omega (arith, e));
        idle = λ e. absurd (omega (arith, e));
      }
    where
      told : told_of (one s i) ≡ told_by s (call_at d i)
      told = one_told s i z

      first-last : (j : ℕ) → j ≡ 0 → told_of (one s i) ≡ told_by (after_calls s (calls_from d i j)) (call_at d (i + j))
      first-last j e =
          let g : i + 0 ≡ i = omega arith in
          subst (λ (q : ℕ). told_of (one s i) ≡ told_by (after_calls s (calls_from d i q)) (call_at d (i + q))) (sym e)
          (subst (λ (q : ℕ). told_of (one s i) ≡ told_by s (call_at d q)) (sym g) told)

  -- one that tells nothing, before the others
  silent-told : (s : System) (i : ℕ) (x : Fed) → Silent soft (told_by s (call_at d i)) → x.events ≡ no_events → x.runs ≡ no_runs → x.lent.soft ≡ soft →
      x.lent.acc ≡ (after_call s (call_at d i)).acc → told_of x ≡ told_by s (call_at d i)
  unfolding told_by after_call call_at lent_to handed_acc handed_store kept_acc
  silent-told s i x q es rs so ac =
      λ j.
      record {
        refusal = sym q.refusal j;
        events = (es ∙ sym q.events) j;
        runs = (rs ∙ sym q.runs) j;
        sums = None;
        soft = (so ∙ sym q.soft_is) j;
        lent = ac j;
        acc = ac j;
      }

  more-fed : (s : System) (i k : ℕ) (x : Fed) → Silent soft (told_by s (call_at d i)) → FedIs (after_call s (call_at d i)) (i + 1) k x → FedIs s i (suc k) x
  unfolding after_calls calls_from
  more-fed s i k x q w =
      record {
        n = suc w.n;
        most = omega (arith, w.most);
        used = w.used ∙ omega arith;
        after = w.after;
        silent = silents;
        last = lasts;
        idle = λ e. absurd (omega (arith, e));
      }
    where
      here : i + 0 ≡ i
      here = omega arith

      there : (j : ℕ) → i + 1 + j ≡ i + suc j
      there j = omega arith

      silents : (j : ℕ) → suc j < suc w.n → Silent soft (told_by (after_calls s (calls_from d i j)) (call_at d (i + j)))
      silents zero e = subst (λ (v : ℕ). Silent soft (told_by s (call_at d v))) (sym here) q
      silents (suc j) e =
          subst (λ (v : ℕ). Silent soft (told_by (after_calls (after_call s (call_at d i)) (calls_from d (i + 1) j)) (call_at d v))) (there j) (w.silent j (omega (arith, e)))

      idle-last : w.n ≡ 0 → told_of x ≡ told_by s (call_at d i)
      idle-last e = let z = w.idle e in silent-told s i x q z.0 z.1 z.2 z.3

      lasts : (j : ℕ) → suc j ≡ suc w.n → told_of x ≡ told_by (after_calls s (calls_from d i j)) (call_at d (i + j))
      lasts zero e = subst (λ (v : ℕ). told_of x ≡ told_by s (call_at d v)) (sym here) (idle-last (omega (arith, e)))
      lasts (suc j) e = subst (λ (v : ℕ). told_of x ≡ told_by (after_calls (after_call s (call_at d i)) (calls_from d (i + 1) j)) (call_at d v)) (there j) (w.last j (omega (arith, e)))

  goes_on_lem : (s : System) (i k : ℕ) → test s i ≡ Ok tt → tells_any (taken s i) ≡ false →
      FedIs (after_call s (call_at d i)) (i + 1) k (fed_from b k (i + 1) (after_call s (call_at d i)).receiver (lent_of (after_call s (call_at d i)))) →
      FedIs s i (suc k) (fed_from b k (i + 1) (receiver_left (answer s i)) (leaves s i))
  unfolding call_at
  goes_on_lem s i k z t w =
      let x = input_at b i in
      let e = left-alike s x soft z t in
      more-fed s i k (fed_from b k (i + 1) (receiver_left (answer s i)) (leaves s i)) (silent-one s x soft z t)
      (subst (λ (y : Lent). FedIs (after_call s (call_at d i)) (i + 1) k (fed_from b k (i + 1) (receiver_left (answer s i)) y)) e.1
      (subst (λ (y : Receiver). FedIs (after_call s (call_at d i)) (i + 1) k (fed_from b k (i + 1) y (lent_of (after_call s (call_at d i))))) e.0 w))

  fed-step : (k i : ℕ) (s : System) →
      FedIs (after_call s (call_at d i)) (i + 1) k (fed_from b k (i + 1) (after_call s (call_at d i)).receiver (lent_of (after_call s (call_at d i)))) →
      FedIs s i (suc k) (fed_from b (suc k) i s.receiver (lent_of s))
  unfolding fed_from fed_on
  fed-step k i s w =
      let x = input_at b i in
      let on = fed_from b k (i + 1) (receiver_left (answer s i)) (leaves s i) in
      by_refusal (test s i)
      (λ z.
      subst (λ (y : Result Answer (Refused Receiver)). FedIs s i (suc k) (fed_on i s.receiver (lent_of s) y (leaves s i) on)) (sym (answer-yes s x soft z))
      (if_either (FedIs s i (suc k)) (tells_any (taken s i)) (one s i) on (λ t. one-fed s i k z) (λ t. goes_on_lem s i k z t w)))
      (λ why e.
      subst (λ (y : Result Answer (Refused Receiver)). FedIs s i (suc k) (fed_on i s.receiver (lent_of s) y (leaves s i) on)) (sym (answer-no s x soft why e)) (none-fed s i (suc k)))

  fed-none : (i : ℕ) (s : System) → FedIs s i 0 (fed_from b 0 i s.receiver (lent_of s))
  unfolding fed_from
  fed-none i s = none-fed s i 0

  fed-is : (k i : ℕ) (s : System) → FedIs s i k (fed_from b k i s.receiver (lent_of s))
  fed-is zero i s = fed-none i s
  fed-is (suc k) i s = fed-step k i s (fed-is k (i + 1) (after_call s (call_at d i)))

  -- ---- the whole feed
  zero-on : (j : ℕ) → 0 + j ≡ j
  zero-on j = omega arith

  own-fed : (s : System) → FedIs s 0 (symbols_of b) (feed_of s.receiver b (lent_of s))
  unfolding feed_of
  own-fed s =
      written_both (FedIs s 0 (symbols_of b)) (feed_refusal s.receiver b (lent_of s)) (quiet_at 0 s.receiver (lent_of s)) (fed_from b (symbols_of b) 0 s.receiver (lent_of s))
      (none-fed s 0 (symbols_of b)) (fed-is (symbols_of b) 0 s)

  fed-told : (s : System) → (told_feed s d).refusal ≡ 0 → told_feed s d ≡ told_of (fed_by s d)
  unfolding told_feed kept_acc
  fed-told s z =
      let x = fed_by s d in
      ap (λ (n : ℕ). record { refusal = n; events = x.events; runs = x.runs; sums = None; soft = x.lent.soft; lent = x.lent.acc; acc = x.lent.acc }) z

  idle-told : (s : System) → (fed_by s d).events ≡ no_events → (fed_by s d).runs ≡ no_runs → (fed_by s d).lent.soft ≡ soft → (fed_by s d).lent.acc ≡ s.acc →
      told_feed s d ≡ told_nothing s d (told_feed s d).refusal
  unfolding told_feed told_nothing kept_acc handed_acc
  idle-told s es rs so ac =
      λ j. record { refusal = (told_feed s d).refusal; events = es j; runs = rs j; sums = None; soft = so j; lent = ac j; acc = ac j }

  own-feed : (s : System) → FeedIs s d
  unfolding after_feed lent_to handed_acc handed_store kept_acc kept_store
  own-feed s =
      let w = own-fed s in
      let e : (fed_by s d).used ≡ w.n = w.used ∙ omega arith in
      record {
        within = rw e w.most;
        after = w.after ∙ ap (λ (v : ℕ). after_calls s (calls_from d 0 v)) (sym e);
        silent = λ j k. subst (λ (v : ℕ). Silent soft (told_by (after_calls s (calls_from d 0 j)) (call_at d v))) (zero-on j) (w.silent j (rw e at k));
        last = λ j k. (accepted_feed s d j k, fed-told s (accepted_feed s d j k) ∙ subst (λ (v : ℕ). told_of (fed_by s d) ≡ told_by (after_calls s (calls_from d 0 j)) (call_at d v)) (zero-on j) (w.last j (k ∙ e)));
        none = λ z. let v = w.idle (sym e ∙ z) in (idle-told s v.0 v.1 v.2 v.3, none_after s d (w.after ∙ ap (λ (v : ℕ). after_calls s (calls_from d 0 v)) (sym e)) z);
        refused = refused_feed_lem s d;
        first = first_feed s d;
      }

-- ---- with a store that gives 1: nothing is used
module _ (s : System) (d : Feed) (z : (own_acc d.accumulators && own_store d.slots) ≡ false) where
  abbrev given : Lent
  given = lent_to s d.accumulators d.slots d.soft

  stands-1 : standing_refusal s.receiver d.block given ≡ Err Stores
  unfolding standing_refusal when◌then◌else◌
  stands-1 = rw (wrong_fit s d.accumulators d.slots d.soft z)

  symbol-1 : symbol_refusal s.receiver (input_at d.block 0) given ≡ Err Stores
  unfolding symbol_refusal when◌then◌else◌
  symbol-1 = rw (wrong_fit s d.accumulators d.slots d.soft z)

  feed-1 : feed_refusal s.receiver d.block given ≡ Err Stores
  unfolding feed_refusal
  feed-1 = if_both (λ (u : Result ⊤ Refusal). u ≡ Err Stores) (eqb (symbols_of d.block) 0) _ _ stands-1 symbol-1

  pub refused-1 : (told_feed s d).refusal ≡ 1
  unfolding told_feed
  refused-1 = ap (λ (u : Result ⊤ Refusal). code_of u) feed-1

  wrong-fed : fed_by s d ≡ quiet_at 0 s.receiver given
  unfolding feed_of
  wrong-fed = rw feed-1

  pub wrong-used : (fed_by s d).used ≡ 0
  unfolding quiet_at
  wrong-used = ap (λ (x : Fed). x.used) wrong-fed

  pub wrong-after : after_feed s d ≡ s
  unfolding after_feed quiet_at lent_to
  wrong-after =
      ap (λ (x : Fed). record { receiver = x.receiver; acc = kept_acc s d.accumulators x.lent.acc; store = kept_store s d.slots x.lent.store }) wrong-fed
      ∙ ap₂ (λ (u : List ℕ) (v : List ℤ). record { receiver = s.receiver; acc = u; store = v }) (kept-own s d.accumulators) (kept_slot s d.slots)

  pub wrong-told : told_feed s d ≡ told_nothing s d (told_feed s d).refusal
  unfolding told_feed told_nothing quiet_at lent_to
  wrong-told =
      let n = (told_feed s d).refusal in
      let a = d.accumulators in
      ap (λ (x : Fed). record { refusal = n; events = x.events; runs = x.runs; sums = None; soft = x.lent.soft; lent = x.lent.acc; acc = kept_acc s a x.lent.acc }) wrong-fed
      ∙ ap (λ (u : List ℕ). record { refusal = n; events = no_events; runs = no_runs; sums = None; soft = d.soft; lent = handed_acc s a; acc = u }) (kept-own s a)

  wrong-feed : FeedIs s d
  wrong-feed =
      record {
        within = rw wrong-used (omega arith);
        after = wrong-after ∙ no-calls;
        silent = λ j e. absurd (omega (arith, e, wrong-used));
        last = λ j e. absurd (omega (arith, e, wrong-used));
        none = λ e. (wrong-told, wrong-after);
        refused = refused_feed_lem s d;
        first = first_feed s d;
      }
    where
      none-called : s ≡ after_calls s (calls_from d 0 0)
      none-called = unfold after_calls calls_from in refl

      no-calls : s ≡ after_calls s (calls_from d 0 (fed_by s d).used)
      no-calls = rw wrong-used none-called

-- what holds with the receiver's own stores, and wherever one gives 1, holds of every feed
pub own-or-wrong-feed : (P : Feed → Type 0) → ((b : Block) (soft : List ℤ) → P (record { block = b; accumulators = own; slots = own; soft = soft })) →
    ((d : Feed) → (own_acc d.accumulators && own_store d.slots) ≡ false → P d) → (d : Feed) → P d
own-or-wrong-feed P p q d =
    own-or-wrong (λ (a : Accumulators) (b : SlotStore). P (record { block = d.block; accumulators = a; slots = b; soft = d.soft })) (p d.block d.soft)
    (λ a b z. q (record { block = d.block; accumulators = a; slots = b; soft = d.soft }) z) d.accumulators d.slots

pub feeds : FeedClaim
feeds s d = own-or-wrong-feed (FeedIs s) (λ b soft. own-feed b soft s) (wrong-feed s) d
