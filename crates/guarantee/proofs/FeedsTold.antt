-- A feed refuses and uses symbols by the history. Assumes nothing.
use Prim.Native.Nat.{ℕ, zero, suc, ◌+◌, ◌*◌, ◌≤◌, ◌<◌}
use Rattle.guarantee.proofs.Feeds.{answer-no, answer-yes, left-alike, no_event, own-or-wrong-feed, refused-1, told-one, wrong-used, yes}
use Rattle.guarantee.proofs.Follow.{says-1}
use Rattle.guarantee.proofs.Lists.{call_steps}
use Rattle.guarantee.proofs.Outs.{runs_by}
use Rattle.guarantee.proofs.Quiet.{no_head}
use Rattle.guarantee.proofs.Refusals.{own-fit, own-refusal}
use Rattle.guarantee.proofs.Tied.{Tied}
use Rattle.guarantee.specs.Calls.{Call, InputFits, System, after_call, handed_acc, handed_store, lent_to}
use Rattle.guarantee.specs.Calls.{symbol, own}
use Rattle.guarantee.specs.Feeds.{Feed, FeedTold, call_at, fed_by, feed_refusal_in, told_feed, used_from}
use Rattle.guarantee.specs.History.{History, events_in, happens, own_acc, own_store, refusal_in, runs_in, runs_with}
use Rattle.guarantee.specs.Items.{FeedFits}
use Rattle.laws.proofs.Tests.{by_test}
use Rattle.laws.specs.Choice.{if_no, when◌then◌else◌}
use Rattle.std.specs.Prelude.{Result, Ok, Err, ⊤}
use Rattle.refusal.specs.declared.Refusal.{Refusal}
use Rattle.refusal.specs.declared.Refusal.TheVariants.{Stores, Words, Table}
use Rattle.refusal.specs.declared.Refused.{Refused}
use Rattle.refusal.specs.Refusals.{code_of}
use Rattle.receiver_range.proofs.Codes.{by_refusal, code_chosen, refused_0, taken_0}
use Rattle.sync_corr.specs.Correlate.{ones_of}
use Rattle.receiver.specs.Answers.{events_told, no_runs, range_refusal, receiver_left, runs_told, symbol_answer, symbol_lent, symbol_refusal}
use Rattle.receiver.specs.Feed.{Block, Fed, any_event, fed_by as fed_on, fed_from, feed_of, feed_refusal, input_at, quiet_at, standing_refusal, symbols_of, tells_any}
use Rattle.receiver.specs.Symbol.{Lent}
use Rattle.receiver.specs.declared.Answer.{Answer}
use Rattle.receiver.specs.declared.Receiver.{Receiver}
use Rattle.receiver_range.proofs.InRange.{in_range}
use Rattle.receiver_slot.specs.Slot.{no_run}
use Rattle.sync_step.specs.Events.{no_events}
use Rattle.sync_tie.specs.Claims.{any_head}
use borrow.Author.Tests.{eqb-false, ne_eqb}
use lib.Dec.{eqb, leb}
use lib.IntN.{ℤ}
use lib.ListN.{length}
use mathlib.Core.Bool.{false, true, ◌&&◌}
use mathlib.Core.List.{List}
use mathlib.Core.Path.{◌∙◌, ◌≡◌, ap, ap₂, refl, subst, sym}
use native.Mathlib.Omega.{arith}

-- a symbol of the slice is of those types
pub input_fits : (d : Feed) → FeedFits d → (i : ℕ) → i < symbols_of d.block → InputFits (input_at d.block i)
unfolding input_at symbols_of
input_fits d f i h =
    let low : 2 * i < length d.block.bytes = omega (arith, h) in
    let high : 2 * i + 1 < length d.block.bytes = omega (arith, h) in
    record { xi = f.bytes (2 * i) low; xq = f.bytes (2 * i + 1) high; table = f.table }

-- ---- an answer tells something exactly if it has an event, since runs come with a head
no_tells : (a : Answer) → any_event a.events ≡ false → a.runs ≡ no_runs → tells_any a ≡ false
unfolding tells_any no_runs no_run
no_tells a e r = rw (e, r)

some_tells : (a : Answer) → any_event a.events ≡ true → tells_any a ≡ true
unfolding tells_any
some_tells a e = rw e

no_runs_lem : (h : History) (c : Call) → events_in h c ≡ no_events → runs_in h c ≡ no_runs
unfolding runs_in
no_runs_lem h c e = if_no (any_head (events_in h c)) (runs_with h) no_runs (ap any_head e ∙ no_head)

module _ (b : Block) (soft : List ℤ) where
  abbrev d : Feed
  d = record { block = b; accumulators = own; slots = own; soft = soft }

  abbrev lent_of : System → Lent
  lent_of s = record { acc = s.acc; store = s.store; soft = soft }

  abbrev test : System → ℕ → Result ⊤ Refusal
  test s i = symbol_refusal s.receiver (input_at b i) (lent_of s)

  abbrev taken : System → ℕ → Answer
  taken s i = yes s (input_at b i) soft

  abbrev answer : System → ℕ → Result Answer (Refused Receiver)
  answer s i = symbol_answer s.receiver (input_at b i) (lent_of s)

  abbrev leaves : System → ℕ → Lent
  leaves s i = symbol_lent s.receiver (input_at b i) (lent_of s)

  module _ (s : System) (h : History) (t : Tied s h) (i : ℕ) (f : InputFits (input_at b i)) where
    abbrev c : Call
    c = symbol (input_at b i) own own soft

    refusal_is : code_of (test s i) ≡ refusal_in h c
    refusal_is = own-refusal s h t (input_at b i) soft

    module _ (z : test s i ≡ Ok tt) where
      events-is : (taken s i).events ≡ events_in h c
      events-is = ap (λ (y : Result Answer (Refused Receiver)). events_told y) (sym (answer-yes s (input_at b i) soft z)) ∙ sym (told-one s (input_at b i) soft).1 ∙ (call_steps s h c t f).events

      runs-is : (taken s i).runs ≡ runs_in h c
      runs-is = ap (λ (y : Result Answer (Refused Receiver)). runs_told y) (sym (answer-yes s (input_at b i) soft z)) ∙ sym (told-one s (input_at b i) soft).2 ∙ runs_by s h t c f

      tells_is : tells_any (taken s i) ≡ any_event (events_in h c)
      tells_is =
          let a = taken s i in
          by_test (any_event a.events)
          (λ e. some_tells a e ∙ sym e ∙ ap any_event events-is)
          (λ e.
          let n = no_event a.events e in
          no_tells a e (runs-is ∙ no_runs_lem h c (sym events-is ∙ n)) ∙ sym e ∙ ap any_event events-is)

  -- ---- the symbols used
  used-zero : (i : ℕ) (s : System) (h : History) → (fed_from b zero i s.receiver (lent_of s)).used ≡ used_from d zero i h
  unfolding fed_from used_from quiet_at
  used-zero i s h = refl

  used-more : (k i : ℕ) (s : System) (h : History) → Tied s h → InputFits (input_at b i) →
      (fed_from b k (i + 1) (after_call s (call_at d i)).receiver (lent_of (after_call s (call_at d i)))).used ≡ used_from d k (i + 1) (happens h (call_at d i)) →
      (fed_from b (suc k) i s.receiver (lent_of s)).used ≡ used_from d (suc k) i h
  unfolding fed_from fed_on used_from quiet_at call_at when◌then◌else◌
  used-more k i s h t f on =
      let x = input_at b i in
      let c = symbol x own own soft in
      let r = refusal_is s h t i f in
      by_refusal (test s i)
      (λ z.
      let e = taken_0 (test s i) (refusal_in h c) r z in
      let y = answer-yes s x soft z in
      let q = tells_is s h t i f z in
      by_test (tells_any (taken s i))
      (λ u. rw (e, y, sym q, u))
      (λ u.
      let w = left-alike s x soft z u in
      rw (e, y, sym q, u)
      (subst (λ (v : Fed). v.used ≡ used_from d k (i + 1) (happens h c)) (ap₂ (fed_from b k (i + 1)) (w.0 ∙ ap (λ (v : Result Answer (Refused Receiver)). receiver_left v) y) w.1) on)))
      (λ why z. rw (refused_0 (test s i) (refusal_in h c) why r z, answer-no s x soft why z))

  tied-next : (s : System) (h : History) → Tied s h → (i : ℕ) → InputFits (input_at b i) → Tied (after_call s (call_at d i)) (happens h (call_at d i))
  unfolding call_at
  tied-next s h t i f = (call_steps s h (symbol (input_at b i) own own soft) t f).tied

  used-is : (k i : ℕ) (s : System) (h : History) → Tied s h → ((j : ℕ) → i ≤ j → j < i + k → InputFits (input_at b j)) →
      (fed_from b k i s.receiver (lent_of s)).used ≡ used_from d k i h
  used-is zero i s h t f = used-zero i s h
  used-is (suc k) i s h t f =
      let g = f i (omega arith) (omega arith) in
      let c = call_at d i in
      used-more k i s h t g (used-is k (i + 1) (after_call s c) (happens h c) (tied-next s h t i g) (λ j l m. f j (omega (arith, l)) (omega (arith, m))))

  -- ---- the whole feed: a refused one would use none anyway
  first-asked : (n : ℕ) (s : System) → symbols_of b ≡ suc n → feed_refusal s.receiver b (lent_of s) ≡ test s 0
  unfolding feed_refusal
  first-asked n s e = if_no (eqb (symbols_of b) 0) _ _ (ne_eqb (symbols_of b) 0 (λ z. omega (arith, z, e)))

  stops_first : (n : ℕ) (s : System) (why : Refusal) → test s 0 ≡ Err why → 0 ≡ (fed_from b (suc n) 0 s.receiver (lent_of s)).used
  unfolding fed_from fed_on quiet_at
  stops_first n s why r = rw (answer-no s (input_at b 0) soft why r)

  quiet-used : (n : ℕ) (s : System) → symbols_of b ≡ n → (why : Refusal) → feed_refusal s.receiver b (lent_of s) ≡ Err why → 0 ≡ (fed_from b n 0 s.receiver (lent_of s)).used
  unfolding fed_from quiet_at
  quiet-used zero s e why r = refl
  quiet-used (suc n) s e why r = stops_first n s why (sym (first-asked n s e) ∙ r)

  used-anyway : (n : ℕ) (s : System) → symbols_of b ≡ n → (feed_of s.receiver b (lent_of s)).used ≡ (fed_from b n 0 s.receiver (lent_of s)).used
  unfolding feed_of quiet_at
  used-anyway n s e =
      by_refusal (feed_refusal s.receiver b (lent_of s))
      (λ r. rw (r, e))
      (λ why r. rw r (quiet-used n s e why r))

  feed-used : (s : System) (h : History) → Tied s h → FeedFits d → (feed_of s.receiver b (lent_of s)).used ≡ used_from d (symbols_of b) 0 h
  feed-used s h t f =
      let n = symbols_of b in
      feed-from s ∙ used-is n 0 s h t (λ j l m. input_fits d f j (omega (arith, m)))
    where
      feed-from : (s : System) → (feed_of s.receiver b (lent_of s)).used ≡ (fed_from b (symbols_of b) 0 s.receiver (lent_of s)).used
      feed-from s = used-anyway (symbols_of b) s refl

  own-used : (s : System) (h : History) → Tied s h → FeedFits d → (fed_by s d).used ≡ used_from d (symbols_of b) 0 h
  unfolding lent_to handed_acc handed_store
  own-used s h t f = feed-used s h t f

  standing-is : (s : System) (h : History) → Tied s h → eqb (symbols_of b) 0 ≡ true → code_of (feed_refusal s.receiver b (lent_of s)) ≡ feed_refusal_in h d
  unfolding feed_refusal standing_refusal range_refusal feed_refusal_in when◌then◌else◌ own_acc own_store
  standing-is s h t z =
      rw (z, own-fit s h t (input_at b 0) soft, in_range s.receiver t.coherent)
      (code_chosen (true && true && leb 44880 (length soft)) _ (Err Stores) _ 1
      (λ a.
      code_chosen (ones_of b.f && ones_of b.s) _ (Err Words) _ 2 (λ o. code_chosen (eqb (length b.table) 1024) (Ok tt) (Err Table) 0 3 (λ u. refl) (λ u. refl)) (λ o. refl))
      (λ a. refl))

  first-is : (s : System) (h : History) → Tied s h → InputFits (input_at b 0) → eqb (symbols_of b) 0 ≡ false → code_of (feed_refusal s.receiver b (lent_of s)) ≡ feed_refusal_in h d
  unfolding feed_refusal feed_refusal_in when◌then◌else◌ call_at
  first-is s h t f z = rw z (refusal_is s h t 0 f)

  own-refused : (s : System) (h : History) → Tied s h → FeedFits d → (told_feed s d).refusal ≡ feed_refusal_in h d
  unfolding told_feed lent_to handed_acc handed_store
  own-refused s h t f =
      by_test (eqb (symbols_of b) 0) (λ z. standing-is s h t z) (λ z. first-is s h t (input_fits d f 0 (omega (arith, eqb-false (symbols_of b) 0 z))) z)

  own-told : (s : System) (h : History) → Tied s h → FeedFits d → FeedTold h s d
  own-told s h t f = record { refusal = own-refused s h t f; used = own-used s h t f }

-- ---- with a store that gives 1
module _ (s : System) (h : History) (t : Tied s h) (d : Feed) (z : (own_acc d.accumulators && own_store d.slots) ≡ false) where
  symbol-1 : (i : ℕ) → refusal_in h (call_at d i) ≡ 1
  unfolding call_at
  symbol-1 i = says-1 s h t (input_at d.block i) d.accumulators d.slots d.soft z

  says-feed-1 : feed_refusal_in h d ≡ 1
  unfolding feed_refusal_in when◌then◌else◌
  says-feed-1 = by_test (eqb (symbols_of d.block) 0) (λ e. rw (e, z)) (λ e. rw e (symbol-1 0))

  none-used : (n : ℕ) → used_from d n 0 h ≡ 0
  unfolding used_from when◌then◌else◌
  none-used zero = refl
  none-used (suc n) = rw (symbol-1 0)

  wrong-told-by : FeedTold h s d
  wrong-told-by = record { refusal = refused-1 s d z ∙ sym says-feed-1; used = wrong-used s d z ∙ sym (none-used (symbols_of d.block)) }

pub feed_told : (s : System) (h : History) → Tied s h → (d : Feed) → FeedFits d → FeedTold h s d
feed_told s h t d f =
    own-or-wrong-feed (λ (k : Feed). FeedFits k → FeedTold h s k) (λ b soft. own-told b soft s h t) (λ k z g. wrong-told-by s h t k z) d f
