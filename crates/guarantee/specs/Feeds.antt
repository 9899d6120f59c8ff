-- A feed is its symbols: so demand 3 covers lists with feeds.
use Rattle.std.specs.Prelude.{ℕ, zero, suc, ◌+◌, ◌≤◌, ◌<◌, ◌&&◌, List, [], ◌∷◌, ◌≡◌, eqb, leb, ℤ, length, None}
use Rattle.laws.specs.Choice.{when◌then◌else◌}
use Rattle.refusal.specs.Refusals.{code_of}
use Rattle.sync_corr.specs.Correlate.{ones_of}
use Rattle.sync_step.specs.Events.{no_events}
use Rattle.receiver.specs.Feed.{Block, Fed, any_event, feed_of, feed_refusal, input_at, symbols_of}
use Rattle.receiver.specs.Answers.{no_runs}
use Rattle.guarantee.specs.Calls.{Accumulators, Call, SlotStore, System, Told, after_calls, handed_acc, kept_acc, kept_store, lent_to, told_by}
use Rattle.guarantee.specs.Calls.{symbol}
use Rattle.guarantee.specs.History.{History, events_in, happens, own_acc, own_store, refusal_in}

-- a feed with the stores that it is given
pub record Feed : Type 0 where
  pub block : Block
  pub accumulators : Accumulators
  pub slots : SlotStore
  pub soft : List ℤ

abbrev pub fed_by : System → Feed → Fed
fed_by s d = feed_of s.receiver d.block (lent_to s d.accumulators d.slots d.soft)

-- what a feed leaves
unfoldable pub after_feed : System → Feed → System
after_feed s d =
    let x = fed_by s d in
    record { receiver = x.receiver; acc = kept_acc s d.accumulators x.lent.acc; store = kept_store s d.slots x.lent.store }

-- what it tells, beside how many symbols it used: as a call does
unfoldable pub told_feed : System → Feed → Told
told_feed s d =
    let x = fed_by s d in
    record {
      refusal = code_of (feed_refusal s.receiver d.block (lent_to s d.accumulators d.slots d.soft));
      events = x.events;
      runs = x.runs;
      sums = None;
      soft = x.lent.soft;
      lent = x.lent.acc;
      acc = kept_acc s d.accumulators x.lent.acc;
    }

-- .. and what one that uses none does: nothing but its refusal
unfoldable pub told_nothing : System → Feed → ℕ → Told
told_nothing s d n =
    record {
      refusal = n;
      events = no_events;
      runs = no_runs;
      sums = None;
      soft = d.soft;
      lent = handed_acc s d.accumulators;
      acc = s.acc;
    }

-- its symbols as calls: symbol i, and n of them from symbol i on, each with the same stores
unfoldable pub call_at : Feed → ℕ → Call
call_at d i = symbol (input_at d.block i) d.accumulators d.slots d.soft

unfoldable pub calls_from : Feed → ℕ → ℕ → List Call
calls_from d i zero = []
calls_from d i (suc n) = call_at d i ∷ calls_from d (i + 1) n

-- an accepted symbol that tells nothing
pub record Silent (soft : List ℤ) (t : Told) : Type 0 where
  pub refusal : t.refusal ≡ 0
  pub events : t.events ≡ no_events
  pub runs : t.runs ≡ no_runs
  pub soft_is : t.soft ≡ soft

-- ---- the claim: symbols 0 .. used - 1 as calls one after another
pub record FeedIs (s : System) (d : Feed) : Type 0 where
  -- it uses whole symbols of the slice
  pub within : (fed_by s d).used ≤ symbols_of d.block
  -- and leaves what they leave
  pub after : after_feed s d ≡ after_calls s (calls_from d 0 (fed_by s d).used)
  -- all but the last are accepted and tell nothing; the last is accepted, and tells what the feed tells
  pub silent : (j : ℕ) → suc j < (fed_by s d).used → Silent d.soft (told_by (after_calls s (calls_from d 0 j)) (call_at d j))
  pub last : (j : ℕ) → suc j ≡ (fed_by s d).used → ((told_feed s d).refusal ≡ 0) × (told_feed s d ≡ told_by (after_calls s (calls_from d 0 j)) (call_at d j))
  -- one that uses none, by a refusal or at the slice's end, leaves and tells nothing
  pub none : (fed_by s d).used ≡ 0 → (told_feed s d ≡ told_nothing s d (told_feed s d).refusal) × (after_feed s d ≡ s)
  -- a refused feed uses none; with a symbol there, that symbol would be refused so
  pub refused : ((told_feed s d).refusal ≡ 0 → ⊥) → (fed_by s d).used ≡ 0
  pub first : 0 < symbols_of d.block → (told_feed s d).refusal ≡ (told_by s (call_at d 0)).refusal

abbrev pub FeedClaim : Type 0
FeedClaim = (s : System) (d : Feed) → FeedIs s d

-- ---- from the history: h is that of the calls before
-- the refusal: with no symbol by what the feed is given, else as its first symbol's
unfoldable pub feed_refusal_in : History → Feed → ℕ
feed_refusal_in h d =
    when eqb (symbols_of d.block) 0
    then when own_acc d.accumulators && own_store d.slots && leb 44880 (length d.soft)
    then when ones_of d.block.f && ones_of d.block.s then when eqb (length d.block.table) 1024 then 0 else 3 else 2
    else 1
    else refusal_in h (call_at d 0)

-- the symbols used, of k from symbol i on: it stops after the first symbol that tells anything, before one that would be refused, or at the slice's end
unfoldable pub used_from : Feed → ℕ → ℕ → History → ℕ
used_from d zero i h = i
used_from d (suc k) i h =
    let c = call_at d i in
    when eqb (refusal_in h c) 0 then when any_event (events_in h c) then i + 1 else used_from d k (i + 1) (happens h c) else i

pub record FeedTold (h : History) (s : System) (d : Feed) : Type 0 where
  pub refusal : (told_feed s d).refusal ≡ feed_refusal_in h d
  pub used : (fed_by s d).used ≡ used_from d (symbols_of d.block) 0 h
