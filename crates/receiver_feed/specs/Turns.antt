-- A feed goes by turns: a stretch of symbols that tell nothing, or one symbol.
use Rattle.std.specs.Prelude.{ℕ, zero, suc, ◌+◌, ◌-◌, ◌^◌, ◌<◌, ◌≤◌, min, Bool, true, false, ◌&&◌, List, ◌≡◌, eqb, leb, ℤ, Result, Ok, Err, ⊤}
use Rattle.laws.specs.Choice.{when◌then◌else◌}
use Rattle.refusal.specs.declared.Refusal.{Refusal}
use Rattle.refusal.specs.declared.Refused.{Refused}
use Rattle.sync_corr.specs.Correlate.{ones_of}
use Rattle.sync_step.specs.Events.{no_events}
use Rattle.sync_block.specs.Reach.{reach_of}
use Rattle.receiver.specs.declared.Receiver.{Receiver}
use Rattle.receiver.specs.declared.Answer.{Answer}
use Rattle.receiver.specs.Symbol.{Lent, next_of}
use Rattle.receiver.specs.Ranges.{receiver_in_range}
use Rattle.receiver.specs.Answers.{no_runs, range_refusal, receiver_left, symbol_answer, symbol_lent}
use Rattle.receiver_symbol.specs.Parts.{lent_refusal, tested}
use Rattle.receiver.specs.Feed.{Block, Fed, input_at, quiet_at, tells_any}
use Rattle.receiver_feed.specs.declared.Goes.{Goes}
use Rattle.receiver_feed.specs.declared.Goes.TheVariants.{On, Told, Refused as Stopped}
use Rattle.receiver_feed.specs.declared.Turn.{Turn}
use Rattle.receiver_feed.specs.declared.Fed.{Fed as Answered}

-- ---- a feed from symbol i on, with what stops it: crate receiver's `fed_from`, as a law says
pub record Stand : Type 0 where
  pub refusal : Result ⊤ Refusal
  pub fed : Fed

-- .. by what symbol i's call answers and leaves, and what the symbols after it come to
unfoldable pub stand_by : ℕ → Receiver → Lent → Result Answer (Refused Receiver) → Lent → Stand → Stand
stand_by i r l (Ok a) m on =
    when tells_any a
    then record { refusal = Ok tt; fed = record { used = i + 1; receiver = a.receiver; lent = m; events = a.events; runs = a.runs } }
    else on
stand_by i r l (Err refused) m on = record { refusal = Err refused.why; fed = quiet_at i r l }

unfoldable pub stand_from : Block → ℕ → ℕ → Receiver → Lent → Stand
stand_from b zero i r l = record { refusal = Ok tt; fed = quiet_at i r l }
stand_from b (suc k) i r l =
    let a = symbol_answer r (input_at b i) l in
    let m = symbol_lent r (input_at b i) l in
    stand_by i r l a m (stand_from b k (i + 1) (receiver_left a) m)

-- ---- one turn
-- what comes of a feed of n symbols that stands at symbol i, by how a turn left it
unfoldable pub rest_as : Block → ℕ → ℕ → Receiver → Lent → Goes → Stand
rest_as b n i r l On = stand_from b (n - i) i r l
rest_as b n i r l (Told events runs) = record { refusal = Ok tt; fed = record { used = i; receiver = r; lent = l; events = events; runs = runs } }
rest_as b n i r l (Stopped why) = record { refusal = Err why; fed = quiet_at i r l }

unfoldable pub rest_by : Block → ℕ → Turn → Lent → Stand
rest_by b n t l = rest_as b n t.used t.receiver l t.goes

-- symbol i would be refused
unfoldable pub stopped_at : Refusal → Receiver → ℕ → Turn
stopped_at why r i = record { used = i; receiver = r; goes = Stopped why }

-- symbol i was given to its call
unfoldable pub goes_by : Answer → Goes
goes_by a = when tells_any a then Told a.events a.runs else On

unfoldable pub told_by : Result Answer (Refused Receiver) → ℕ → Turn
told_by (Ok a) i = record { used = i + 1; receiver = a.receiver; goes = goes_by a }
told_by (Err refused) i = stopped_at refused.why refused.state i

abbrev pub is_on : Goes → Bool
is_on On = true
is_on (Told events runs) = false
is_on (Stopped why) = false

abbrev pub goes_on : Turn → Bool
goes_on t = is_on t.goes

-- how many of the next symbols tell nothing for sure, of those that are left: before the period's last position and the locked offset, in a receiver in range
unfoldable pub calm_of : Receiver → ℕ → ℕ
calm_of r left = when receiver_in_range r then when leb (2 ^ 62) (next_of r) then 0 else min (reach_of r.front.sync.run - 1) left else 0

-- a turn leads on: it stops the feed, or uses a symbol
pub record Leads (n i : ℕ) (t : Turn) : Type 0 where
  pub from : i ≤ t.used
  pub most : t.used ≤ n
  pub on : goes_on t ≡ true → i < t.used

-- ---- the whole feed
-- 1, 2, 3 and 6 by the lengths: `standing_refusal`
unfoldable pub standing_by : Receiver → ℕ → ℕ → ℕ → List ℤ → List ℤ → ℕ → Result ⊤ Refusal
standing_by r acc store soft f s table = tested (lent_refusal acc store soft f s table) (range_refusal r)

-- what is known where that is none of these
pub record Stands (acc store soft : ℕ) (f s : List ℤ) (table : ℕ) : Type 0 where
  pub long : acc ≡ 9296
  pub held : store ≡ 18592
  pub buffer : 44880 ≤ soft
  pub first : ones_of f ≡ true
  pub second : ones_of s ≡ true
  pub cosines : table ≡ 1024

-- the answer after the last turn
unfoldable pub quiet_fed : ℕ → Receiver → Answered
quiet_fed i r = record { used = i; receiver = r; events = no_events; runs = no_runs }

unfoldable pub answer_as : ℕ → Receiver → Goes → Result Answered (Refused Receiver)
answer_as i r On = Ok (quiet_fed i r)
answer_as i r (Told events runs) = Ok (record { used = i; receiver = r; events = events; runs = runs })
answer_as i r (Stopped why) = when eqb i 0 then Err (record { why = why; state = r }) else Ok (quiet_fed i r)

unfoldable pub answer_of : Turn → Result Answered (Refused Receiver)
answer_of t = answer_as t.used t.receiver t.goes
