-- What is true together of the numbers of a slot sync that came from calls: docs/RANGES.md, under Slot sync, what is told jointly. Periods are numbered from the start,
-- heads from the lock on, both from 0.
use Rattle.sync_heads.specs.declared.SlotNumber.{SlotNumber}
use Rattle.std.specs.Prelude.{◌≡◌, true, List, ℕ, ◌+◌, ◌-◌, ◌*◌, ◌/◌, ◌%◌, ◌^◌, ◌≤◌, ◌<◌, min, eqb, ℤ, pos, nat_abs, length, Option, None, Some}
use Rattle.sync_corr.specs.Correlate.{at}
use Rattle.sync_corr.specs.Rows.{Bounded}
use Rattle.sync_lock.specs.declared.Tally.{Tally}
use Rattle.sync_lock.specs.declared.Lock.{Lock}
use Rattle.sync_lock.specs.declared.Lock.TheVariants.{Search, Locked}
use Rattle.sync_heads.specs.declared.Reading.{Reading}
use Rattle.sync_heads.specs.declared.Parity.{Parity}
use Rattle.sync_heads.specs.declared.Stage.{Stage}
use Rattle.sync_heads.specs.declared.Stage.TheVariants.{Before, First, Known}
use Rattle.sync_heads.specs.declared.Course.{Course}
use Rattle.sync_heads.specs.Ranges.{record_in_range}
use Rattle.sync_step.specs.declared.Run.{Run}
use Rattle.sync_step.specs.Step.{parity_of}
use Rattle.sync.specs.declared.SlotSync.{SlotSync}

-- ---- symbols, I and Q: the greatest size of a part, and the greatest sum of both sizes
pub record Bound : Type 0 where
  pub part : ℕ
  pub sum : ℕ

-- any of 16 bits
abbrev pub any16 : Bound
any16 = record { part = 32768; sum = 65536 }

-- rotated by a carrier
abbrev pub rotated : Bound
rotated = record { part = 4096; sum = 4097 }

-- no more than any of 16 bits
pub record Short (b : Bound) : Type 0 where
  pub part : b.part ≤ 32768
  pub sum : b.sum ≤ 65536

-- what follows for a part of a correlation of 24 symbols, and for its size
abbrev pub corr_most : Bound → ℕ
corr_most b = 24 * b.sum

abbrev pub size_most : Bound → ℕ
size_most b = 24 * b.part + 12 * b.sum

-- ---- window
pub record WindowFits (b : Bound) (win : List ℤ) : Type 0 where
  -- 24 pairs
  pub pairs : length win ≡ 48
  -- parts of symbols
  pub small : (j : ℕ) → j < 48 → nat_abs (at win j) ≤ b.part
  -- pairs of symbols
  pub close : (k : ℕ) → k < 24 → nat_abs (at win (2 * k)) + nat_abs (at win (2 * k + 1)) ≤ b.sum

-- ---- the running period, after t symbols: 24 of them make the first position
-- the positions that its figures are of
unfoldable pub running_of : ℕ → ℕ
running_of t = min (t - 23) ((t - 24) % 9296 + 1)

-- the greatest accumulator that a symbol leaves, from any lent one of 32 bits
unfoldable pub most_of : Bound → ℕ
most_of b = (7 * (2 ^ 32 - 1) + size_most b) / 8

pub record TallyFits (b : Bound) (t : ℕ) (y : Tally) : Type 0 where
  -- the peak is an accumulator
  pub peak : y.peak ≤ most_of b
  -- it stands in the period
  pub place : y.place ≤ 9295
  -- the sum is that of the running period's accumulators
  pub sum : y.sum ≤ running_of t * most_of b

-- ---- lock, after t symbols and h heads
-- the whole periods so far
unfoldable pub whole_of : ℕ → ℕ
whole_of t = (t - 23) / 9296

pub record SearchFits (t h cand count : ℕ) : Type 0 where
  -- the candidate is a position of the period
  pub place : cand ≤ 9295
  -- the fourth locks
  pub few : count ≤ 3
  -- whole periods are counted
  pub whole : count ≤ whole_of t
  -- heads are read while locked only
  pub none : h ≡ 0

pub record LockedFits (t h offset misses : ℕ) : Type 0 where
  -- the offset is a position of the period
  pub place : offset ≤ 9295
  -- the eighth loses
  pub few : misses ≤ 7
  -- four periods locked
  pub whole : 4 ≤ whole_of t
  -- head k stands in period 4 + k or later: the last of h heads is past, and with it the offset in period 3 + h
  pub past : (3 + h) * 9296 + offset < t - 23

abbrev pub LockFits : ℕ → ℕ → Lock → Type 0
LockFits t h (Search cand count) = SearchFits t h cand count
LockFits t h (Locked offset misses) = LockedFits t h offset misses

-- ---- stage, after h heads
pub record ReadingFits (b : Bound) (z : Reading) : Type 0 where
  -- four periods precede
  pub low : 37184 ≤ z.at
  -- its 24 symbols stand below 2^62
  pub high : z.at ≤ 2 ^ 62 - 24
  -- correlations of 24 symbols with both words
  pub f : Bounded (corr_most b) z.both.f
  pub s : Bounded (corr_most b) z.both.s

pub record KnownFits (b : Bound) (h : ℕ) (p : Parity) : Type 0 where
  -- heads zero and one tell the parity
  pub heads : 2 ≤ h
  -- the next head, number h, is to carry Ssync if it is of that parity
  pub due : p.due ≡ eqb (h % 2) (parity_of (Known p))
  -- the correlation of an Ssync head
  pub last : Bounded (corr_most b) p.last

abbrev pub StageFits : Bound → ℕ → Stage → Type 0
StageFits b h Before = h ≡ 0
StageFits b h (First z) = (h ≡ 1) × ReadingFits b z
StageFits b h (Known p) = KnownFits b h p

-- ---- course, after h heads
-- the F heads among them: every other one; head zero, if it is no Ssync, stays silent and is not one of them
unfoldable pub f_heads_of : ℕ → Stage → ℕ
f_heads_of h k = (h - parity_of k) / 2

pub record NumberFits (h misses number : ℕ) : Type 0 where
  -- a frame has 120 slots
  pub within : number ≤ 119
  -- the second in a row loses
  pub few : misses ≤ 1
  -- head five is the first that can be marked
  pub heads : 6 ≤ h

-- markers are missed only where slots are numbered
abbrev pub SlotFits : ℕ → ℕ → Option SlotNumber → Type 0
SlotFits h misses None = misses ≡ 0
SlotFits h misses (Some s) = NumberFits h misses s.number

-- m: the F heads read
pub record CourseFits (h m : ℕ) (c : Course) : Type 0 where
  -- an F head moves the majority by one
  pub majority : nat_abs c.majority ≤ m
  -- it is clamped
  pub clamped : nat_abs c.majority ≤ 8
  -- slot number and missed markers in a row
  pub slot : SlotFits h c.misses c.slot
  -- a frame head stands at 83,664 at the earliest; a restart keeps the record
  pub last : record_in_range c.last ≡ true

-- ---- all
pub record Coherent (b : Bound) (s : SlotSync) : Type 0 where
  -- the heads read since the lock
  pub heads : ℕ
  -- 24 pairs within the bound
  pub window : WindowFits b s.win
  -- symbols stand below 2^62; a sync may start anywhere
  pub time : 0 < s.run.t → s.run.base + s.run.t ≤ 2 ^ 62
  -- peak, its place and the sum
  pub tally : TallyFits b s.run.t s.run.tally
  -- candidate and count, or offset and misses, and where the next head can stand
  pub lock : LockFits s.run.t heads s.run.lock
  -- none, one held, or more with the parity
  pub stage : StageFits b heads s.run.stage
  -- majority, slot, misses, frame record
  pub course : CourseFits heads (f_heads_of heads s.run.stage) s.run.course

-- ---- not locked yet: no head has been read
pub record Fresh (r : Run) : Type 0 where
  pub stage : r.stage ≡ Before
  pub majority : r.course.majority ≡ pos 0
  pub slot : r.course.slot ≡ None
  pub misses : r.course.misses ≡ 0
