-- What is true together of the numbers of a receiver that came from calls: docs/RANGES.md, under Receiver, what is told jointly.
use Rattle.std.specs.Prelude.{◌≡◌, true, ◌⊎◌, ℕ, ◌+◌, ◌-◌, ◌*◌, ◌%◌, ◌^◌, ◌≤◌, ◌<◌, pos, nat_abs, length, ◌≤ℤ◌, Option, None, Some}
use Rattle.sync_corr.specs.Rows.{Bounded}
use Rattle.sync_lock.specs.declared.Lock.TheVariants.{Locked}
use Rattle.sync_heads.specs.declared.Head.{Head}
use Rattle.sync_heads.specs.declared.Parity.{Parity}
use Rattle.sync_heads.specs.declared.Stage.TheVariants.{Known}
use Rattle.sync_heads.specs.Ranges.{slot_in_range}
use Rattle.sync_step.specs.declared.Run.{Run}
use Rattle.sync_range.specs.Coherent.{rotated, corr_most, Coherent as CoherentSync}
use Rattle.carrier.specs.declared.Nco.{Nco}
use Rattle.carrier.specs.declared.Steps.{Steps}
use Rattle.carrier.specs.Coherent.{Coherent as CoherentNco}
use Rattle.phase.specs.declared.Held.{Held}
use Rattle.sums.specs.declared.Sums.{Sums}
use Rattle.eq_train.specs.Train.{nth}
use Rattle.eq_range.specs.Coherent.{Coherent as CoherentEq}
use Rattle.frame_line.specs.declared.Meta.{Meta}
use Rattle.frame.specs.declared.Back.{Back}
use Rattle.receiver_slot.specs.declared.Points.{Points}
use Rattle.receiver.specs.declared.Receiver.{Receiver}

-- ---- the carrier: the angles of heads are the CORDIC's, which are even, and so is each difference of two
pub record StepsEven (s : Steps) : Type 0 where
  pub last : s.last_ss % 2 ≡ 0
  pub high : s.sum ≤ℤ pos (s.steps * (2 ^ 31 - 2))

abbrev pub TrailEven : Option Steps → Type 0
TrailEven None = Unit {0}
TrailEven (Some s) = StepsEven s

pub record NcoFits (n : Nco) : Type 0 where
  pub coherent : CoherentNco n
  pub even : TrailEven n.trail

-- ---- a held head, of a sync that runs like this
pub record HeadFits (h : Head) : Type 0 where
  pub corr : Bounded (corr_most rotated) h.corr
  pub low : pos 0 ≤ℤ h.amp
  pub high : h.amp ≤ℤ pos 179130
  pub slot : slot_in_range h.slot ≡ true
  pub none : h.nco_phase ≡ 0
  pub even : h.theta % 2 ≡ 0

pub record HeldFits (r : Run) (x : Held) : Type 0 where
  pub head : HeadFits x.head
  -- it is head one at the earliest, at the locked place
  pub period : ℕ
  pub enough : 5 ≤ period
  pub offset : ℕ
  pub misses : ℕ
  pub locked : r.lock ≡ Locked offset misses
  -- a head is told with the parity, so that each reading from then on tells one or loses
  pub parity : Parity
  pub known : r.stage ≡ Known parity
  pub place : x.head.at ≡ r.base + period * 9296 + offset
  -- each symbol since has been counted; the window of the next place is 23 symbols behind
  pub counted : x.head.at + x.count + 23 ≡ r.base + r.t
  pub some : 1 ≤ x.count
  pub few : x.count ≤ 9296

abbrev pub PhaseFits : Run → Option Held → Type 0
PhaseFits r None = Unit {0}
PhaseFits r (Some x) = HeldFits r x

-- ---- alignment: nothing has come yet ..
pub record Untouched (b : Back) : Type 0 where
  pub none : b.metas.count ≡ 0
  pub empty : b.eq.filled ≡ 0
  pub last : b.last ≡ None

-- .. or whole slots have, and the next one, whose head stands at a position, adjoins
pub record Waits (k at : ℕ) (m : Meta) : Type 0 where
  pub j : m.j ≡ 9291 + k
  pub at_is : m.at + 5 ≡ at + k
  pub slot : slot_in_range m.slot ≡ true

pub record Adjoins (at : ℕ) (b : Back) : Type 0 where
  pub five : b.metas.count ≡ 5
  pub full : b.eq.filled ≡ 11
  pub before : ℕ
  pub next : before + 1 ≡ at
  pub last : b.last ≡ Some before
  pub low : 55776 ≤ at
  pub first : Waits 0 at b.metas.first
  pub second : Waits 1 at b.metas.second
  pub third : Waits 2 at b.metas.third
  pub fourth : Waits 3 at b.metas.fourth
  pub fifth : Waits 4 at b.metas.fifth

-- the slot phase holds a head wherever whole slots have come
abbrev pub BackFits : Option Held → Back → Type 0
BackFits None b = Untouched b
BackFits (Some x) b = Untouched b ⊎ Adjoins x.head.at b

-- references are of size 724: a product with one is of size at most 2 x 2^15 x 724, and each right-hand entry a sum of such
abbrev pub right_most : ℕ
right_most = 47448064

pub record RightFits (s : Sums) : Type 0 where
  pub long : length s.p ≡ 22
  pub small : (k : ℕ) → k < 22 → nat_abs (nth s.p k) ≤ s.count * right_most

-- a slot trains 24 times, a stretch's first one 19 times; sums that were opened before it count none yet
pub record CountFits (b : Back) : Type 0 where
  pub slots : ℕ
  pub count : (b.eq.sums.count ≡ 24 * slots) ⊎ (b.eq.sums.count ≡ 24 * slots + 19)
  pub none : b.eq.filled ≡ 0 → b.eq.sums.count ≡ 0

pub record PointsFit (p : Points) : Type 0 where
  pub bits : p.bits ≤ 5
  pub k : p.k ≤ 2 ^ 24

-- ---- all
pub record CoherentReceiver (r : Receiver) : Type 0 where
  pub nco : NcoFits r.front.nco
  pub sync : CoherentSync rotated r.front.sync
  pub phase : PhaseFits r.front.sync.run r.front.phase
  pub eq : CoherentEq r.back.eq
  pub right : r.back.eq.opened ≡ true → RightFits r.back.eq.sums
  pub count : r.back.eq.opened ≡ true → CountFits r.back
  pub back : BackFits r.front.phase r.back
  pub points : PointsFit r.points
