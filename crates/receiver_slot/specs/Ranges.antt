-- What a corrected slot needs: the ranges of a receiver's back and points, and what the tests of its symbol give, imply it.
use Rattle.std.specs.Prelude.{ℕ, ◌+◌, ◌≤◌, ◌<◌, ◌^◌, true, false, List, ◌⊎◌, ◌≡◌, ℤ, nat_abs, length}
use Rattle.sync_corr.specs.Correlate.{ones_of}
use Rattle.phase.specs.declared.WholeSlot.{WholeSlot}
use Rattle.phase.specs.Ranges.{WholeOk}
use Rattle.sums.specs.declared.Sums.{Sums}
use Rattle.eq_train.specs.Train.{nth}
use Rattle.frame_line.specs.Ranges.{last_in_range}
use Rattle.frame.specs.declared.Back.{Back}
use Rattle.receiver_slot.specs.declared.Points.{Points}
use Rattle.receiver_slot.specs.Slot.{corrected_all, overfull}
use Rattle.receiver_slot.specs.Aligned.{Between}

-- open sums: each entry within the widest range of its kind
pub record SumsFit (s : Sums) : Type 0 where
  pub count : s.count ≤ 4194304
  pub upper : (k : ℕ) → k < 132 → nat_abs (nth s.r k) ≤ 2 ^ 53
  pub right : (k : ℕ) → k < 22 → nat_abs (nth s.p k) ≤ 2 ^ 53

-- slots come whole: the line is empty or full, and none or the last five of a slot wait
pub record BackOk (b : Back) : Type 0 where
  pub filled : (b.eq.filled ≡ 0) ⊎ (b.eq.filled ≡ 11)
  pub sums : b.eq.opened ≡ true → SumsFit b.eq.sums
  pub metas : Between b.metas
  pub last : last_in_range b.last ≡ true

pub record PointsOk (p : Points) : Type 0 where
  pub bits : p.bits ≤ 5
  pub k : p.k ≤ 2 ^ 24

-- the slot's positions are accepted, the lent lists have their lengths, the words are of ones, and there is room in the sums (8)
pub record SlotOk (b : Back) (w : WholeSlot) (p : Points) (table store f s soft : List ℤ) : Type 0 where
  pub back : BackOk b
  pub whole : WholeOk w
  pub accepted : w.head.at + 9296 ≤ 2 ^ 62
  pub points : PointsOk p
  pub cosines : length table ≡ 1024
  pub held : length store ≡ 18592
  pub first : ones_of f ≡ true
  pub second : ones_of s ≡ true
  pub buffer : 44880 ≤ length soft
  pub room : overfull b (corrected_all 9296 w table store) f s ≡ false
