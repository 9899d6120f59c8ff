-- What the functions need of their arguments; the ranges (Ranges.antt) imply it.
use Rattle.sync_heads.specs.declared.SlotNumber.{SlotNumber}
use Rattle.std.specs.Prelude.{◌^◌, ◌<◌, ◌≤◌, unsigned_abs, Option, None, Some}
use Rattle.sync_corr.specs.declared.Corr.{Corr}
use Rattle.sync_corr.specs.declared.Both.{Both}
use Rattle.sync_heads.specs.declared.Reading.{Reading}
use Rattle.sync_heads.specs.declared.Parity.{Parity}
use Rattle.sync_heads.specs.declared.Stage.{Stage}
use Rattle.sync_heads.specs.declared.Stage.TheVariants.{Before, First, Known}
use Rattle.sync_heads.specs.declared.Course.{Course}

-- parts of a correlation of 24 symbols of 16 bits
pub record Small (c : Corr) : Type 0 where
  pub re : unsigned_abs c.re ≤ 1572864
  pub im : unsigned_abs c.im ≤ 1572864

pub record Smalls (b : Both) : Type 0 where
  pub f : Small b.f
  pub s : Small b.s

pub record ReadingOk (r : Reading) : Type 0 where
  pub at : r.at ≤ 2 ^ 62
  pub small : Smalls r.both

pub record ParityOk (p : Parity) : Type 0 where
  pub last : Small p.last

abbrev pub StageOk : Stage → Type 0
StageOk Before = Unit {0}
StageOk (First z) = ReadingOk z
StageOk (Known p) = ParityOk p

abbrev pub SlotOk : Option SlotNumber → Type 0
SlotOk None = Unit {0}
SlotOk (Some s) = s.number < 120

pub record CourseOk (c : Course) : Type 0 where
  pub majority : unsigned_abs c.majority ≤ 8
  pub slot : SlotOk c.slot
  pub misses : c.misses < 2
