-- A run as 24 numbers: 0, its numbers, and zeros behind them. A negative number is 2^64 more.
use Rattle.sync_heads.specs.declared.FrameHead.{FrameHead}
use Rattle.std.specs.Prelude.{ℕ, List, [], ◌∷◌, ◌++◌, replicate, Option, None, Some}
use Rattle.sync_lock.specs.declared.Lock.{Lock}
use Rattle.sync_lock.specs.declared.Lock.TheVariants.{Search, Locked}
use Rattle.sync_heads.specs.declared.Stage.{Stage}
use Rattle.sync_heads.specs.declared.Stage.TheVariants.{Before, First, Known}
use Rattle.sync_step.specs.declared.Run.{Run}
use Rattle.wire.specs.Wire.{bits}
use Rattle.fields.specs.Fields.{flag_of}
use Rattle.slot_wire.specs.Slots.{slot_shown}
use Rattle.sync_wire.specs.declared.told.ThreeShown.{ThreeShown}
use Rattle.sync_wire.specs.declared.told.StageShown.{StageShown}

unfoldable pub lock_shown : Lock → ThreeShown
lock_shown (Search cand count) = record { known = 0; first = cand; second = count }
lock_shown (Locked offset misses) = record { known = 1; first = offset; second = misses }

unfoldable pub record_shown : Option FrameHead → ThreeShown
record_shown None = record { known = 0; first = 0; second = 0 }
record_shown (Some s) = record { known = 1; first = s.at; second = s.frame }

unfoldable pub stage_shown : Stage → StageShown
stage_shown Before = record { stage = 0; first = 0; second = 0; third = 0; fourth = 0; fifth = 0 }
stage_shown (First r) =
    record {
      stage = 1;
      first = r.at;
      second = bits r.both.f.re;
      third = bits r.both.f.im;
      fourth = bits r.both.s.re;
      fifth = bits r.both.s.im;
    }
stage_shown (Known p) =
    record {
      stage = 2;
      first = flag_of p.odd;
      second = flag_of p.due;
      third = bits p.last.re;
      fourth = bits p.last.im;
      fifth = 0;
    }

unfoldable pub run_told : Run → List ℕ
run_told r =
    let k = lock_shown r.lock in
    (0 ∷ r.base ∷ r.t ∷ r.tally.peak ∷ r.tally.place ∷ r.tally.sum ∷ k.known ∷ k.first ∷ k.second ∷ []) ++ replicate 15 0

unfoldable pub heads_told : Run → List ℕ
heads_told r =
    let c = r.course in
    let x = stage_shown r.stage in
    let y = slot_shown c.slot in
    let z = record_shown c.last in
    (0
    ∷ x.stage
    ∷ x.first
    ∷ x.second
    ∷ x.third
    ∷ x.fourth
    ∷ x.fifth
    ∷ bits c.majority
    ∷ y.known
    ∷ y.number
    ∷ y.frame
    ∷ z.known
    ∷ z.first
    ∷ z.second
    ∷ c.misses
    ∷ c.stray
    ∷ c.missed
    ∷ [])
    ++ replicate 7 0
