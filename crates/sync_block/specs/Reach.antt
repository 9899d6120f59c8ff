-- How many symbols come up to and with the first loud one: one that may tell something.
use Rattle.std.specs.Prelude.{ℕ, ◌+◌, ◌-◌, ◌^◌, min, Bool, ◌&&◌, ◌||◌, eqb, leb, ltb}
use Rattle.laws.specs.Choice.{when◌then◌else◌}
use Rattle.sync_lock.specs.declared.Lock.{Lock}
use Rattle.sync_lock.specs.Rule.{locked_at}
use Rattle.sync_step.specs.declared.Run.{Run}
use Rattle.sync_step.specs.Step.{place_of, is_locked, offset_of}

-- the next symbol is loud: it completes the window of the period's last position or, while locked, of the locked offset
unfoldable pub loud : Run → Bool
loud r = leb 23 r.t && (eqb (place_of 9296 r.t) 9295 || locked_at r.lock (place_of 9296 r.t))

-- the place of the first loud window from place p on: the locked offset, if it is still to come in the period, else the last position
unfoldable pub loud_place : Lock → ℕ → ℕ
loud_place k p = when is_locked k && leb p (offset_of k) then offset_of k else 9295

-- the symbols up to and with the first loud one (proofs/Laws.antt, `quiet-before`, `loud_last`); one, before the first window is complete
unfoldable pub until_loud : Run → ℕ
until_loud r = let p = place_of 9296 r.t in when ltb r.t 23 then 1 else loud_place r.lock p - p + 1

-- .. of those below position 2^62
unfoldable pub reach_of : Run → ℕ
reach_of r = min (until_loud r) (2 ^ 62 - (r.base + r.t))
