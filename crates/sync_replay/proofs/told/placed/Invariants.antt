use Rattle.std.proofs.Common.{◌≡◌, ◌+◌, ◌-◌, ◌≤◌, drop}
use lib.Seq.{sets}
use Rattle.sync_replay.proofs.told.placed.Given as goal

abbrev pub invariant-loop-i : goal.invariant-loop-i
invariant-loop-i l = (l.i ≤ 11) × (sets l.r (l.k + l.i) (drop l.i l.x) ≡ sets l.initial.r l.k l.x)
