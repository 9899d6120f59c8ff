use Rattle.std.proofs.Common.{◌≡◌, ◌-◌, ◌≤◌}
use Rattle.sync_replay.specs.Desk.{pushes_of, st}
use Rattle.sync_replay.proofs.desk.pushes.Given as goal

abbrev pub invariant-loop-k : goal.invariant-loop-k
invariant-loop-k l = (l.k ≤ l.n) × (st l.r l.acc ≡ pushes_of l.k l.i l.q (st l.initial.r l.initial.acc))
