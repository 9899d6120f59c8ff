use Rattle.std.proofs.Common.{◌-◌, ◌≤◌}
use Rattle.sync_replay.proofs.replay.Given as goal

abbrev pub invariant-loop-i : goal.invariant-loop-i
invariant-loop-i l = (l.i ≤ l.n) × (l.t.used ≤ 65536)
