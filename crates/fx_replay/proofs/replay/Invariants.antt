use mathlib.Core.Path.{◌≡◌}
use Prim.Native.Nat.{◌-◌, ◌*◌, ◌≤◌}
use Rattle.fx_replay.specs.Replay.{replayed, answer_bytes, same}
use Rattle.fx_replay.proofs.Laws.{length_answer}
use Rattle.wire.proofs.Blocks.{so_far}
use Rattle.fx_replay.proofs.replay.Given as goal

abbrev pub invariant-loop-i : goal.invariant-loop-i
invariant-loop-i l = (l.i ≤ l.n) × (so_far 24 answer_bytes same length_answer (l.n - l.i) l.table l.buf (24 * l.i) ≡ replayed l.table l.n l.initial.buf)
