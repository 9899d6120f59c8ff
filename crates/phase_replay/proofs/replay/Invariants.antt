use mathlib.Core.Path.{◌≡◌}
use Prim.Native.Nat.{◌-◌, ◌*◌, ◌≤◌}
use Rattle.wire.proofs.Blocks.{so_far, left_from}
use Rattle.phase_replay.specs.Replay.{replayed, left_of, answer_bytes, after, lent}
use Rattle.phase_replay.proofs.Laws.{length_answer}
use Rattle.phase_replay.proofs.replay.Given as goal

abbrev pub invariant-loop-i : goal.invariant-loop-i
invariant-loop-i l = (l.i ≤ l.n)
    × (so_far 192 answer_bytes after length_answer (l.n - l.i) (lent l.table l.store) l.buf (192 * l.i) ≡ replayed (lent l.initial.table l.initial.store) l.n l.initial.buf)
    × (left_from 192 answer_bytes after length_answer (l.n - l.i) (lent l.table l.store) l.buf (192 * l.i) ≡ left_of (lent l.initial.table l.initial.store) l.n l.initial.buf)
