use mathlib.Core.Path.{◌≡◌}
use Prim.Native.Nat.{◌-◌, ◌*◌, ◌≤◌}
use Rattle.wire.proofs.Blocks.{so_far, left_from}
use Rattle.frame_replay.specs.Replay.{replayed, left_of, answer_bytes, after}
use Rattle.frame_replay.proofs.Laws.{length_answer}
use Rattle.frame_replay.proofs.replay.Given as goal

abbrev pub invariant-loop-i : goal.invariant-loop-i
invariant-loop-i l = (l.i ≤ l.n)
    × (so_far 192 answer_bytes after length_answer (l.n - l.i) l.s l.buf (192 * l.i) ≡ replayed l.initial.s l.n l.initial.buf)
    × (left_from 192 answer_bytes after length_answer (l.n - l.i) l.s l.buf (192 * l.i) ≡ left_of l.initial.s l.n l.initial.buf)
