use Prim.Native.Nat.{◌*◌, ◌-◌, ◌≤◌}
use Rattle.receiver_replay.proofs.Laws.{length_answer}
use Rattle.receiver_replay.specs.Calls.{all}
use Rattle.receiver_replay.specs.Replay.{after, answer_bytes, left_of, replayed}
use Rattle.wire.proofs.Blocks.{left_from, so_far}
use mathlib.Core.Path.{◌≡◌}
use Rattle.receiver_replay.proofs.replay.Given as goal

abbrev pub invariant-loop-i : goal.invariant-loop-i
invariant-loop-i l = (l.i ≤ l.n) × (so_far 192 answer_bytes after length_answer (l.n - l.i) (all l.s l.table l.acc l.store l.soft l.input) l.buf (192 * l.i) ≡ replayed (all l.initial.s l.initial.table l.initial.acc l.initial.store l.initial.soft l.initial.input) l.n l.initial.buf) × (left_from 192 answer_bytes after length_answer (l.n - l.i) (all l.s l.table l.acc l.store l.soft l.input) l.buf (192 * l.i) ≡ left_of (all l.initial.s l.initial.table l.initial.acc l.initial.store l.initial.soft l.initial.input) l.n l.initial.buf)
