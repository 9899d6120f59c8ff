use Prim.Native.Nat.{◌-◌, ◌*◌, ◌≤◌}
use Rattle.demap_replay.proofs.Laws.{length_answer}
use Rattle.demap_replay.specs.Replay.{replayed, left_of, answer_bytes, after, desk}
use Rattle.wire.proofs.Blocks.{so_far, left_from}
use mathlib.Core.Path.{◌≡◌}
use Rattle.demap_replay.proofs.replay.Given as goal

abbrev pub invariant-loop-i : goal.invariant-loop-i
invariant-loop-i l = (l.i ≤ l.n)
    × (so_far 192 answer_bytes after length_answer (l.n - l.i) (desk l.s l.learned l.nominal) l.buf (192 * l.i) ≡ replayed (desk l.initial.s l.initial.learned l.initial.nominal) l.n l.initial.buf)
    × (left_from 192 answer_bytes after length_answer (l.n - l.i) (desk l.s l.learned l.nominal) l.buf (192 * l.i) ≡ left_of (desk l.initial.s l.initial.learned l.initial.nominal) l.n l.initial.buf)
