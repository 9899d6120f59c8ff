use Prim.Native.Nat.{◌-◌, ◌≤◌}
use Rattle.receiver_play.specs.Play.{block, lent_of, play_from}
use lib.ListN.{length}
use mathlib.Core.Path.{◌≡◌}
use Rattle.receiver_play.proofs.ranged.play.Given as goal

abbrev pub invariant-loop-i : goal.invariant-loop-i
invariant-loop-i l = (l.i ≤ l.n) × (length l.acc ≡ length l.initial.acc) × (length l.store ≡ length l.initial.store) × (length l.soft ≡ length l.initial.soft) × (play_from (block l.x l.f l.s l.table) (l.n - l.i) l.i l.q (lent_of l.acc l.store l.soft) ≡ play_from (block l.x l.f l.s l.table) l.n 0 l.initial.q (lent_of l.initial.acc l.initial.store l.initial.soft))
