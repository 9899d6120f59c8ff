use Rattle.receiver_bounds.specs.Bounds.{all_within}
use lib.ListN.{drop}
use mathlib.Core.Bool.{◌&&◌}
use mathlib.Core.Path.{◌≡◌}
use Rattle.receiver_bounds.proofs.ranged.window_within.Given as goal

abbrev pub invariant-loop-v : goal.invariant-loop-v
invariant-loop-v l = (l.all && all_within 4096 (drop l.v-index l.win)) ≡ all_within 4096 l.win
