use Rattle.receiver_bounds.specs.Bounds.{all_within}
use lib.ListN.{drop}
use mathlib.Core.Bool.{◌&&◌}
use mathlib.Core.Path.{◌≡◌}
use Rattle.receiver_bounds.proofs.plain.right_within.Given as goal

abbrev pub invariant-loop-v : goal.invariant-loop-v
invariant-loop-v l = (l.all && all_within 199010845458432 (drop l.v-index l.p)) ≡ all_within 199010845458432 l.p
