use Rattle.std.proofs.Common.{◌≡◌, ◌*◌, ◌≤◌, ◌++◌, drop}
use Rattle.solve.proofs.Laws.{zeros}
use Rattle.solve.specs.System.{parts, pair_of}
use Rattle.solve.proofs.system.right_side.Given as goal

abbrev pub invariant-loop-k : goal.invariant-loop-k
invariant-loop-k l = (l.k ≤ 11) × (l.b ≡ parts (pair_of l.l) l.k ++ drop (2 * l.k) (zeros 22))
