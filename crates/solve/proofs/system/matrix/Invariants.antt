use Rattle.std.proofs.Common.{◌≡◌, ◌*◌, ◌/◌, ◌%◌, ◌≤◌, ◌++◌, drop}
use Rattle.solve.proofs.Laws.{zeros}
use Rattle.solve.specs.System.{parts, entry_of}
use Rattle.solve.proofs.system.matrix.Given as goal

abbrev pub invariant-loop-k : goal.invariant-loop-k
invariant-loop-k l = (l.k ≤ 121) × (l.a ≡ parts (λ k. entry_of l.l (k / 11) (k % 11)) l.k ++ drop (2 * l.k) (zeros 242))
