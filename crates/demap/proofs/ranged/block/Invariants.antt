use mathlib.Core.List.{◌++◌}
use mathlib.Core.Path.{◌≡◌}
use Prim.Native.Nat.{◌*◌, ◌≤◌}
use lib.ListN.{drop}
use Rattle.demap.specs.Demap.{block_bits}
use Rattle.demap.proofs.ranged.block.Given as goal

abbrev pub invariant-loop-s : goal.invariant-loop-s
invariant-loop-s l = (l.s ≤ l.n) × (l.out ≡ block_bits l.sy l.points l.bits l.k l.s ++ drop (l.s * l.bits) l.initial.out)
