-- What the program keeps from call to call, and what a call gives.
use Rattle.std.specs.Prelude.{ℕ, List}
use Rattle.learn.specs.declared.Learn.{Learn}
use Rattle.in_force.specs.declared.InForce.{InForce}
use Rattle.demap_replay.specs.declared.kept.Kept.{Kept}
use Rattle.demap_replay.specs.declared.kept.Turn.{Turn}

abbrev pub with_learn : Kept → Learn → Kept
with_learn k l = record { learn = l; force = k.force }

abbrev pub with_force : Kept → InForce → Kept
with_force k f = record { learn = k.learn; force = f }

abbrev pub turned : Kept → List ℕ → Turn
turned k told = record { kept = k; told = told }
