-- What the program keeps from call to call, and what a call gives.
use Rattle.std.specs.Prelude.{ℕ, List}
use Rattle.eq.specs.declared.Equaliser.{Equaliser}
use Rattle.sums.specs.declared.Sums.{Sums}
use Rattle.eq_calls.specs.declared.kept.Kept.{Kept}
use Rattle.eq_calls.specs.declared.kept.Turn.{Turn}

abbrev pub with_eq : Kept → Equaliser → Kept
with_eq k e = record { eq = e; sums = k.sums }

abbrev pub with_solver : Kept → Sums → Kept
with_solver k s = record { eq = k.eq; sums = s }

abbrev pub turned : Kept → List ℕ → Turn
turned k told = record { kept = k; told = told }
