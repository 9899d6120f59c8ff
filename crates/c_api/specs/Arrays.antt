-- How the answers of the entries on whole arrays cross to C. Refusal 0 is an accepted call.
use Rattle.sync_corr.specs.declared.Corr.{Corr}
use Rattle.refusal.specs.declared.Refusal.{Refusal}
use Rattle.refusal.specs.Refusals.{number_of}
use Rattle.angles.specs.declared.Symbol.{Symbol}
use Rattle.std.specs.Prelude.{ℕ, eqb, List, Float, Result, Ok, Err}
use Rattle.laws.specs.Choice.{when◌then◌else◌}
use Rattle.solve_step.specs.Back.{none_yet, solution_of}
use Rattle.sync_heads.specs.declared.Word.{Word}
use Rattle.sync_heads.specs.declared.Word.TheVariants.{Ssync, Fsync, NotFsync}
use Rattle.c_api.specs.declared.Numbers.{Numbers}
use Rattle.c_api.specs.declared.arrays.Equations.{Equations}
use Rattle.c_api.specs.declared.arrays.Unknowns.{Unknowns}
use Rattle.c_api.specs.Api.{crossed_two}

-- the two parts
abbrev pub correlated : Result Corr Refusal → Numbers
correlated a = crossed_two (λ c. c.re) (λ c. c.im) a

-- 0 is the S word, 1 the F word, any other number the F word negated
unfoldable pub word_numbered : ℕ → Word
word_numbered n = when eqb n 0 then Ssync else when eqb n 1 then Fsync else NotFsync

-- the symbol
abbrev pub referred : Result Symbol Refusal → Numbers
referred a = crossed_two (λ y. y.i) (λ y. y.q) a

-- the unknowns of a system; all 0 after a refusal
abbrev pub solved : Result (List Float) Refusal → Unknowns
solved (Ok x) = record { x = x; refusal = 0 }
solved (Err why) = record { x = none_yet; refusal = number_of why }

unfoldable pub unknowns : Equations → Unknowns
unknowns e = solved (solution_of (record { a = e.a; b = e.b }))
