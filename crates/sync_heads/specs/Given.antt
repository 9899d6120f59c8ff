-- Heads that a caller gives: document 01, "Refusals".
use Rattle.std.specs.Prelude.{◌^◌, leb, ⊤, Result, Ok, Err}
use Rattle.laws.specs.Choice.{when◌then◌else◌}
use Rattle.refusal.specs.declared.Refusal.{Refusal}
use Rattle.refusal.specs.declared.Refusal.TheVariants.{Arithmetic, Position}
use Rattle.fx.specs.Answers.{wide}
use Rattle.sync_heads.specs.declared.Head.{Head}

-- 6, an `amp` of size over 2^60; 7, the head stands at 2^62 or more
unfoldable pub given_refusal : Head → Result ⊤ Refusal
given_refusal h = when wide h.amp then Err Arithmetic else when leb (2 ^ 62) h.at then Err Position else Ok tt
