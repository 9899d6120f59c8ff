-- What the entries answer. A refusal "returns the number and the state received".
use Rattle.std.specs.Prelude.{ℕ, List, eqb, ℤ, length, ⊤, Result, Ok, Err}
use Rattle.laws.specs.Choice.{when◌then◌else◌}
use Rattle.refusal.specs.Refusals.{answered}
use Rattle.refusal.specs.declared.Refusal.{Refusal}
use Rattle.refusal.specs.declared.Refusal.TheVariants.{Table, Arithmetic}
use Rattle.refusal.specs.declared.Refused.{Refused}
use Rattle.sync_heads.specs.Given.{given_refusal}
use Rattle.sync_heads.specs.declared.Head.{Head}
use Rattle.carrier.specs.declared.Nco.{Nco}
use Rattle.carrier.specs.declared.Rotated.{Rotated}
use Rattle.carrier.specs.declared.Heard.{Heard}
use Rattle.carrier.specs.Carrier.{started_nco, rotated_of, advanced_nco, heard_of}
use Rattle.carrier.specs.Ranges.{nco_in_range}

-- ---- a symbol: 3, a table not of 1,024; 6, a number of the state out of range
unfoldable pub rotate_refusal : Nco → ℕ → Result ⊤ Refusal
rotate_refusal n len = when eqb len 1024 then when nco_in_range n then Ok tt else Err Arithmetic else Err Table

unfoldable pub rotate_answer : Nco → ℤ → ℤ → List ℤ → Result Rotated (Refused Nco)
rotate_answer n xi xq table =
    answered (rotate_refusal n (length table)) n (record { nco = advanced_nco n; symbol = rotated_of table n.phase xi xq })

-- ---- a head: 6, a number of the state out of range, or an `amp` of size over 2^60; 7, the head stands at 2^62 or more
unfoldable pub head_refusal : Nco → Head → Result ⊤ Refusal
head_refusal n h =
    when nco_in_range n then given_refusal h else Err Arithmetic

unfoldable pub head_answer : Nco → Head → Result Heard (Refused Nco)
head_answer n h = answered (head_refusal n h) n (heard_of n h)

-- ---- a restart: 6
unfoldable pub restart_answer : Nco → Result Nco (Refused Nco)
restart_answer n = when nco_in_range n then Ok (started_nco n.phase n.freq) else Err (record { why = Arithmetic; state = n })
