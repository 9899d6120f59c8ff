-- What an answer prints: document 01, "Capture": "Events come in order, then soft lines"; "`soft AT J` (position and slot index of a main symbol) and
-- the values; last `end SYMBOLS` or `refused NUMBER`".
use Rattle.std.specs.Prelude.{ℕ, zero, suc, ◌+◌, ◌%◌, ◌^◌, Bool, true, false, ◌&&◌, List, [], ◌++◌, take, drop, ℤ, nat_le, Result, Ok, Err}
use Rattle.laws.specs.Choice.{when◌then◌else◌}
use Rattle.sync_step.specs.declared.Events.{Events}
use Rattle.refusal.specs.declared.Refusal.{Refusal}
use Rattle.frame_map.specs.declared.SlotPart.{SlotPart}
use Rattle.frame_map.specs.declared.SlotPart.TheVariants.{Sync, Pilot, Main, Tmcc}
use Rattle.frame_map.specs.Map.{part_of}
use Rattle.receiver_slot.specs.declared.AlignedRun.{AlignedRun}
use Rattle.receiver_slot.specs.declared.Runs.{Runs}
use Rattle.lines.specs.Lines.{event_line, soft_line, end_line, refused_line}

-- the events in order
unfoldable pub events_text : Events → List ℕ
events_text es = event_line es.first ++ event_line es.second ++ event_line es.third

-- "a main symbol"
unfoldable pub main_part : Result SlotPart Refusal → Bool
main_part (Ok (Sync k)) = false
main_part (Ok (Pilot k)) = false
main_part (Ok (Main k)) = true
main_part (Ok (Tmcc k)) = false
main_part (Err n) = false

unfoldable pub is_main : ℕ → Bool
is_main j = main_part (part_of j)

-- a main symbol has soft values, 1 to 5 of them, if points are loaded
unfoldable pub prints_of : ℕ → ℕ → Bool
prints_of j bits = (is_main j && nat_le 1 bits) && nat_le bits 5

-- symbol i of a run, where vs are the soft values from its own on: its line, and the values of those behind it
unfoldable pub symbol_text : AlignedRun → ℕ → List ℤ → List ℕ
symbol_text r i vs =
    let j = r.j + i in when prints_of j r.bits then soft_line ((r.at + i) % 2 ^ 64) j (take r.bits vs) else []

unfoldable pub symbol_rest : AlignedRun → ℕ → List ℤ → List ℤ
symbol_rest r i vs = when prints_of (r.j + i) r.bits then drop r.bits vs else vs

-- n symbols from the i-th on
unfoldable pub run_text : AlignedRun → ℕ → ℕ → List ℤ → List ℕ
run_text r zero i vs = []
run_text r (suc n) i vs = symbol_text r i vs ++ run_text r n (i + 1) (symbol_rest r i vs)

unfoldable pub run_rest : AlignedRun → ℕ → ℕ → List ℤ → List ℤ
run_rest r zero i vs = vs
run_rest r (suc n) i vs = run_rest r n (i + 1) (symbol_rest r i vs)

-- "Events come in order, then soft lines": those of the slot before, then those of this one
unfoldable pub lines_of : Events → Runs → List ℤ → List ℕ
lines_of es rs soft =
    let t = rs.tail in
    let b = rs.body in
    events_text es ++ run_text t t.count 0 soft ++ run_text b b.count 0 (run_rest t t.count 0 soft)

-- "last `end SYMBOLS` or `refused NUMBER`"
abbrev pub last_text : Result ℕ ℕ → List ℕ
last_text (Ok symbols) = end_line symbols
last_text (Err n) = refused_line n
