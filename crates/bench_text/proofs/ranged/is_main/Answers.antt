-- The parts of the slot map. Assumes nothing.
use Rattle.std.specs.Prelude.{Result, Ok}
use Rattle.std.proofs.Common.{◌≡◌, ℕ, sym, ap, ◌∙◌}
use Rattle.refusal.specs.declared.Refusal.{Refusal}
use Rattle.frame_map.specs.declared.SlotPart.{SlotPart}
use Rattle.frame_map.specs.Map.{part_of}
use Rattle.bench_text.specs.Bench.{is_main, main_part}
use Rattle.bench_text.proofs.ranged.is_main.Goals as goal

known : (j : ℕ) (p : Result SlotPart Refusal) (s t : SlotPart) → p ≡ part_of j → p ≡ Ok s → s ≡ t → main_part (Ok t) ≡ is_main j
unfolding is_main
known j p s t e f g = ap main_part (ap (λ (s : SlotPart). Ok s) (sym g) ∙ sym f ∙ e)

pub returns-in-Ok-Main : goal.returns-in-Ok-Main
unfolding main_part
returns-in-Ok-Main c = known c.args.j _ _ _ c.part-part.ensures c.in-Ok-Main.is (rw c.in-Ok-Main.is at c.in-Ok-Main.field-0-is)

pub returns-in-Ok-Sync : goal.returns-in-Ok-Sync
unfolding main_part
returns-in-Ok-Sync c = known c.args.j _ _ _ c.part-part.ensures c.in-Ok-Sync.is (rw c.in-Ok-Sync.is at c.in-Ok-Sync.field-0-is)

pub returns-in-Ok-Pilot : goal.returns-in-Ok-Pilot
unfolding main_part
returns-in-Ok-Pilot c = known c.args.j _ _ _ c.part-part.ensures c.in-Ok-Pilot.is (rw c.in-Ok-Pilot.is at c.in-Ok-Pilot.field-0-is)

pub returns-in-Ok-Tmcc : goal.returns-in-Ok-Tmcc
unfolding main_part
returns-in-Ok-Tmcc c = known c.args.j _ _ _ c.part-part.ensures c.in-Ok-Tmcc.is (rw c.in-Ok-Tmcc.is at c.in-Ok-Tmcc.field-0-is)

pub returns-in-Err : goal.returns-in-Err
unfolding is_main main_part
returns-in-Err c = rw (sym c.part-part.ensures) (rw c.in-Err.is)
