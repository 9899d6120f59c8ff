-- What a corrected slot gives: aligned symbols, trainings, soft bits.
use Rattle.std.specs.Prelude.{ℕ, Bool, false, ◌||◌, List, [], ◌∷◌, ◌++◌, ℤ, pos, length, take, drop, Option, None, Some, Result, Ok, Err}
use Rattle.laws.specs.Ranges.{firsts}
use Rattle.angles.specs.declared.Symbol.{Symbol}
use Rattle.phase.specs.declared.WholeSlot.{WholeSlot}
use Rattle.phase.specs.declared.Corrected.{Corrected}
use Rattle.phase.specs.Phase.{corrected_of}
use Rattle.demap.specs.Demap.{label_metric, soft_bits}
use Rattle.refusal.specs.declared.Refusal.{Refusal}
use Rattle.frame_map.specs.declared.SlotPart.{SlotPart}
use Rattle.frame_map.specs.declared.SlotPart.TheVariants.{Sync, Pilot, Main, Tmcc}
use Rattle.frame_map.specs.Map.{part_of}
use Rattle.frame_line.specs.declared.Meta.{Meta}
use Rattle.frame.specs.declared.Back.{Back}
use Rattle.frame.specs.declared.AlignedSymbol.{AlignedSymbol}
use Rattle.frame.specs.Align.{joined_to, pushed_back}
use Rattle.frame.specs.Answers.{full_back}
use Rattle.receiver_slot.specs.declared.Points.{Points}
use Rattle.receiver_slot.specs.declared.AlignedRun.{AlignedRun}
use Rattle.receiver_slot.specs.declared.Runs.{Runs}

-- ---- "A corrected slot is aligned as in `Back::push`, five symbols late."
-- its n corrected symbols in order
unfoldable pub corrected_all : ℕ → WholeSlot → List ℤ → List ℤ → List Corrected
corrected_all n w table store = firsts (corrected_of w table store) n

unfoldable pub aligned_by : Option AlignedSymbol → List AlignedSymbol
aligned_by None = []
aligned_by (Some a) = a ∷ []

unfoldable pub aligned_all : Back → List Corrected → List ℤ → List ℤ → List AlignedSymbol
aligned_all b [] f s = []
aligned_all b (c ∷ cs) f s = aligned_by (pushed_back b c f s).out ++ aligned_all (pushed_back b c f s).back cs f s

-- the taps that an aligned symbol is equalised with: "Loaded taps act from the next symbol"
unfoldable pub taps_for : Back → Meta → List ℤ
taps_for b m = b.eq.taps

-- 8: "training count 4,194,304 .. before any addition the call would make (a receiver's symbol: any of its trainings)"
unfoldable pub overfull : Back → List Corrected → List ℤ → List ℤ → Bool
overfull b [] f s = false
overfull b (c ∷ cs) f s = full_back (joined_to b c.at) || overfull (pushed_back b c f s).back cs f s

-- the corrected symbols of a call, none if no slot is completed
unfoldable pub due_symbols : ℕ → Option WholeSlot → List ℤ → List ℤ → List Corrected
due_symbols n None table store = []
due_symbols n (Some w) table store = corrected_all n w table store

-- ---- "Main symbols are demapped with one loaded constellation; before a load there are no soft bits."
-- the points that an aligned symbol is demapped with
unfoldable pub points_for : Points → Meta → Points
points_for p m = p

unfoldable pub soft_of : Result SlotPart Refusal → Points → Symbol → List ℤ
soft_of (Ok (Sync k)) p z = []
soft_of (Ok (Pilot k)) p z = []
soft_of (Ok (Main k)) p z = soft_bits (label_metric z.i z.q p.points) p.bits (pos p.k)
soft_of (Ok (Tmcc k)) p z = []
soft_of (Err m) p z = []

unfoldable pub soft_all : Points → List AlignedSymbol → List ℤ
soft_all p [] = []
soft_all p (a ∷ rest) = soft_of (part_of a.meta.j) (points_for p a.meta) a.z ++ soft_all p rest

-- "Soft values stand in order from the buffer's start, its rest unchanged."
unfoldable pub written_on : List ℤ → List ℤ → List ℤ
written_on values buffer = values ++ drop (length values) buffer

-- ---- the aligned symbols as told: first those that had waited, then those of the slot
unfoldable pub no_run : AlignedRun
no_run = record { at = 0; j = 0; count = 0; bits = 0 }

unfoldable pub run_of : Points → List AlignedSymbol → AlignedRun
run_of p [] = no_run
run_of p (a ∷ rest) = record { at = a.meta.at; j = a.meta.j; count = length (a ∷ rest); bits = (points_for p a.meta).bits }

-- those that wait before the first of these symbols comes
unfoldable pub waiting_before : Back → List Corrected → ℕ
waiting_before b [] = 0
waiting_before b (c ∷ cs) = (joined_to b c.at).metas.count

unfoldable pub runs_of : Points → ℕ → List AlignedSymbol → Runs
runs_of p waiting given = record { tail = run_of p (take waiting given); body = run_of p (drop waiting given) }
