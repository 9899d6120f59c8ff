-- "A corrected slot is aligned as in `Back::push`, five symbols late."
use Rattle.std.specs.Prelude.{ℕ, Bool, true, false, List, ltb, ℤ, Option, None, Some, unwrap_or, Result, Ok, Err}
use Rattle.laws.specs.Choice.{when◌then◌else◌}
use Rattle.refusal.specs.declared.Refusal.{Refusal}
use Rattle.angles.specs.declared.Symbol.{Symbol}
use Rattle.phase.specs.declared.Corrected.{Corrected}
use Rattle.eq.specs.declared.Equaliser.{Equaliser}
use Rattle.eq.specs.Eq.{new_eq, started_eq, pushed_eq, output_at, trained_eq}
use Rattle.frame_map.specs.declared.SlotPart.{SlotPart}
use Rattle.frame_map.specs.declared.SlotPart.TheVariants.{Sync, Pilot, Main, Tmcc}
use Rattle.frame_map.specs.Map.{part_of}
use Rattle.frame_map.specs.Reference.{reference_of}
use Rattle.frame_line.specs.declared.Meta.{Meta}
use Rattle.frame_line.specs.Line.{no_metas, meta_of, joined, moved, gap_at}
use Rattle.frame.specs.declared.Back.{Back}
use Rattle.frame.specs.declared.Pushed.{Pushed}

-- ---- starts
unfoldable pub started_back : Equaliser → Back
started_back e = record { eq = e; metas = no_metas; last = None }

unfoldable pub new_back : Back
new_back = started_back new_eq

-- "restarts sync, carrier, phase, equaliser and alignment": here the last two; open sums are dropped, the taps stay
unfoldable pub restarted_back : Back → Back
restarted_back b = started_back (started_eq b.eq.taps b.eq.from)

-- ---- one corrected symbol
-- a gap in the positions restarts
unfoldable pub joined_to : Back → ℕ → Back
joined_to b at = when gap_at b.last at then restarted_back b else b

-- the equalised value, or the symbol's own y where the line gives none (a handed-in state alone)
unfoldable pub equalised_by : Option Symbol → Symbol → Symbol
equalised_by z y = unwrap_or z y

-- "With sums open, sync symbols train" against their word's entry times 724: an aligned symbol m by its own place and word
unfoldable pub trained_part : Result SlotPart Refusal → Equaliser → Meta → List ℤ → List ℤ → Equaliser
trained_part (Ok (Sync k)) e m f s = let d = reference_of m.word k f s in trained_eq e d.i d.q
trained_part (Ok (Pilot k)) e m f s = e
trained_part (Ok (Main k)) e m f s = e
trained_part (Ok (Tmcc k)) e m f s = e
trained_part (Err why) e m f s = e

unfoldable pub trained_at : Equaliser → Meta → List ℤ → List ℤ → Equaliser
trained_at e m f s = trained_part (part_of m.j) e m f s

-- the symbol is taken; once five wait, the oldest comes out
unfoldable pub taken_by : Back → Corrected → List ℤ → List ℤ → Pushed
taken_by b c f s =
    let e = pushed_eq b.eq c.y.i c.y.q in
    let w = b.metas in
    when ltb w.count 5
    then record { back = record { eq = e; metas = joined w (meta_of c); last = Some c.at }; out = None }
    else record {
      back = record { eq = trained_at e w.first f s; metas = moved w (meta_of c); last = Some c.at };
      out = Some (record { meta = w.first; z = equalised_by (output_at e) c.y });
    }

unfoldable pub pushed_back : Back → Corrected → List ℤ → List ℤ → Pushed
pushed_back b c f s = taken_by (joined_to b c.at) c f s

-- whether a place of the slot is a sync symbol's
unfoldable pub is_sync : Result SlotPart Refusal → Bool
is_sync (Ok (Sync k)) = true
is_sync (Ok (Pilot k)) = false
is_sync (Ok (Main k)) = false
is_sync (Ok (Tmcc k)) = false
is_sync (Err why) = false
