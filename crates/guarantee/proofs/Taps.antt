-- Corrected symbols leave the taps and their frame, and the frame of open sums. Assumes nothing.
use Rattle.eq.specs.declared.Equaliser.{Equaliser}
use Rattle.eq.specs.Eq.{pushed_eq, started_eq, trained_eq, trains_eq, with_sums}
use Rattle.eq_range.proofs.Kept.{trains_open}
use Rattle.eq_train.specs.Train.{trained_sums}
use Rattle.frame.specs.declared.Back.{Back}
use Rattle.frame.specs.declared.Pushed.{Pushed}
use Rattle.frame.specs.Align.{joined_to, pushed_back, restarted_back, started_back, taken_by, trained_at, trained_part}
use Rattle.frame.specs.Stretch.{after_all}
use Rattle.frame_line.specs.declared.Meta.{Meta}
use Rattle.frame_line.specs.Line.{gap_at}
use Rattle.refusal.specs.declared.Refusal.{Refusal}
use Rattle.std.specs.Prelude.{Result, Ok, Err}
use Rattle.frame_map.specs.declared.SlotPart.{SlotPart}
use Rattle.frame_map.specs.declared.SlotPart.TheVariants.{Sync, Pilot, Main, Tmcc}
use Rattle.frame_map.specs.Map.{part_of}
use Rattle.laws.proofs.Tests.{if_both, if_either, never}
use Rattle.phase.specs.declared.Corrected.{Corrected}
use lib.Dec.{ltb}
use lib.IntN.{ℤ}
use mathlib.Core.Bool.{true}
use mathlib.Core.List.{List, [], ◌∷◌}
use mathlib.Core.Path.{◌∙◌, ◌≡◌, refl, sym}

-- the same taps, of the same frame; sums that are open were, for that frame
pub record SameTaps (a b : Equaliser) : Type 0 where
  pub taps : a.taps ≡ b.taps
  pub from : a.from ≡ b.from
  pub sums : a.opened ≡ true → (b.opened ≡ true) × (a.sums.frame ≡ b.sums.frame)

same : (e : Equaliser) → SameTaps e e
same e = record { taps = refl; from = refl; sums = λ o. (o, refl) }

trained_taps : (p : Result SlotPart Refusal) (e : Equaliser) (m : Meta) (f s : List ℤ) → SameTaps (trained_part p e m f s) e
unfolding trained_part trained_eq with_sums trained_sums
trained_taps (Ok (Sync k)) e m f s = if_either (λ (u : Equaliser). SameTaps u e) (trains_eq e) _ e (λ t. record { taps = refl; from = refl; sums = λ o. (trains_open e t, refl) }) (λ t. same e)
trained_taps (Ok (Pilot k)) e m f s = same e
trained_taps (Ok (Main k)) e m f s = same e
trained_taps (Ok (Tmcc k)) e m f s = same e
trained_taps (Err n) e m f s = same e

taken_taps : (b : Back) (c : Corrected) (f s : List ℤ) → SameTaps (taken_by b c f s).back.eq b.eq
unfolding taken_by pushed_eq trained_at
taken_taps b c f s =
    if_both (λ (u : Pushed). SameTaps u.back.eq b.eq) (ltb b.metas.count 5) _ _ (record { taps = refl; from = refl; sums = λ o. (o, refl) })
    (let t = trained_taps (part_of b.metas.first.j) (pushed_eq b.eq c.y.i c.y.q) b.metas.first f s in record { taps = t.taps; from = t.from; sums = t.sums })

joined_taps : (b : Back) (c : Corrected) → SameTaps (joined_to b c.at).eq b.eq
unfolding joined_to restarted_back started_back started_eq
joined_taps b c = if_both (λ (u : Back). SameTaps u.eq b.eq) (gap_at b.last c.at) _ b (record { taps = refl; from = refl; sums = λ o. absurd (never (sym o)) }) (same b.eq)

both : {a b d : Equaliser} → SameTaps a b → SameTaps b d → SameTaps a d
both t j =
    record {
      taps = t.taps ∙ j.taps;
      from = t.from ∙ j.from;
      sums = λ o. let w = t.sums o in let v = j.sums w.0 in (v.0, w.1 ∙ v.1);
    }

push_taps : (b : Back) (c : Corrected) (f s : List ℤ) → SameTaps (pushed_back b c f s).back.eq b.eq
unfolding pushed_back
push_taps b c f s = both (taken_taps (joined_to b c.at) c f s) (joined_taps b c)

pub after_taps : (b : Back) (cs : List Corrected) (f s : List ℤ) → SameTaps (after_all b cs f s).eq b.eq
unfolding after_all
after_taps b [] f s = same b.eq
after_taps b (c ∷ cs) f s = both (after_taps (pushed_back b c f s).back cs f s) (push_taps b c f s)
