-- The ranges of docs/RANGES.md, "Alignment".
use Rattle.std.specs.Prelude.{ℕ, ◌^◌, Bool, true, ◌&&◌, ◌||◌, leb, ltb, Option, None, Some}
use Rattle.frame_line.specs.declared.Meta.{Meta}
use Rattle.frame_line.specs.declared.Metas.{Metas}

-- waiting symbols adjoin: k positions lie before that of place k
unfoldable pub meta_in_range : ℕ → Meta → Bool
meta_in_range k m = leb k m.at && ltb m.at (2 ^ 62) && leb m.j 9295

-- place k is looked at if more than k wait
unfoldable pub place_in_range : ℕ → ℕ → Meta → Bool
place_in_range count k m = leb count k || meta_in_range k m

unfoldable pub metas_in_range : Metas → Bool
metas_in_range w =
    let n = w.count in
    leb n 5 && place_in_range n 0 w.first && place_in_range n 1 w.second && place_in_range n 2 w.third && place_in_range n 3 w.fourth
    && place_in_range n 4 w.fifth

unfoldable pub last_in_range : Option ℕ → Bool
last_in_range None = true
last_in_range (Some a) = ltb a (2 ^ 62)
