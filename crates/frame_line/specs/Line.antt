-- "A corrected slot is aligned as in `Back::push`, five symbols late": the symbols that wait.
use Rattle.std.specs.Prelude.{ℕ, ◌+◌, Bool, false, not, eqb, Option, None, Some}
use Rattle.laws.specs.Choice.{when◌then◌else◌}
use Rattle.sync_heads.specs.declared.Word.TheVariants.{Ssync}
use Rattle.phase.specs.declared.Corrected.{Corrected}
use Rattle.frame_line.specs.declared.Meta.{Meta}
use Rattle.frame_line.specs.declared.Metas.{Metas}

unfoldable pub blank : Meta
blank = record { at = 0; j = 0; word = Ssync; slot = None }

unfoldable pub no_metas : Metas
no_metas = record { count = 0; first = blank; second = blank; third = blank; fourth = blank; fifth = blank }

-- what a corrected symbol comes out with
unfoldable pub meta_of : Corrected → Meta
meta_of c = record { at = c.at; j = c.j; word = c.word; slot = c.slot }

-- what stands at place k once m has come behind n others
unfoldable pub placed_at : ℕ → ℕ → Meta → Meta → Meta
placed_at n k m old = when eqb n k then m else old

-- a symbol behind those that wait, where fewer than five do
unfoldable pub joined : Metas → Meta → Metas
joined w m =
    let n = w.count in
    record {
      count = n + 1;
      first = placed_at n 0 m w.first;
      second = placed_at n 1 m w.second;
      third = placed_at n 2 m w.third;
      fourth = placed_at n 3 m w.fourth;
      fifth = placed_at n 4 m w.fifth;
    }

-- the oldest goes, and a symbol comes behind the others
unfoldable pub moved : Metas → Meta → Metas
moved w m = record { count = w.count; first = w.second; second = w.third; third = w.fourth; fourth = w.fifth; fifth = m }

-- a gap: the last position is there, and is not the one before (also a repeated or a lower one)
unfoldable pub gap_at : Option ℕ → ℕ → Bool
gap_at None at = false
gap_at (Some a) at = not (eqb (a + 1) at)
