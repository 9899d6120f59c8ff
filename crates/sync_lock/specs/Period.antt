-- The accumulators of a period and its peak.
use Rattle.std.specs.Prelude.{ℕ, ◌+◌, ◌*◌, ◌/◌, Bool, ◌&&◌, eqb, leb, ltb}
use Rattle.laws.specs.Choice.{when◌then◌else◌}
use Rattle.sync_lock.specs.declared.Tally.{Tally}

-- "Accumulator: floor((7a + size)/8)."
unfoldable pub leak_of : ℕ → ℕ → ℕ
leak_of a size = (7 * a + size) / 8

-- the figures of no position at all
unfoldable pub no_tally : Tally
no_tally = record { peak = 0; place = 0; sum = 0 }

-- "The first greatest in a period is its peak": the figures with accumulator a at position p, which take the place of those before only if greater
unfoldable pub added_of : Tally → ℕ → ℕ → Tally
added_of t p a =
    when ltb t.peak a
    then record { peak = a; place = p; sum = t.sum + a }
    else record { peak = t.peak; place = t.place; sum = t.sum + a }

-- position 0 begins a period
unfoldable pub counted_of : Tally → ℕ → ℕ → Tally
counted_of t p a = when eqb p 0 then added_of no_tally p a else added_of t p a

-- "A period counts if peak > 0 and peak × 9,296 ≥ 3 × sum."
unfoldable pub counts_of : ℕ → Tally → Bool
counts_of n t = ltb 0 t.peak && leb (3 * t.sum) (t.peak * n)
