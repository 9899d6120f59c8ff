-- What the numbers of a call hold.
use Rattle.std.specs.Prelude.{ℕ, ◌+◌, List}
use Rattle.angles.specs.declared.Symbol.{Symbol}
use Rattle.phase.specs.declared.Corrected.{Corrected}
use Rattle.fields.specs.Fields.{at32, signed16, signed64}
use Rattle.frame_wire.specs.Line.{meta_at}

unfoldable pub symbol_of : List ℕ → ℕ → Symbol
symbol_of p k = record { i = signed16 p k; q = signed16 p (k + 1) }

-- a corrected symbol, numbers 1 to 12: the six of one that waits, r, angle, gain, y
unfoldable pub corrected_of : List ℕ → Corrected
corrected_of p =
    let m = meta_at p 1 in
    record {
      at = m.at;
      word = m.word;
      slot = m.slot;
      j = m.j;
      r = symbol_of p 7;
      phi = at32 p 9;
      gain = signed64 p 10;
      y = symbol_of p 11;
    }
