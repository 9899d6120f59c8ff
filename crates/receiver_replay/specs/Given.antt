-- What the bytes of a call hold, as signed bytes.
use Rattle.std.specs.Prelude.{ℕ, List, ◌++◌, ℤ, length, take, drop}
use Rattle.laws.specs.Ranges.{firsts}
use Rattle.wire.specs.Wire.{packed_of}
use Rattle.fields.specs.Fields.{at, one_at, least_of}

-- v 0, v 1, .. v (n - 1) in place of the first n entries, as far as there are so many
unfoldable pub over_of : (ℕ → ℤ) → ℕ → List ℤ → List ℤ
over_of v n l = let m = least_of n (length l) in firsts v m ++ drop m l

-- those from byte 48 on: symbols
unfoldable pub symbols_of : List ℕ → List ℤ
symbols_of p = firsts (one_at (packed_of p) 48) 144

-- those from byte 16 on, put to the input's places from number 1's on, as far as there are places
unfoldable pub put_of : List ℕ → List ℤ → List ℤ
put_of p input = take (at p 1) input ++ over_of (one_at (packed_of p) 16) 176 (drop (at p 1) input)
