-- A whole input: document 01, "In kind 4 each whole symbol acts before an early end or a following byte is met", and the row
-- "capture bodies | 12 | a body ends early, or bytes follow the last".
use Rattle.std.specs.Prelude.{ℕ, ◌*◌, ◌/◌, ◌^◌, min, List, eqb, ℤ, length, take, drop, Result, Ok, Err, ⊤}
use Rattle.laws.specs.Choice.{when◌then◌else◌}
use Rattle.refusal.specs.declared.Refusal.{Refusal}
use Rattle.refusal.specs.declared.Refusal.TheVariants.{Bodies}
use Rattle.capture.specs.declared.Heading.{Heading}
use Rattle.capture.specs.Bytes.{signed_bytes}
use Rattle.capture.specs.Bodies.{table_of, header_of}

-- Contents and bodies up to the symbols may be refused, by 2, 4, 5, 11 or 12: then nothing is loaded and nothing acts.
pub record Capture : Type 0 where
  -- words, carrier table, constellation
  pub f : List ℤ
  pub s : List ℤ
  pub table : List ℤ
  pub bits : ℕ
  pub points : List ℤ
  pub k : ℕ
  -- the declared length of the symbols, and the bytes of those that act, I before Q
  pub declared : ℕ
  pub symbols : List ℤ
  -- how it ends
  pub ends : Result ⊤ Refusal

-- the bytes of whole symbols among n
abbrev pub whole : ℕ → ℕ
whole n = 2 * (n / 2)

-- of the bytes after the points: those that act, and the end
unfoldable pub acting_of : ℕ → List ℕ → List ℤ
acting_of declared rest = signed_bytes (take (whole (min declared (length rest))) rest)

unfoldable pub ends_of : ℕ → List ℕ → Result ⊤ Refusal
ends_of declared rest = when eqb (length rest) declared then Ok Prim.tt else Err Bodies

-- the points of a heading, without the zeros behind
unfoldable pub heading_points : Heading → List ℤ
heading_points h = take (2 * 2 ^ h.points.bits) h.points.numbers

unfoldable pub loaded_capture : Heading → List ℤ → List ℤ → Result ⊤ Refusal → Capture
loaded_capture h table symbols ends =
    record {
      f = h.words.f;
      s = h.words.s;
      table = table;
      bits = h.points.bits;
      points = heading_points h;
      k = h.points.k;
      declared = h.declared;
      symbols = symbols;
      ends = ends;
    }

-- what is made of the bytes behind a header, if it is not refused
abbrev pub behind : Result Heading Refusal → (Heading → Capture) → Result Capture Refusal
behind (Ok h) load = Ok (load h)
behind (Err why) load = Err why

unfoldable pub capture_of : List ℕ → Result Capture Refusal
capture_of s =
    behind (header_of s)
    (λ (h : Heading).
    let rest = drop h.from s in loaded_capture h (table_of s) (acting_of h.declared rest) (ends_of h.declared rest))
