-- Bodies up to the symbols: document 01, "Contents are checked first; then, body by body, an early end (12) before the body's own fault".
-- The words stand at byte 33, the table at 129, the points at 2,177; p is the declared length of the points, which the symbols follow.
use Rattle.std.specs.Prelude.{ℕ, ◌+◌, ◌-◌, ◌*◌, ◌^◌, Bool, ◌&&◌, List, ◌++◌, eqb, leb, ltb, ℤ, pos, get_or, length, replicate, Result, Ok, Err, ⊤}
use Rattle.laws.specs.Choice.{when◌then◌else◌}
use Rattle.laws.specs.Ranges.{firsts}
use Rattle.sync_corr.specs.Correlate.{ones_of}
use Rattle.refusal.specs.declared.Refusal.{Refusal}
use Rattle.refusal.specs.declared.Refusal.TheVariants.{Words as WordsRefused, Table as TableRefused, Points as PointsRefused, Scale, Contents, Bodies}
use Rattle.refusal.specs.Refusals.{written}
use Rattle.capture.specs.declared.Words.{Words}
use Rattle.capture.specs.declared.Points.{Points}
use Rattle.capture.specs.declared.Heading.{Heading}
use Rattle.capture.specs.declared.entries.Kind.TheVariants.{Points as PointsBody, Symbols as SymbolsBody}
use Rattle.capture.specs.Bytes.{number_at, short_at, byte_at}
use Rattle.capture.specs.Contents.{length_of, contents_fit}

-- "F word, then S word, signed bytes, I before Q": 48 bytes each
unfoldable pub word_from : List ℕ → ℕ → List ℤ
word_from s k = firsts (λ (i : ℕ). byte_at s (k + i)) 48

unfoldable pub f_word : List ℕ → List ℤ
f_word s = word_from s 33

unfoldable pub s_word : List ℕ → List ℤ
s_word s = word_from s 81

-- every entry is 1 or -1
unfoldable pub words_fit : List ℕ → Bool
words_fit s = ones_of (f_word s) && ones_of (s_word s)

-- "carrier table, 16-bit signed, least byte first"
unfoldable pub table_of : List ℕ → List ℤ
table_of s = firsts (λ (i : ℕ). short_at s (129 + 2 * i)) 1024

-- "bits, points as signed 16-bit pairs, k unsigned in 4 bytes, least byte first", k being the last four
unfoldable pub bits_of : List ℕ → ℕ
bits_of s = get_or s 2177 0

unfoldable pub points_from : List ℕ → ℕ → List ℤ
points_from s n = firsts (λ (i : ℕ). short_at s (2178 + 2 * i)) n

unfoldable pub points_of : List ℕ → List ℤ
points_of s = points_from s (2 * 2 ^ bits_of s)

unfoldable pub scale_of : List ℕ → ℕ → ℕ
scale_of s p = number_at s (2177 + p - 4)

-- bits are 1 to 5 and p is "5 + 4 × 2^bits"
unfoldable pub points_fit : ℕ → ℕ → Bool
points_fit bits p = leb 1 bits && (leb bits 5 && eqb p (5 + 4 * 2 ^ bits))

-- a call's answer: its own where the test lets it through, and else the refusal
abbrev pub told : {T : Type 0} → Result ⊤ Refusal → T → Result T Refusal
told (Ok _) answer = Ok answer
told (Err why) answer = Err why

-- the first fault of words
unfoldable pub words_refusal : List ℕ → Result ⊤ Refusal
words_refusal s = when ltb (length s) 129 then Err Bodies else when words_fit s then Ok Prim.tt else Err WordsRefused

-- .. of table and points. A table has none of its own
unfoldable pub points_refusal : List ℕ → ℕ → Result ⊤ Refusal
points_refusal s p =
    when ltb (length s) 2177 then Err Bodies
    else when ltb (length s) (2177 + p) then Err Bodies
    else when points_fit (bits_of s) p
    then when ltb (2 ^ 24) (scale_of s p) then Err Scale else Ok Prim.tt
    else Err PointsRefused

-- .. of words, table and points
unfoldable pub bodies_refusal : List ℕ → ℕ → Result ⊤ Refusal
bodies_refusal s p =
    when ltb (length s) 129 then Err Bodies else when words_fit s then points_refusal s p else Err WordsRefused

unfoldable pub header_refusal : List ℕ → Result ⊤ Refusal
header_refusal s = when contents_fit s then bodies_refusal s (length_of s PointsBody) else Err Contents

unfoldable pub words_of : List ℕ → Words
words_of s = record { f = f_word s; s = s_word s }

unfoldable pub words_answer : List ℕ → Result Words Refusal
words_answer s = told (words_refusal s) (words_of s)

-- 64 places, zeros behind the points
unfoldable pub padded : List ℤ → List ℤ
padded l = l ++ replicate (64 - length l) (pos 0)

unfoldable pub loaded_of : List ℕ → ℕ → Points
loaded_of s p = record { bits = bits_of s; numbers = padded (points_of s); k = scale_of s p }

unfoldable pub points_answer : List ℕ → ℕ → Result Points Refusal
points_answer s p = told (points_refusal s p) (loaded_of s p)

-- all that stands before the symbols but the table; `from` is where they start, `declared` how many bytes of them are declared
unfoldable pub accepted_heading : List ℕ → Heading
accepted_heading s =
    record {
      words = words_of s;
      points = loaded_of s (length_of s PointsBody);
      from = 2177 + length_of s PointsBody;
      declared = length_of s SymbolsBody;
    }

unfoldable pub header_of : List ℕ → Result Heading Refusal
header_of s = told (header_refusal s) (accepted_heading s)

-- with a lent table of `room` entries: 3, "not 1,024 i16", stands above the capture's own refusals
unfoldable pub answer_refusal : ℕ → List ℕ → Result ⊤ Refusal
answer_refusal room s = when eqb room 1024 then header_refusal s else Err TableRefused

unfoldable pub header_answer : ℕ → List ℕ → Result Heading Refusal
header_answer room s = told (answer_refusal room s) (accepted_heading s)

-- the lent table afterwards
unfoldable pub header_table : List ℤ → List ℕ → List ℤ
header_table t s = written (answer_refusal (length t) s) t (table_of s)
