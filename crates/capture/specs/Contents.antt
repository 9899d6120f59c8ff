-- Contents: document 01, "a byte 4, then four entries of 8 bytes: kind (1 byte), three zeros, body length (4 bytes, least first). Kinds
-- stand in order 1, 2, 3, 4". Entry n, from 0, stands at byte 1 + 8n.
use Rattle.std.specs.Prelude.{ℕ, ◌+◌, ◌*◌, ◌%◌, Bool, ◌&&◌, ◌||◌, List, eqb, leb, get_or, length, Result, Ok, Err}
use Rattle.laws.specs.Choice.{when◌then◌else◌}
use Rattle.refusal.specs.declared.Refusal.{Refusal}
use Rattle.refusal.specs.declared.Refusal.TheVariants.{Contents}
use Rattle.capture.specs.declared.Lengths.{Lengths}
use Rattle.capture.specs.declared.entries.Kind.{Kind}
use Rattle.capture.specs.declared.entries.Kind.TheVariants.{Words, Table, Points, Symbols}
use Rattle.capture.specs.Bytes.{number_at}

-- "Kinds stand in order 1, 2, 3, 4": the place of a kind's entry, from 0
abbrev pub place_of : Kind → ℕ
place_of Words = 0
place_of Table = 1
place_of Points = 2
place_of Symbols = 3

-- "kind (1 byte), three zeros"
abbrev pub kind_fits : ℕ → ℕ → ℕ → ℕ → ℕ → Bool
kind_fits n a b c d = ((eqb a (n + 1) && eqb b 0) && eqb c 0) && eqb d 0

-- the body lengths that an entry may declare: 96; 2,048; "13, 21, 37, 69 or 133"; "even length"
abbrev pub length_fits : Kind → ℕ → Bool
length_fits Words l = eqb l 96
length_fits Table l = eqb l 2048
length_fits Points l = (((eqb l 13 || eqb l 21) || eqb l 37) || eqb l 69) || eqb l 133
length_fits Symbols l = eqb (l % 2) 0

-- "body length (4 bytes, least first)"
unfoldable pub length_of : List ℕ → Kind → ℕ
length_of s k = number_at s (1 + 8 * place_of k + 4)

unfoldable pub entry_fits : List ℕ → Kind → Bool
entry_fits s kind =
    let n = place_of kind in
    let k = 1 + 8 * n in
    kind_fits n (get_or s k 0) (get_or s (k + 1) 0) (get_or s (k + 2) 0) (get_or s (k + 3) 0) && length_fits kind (length_of s kind)

unfoldable pub entry_of : List ℕ → Kind → Result ℕ Refusal
entry_of s kind = when entry_fits s kind then Ok (length_of s kind) else Err Contents

-- all 33 bytes are there and right
unfoldable pub contents_fit : List ℕ → Bool
contents_fit s =
    leb 33 (length s)
    && ((((eqb (get_or s 0 0) 4 && entry_fits s Words) && entry_fits s Table) && entry_fits s Points) && entry_fits s Symbols)

-- the declared lengths of points and symbols, or 11
unfoldable pub contents_of : List ℕ → Result Lengths Refusal
contents_of s =
    when contents_fit s then Ok (record { points = length_of s Points; symbols = length_of s Symbols }) else Err Contents
