-- The answers to calls, and what they leave of table and store.
use Rattle.std.specs.Prelude.{ℕ, List, [], ◌∷◌, ◌≡◌, eqb, ℤ, get_or, None}
use Rattle.laws.specs.Choice.{when◌then◌else◌}
use Rattle.wire.specs.Wire.{numbers_of, packed_of}
use Rattle.digest.specs.Digest.{digest_of}
use Rattle.wire.specs.Blocks.{replayed as replayed_by, left}
use Rattle.fields.specs.Fields.{at, set_of, four_told}
use Rattle.phase_wire.specs.Told.{phase_told}
use Rattle.phase_replay.specs.Calls.{new_call, rotate_call, hear_call, nco_restart_call, gain_call, restart_call, push_call, push_left, head_call, due_call, next_call, correct_call}

-- ---- one call: number 0 tells which
-- the answers in the order of the calls' numbers
abbrev pub answers : List ℕ → List ℤ → List ℤ → List (List ℕ)
answers p table store =
    four_told 0 (digest_of table) 0 0
    ∷ four_told 0 (digest_of store) 0 0
    ∷ new_call p
    ∷ rotate_call p table
    ∷ hear_call p
    ∷ nco_restart_call p
    ∷ gain_call p
    ∷ phase_told 0 None
    ∷ restart_call p
    ∷ head_call p
    ∷ due_call p
    ∷ next_call p
    ∷ correct_call p table store
    ∷ push_call p store
    ∷ four_told 0 0 0 0
    ∷ four_told 0 0 0 0
    ∷ []

-- the answer to call op, or refusal 255 where there is no such call
unfoldable pub answer_of : ℕ → List ℕ → List ℤ → List ℤ → List ℕ
answer_of op p table store = get_or (answers p table store) op (four_told 255 0 0 0)

-- call 13 pushes a symbol, call 14 sets an entry of the table, call 15 one of the store
unfoldable pub table_of : ℕ → List ℕ → List ℤ → List ℤ
table_of op p table = when eqb op 14 then set_of p table else table

unfoldable pub store_of : ℕ → List ℕ → List ℤ → List ℤ
store_of op p store = when eqb op 13 then push_left p store else when eqb op 15 then set_of p store else store

-- all other calls write nothing
abbrev pub Reads : ℕ → Type 0
Reads op = (op ≡ 13 → ⊥) × (op ≡ 14 → ⊥) × (op ≡ 15 → ⊥)

-- ---- calls as bytes, on table and store
pub record Lent : Type 0 where
  pub table : List ℤ
  pub store : List ℤ

abbrev pub lent : List ℤ → List ℤ → Lent
lent table store = record { table = table; store = store }

unfoldable pub answer_bytes : Lent → List ℕ → List ℕ
answer_bytes d s = let p = numbers_of s in packed_of (answer_of (at p 0) p d.table d.store)

unfoldable pub after : Lent → List ℕ → Lent
after d s = let p = numbers_of s in lent (table_of (at p 0) p d.table) (store_of (at p 0) p d.store)

-- the answers to the first n calls of s, each of 192 bytes, and what follows those calls
abbrev pub replayed : Lent → ℕ → List ℕ → List ℕ
replayed d n s = replayed_by 192 answer_bytes after d n s

-- .. and what those calls leave
abbrev pub left_of : Lent → ℕ → List ℕ → Lent
left_of d n s = left 192 after d n s
