-- Text in a lent buffer.
use Rattle.std.specs.Prelude.{ℕ, ◌+◌, ◌≤◌, List, ◌++◌, ◌≡◌, leb, length, take, drop, Result, Ok, Err, ⊤}
use Rattle.laws.specs.Choice.{when◌then◌else◌}
use Rattle.refusal.specs.declared.Refusal.{Refusal}
use Rattle.refusal.specs.declared.Refusal.TheVariants.{Stores}

-- out with t from place `at` on
unfoldable pub written : List ℕ → ℕ → List ℕ → List ℕ
written out at t = take at out ++ t ++ drop (at + length t) out

-- out became `after`: t stands from `at` on, all else is as it was, and r is the place behind t
pub record Wrote (out : List ℕ) (at : ℕ) (t : List ℕ) (after : List ℕ) (r : ℕ) : Type 0 where
  pub fits : at + length t ≤ length out
  pub is : after ≡ written out at t
  pub behind : r ≡ at + length t
  pub long : length after ≡ length out

-- ---- what an entry that writes a text answers, by its refusal
-- "lent stores", 1: a buffer without room for 256 bytes from the place on, which is more than any line has
unfoldable pub room_refusal : ℕ → ℕ → Result ⊤ Refusal
room_refusal at room = when leb (at + 256) room then Ok Prim.tt else Err Stores

-- the place behind the text
abbrev pub printed_at : Result ⊤ Refusal → List ℕ → ℕ → Result ℕ Refusal
printed_at (Ok _) t at = Ok (at + length t)
printed_at (Err why) t at = Err why

-- the buffer afterwards; where it is refused, "lent memory is unchanged"
abbrev pub printed_into : Result ⊤ Refusal → List ℕ → ℕ → List ℕ → List ℕ
printed_into (Ok _) t at out = written out at t
printed_into (Err why) t at out = out
