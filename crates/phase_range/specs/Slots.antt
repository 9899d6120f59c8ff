-- What is said of a slot: that each of its symbols can be given, and what its store holds.
use Rattle.std.specs.Prelude.{ℕ, zero, suc, ◌+◌, ◌*◌, ◌^◌, ◌<◌, min, ◌≡◌, List, [], ◌∷◌, ℤ, pos, length, get_or, Ok}
use Rattle.angles.specs.declared.Symbol.{Symbol}
use Rattle.sync_heads.specs.declared.Head.{Head}
use Rattle.phase.specs.declared.WholeSlot.{WholeSlot}
use Rattle.phase.specs.Phase.{symbol_at, corrected_of}
use Rattle.phase.specs.Answers.{correct_answer}
use Rattle.phase_range.specs.Calls.{At, at, held, pushed_all, AgreeOn}

-- symbol j of a slot is given, with a position below 2^62, and the slot comes back
pub record Givable (w : WholeSlot) (j : ℕ) (table store : List ℤ) : Type 0 where
  pub given : correct_answer w j table store ≡ Ok (record { slot = w; told = corrected_of w table store j })
  pub place : w.head.at + j < 2 ^ 62

-- symbol k of a list
abbrev pub nth : List Symbol → ℕ → Symbol
nth [] k = record { i = pos 0; q = pos 0 }
nth (x ∷ xs) zero = x
nth (x ∷ xs) (suc k) = nth xs k

-- the symbols xs come to a slot of which c came before: they are counted up to the 9,296th; those that are stand at their places, in order; and
-- what stood before them stands there still
pub record Filled (h : Head) (c : ℕ) (store : List ℤ) (xs : List Symbol) : Type 0 where
  pub counted : (pushed_all (at (held h c) store) xs).phase ≡ held h (min (c + length xs) 9296)
  pub long : length (pushed_all (at (held h c) store) xs).store ≡ 18592
  pub before : (k : ℕ) → k < 2 * c → get_or (pushed_all (at (held h c) store) xs).store k (pos 0) ≡ get_or store k (pos 0)
  pub placed : (k : ℕ) → k < length xs → c + k < 9296 → symbol_at (pushed_all (at (held h c) store) xs).store (c + k) ≡ nth xs k

-- two slot phases with stores of their own: equal states, and stores that hold the same where the held slot's symbols stand
pub record Alike (s t : At) : Type 0 where
  pub phases : s.phase ≡ t.phase
  pub agree : AgreeOn s.phase s.store t.store
  pub first : length s.store ≡ 18592
  pub second : length t.store ≡ 18592
