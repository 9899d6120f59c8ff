-- A block of calls of m bytes each, which their answers replace. `answer` and `after` tell what a call, at the start of the bytes given, answers
-- and leaves of what the calls act on.
use Rattle.std.specs.Prelude.{ℕ, zero, suc, List, ◌++◌, drop}

-- the answers to the first n calls of s, and what follows those calls
unfoldable pub replayed : {S : Type 0} → ℕ → (S → List ℕ → List ℕ) → (S → List ℕ → S) → S → ℕ → List ℕ → List ℕ
replayed m answer after d zero s = s
replayed m answer after d (suc n) s = answer d s ++ replayed m answer after (after d s) n (drop m s)

-- what the first n calls of s leave
unfoldable pub left : {S : Type 0} → ℕ → (S → List ℕ → S) → S → ℕ → List ℕ → S
left m after d zero s = d
left m after d (suc n) s = left m after (after d s) n (drop m s)
