-- Answers as 24 numbers, zeros behind them. A negative number is 2^64 more.
use Rattle.std.specs.Prelude.{ℕ, ◌-◌, List, [], ◌∷◌, ◌++◌, ◌&&◌, leb, ltb, ℤ, pos, get_or, replicate, Option, None, Some, Result, Ok, Err}
use Rattle.refusal.specs.declared.Refusal.{Refusal}
use Rattle.refusal.specs.Refusals.{number_of}
use Rattle.laws.specs.Choice.{when◌then◌else◌}
use Rattle.laws.specs.Ranges.{firsts}
use Rattle.sums.specs.declared.Sums.{Sums}
use Rattle.wire.specs.Wire.{bits}
use Rattle.digest.specs.Digest.{digest_of}
use Rattle.fields.specs.Fields.{flag_of, four_told}
use Rattle.eq_calls.specs.declared.kept.Kept.{Kept}
use Rattle.eq_calls.specs.declared.told.From.{From}
use Rattle.eq_calls.specs.declared.told.Digests.{Digests}

-- the frame of taps: whether there is one, and its number
unfoldable pub from_shown : Option ℕ → From
from_shown None = record { known = 0; frame = 0 }
from_shown (Some n) = record { known = 1; frame = n }

-- sums: their frame and count, and digests of their entries
unfoldable pub sums_shown : Sums → Digests
sums_shown s = record { frame = s.frame; count = s.count; upper = digest_of s.r; right = digest_of s.p }

-- ---- the refusal, three numbers of the answer, and all that is kept: line, fill, taps and their frame, open sums, sums to solve
unfoldable pub told_of : Kept → ℕ → ℕ → ℕ → ℕ → List ℕ
told_of k refusal x y z =
    let e = k.eq in
    let f = from_shown e.from in
    let s = sums_shown e.sums in
    let t = sums_shown k.sums in
    (refusal
    ∷ x
    ∷ y
    ∷ z
    ∷ digest_of e.line
    ∷ e.filled
    ∷ digest_of e.taps
    ∷ f.known
    ∷ f.frame
    ∷ flag_of e.opened
    ∷ s.frame
    ∷ s.count
    ∷ s.upper
    ∷ s.right
    ∷ t.frame
    ∷ t.count
    ∷ t.upper
    ∷ t.right
    ∷ [])
    ++ replicate 6 0

-- ---- the taps of a solving: 0, and 22 numbers; or the refusal
unfoldable pub bits_at : List ℤ → ℕ → ℕ
bits_at taps k = bits (get_or taps k (pos 0))

unfoldable pub tap_at : List ℤ → ℕ → ℕ
tap_at taps k = when leb 1 k && ltb k 23 then bits_at taps (k - 1) else 0

unfoldable pub taps_told : List ℤ → List ℕ
taps_told taps = firsts (tap_at taps) 24

unfoldable pub solved_told : Result (List ℤ) Refusal → List ℕ
solved_told (Ok taps) = taps_told taps
solved_told (Err why) = four_told (number_of why) 0 0 0
