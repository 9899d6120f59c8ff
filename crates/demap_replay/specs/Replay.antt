-- The answers to calls, and what they leave of states and slices.
use Rattle.std.specs.Prelude.{ℕ, List, [], ◌∷◌, ◌++◌, ℤ, get_or, replicate}
use Rattle.wire.specs.Wire.{numbers_of, packed_of}
use Rattle.digest.specs.Digest.{digest_of}
use Rattle.wire.specs.Blocks.{replayed as replayed_by, left}
use Rattle.demap_replay.specs.declared.kept.Kept.{Kept}
use Rattle.demap_replay.specs.declared.kept.Turn.{Turn}
use Rattle.demap_replay.specs.Kept.{turned}
use Rattle.fields.specs.Fields.{at, set_of}
use Rattle.demap_replay.specs.Told.{single_told, force_told}
use Rattle.demap_replay.specs.Calls.{new_call, pilot_call, noise_call, sum_call, count_call, noise_put_call, default_call, force_call, next_call, next_left, points_call, points_left, part_told, label_call, figure_call, metric_call, block_call}

-- the states, and the slices of learned and of nominal points
pub record Desk : Type 0 where
  pub kept : Kept
  pub learned : List ℤ
  pub nominal : List ℤ

abbrev pub desk : Kept → List ℤ → List ℤ → Desk
desk k learned nominal = record { kept = k; learned = learned; nominal = nominal }

-- ---- one call: number 0 tells which. Calls 12 to 19 leave all as it is
abbrev pub reads : List ℕ → Desk → List (List ℕ)
reads p d =
    single_told 0 (digest_of d.learned) 0
    ∷ single_told 0 (digest_of d.nominal) 0
    ∷ part_told d.kept p d.learned d.nominal
    ∷ label_call d.kept p
    ∷ force_told d.kept.force
    ∷ figure_call d.kept
    ∷ metric_call p
    ∷ block_call p d.learned d.nominal
    ∷ []

-- refusal 255 where there is no such call
unfoldable pub read_of : ℕ → List ℕ → Desk → List ℕ
read_of op p d = get_or (replicate 12 (single_told 255 0 0) ++ reads p d) op (single_told 255 0 0)

-- those before them, in the order of their numbers
abbrev pub writes : List ℕ → Desk → List Turn
writes p d =
    new_call d.kept
    ∷ pilot_call d.kept p
    ∷ noise_call d.kept p
    ∷ sum_call d.kept p
    ∷ count_call d.kept p
    ∷ noise_put_call d.kept p
    ∷ default_call d.kept
    ∷ force_call d.kept p
    ∷ next_call d.kept p d.learned
    ∷ points_call d.kept p d.learned
    ∷ turned d.kept (single_told 0 0 0)
    ∷ turned d.kept (single_told 0 0 0)
    ∷ []

unfoldable pub turn_of : ℕ → List ℕ → Desk → Turn
turn_of op p d = get_or (writes p d) op (turned d.kept (read_of op p d))

-- calls 8, 9 and 10 write to the learned points, call 11 to the nominal ones
abbrev pub learneds : List ℕ → Desk → List (List ℤ)
learneds p d = replicate 8 d.learned ++ (next_left d.kept p d.learned ∷ points_left d.kept p d.learned ∷ set_of p d.learned ∷ [])

unfoldable pub learned_of : ℕ → List ℕ → Desk → List ℤ
learned_of op p d = get_or (learneds p d) op d.learned

abbrev pub nominals : List ℕ → Desk → List (List ℤ)
nominals p d = replicate 11 d.nominal ++ (set_of p d.nominal ∷ [])

unfoldable pub nominal_of : ℕ → List ℕ → Desk → List ℤ
nominal_of op p d = get_or (nominals p d) op d.nominal

-- ---- calls as bytes
unfoldable pub answer_bytes : Desk → List ℕ → List ℕ
answer_bytes d s = let p = numbers_of s in packed_of (turn_of (at p 0) p d).told

unfoldable pub after : Desk → List ℕ → Desk
after d s = let p = numbers_of s in desk (turn_of (at p 0) p d).kept (learned_of (at p 0) p d) (nominal_of (at p 0) p d)

-- the answers to the first n calls of s, each of 192 bytes, and what follows those calls
abbrev pub replayed : Desk → ℕ → List ℕ → List ℕ
replayed d n s = replayed_by 192 answer_bytes after d n s

-- .. and what those calls leave
abbrev pub left_of : Desk → ℕ → List ℕ → Desk
left_of d n s = left 192 after d n s
