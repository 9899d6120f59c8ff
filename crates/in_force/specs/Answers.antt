-- What the entries answer, and the lent slice afterwards. A refusal "returns the number and the state received; lent memory is unchanged".
use denote.Ref.{Bor}
use Rattle.std.specs.Prelude.{ℕ, ◌-◌, Bool, false, not, ◌||◌, List, [], eqb, ℤ, length, get_or, Result, Ok, Err, ⊤}
use Rattle.std.specs.Result.{result_and, result_map_both}
use Rattle.laws.specs.Choice.{when◌then◌else◌}
use Rattle.refusal.specs.Refusals.{answered, written}
use Rattle.refusal.specs.declared.Refusal.{Refusal}
use Rattle.refusal.specs.declared.Refusal.TheVariants.{Points, Arithmetic}
use Rattle.refusal.specs.declared.Refused.{Refused}
use Rattle.learn.specs.declared.Learn.{Learn}
use Rattle.learn.specs.Ranges.{learn_in_range}
use Rattle.learn.specs.Sets.{bad_bits, set_of}
use Rattle.in_force.specs.declared.InForce.{InForce}
use Rattle.in_force.specs.declared.Renewed.{Renewed}
use Rattle.in_force.specs.InForce.{slices_learned, renewed_of, force_in_range}

-- ---- the next frame: 4, the slice not of "124 i16"; 6, a number of either state out of range
unfoldable pub next_refusal : InForce → Learn → ℕ → Result ⊤ Refusal
next_refusal f l len =
    when eqb len 124
    then when force_in_range f then when learn_in_range l then Ok tt else Err Arithmetic else Err Arithmetic
    else Err Points

unfoldable pub next_answer : InForce → Learn → ℕ → List ℤ → Result Renewed (Refused Renewed)
next_answer f l frame learned =
    answered (next_refusal f l (length learned)) (record { in_force = f; learn = l }) (record { in_force = renewed_of f l frame; learn = l })

unfoldable pub next_slice : InForce → Learn → List ℤ → List ℤ
next_slice f l learned = written (next_refusal f l (length learned)) learned (slices_learned l 5 learned)

-- ---- points: "Each slice holds the sets of 1 to 5 bits in turn, 124 i16 (else 4)"; and bits outside 1..5
unfoldable pub sets_refusal : ℕ → ℕ → ℕ → Result ⊤ Refusal
sets_refusal learned nominal bits = when not (eqb learned 124) || (not (eqb nominal 124) || bad_bits bits) then Err Points else Ok tt

-- "The points in force are the learned ones if present, otherwise the nominal ones: a part of one of two lent slices"
unfoldable pub points_in_force : List ℤ → List ℤ → List Bool → ℕ → Result (List ℤ) Refusal
points_in_force learned nominal flags bits =
    result_and (sets_refusal (length learned) (length nominal) bits) (Ok (set_of bits (when get_or flags (bits - 1) false then learned else nominal)))

-- the part alone, nothing if refused
abbrev pub part_or_none : Result (List ℤ) Refusal → List ℤ
part_or_none (Ok part) = part
part_or_none (Err _) = []

unfoldable pub part_in_force : List ℤ → List ℤ → List Bool → ℕ → List ℤ
part_in_force learned nominal flags bits = part_or_none (points_in_force learned nominal flags bits)

-- the refusal of a part that was chosen so: an empty one was refused (proofs/Laws.antt, `refused_empty`)
unfoldable pub empty_refusal : List ℤ → Result ⊤ Refusal
empty_refusal points = when eqb (length points) 0 then Err Points else Ok tt

-- the numbers that an answer lends
abbrev pub lent : Result (Bor (List ℤ)) Refusal → Result (List ℤ) Refusal
lent answer = result_map_both (λ p. p.now) (λ (why : Refusal). why) answer
