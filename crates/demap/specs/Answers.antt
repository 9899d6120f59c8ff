-- What the entries answer, and the soft buffer afterwards. A refusal "returns the number and the state received; lent memory is unchanged".
use Rattle.std.specs.Prelude.{ℕ, ◌*◌, ◌/◌, ◌^◌, Bool, not, ◌||◌, List, ◌++◌, eqb, ltb, ℤ, pos, length, drop, Result, Ok, Err, ⊤}
use Rattle.std.specs.Int.Signed.{lt_z}
use Rattle.std.specs.Result.{result_and}
use Rattle.laws.specs.Choice.{when◌then◌else◌}
use Rattle.refusal.specs.Refusals.{written}
use Rattle.refusal.specs.declared.Refusal.{Refusal}
use Rattle.refusal.specs.declared.Refusal.TheVariants.{Stores, Points, Scale, Arithmetic}
use Rattle.fx.specs.Answers.{wide}
use Rattle.demap.specs.Demap.{label_metric, least_metric, soft_bits, block_bits, scale_of}

-- 4, "bits outside 1..5, or points not 2^bits", each of two numbers
abbrev pub bad_points : ℕ → ℕ → Bool
bad_points bits len = ltb bits 1 || (ltb 5 bits || not (eqb len (2 * 2 ^ bits)))

-- 5, "k outside 0..2^24"
abbrev pub bad_scale : ℤ → Bool
bad_scale k = lt_z k (pos 0) || lt_z (pos (2 ^ 24)) k

-- 1, "soft buffer under .. (a single demap: under `bits`)"; 4; 5
unfoldable pub demap_refusal : ℕ → ℕ → ℤ → ℕ → Result ⊤ Refusal
demap_refusal bits len k room =
    when ltb room bits then Err Stores else when bad_points bits len then Err Points else when bad_scale k then Err Scale else Ok tt

unfoldable pub demap_answer : ℤ → ℤ → List ℤ → ℕ → ℤ → List ℤ → Result ℤ Refusal
demap_answer yi yq points bits k out =
    result_and (demap_refusal bits (length points) k (length out)) (Ok (least_metric (label_metric yi yq points) (2 ^ bits)))

-- "Soft values stand in order from the buffer's start, its rest unchanged."
unfoldable pub demap_buffer : ℤ → ℤ → List ℤ → ℕ → ℤ → List ℤ → List ℤ
demap_buffer yi yq points bits k out =
    written (demap_refusal bits (length points) k (length out)) out (soft_bits (label_metric yi yq points) bits k ++ drop bits out)

-- ---- a block of symbols, two numbers to a symbol: 1, room for fewer than all their soft bits; then as a single demap
unfoldable pub block_refusal : ℕ → ℕ → ℕ → ℤ → ℕ → Result ⊤ Refusal
block_refusal n bits len k room = when ltb room (n * bits) then Err Stores else demap_refusal bits len k bits

unfoldable pub block_buffer : List ℤ → List ℤ → ℕ → ℤ → List ℤ → List ℤ
block_buffer sy points bits k out =
    let n = length sy / 2 in
    written (block_refusal n bits (length points) k (length out)) out (block_bits sy points bits k n ++ drop (n * bits) out)

-- ---- the scale: 6, a number of size over 2^60
unfoldable pub scale_answer : ℤ → Result ℤ Refusal
scale_answer n0 = when wide n0 then Err Arithmetic else Ok (scale_of n0)
