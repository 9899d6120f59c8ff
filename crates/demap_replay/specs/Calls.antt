-- What each call answers and leaves, by the definitions of learn and in_force.
use Rattle.std.specs.Prelude.{ℕ, ◌/◌, List, [], ◌++◌, ℤ, pos, length, take, drop, replicate, Result, Ok, Err}
use Rattle.refusal.specs.Refusals.{number_of, code_of}
use Rattle.refusal.specs.declared.Refusal.{Refusal}
use Rattle.refusal.specs.declared.Refused.{Refused}
use Rattle.learn.specs.declared.Learn.{Learn}
use Rattle.learn.specs.declared.Pointed.{Pointed}
use Rattle.in_force.specs.declared.Renewed.{Renewed}
use Rattle.demap.specs.Demap.{metric_of}
use Rattle.demap.specs.Answers.{block_refusal, block_buffer}
use Rattle.learn.specs.Learning.{new_learn}
use Rattle.learn.specs.Answers.{pilot_answer, noise_answer, points_answer, points_slice, figure_answer}
use Rattle.in_force.specs.InForce.{default_force}
use Rattle.in_force.specs.Answers.{next_answer, next_slice, points_in_force}
use Rattle.wire.specs.Wire.{bits}
use Rattle.digest.specs.Digest.{digest_of}
use Rattle.fields.specs.Fields.{at, at32, signed16, signed64, flag_of}
use Rattle.demap_replay.specs.declared.kept.Kept.{Kept}
use Rattle.demap_replay.specs.declared.kept.Turn.{Turn}
use Rattle.demap_replay.specs.Kept.{with_learn, with_force, turned}
use Rattle.demap_replay.specs.Given.{sum_put, count_put, noise_put, force_of}
use Rattle.demap_replay.specs.Told.{single_told, figured_told, label_told, soft_told}

-- ---- the demapper
unfoldable pub metric_call : List ℕ → List ℕ
metric_call p = single_told 0 (bits (metric_of (signed16 p 1) (signed16 p 2) (signed16 p 3) (signed16 p 4))) 0

-- a soft buffer to lend
abbrev pub softs : List ℤ
softs = replicate 41 (pos 85)

-- how many of the learned numbers are lent, as symbols, how many of the nominal ones, as points, how much of the buffer; bits and scale; and
-- where the four soft values are that are told
unfoldable pub block_call : List ℕ → List ℤ → List ℤ → List ℕ
block_call p learned nominal =
    let sy = take (at p 1) learned in
    let points = take (at p 2) nominal in
    let out = take (at p 3) softs in
    soft_told (code_of (block_refusal (length sy / 2) (at p 4) (length points) (signed64 p 5) (length out))) (at p 6)
    (block_buffer sy points (at p 4) (signed64 p 5) out ++ drop (at p 3) softs)

-- ---- learning
unfoldable pub new_call : Kept → Turn
new_call k = turned (with_learn k new_learn) (single_told 0 0 0)

-- what was learned, or handed in
abbrev pub learned_turn : Kept → Result Learn (Refused Learn) → Turn
learned_turn k (Ok learn) = turned (with_learn k learn) (single_told 0 0 0)
learned_turn k (Err refused) = turned (with_learn k refused.state) (single_told (number_of refused.why) 0 0)

-- bits, number of the pilot, pilot
unfoldable pub pilot_call : Kept → List ℕ → Turn
pilot_call k p = learned_turn k (pilot_answer k.learn (at p 1) (at p 2) (signed16 p 3) (signed16 p 4))

-- symbol, least metric
unfoldable pub noise_call : Kept → List ℕ → Turn
noise_call k p = learned_turn k (noise_answer k.learn (signed16 p 1) (signed16 p 2) (signed64 p 3))

unfoldable pub sum_call : Kept → List ℕ → Turn
sum_call k p = turned (with_learn k (sum_put k.learn (at p 1) (signed64 p 2))) (single_told 0 0 0)

unfoldable pub count_call : Kept → List ℕ → Turn
count_call k p = turned (with_learn k (count_put k.learn (at p 1) (at32 p 2))) (single_told 0 0 0)

unfoldable pub noise_put_call : Kept → List ℕ → Turn
noise_put_call k p = turned (with_learn k (noise_put k.learn (signed64 p 1) (at32 p 2))) (single_told 0 0 0)

-- bits, and how many of the learned numbers are lent; and these afterwards
abbrev pub pointed_told : Result Pointed (Refused Learn) → List ℕ
pointed_told (Ok pointed) = single_told 0 (flag_of pointed.learned) 0
pointed_told (Err refused) = single_told (number_of refused.why) 0 0

unfoldable pub points_call : Kept → List ℕ → List ℤ → Turn
points_call k p learned = turned k (pointed_told (points_answer k.learn (at p 1) (take (at p 2) learned)))

unfoldable pub points_left : Kept → List ℕ → List ℤ → List ℤ
points_left k p learned = points_slice k.learn (at p 1) (take (at p 2) learned) ++ drop (at p 2) learned

unfoldable pub label_call : Kept → List ℕ → List ℕ
label_call k p = label_told k.learn (at p 1)

unfoldable pub figure_call : Kept → List ℕ
figure_call k = figured_told (figure_answer k.learn)

-- ---- what is in force
unfoldable pub default_call : Kept → Turn
default_call k = turned (with_force k default_force) (single_told 0 0 0)

unfoldable pub force_call : Kept → List ℕ → Turn
force_call k p = turned (with_force k (force_of p)) (single_told 0 0 0)

-- frame, and how many of the learned numbers are lent; and these afterwards
abbrev pub renewed_turn : Kept → Result Renewed (Refused Renewed) → Turn
renewed_turn k (Ok renewed) = turned (with_force k renewed.in_force) (single_told 0 0 0)
renewed_turn k (Err refused) = turned (with_force k refused.state.in_force) (single_told (number_of refused.why) 0 0)

unfoldable pub next_call : Kept → List ℕ → List ℤ → Turn
next_call k p learned = renewed_turn k (next_answer k.force k.learn (at32 p 1) (take (at p 2) learned))

unfoldable pub next_left : Kept → List ℕ → List ℤ → List ℤ
next_left k p learned = next_slice k.force k.learn (take (at p 2) learned) ++ drop (at p 2) learned

-- bits, and how many of the learned and of the nominal numbers are lent: how many the chosen part has, and its digest
abbrev pub chosen_told : Result (List ℤ) Refusal → List ℕ
chosen_told (Ok part) = single_told 0 (length part) (digest_of part)
chosen_told (Err why) = single_told (number_of why) 0 (digest_of [])

unfoldable pub part_told : Kept → List ℕ → List ℤ → List ℤ → List ℕ
part_told k p learned nominal = chosen_told (points_in_force (take (at p 2) learned) (take (at p 3) nominal) k.force.learned (at p 1))
