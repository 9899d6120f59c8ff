-- What each call answers and leaves, by the definitions of frame.
use Rattle.frame.specs.declared.AlignedSymbol.{AlignedSymbol}
use Rattle.std.specs.Prelude.{ℕ, List, Option, None, Some, Result, Ok, Err}
use Rattle.refusal.specs.Refusals.{number_of}
use Rattle.refusal.specs.declared.Refused.{Refused}
use Rattle.frame.specs.declared.Back.{Back}
use Rattle.frame.specs.declared.Pushed.{Pushed}
use Rattle.frame_line.specs.declared.Meta.{Meta}
use Rattle.frame_line.specs.Line.{blank, moved}
use Rattle.frame.specs.Align.{new_back}
use Rattle.frame.specs.Answers.{restart_answer, push_answer}
use Rattle.wire.specs.Wire.{bits, packed_of}
use Rattle.fields.specs.Fields.{ones_at}
use Rattle.frame_wire.specs.Line.{meta_at, last_of, count_put}
use Rattle.eq_calls.specs.Turns.{turn_of as eq_turn_of}
use Rattle.frame_replay.specs.declared.kept.Kept.{Kept}
use Rattle.frame_replay.specs.declared.kept.Turn.{Turn}
use Rattle.frame_replay.specs.Kept.{with_back, with_eq, with_line, with_words, turned}
use Rattle.frame_replay.specs.Given.{corrected_of}
use Rattle.frame_replay.specs.Told.{told_of}

-- what is told where there is no symbol: zeros
unfoldable pub no_meta : Meta
no_meta = blank

-- a refusal, or 0, and what is kept
unfoldable pub plain : Kept → ℕ → Turn
plain k refusal = turned k (told_of k refusal 0 no_meta 0 0)

-- an accepted call, with a symbol that there may be
unfoldable pub out_told : Kept → Option AlignedSymbol → Turn
out_told k None = plain k 0
out_told k (Some a) = turned k (told_of k 0 1 a.meta (bits a.z.i) (bits a.z.q))

-- ---- the field `eq`: the calls of eq_calls, with their answers
unfoldable pub eq_call : ℕ → Kept → List ℕ → Turn
eq_call op k p =
    let t = eq_turn_of op p (record { eq = k.back.eq; sums = k.sums }) in
    turned (with_eq k t.kept.eq t.kept.sums) t.told

-- ---- the alignment
unfoldable pub new_call : Kept → Turn
new_call k = plain (with_back k new_back) 0

abbrev pub restarted_turn : Kept → Result Back (Refused Back) → Turn
restarted_turn k (Ok back) = plain (with_back k back) 0
restarted_turn k (Err refused) = plain (with_back k refused.state) (number_of refused.why)

unfoldable pub restart_call : Kept → Turn
restart_call k = restarted_turn k (restart_answer k.back)

-- a corrected symbol, with the words that are kept
abbrev pub pushed_turn : Kept → Result Pushed (Refused Back) → Turn
pushed_turn k (Ok pushed) = out_told (with_back k pushed.back) pushed.out
pushed_turn k (Err refused) = plain (with_back k refused.state) (number_of refused.why)

unfoldable pub push_call : Kept → List ℕ → Turn
push_call k p = pushed_turn k (push_answer k.back (corrected_of p) k.f k.s)

-- other words: the bytes of numbers 1 to 6, and 7 to 12
unfoldable pub words_call : Kept → List ℕ → Turn
words_call k p = plain (with_words k (ones_at (packed_of p) 8) (ones_at (packed_of p) 56)) 0

-- ---- an alignment handed in: one comes behind those that wait, whose count stays, and the oldest goes and is told
unfoldable pub move_call : Kept → List ℕ → Turn
move_call k p =
    let n = with_line k (moved k.back.metas (meta_at p 1)) k.back.last in
    turned n (told_of n 0 1 k.back.metas.first 0 0)

-- .. another count, another last position
unfoldable pub line_call : Kept → List ℕ → Turn
line_call k p = plain (with_line k (count_put k.back.metas p) (last_of p)) 0
