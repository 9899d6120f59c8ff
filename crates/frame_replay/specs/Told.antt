-- Answers as 24 numbers. A negative number is 2^64 more.
use Rattle.std.specs.Prelude.{ℕ, List, [], ◌∷◌}
use Rattle.eq.specs.declared.Equaliser.{Equaliser}
use Rattle.frame_line.specs.declared.Meta.{Meta}
use Rattle.digest.specs.Digest.{digest_of}
use Rattle.fields.specs.Fields.{flag_of}
use Rattle.slot_wire.specs.Slots.{word_number, slot_shown}
use Rattle.frame_wire.specs.Line.{last_shown}
use Rattle.eq_calls.specs.Told.{from_shown, sums_shown}
use Rattle.frame_replay.specs.declared.kept.Kept.{Kept}
use Rattle.frame_replay.specs.declared.told.EqShown.{EqShown}

unfoldable pub eq_shown : Equaliser → EqShown
eq_shown e =
    record {
      line = digest_of e.line;
      filled = e.filled;
      taps = digest_of e.taps;
      from = from_shown e.from;
      opened = flag_of e.opened;
      sums = sums_shown e.sums;
    }

-- the refusal; whether there is a symbol, and what it is; how many wait, the last position; the equaliser
unfoldable pub told_of : Kept → ℕ → ℕ → Meta → ℕ → ℕ → List ℕ
told_of k refusal given m i q =
    let s = slot_shown m.slot in
    let l = last_shown k.back.last in
    let x = eq_shown k.back.eq in
    refusal
    ∷ given
    ∷ i
    ∷ q
    ∷ m.at
    ∷ word_number m.word
    ∷ s.known
    ∷ s.number
    ∷ s.frame
    ∷ m.j
    ∷ k.back.metas.count
    ∷ l.known
    ∷ l.at
    ∷ x.line
    ∷ x.filled
    ∷ x.taps
    ∷ x.from.known
    ∷ x.from.frame
    ∷ x.opened
    ∷ x.sums.frame
    ∷ x.sums.count
    ∷ x.sums.upper
    ∷ x.sums.right
    ∷ 0
    ∷ []
