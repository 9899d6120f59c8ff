-- What each call does.
use Rattle.std.specs.Prelude.{ℕ, zero, suc, List, length, ℤ, nat_lt, slice_index, slice_set, Result, Ok, Err}
use Rattle.laws.specs.Choice.{when◌then◌else◌}
use Rattle.fields.specs.Fields.{ones_at}
use Rattle.sync.specs.declared.SlotSync.{SlotSync}
use Rattle.refusal.specs.Refusals.{number_of}
use Rattle.refusal.specs.declared.Refused.{Refused}
use Rattle.sync.specs.declared.Pushed.{Pushed}
use Rattle.sync.specs.Answers.{new_answer, restart_answer, push_answer, push_acc}
use Rattle.sync_replay.specs.declared.desk.Desk.{Desk}
use Rattle.sync_replay.specs.Mixing.{mixed_to}
use Rattle.sync_replay.specs.Given.{state_of}
use Rattle.sync_replay.specs.Told.{answer_of, refused_of, noted_of}

unfoldable pub put_of : List ℕ → ℕ → ℕ → List ℕ
put_of p n v = when nat_lt n 192 then slice_set p n v else p

unfoldable pub set_of : List ℕ → ℕ → ℕ → List ℕ
set_of acc n v = when nat_lt n (length acc) then slice_set acc n v else acc

-- the F word from place 0 on, the S word from 48 on
unfoldable pub words_of : Desk → List ℕ → Desk
words_of d p = record { sync = d.sync; f = ones_at p 0; s = ones_at p 48; told = d.told }

-- the same words, a sync and an answer
unfoldable pub after_of : Desk → SlotSync → List ℕ → Desk
after_of d sync answer = record { sync = sync; f = d.f; s = d.s; told = noted_of (slice_index d.told 0) answer }

-- what starts a sync anew, taken or refused
abbrev pub begun_by : Desk → Result SlotSync (Refused SlotSync) → Desk
begun_by d (Ok s) = after_of d s (refused_of 0)
begun_by d (Err r) = after_of d r.state (refused_of (number_of r.why))

unfoldable pub started_of : Desk → ℕ → List ℕ → Desk
started_of d at acc = begun_by d (new_answer at acc)

unfoldable pub restarted_of : Desk → ℕ → List ℕ → Desk
restarted_of d at acc = begun_by d (restart_answer d.sync at acc)

unfoldable pub handed_of : Desk → List ℕ → Desk
handed_of d p = record { sync = state_of p; f = d.f; s = d.s; told = d.told }

unfoldable pub folded_of : Desk → List ℕ → Desk
folded_of d acc = record { sync = d.sync; f = d.f; s = d.s; told = slice_set d.told 0 (mixed_to (slice_index d.told 0) acc (length acc)) }

unfoldable pub unknown_of : Desk → Desk
unknown_of d = after_of d d.sync (refused_of 255)

abbrev pub pushed_by : Desk → Result Pushed (Refused SlotSync) → Desk
pushed_by d (Ok p) = after_of d p.sync (answer_of p.last p.events)
pushed_by d (Err r) = after_of d r.state (refused_of (number_of r.why))

unfoldable pub pushed_of : Desk → ℤ → ℤ → List ℕ → Desk
pushed_of d i q acc = pushed_by d (push_answer d.sync i q d.f d.s acc)

-- a desk and its accumulators, and the same symbol n times
pub record St : Type 0 where
  pub desk : Desk
  pub acc : List ℕ

abbrev pub st : Desk → List ℕ → St
st d acc = record { desk = d; acc = acc }

unfoldable pub pushes_of : ℕ → ℤ → ℤ → St → St
pushes_of zero i q s = s
pushes_of (suc n) i q s =
    let r = pushes_of n i q s in
    st (pushed_of r.desk i q r.acc) (push_acc r.desk.sync i q r.desk.f r.desk.s r.acc)
