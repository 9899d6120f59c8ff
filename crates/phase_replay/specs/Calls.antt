-- What each call answers, by the definitions of carrier and phase.
use Rattle.std.specs.Prelude.{ℕ, List, ◌++◌, ℤ, take, drop}
use Rattle.carrier.specs.Carrier.{started_nco}
use Rattle.carrier.specs.Answers.{rotate_answer, head_answer as hear_answer, restart_answer as nco_restart_answer}
use Rattle.phase.specs.Answers.{gain_answer, restart_answer, push_answer, push_store, head_answer, correct_answer}
use Rattle.fields.specs.Fields.{at, signed8, signed16, signed32, signed64}
use Rattle.phase_wire.specs.Given.{nco_of, head_of, phase_of}
use Rattle.phase_wire.specs.Told.{nco_told}
use Rattle.phase_replay.specs.Given.{whole_of}
use Rattle.phase_replay.specs.Told.{rotated_told, heard_told, restarted_told, held_told, headed_told, due_told, next_told, whole_told, answered_told}

-- ---- the carrier
unfoldable pub new_call : List ℕ → List ℕ
new_call p = nco_told 0 (started_nco 0 (signed32 p 1)) 0 0

-- the symbol of numbers 7 and 8, with as many entries of the table as number 9 says
unfoldable pub rotate_call : List ℕ → List ℤ → List ℕ
rotate_call p table = rotated_told (rotate_answer (nco_of p) (signed8 p 7) (signed8 p 8) (take (at p 9) table))

-- the head of numbers 7 to 16
unfoldable pub hear_call : List ℕ → List ℕ
hear_call p = heard_told (hear_answer (nco_of p) (head_of p 7))

unfoldable pub nco_restart_call : List ℕ → List ℕ
nco_restart_call p = restarted_told (nco_restart_answer (nco_of p))

-- ---- the slot correction
unfoldable pub gain_call : List ℕ → List ℕ
gain_call p = whole_told (gain_answer (signed64 p 1))

unfoldable pub restart_call : List ℕ → List ℕ
restart_call p = held_told (restart_answer (phase_of p))

-- the symbol of numbers 13 and 14, with as many entries of the store as number 15 says; and the store afterwards
unfoldable pub push_call : List ℕ → List ℤ → List ℕ
push_call p store = held_told (push_answer (phase_of p) (take (at p 15) store))

unfoldable pub push_left : List ℕ → List ℤ → List ℤ
push_left p store = push_store (phase_of p) (signed16 p 13) (signed16 p 14) (take (at p 15) store) ++ drop (at p 15) store

-- the head of numbers 13 to 22: the state afterwards, the slot that is due, and that slot's next head
unfoldable pub head_call : List ℕ → List ℕ
head_call p = headed_told (head_answer (phase_of p) (head_of p 13))

unfoldable pub due_call : List ℕ → List ℕ
due_call p = due_told (head_answer (phase_of p) (head_of p 13))

unfoldable pub next_call : List ℕ → List ℕ
next_call p = next_told (head_answer (phase_of p) (head_of p 13))

-- symbol number 16, with as many entries of table and store as numbers 17 and 18 say
unfoldable pub correct_call : List ℕ → List ℤ → List ℤ → List ℕ
correct_call p table store =
    answered_told (correct_answer (whole_of p) (at p 16) (take (at p 17) table) (take (at p 18) store))
