-- What each call that takes no store answers and leaves, by its number: the equaliser's from 0 on, the receiver's from 16 on, those of its parts from 32
-- on.
use Rattle.std.specs.Prelude.{ℕ, ◌-◌, List, [], ◌∷◌, ltb, get_or}
use Rattle.laws.specs.Choice.{when◌then◌else◌}
use Rattle.receiver_calls.specs.declared.kept.Kept.{Kept}
use Rattle.receiver_calls.specs.declared.kept.Turn.{Turn}
use Rattle.receiver_calls.specs.Calls.{plain, eq_call, state_call, words_call, points_call, taps_call, open_call, end_call, event_call}

-- refusal 255 where there is no such call
abbrev pub plains : List ℕ → Kept → List Turn
plains p k = words_call k p ∷ points_call k p ∷ taps_call k p ∷ open_call k p ∷ end_call k ∷ event_call k p ∷ []

unfoldable pub plain_of : ℕ → List ℕ → Kept → Turn
plain_of n p k = get_or (plains p k) n (plain k 255)

unfoldable pub turn_of : ℕ → List ℕ → Kept → Turn
turn_of op p k = when ltb op 16 then eq_call op k p else when ltb op 32 then plain_of (op - 16) p k else state_call (op - 32) k p
