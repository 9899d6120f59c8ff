-- What each call answers and leaves, by its number.
use Rattle.std.specs.Prelude.{ℕ, List, [], ◌∷◌, get_or}
use Rattle.eq_calls.specs.declared.kept.Kept.{Kept}
use Rattle.eq_calls.specs.declared.kept.Turn.{Turn}
use Rattle.eq_calls.specs.Kept.{turned}
use Rattle.eq_calls.specs.Told.{told_of}
use Rattle.eq_calls.specs.Calls.{new_call, restart_call, push_call, output_call, open_call, train_call, close_call, load_call, line_call, taps_call, numbers_call, upper_call, right_call, keep_call, solve_call}

-- all as it is
unfoldable pub same : Kept → ℕ → Turn
same k refusal = turned k (told_of k refusal 0 0 0)

-- in the order of the calls' numbers
abbrev pub turns : List ℕ → Kept → List Turn
turns p k =
    same k 0
    ∷ new_call k
    ∷ restart_call k
    ∷ push_call k p
    ∷ output_call k
    ∷ open_call k p
    ∷ train_call k p
    ∷ close_call k
    ∷ load_call k p
    ∷ line_call k p
    ∷ taps_call k p
    ∷ numbers_call k p
    ∷ upper_call k p
    ∷ right_call k p
    ∷ keep_call k
    ∷ solve_call k
    ∷ []

-- refusal 255 where there is no such call
unfoldable pub turn_of : ℕ → List ℕ → Kept → Turn
turn_of op p k = get_or (turns p k) op (same k 255)
