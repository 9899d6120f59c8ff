-- What the entries answer. A refusal "returns the number and the state received".
use Rattle.std.specs.Prelude.{◌+◌, ◌^◌, Bool, not, ◌&&◌, List, leb, ltb, ℤ, Option, None, Result, Ok, Err, ⊤}
use Rattle.laws.specs.Choice.{when◌then◌else◌}
use Rattle.refusal.specs.Refusals.{answered}
use Rattle.refusal.specs.declared.Refusal.{Refusal}
use Rattle.refusal.specs.declared.Refusal.TheVariants.{Words, Arithmetic, Position, Counts}
use Rattle.refusal.specs.declared.Refused.{Refused}
use Rattle.fx.specs.Answers.{wide}
use Rattle.sync_corr.specs.Correlate.{ones_of}
use Rattle.phase.specs.declared.Corrected.{Corrected}
use Rattle.frame_map.specs.Map.{part_of}
use Rattle.frame.specs.declared.AlignedSymbol.{AlignedSymbol}
use Rattle.frame.specs.declared.Back.{Back}
use Rattle.frame.specs.declared.Pushed.{Pushed}
use Rattle.frame.specs.Align.{restarted_back, joined_to, pushed_back, is_sync}
use Rattle.frame.specs.Ranges.{back_in_range}

unfoldable pub restart_answer : Back → Result Back (Refused Back)
restart_answer b = when back_in_range b then Ok (restarted_back b) else Err (record { why = Arithmetic; state = b })

-- the oldest waiting symbol comes out, is a sync symbol, sums are open, and with the new symbol the line holds 11
unfoldable pub trains_back : Back → Bool
trains_back b = leb 5 b.metas.count && is_sync (part_of b.metas.first.j) && b.eq.opened && leb 11 (b.eq.filled + 1)

-- 8, "training count 4,194,304 .. before any addition the call would make"
unfoldable pub full_back : Back → Bool
full_back b = trains_back b && leb 4194304 b.eq.sums.count

-- 2, an entry of a word; 6, a number of the state, "slot index over 9,295", a gain of size over 2^60; 7, at 2^62 or more; 8
unfoldable pub push_refusal : Back → Corrected → List ℤ → List ℤ → Result ⊤ Refusal
push_refusal b c f s =
    when ones_of f && ones_of s
    then when back_in_range b && ltb c.j 9296 && not (wide c.gain)
    then when leb (2 ^ 62) c.at then Err Position else when full_back (joined_to b c.at) then Err Counts else Ok tt
    else Err Arithmetic
    else Err Words

unfoldable pub push_answer : Back → Corrected → List ℤ → List ℤ → Result Pushed (Refused Back)
push_answer b c f s = answered (push_refusal b c f s) b (pushed_back b c f s)

-- the back after a push, refused or not, and what came out of it
abbrev pub back_of : Result Pushed (Refused Back) → Back
back_of (Ok pushed) = pushed.back
back_of (Err refused) = refused.state

abbrev pub out_of : Result Pushed (Refused Back) → Option AlignedSymbol
out_of (Ok pushed) = pushed.out
out_of (Err refused) = None
