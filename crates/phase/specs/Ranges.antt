-- The ranges of docs/RANGES.md, "Phase", and what the correction needs; the ranges imply it.
use Rattle.std.specs.Prelude.{◌≤◌, ◌^◌, Bool, true, not, ◌&&◌, leb, ltb, pos, nat_abs, Option, None, Some}
use Rattle.std.specs.Int.Signed.{le_z}
use Rattle.laws.specs.Choice.{minus}
use Rattle.fx.specs.Answers.{wide}
use Rattle.sync_heads.specs.declared.Head.{Head}
use Rattle.phase.specs.declared.Held.{Held}
use Rattle.phase.specs.declared.WholeSlot.{WholeSlot}

-- a head is held only if it was given with an amp of size up to 2^60 and a position below 2^62
unfoldable pub held_in_range : Held → Bool
held_in_range x = not (wide x.head.amp) && ltb x.head.at (2 ^ 62) && leb x.count 9296

unfoldable pub phase_in_range : Option Held → Bool
phase_in_range None = true
phase_in_range (Some x) = held_in_range x

-- the steps of differences from -2^31 to 2^31 - 1, and from -71,179,699 to 71,179,699; the gain of an amp of 64 and less, or of 2^60.
-- Positions are left to the row of positions
unfoldable pub whole_in_range : WholeSlot → Bool
whole_in_range s =
    not (wide s.head.amp) && not (wide s.next.amp)
    && le_z (minus 15139574784) s.delta
    && le_z s.delta (pos 15139574777)
    && le_z (pos 0) s.gain
    && le_z s.gain (pos 71179699)
    && le_z (minus 501810748) s.gamma
    && le_z s.gamma (pos 501810748)

pub record HeadOk (h : Head) : Type 0 where
  pub amp : nat_abs h.amp ≤ 2 ^ 60

abbrev pub PhaseOk : Option Held → Type 0
PhaseOk None = Unit {0}
PhaseOk (Some x) = HeadOk x.head

pub record WholeOk (s : WholeSlot) : Type 0 where
  pub delta : nat_abs s.delta ≤ 2 ^ 34
  pub gain : nat_abs s.gain ≤ 2 ^ 27
  pub gamma : nat_abs s.gamma ≤ 2 ^ 29
