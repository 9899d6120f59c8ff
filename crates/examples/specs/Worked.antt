-- Document 01, "Bench values": those with a star, each as what a definition gives beside what the document says.
use Rattle.std.specs.Prelude.{List, [], ◌∷◌, ℕ, ◌^◌, ℤ, pos, Result, Ok}
use Rattle.laws.specs.Choice.{minus}
use Rattle.refusal.specs.declared.Refusal.{Refusal}
use Rattle.fx.specs.Fx.{round_shift, div_round, mag_approx}
use Rattle.fx.specs.Cordic.{cordic_of}
use Rattle.phase.specs.Phase.{gain_of}
use Rattle.demap.specs.Demap.{label_metric, least_metric, soft_at}
use Rattle.frame_map.specs.Map.{part_of}
use Rattle.frame_map.specs.declared.SlotPart.{SlotPart}
use Rattle.frame_map.specs.declared.SlotPart.TheVariants.{Sync, Pilot, Main, Tmcc}

-- a number, or what stands at a place of the slot
pub data Value : Type 0 where
  number : ℤ → Value
  part : Result SlotPart Refusal → Value

pub record Example : Type 0 where
  pub given : Value
  pub said : Value

infix 4 ◌is◌
abbrev pub ◌is◌ : ℤ → ℤ → Example
given is said = record { given = number given; said = number said }

infix 4 slot◌has◌
abbrev pub slot◌has◌ : ℕ → SlotPart → Example
slot j has p = record { given = part (part_of j); said = part (Ok p) }

-- the BPSK points
abbrev pub bpsk : List ℤ
bpsk = pos 724 ∷ pos 724 ∷ minus 724 ∷ minus 724 ∷ []

unfoldable pub worked : List Example
worked =
    (round_shift (pos 3) 1 is pos 2)
    ∷ (round_shift (minus 3) 1 is minus 1)
    ∷ (round_shift (minus 1) 1 is pos 0)
    ∷ (div_round (pos 1) (pos 2) is pos 1)
    ∷ (div_round (minus 1) (pos 2) is pos 0)
    ∷ (pos (mag_approx (minus 3) (pos 4)) is pos 5)
    ∷ (pos (cordic_of (pos 0) (pos 0)).angle is pos 3103337958)
    ∷ ((cordic_of (pos 0) (pos 0)).size is pos 0)
    ∷ (gain_of (minus 5) is pos 71179699)
    ∷ (gain_of (pos 0) is pos 71179699)
    ∷ (gain_of (pos 64) is pos 71179699)
    ∷ (gain_of (pos 65) is pos 70084627)
    ∷ (least_metric (label_metric (pos 724) (pos 724) bpsk) 2 is minus 1048352)
    ∷ (soft_at (label_metric (pos 724) (pos 724) bpsk) 1 (pos 512) 0 is pos 0)
    ∷ (soft_at (label_metric (pos 724) (pos 724) bpsk) 1 (pos 513) 0 is pos 1)
    ∷ (soft_at (label_metric (pos 724) (pos 724) bpsk) 1 (pos (2 ^ 24)) 0 is pos 127)
    ∷ (soft_at (label_metric (minus 724) (minus 724) bpsk) 1 (pos 512) 0 is pos 0)
    ∷ (soft_at (label_metric (minus 724) (minus 724) bpsk) 1 (pos 513) 0 is minus 1)
    ∷ (slot 23 has Sync 23)
    ∷ (slot 24 has Pilot 0)
    ∷ (slot 55 has Pilot 31)
    ∷ (slot 56 has Main 0)
    ∷ (slot 191 has Main 135)
    ∷ (slot 192 has Tmcc 0)
    ∷ (slot 196 has Main 136)
    ∷ (slot 9295 has Tmcc 263)
    ∷ []
