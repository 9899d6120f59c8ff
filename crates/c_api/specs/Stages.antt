-- How the answers of the stages cross to C. Refusal 0 is an accepted call.
use Rattle.refusal.specs.declared.Refusal.{Refusal}
use Rattle.refusal.specs.declared.Refused.{Refused}
use Rattle.refusal.specs.Refusals.{number_of}
use Rattle.std.specs.Prelude.{ℕ, ℤ, pos, Result, Ok, Err}
use Rattle.carrier.specs.declared.Nco.{Nco}
use Rattle.carrier.specs.declared.Rotated.{Rotated}
use Rattle.frame_map.specs.declared.SlotPart.{SlotPart}
use Rattle.frame_map.specs.declared.SlotPart.TheVariants.{Sync, Pilot, Main, Tmcc}
use Rattle.c_api.specs.declared.Numbers.{Numbers}
use Rattle.c_api.specs.declared.stages.Rotation.{Rotation}
use Rattle.c_api.specs.Api.{crossed_two}

-- of a carrier, the phase; after a refusal the symbol is 0
unfoldable pub rotation : Result Rotated (Refused Nco) → Rotation
rotation (Ok a) = record { phase = a.nco.phase; i = a.symbol.i; q = a.symbol.q; refusal = 0 }
rotation (Err r) = record { phase = r.state.phase; i = pos 0; q = pos 0; refusal = number_of r.why }

-- the kind as a number, in the order of the slot, and the index among its kind
abbrev pub kind_of : SlotPart → ℤ
kind_of (Sync k) = pos 0
kind_of (Pilot k) = pos 1
kind_of (Main k) = pos 2
kind_of (Tmcc k) = pos 3

abbrev pub index_of : SlotPart → ℕ
index_of (Sync k) = k
index_of (Pilot k) = k
index_of (Main k) = k
index_of (Tmcc k) = k

abbrev pub placed : Result SlotPart Refusal → Numbers
placed a = crossed_two kind_of (λ p. pos (index_of p)) a
