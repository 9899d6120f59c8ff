-- What a symbol leaves of the carrier's range, and what a loss keeps. Assumes nothing.
use Rattle.std.specs.Prelude.{Option}
use Rattle.phase.specs.declared.Held.{Held}
use mathlib.Core.Path.{◌≡◌, refl}
use Rattle.carrier.specs.declared.Nco.{Nco}
use Rattle.carrier.specs.Carrier.{advanced_nco}
use Rattle.carrier.specs.Ranges.{NcoOk}
use Rattle.frame.specs.declared.Back.{Back}
use Rattle.receiver_symbol.specs.declared.Ahead.{Ahead}
use Rattle.receiver.specs.declared.Receiver.{Receiver}
use Rattle.receiver_symbol.specs.Parts.{left_by, phase_by}
use Rattle.receiver.specs.Started.{kept_of}

-- ---- the carrier's range is the trail's, which a symbol leaves
pub advanced_ok : (n : Nco) → NcoOk n → NcoOk (advanced_nco n)
unfolding advanced_nco
advanced_ok n o = record { trail = o.trail }

-- ---- what is kept over a loss does not depend on the slot phase
pub kept-left : (r : Receiver) (a : Ahead) (b : Back) (p : Option Held) →
    kept_of (left_by r a b p) ≡ kept_of (left_by r a b (phase_by r.front.sync.run.t p))
unfolding kept_of left_by
kept-left r a b p = refl
