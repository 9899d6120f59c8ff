-- What the program keeps from call to call besides the stores, and what a call gives.
use Rattle.std.specs.Prelude.{ℕ, List, ℤ}
use Rattle.sums.specs.declared.Sums.{Sums}
use Rattle.sync_step.specs.declared.Events.{Events}
use Rattle.receiver.specs.declared.Receiver.{Receiver}
use Rattle.receiver_calls.specs.declared.kept.Kept.{Kept}
use Rattle.receiver_calls.specs.declared.kept.Turn.{Turn}

abbrev pub with_receiver : Kept → Receiver → Sums → Kept
with_receiver k r t = record { receiver = r; sums = t; f = k.f; s = k.s; events = k.events }

abbrev pub with_played : Kept → Receiver → Events → Kept
with_played k r e = record { receiver = r; sums = k.sums; f = k.f; s = k.s; events = e }

abbrev pub with_words : Kept → List ℤ → List ℤ → Kept
with_words k f s = record { receiver = k.receiver; sums = k.sums; f = f; s = s; events = k.events }

abbrev pub turned : Kept → List ℕ → Turn
turned k told = record { kept = k; told = told }
