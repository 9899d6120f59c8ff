-- Call n, an even one: a part is told. An odd one: it is replaced first.
use Rattle.std.specs.Prelude.{ℕ, ◌/◌, List}
use Rattle.receiver.specs.declared.Receiver.{Receiver}
use Rattle.receiver_state.specs.declared.Turned.{Turned}
use Rattle.receiver_state.specs.Put.{part_put}
use Rattle.receiver_state.specs.Told.{part_told}

unfoldable pub turn_of : ℕ → List ℕ → Receiver → Turned
turn_of n p r = let q = part_put n p r in record { receiver = q; told = part_told (n / 2) p q }
