-- `wire::bytes` meets its contract. Assumes nothing.
use native.Mathlib.Nat.{div-one}
use Rattle.wire.specs.Wire.{byte_of, bytes_of}
use Rattle.wire.proofs.bytes.Goals as goal

pub returns : goal.returns
unfolding bytes_of byte_of
returns c = rw (c.to_le_bytes.ensures, div-one c.args.u)
