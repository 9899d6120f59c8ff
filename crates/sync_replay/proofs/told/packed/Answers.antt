-- `sync_replay::told::packed` meets its contract. Assumes nothing.
use Rattle.std.proofs.Common.{◌≡◌, refl}
use Rattle.laws.proofs.Made.{made}
use Rattle.sync_replay.specs.Told.{packed_of}
use Rattle.wire.specs.Wire.{byte_at}
use Rattle.sync_replay.proofs.told.packed.Goals as goal

pub returns : goal.returns
unfolding packed_of
returns c = made _ (λ p. p.0.now ≡ c.args.n.now) (byte_at c.args.n.now) 320 (λ p q i y o l e. (rw o at e.met.1, rw e.met.0 o)) _ c.from_fn.result refl c.from_fn.ensures.items
