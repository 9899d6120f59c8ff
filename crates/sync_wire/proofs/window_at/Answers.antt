-- `sync_wire::window_at` meets its contract. Assumes nothing.
use Rattle.std.proofs.Common.{◌≡◌, refl}
use Rattle.laws.proofs.Made.{made}
use Rattle.sync_wire.specs.Given.{window_at, window_of}
use Rattle.sync_wire.proofs.window_at.Goals as goal

pub returns : goal.returns
unfolding window_of
returns c = made _ (λ p. p.0.now ≡ c.args.bytes.now) (window_at c.args.bytes.now) 48 (λ p q i y o l e. (rw o at e.met.1, rw e.met.0 o)) _ c.from_fn.result refl c.from_fn.ensures.items
