-- `wire::ranged::numbers` meets its contract. Assumes nothing.
use Rattle.std.proofs.Common.{◌≡◌, refl}
use Rattle.laws.proofs.Made.{made}
use Rattle.wire.specs.Wire.{number_at, numbers_of}
use Rattle.wire.proofs.ranged.numbers.Goals as goal

pub returns : goal.returns
unfolding numbers_of
returns c = made _ (λ p. p.0.now ≡ c.args.s.now) (number_at c.args.s.now) 24 (λ p q i y o l e. (rw o at e.met.1, rw e.met.0 o)) _ c.from_fn.result refl c.from_fn.ensures.items
