-- `solve::taps::taps` meets its contract. Assumes nothing.
use Rattle.std.proofs.Common.{◌≡◌, refl, get_or}
use lib.Ieee.{nan}
use Rattle.laws.proofs.Made.{made}
use Rattle.solve.specs.Taps.{tap_of, taps_of}
use Rattle.solve.proofs.taps.taps.Goals as goal

pub returns : goal.returns
unfolding taps_of
returns c =
    made _ (λ p. p.0.now ≡ c.args.x) (λ k. tap_of (get_or c.args.x k nan)) 22 (λ p q i y o l e. (rw o at e.met.1, rw e.met.0 o)) _ c.from_fn.result refl c.from_fn.ensures.items
