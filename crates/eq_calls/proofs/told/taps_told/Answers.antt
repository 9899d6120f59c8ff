-- `eq_calls::told::taps_told` meets its contract. Assumes nothing.
use Rattle.std.proofs.Common.{◌≡◌, refl}
use Rattle.laws.proofs.Made.{made}
use Rattle.eq_calls.specs.Told.{tap_at, taps_told}
use Rattle.eq_calls.proofs.told.taps_told.Goals as goal

pub returns : goal.returns
unfolding taps_told
returns c = made _ (λ p. p.0.now ≡ c.args.t.now) (tap_at c.args.t.now) 24 (λ p q i y o l e. (rw o at e.met.1, rw e.met.0 o)) _ c.from_fn.result refl c.from_fn.ensures.items
