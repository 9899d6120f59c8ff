-- `fields::parts` meets its contract. Assumes nothing.
use Rattle.std.proofs.Common.{◌≡◌, ◌+◌, get_or, refl}
use Rattle.laws.proofs.Made.{made}
use Rattle.fields.specs.Fields.{parts_of}
use Rattle.fields.proofs.parts.Goals as goal

pub returns : goal.returns
unfolding parts_of
returns g c = made _ (λ p. p.0.now ≡ c.args.p.now) (λ k. g.T.Field.low (get_or c.args.p.now (k + 2) 0)) 22 (λ p q i y o l e. (rw o at e.met.1, rw e.met.0 o)) _ c.from_fn.result refl c.from_fn.ensures.items
