-- `fields::ranged::ones_at` meets its contract. Assumes nothing.
use Rattle.std.proofs.Common.{◌≡◌, refl}
use Rattle.laws.proofs.Made.{made}
use Rattle.fields.specs.Fields.{one_at, ones_at}
use Rattle.fields.proofs.ranged.ones_at.Goals as goal

pub returns : goal.returns
unfolding ones_at
returns c =
    made _ (λ p. (p.0.now ≡ c.args.bytes.now) × (p.1.now ≡ c.args.from)) (one_at c.args.bytes.now c.args.from) 48
    (λ p q i y o l e. (rw (o.0, o.1) at e.met.1, (rw e.met.0.0 o.0, rw e.met.0.1 o.1))) _ c.from_fn.result (refl, refl) c.from_fn.ensures.items
