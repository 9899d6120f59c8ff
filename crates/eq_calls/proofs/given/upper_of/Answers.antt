-- `eq_calls::given::upper_of` meets its contract. Assumes nothing.
use Rattle.std.proofs.Common.{◌≡◌, refl}
use Rattle.laws.proofs.Made.{made}
use Rattle.eq_calls.specs.Given.{upper_entry, upper_of}
use Rattle.eq_calls.proofs.given.upper_of.Goals as goal

pub returns : goal.returns
unfolding upper_of
returns c =
    let a = c.args in
    made _ (λ p. (p.0.now ≡ a.r.now) × (p.1.now ≡ a.group) × (p.2.now ≡ a.v.now)) (upper_entry a.r.now a.group a.v.now) 132
    (λ p q i y o l e. (rw (o.0, o.1, o.2) at e.met.1, (rw e.met.0.0 o.0, rw e.met.0.1 o.1, rw e.met.0.2 o.2))) _ c.from_fn.result (refl, refl, refl) c.from_fn.ensures.items
