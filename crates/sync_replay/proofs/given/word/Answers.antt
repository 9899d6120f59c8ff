-- `sync_replay::given::word` meets its contract. Assumes nothing.
use Rattle.std.proofs.Common.{◌≡◌, refl}
use Rattle.laws.proofs.Made.{made}
use Rattle.fields.specs.Fields.{one_at, ones_at}
use Rattle.sync_replay.proofs.given.word.Goals as goal

pub returns : goal.returns
unfolding ones_at
returns c =
    made _ (λ p. (p.0.now ≡ c.args.p.now) × (p.1.now ≡ c.args.k)) (one_at c.args.p.now c.args.k) 48
    (λ p q i y o l e. (rw (o.0, o.1) at e.met.1, (rw e.met.0.0 o.0, rw e.met.0.1 o.1))) _ c.from_fn.result (refl, refl) c.from_fn.ensures.items
