-- `sync_replay::given::window_at` meets its contract. Assumes nothing.
use Rattle.std.proofs.Common.{◌≡◌, refl}
use Rattle.laws.proofs.Made.{made}
use Rattle.sync_replay.specs.Given.{window_entry, window_of}
use Rattle.sync_replay.proofs.given.window_at.Goals as goal

pub returns : goal.returns
unfolding window_of
returns c = made _ (λ p. p.0.now ≡ c.args.p.now) (window_entry c.args.p.now) 48 (λ p q i y o l e. (rw o at e.met.1, rw e.met.0 o)) _ c.from_fn.result refl c.from_fn.ensures.items
