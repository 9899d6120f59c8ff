-- `receiver_state::put::points_at` meets its contract. Assumes nothing.
use Rattle.std.proofs.Common.{◌≡◌, refl}
use Rattle.laws.proofs.Made.{made}
use Rattle.receiver_state.specs.Put.{point_at, points_of}
use Rattle.receiver_state.proofs.put.points_at.Goals as goal

pub returns : goal.returns
unfolding points_of
returns c = made _ (λ p. p.0.now ≡ c.args.bytes.now) (point_at c.args.bytes.now) 64 (λ p q i y o l e. (rw o at e.met.1, rw e.met.0 o)) _ c.from_fn.result refl c.from_fn.ensures.items
