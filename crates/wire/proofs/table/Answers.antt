-- `wire::table` meets its contract. Assumes nothing.
use Rattle.std.proofs.Common.{◌≡◌, refl}
use Rattle.laws.proofs.Made.{made}
use Rattle.wire.specs.Wire.{entry_at, entries_of}
use Rattle.wire.proofs.table.Goals as goal

pub returns : goal.returns
unfolding entries_of
returns c = made _ (λ p. p.0.now ≡ c.args.s.now) (entry_at c.args.s.now) 1024 (λ p q i y o l e. (rw o at e.met.1, rw e.met.0 o)) _ c.from_fn.result refl c.from_fn.ensures.items
