-- `receiver_state::with::meta` meets its contract. Assumes nothing.
use Rattle.receiver_state.specs.With.{meta_put}
use Rattle.receiver_state.proofs.with.meta.Goals as goal

pub returns : goal.returns
unfolding meta_put
returns c = rw (c.place-5.ensures, c.place-4.ensures, c.place-3.ensures, c.place-2.ensures, c.place.ensures)
