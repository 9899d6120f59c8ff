-- `sync_replay::on_store` meets its contract. Assumes nothing.
use Rattle.std.proofs.Common.{sym, length-take-le, rules}
use Rattle.sync_replay.proofs.on_store.Goals as goal

pub slice_bounds-started-end-in-2 : goal.slice_bounds-started-end-in-2
slice_bounds-started-end-in-2 c = sym (length-take-le _ _ (search rules))

pub slice_bounds-pushes-end-in-3 : goal.slice_bounds-pushes-end-in-3
slice_bounds-pushes-end-in-3 c = sym (length-take-le _ _ (search rules))

pub slice_bounds-restarted-end-in-4 : goal.slice_bounds-restarted-end-in-4
slice_bounds-restarted-end-in-4 c = sym (length-take-le _ _ (search rules))
