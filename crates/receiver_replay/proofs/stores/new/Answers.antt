-- `receiver_replay::stores::new` meets its contract. Assumes nothing.
use Rattle.fields.proofs.Laws.{drop_least, take_least}
use Rattle.receiver_replay.specs.Calls.{new_left, new_turn}
use borrow.Author.Rules.{rules}
use lib.Seq.{length-take-le}
use mathlib.Core.Path.{sym}
use mir.Facts.{to_z-of_z}
use Rattle.receiver_replay.proofs.stores.new.Goals as goal

pub slice_bounds-new-end-2 : goal.slice_bounds-new-end-2
unfolding new_turn new_left
slice_bounds-new-end-2 c = sym (length-take-le _ _ (search rules))

pub returns : goal.returns
unfolding new_turn new_left
returns c =
    let l = c.args.acc.now in
    let e = rw (to_z-of_z (record { sfits = c.of_bits.type_inv }), c.of_bits.ensures, c.least-n.ensures.0, take_least _ l) at c.new.ensures in
    (rw (c.answered.ensures, e.0), rw (e.1, c.least-n.ensures.0, drop_least _ l))
