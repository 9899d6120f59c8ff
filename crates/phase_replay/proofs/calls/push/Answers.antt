-- `phase_replay::calls::push` meets its contract. Assumes nothing.
use mathlib.Core.Path.{sym}
use lib.Seq.{length-take-le}
use Rattle.phase_replay.specs.Calls.{push_call, push_left}
use Rattle.laws.proofs.Size.{back}
use mir.Syntax.{w16}
use Rattle.fields.proofs.Laws.{take_least, drop_least}
use borrow.Author.Rules.{rules}
use Rattle.phase_replay.proofs.calls.push.Goals as goal

pub slice_bounds-push-end-2 : goal.slice_bounds-push-end-2
slice_bounds-push-end-2 c = sym (length-take-le _ _ (search rules))

pub returns : goal.returns
unfolding push_call push_left
returns c =
    let r = c.push-r in
    let a = c.args in
    let e = rw (back w16 c.of_bits.result c.of_bits.type_inv, back w16 c.of_bits-2.result c.of_bits-2.type_inv, c.of_bits.ensures, c.of_bits-2.ensures, c.least-k.ensures.0, take_least _ a.store.now, c.phase_at-s.ensures) at r.ensures in
    (rw (c.held.ensures, e.0), rw (e.1, c.least-k.ensures.0, drop_least _ a.store.now))
