-- `phase_replay::calls::correct` meets its contract. Assumes nothing.
use mathlib.Core.Path.{sym}
use lib.Seq.{length-take-le}
use Rattle.phase_replay.specs.Calls.{correct_call}
use Rattle.fields.proofs.Laws.{take_least}
use borrow.Author.Rules.{rules}
use Rattle.phase_replay.proofs.calls.correct.Goals as goal

pub slice_bounds-correct-end : goal.slice_bounds-correct-end
slice_bounds-correct-end c = sym (length-take-le _ _ (search rules))

pub slice_bounds-correct-end-2 : goal.slice_bounds-correct-end-2
slice_bounds-correct-end-2 c = sym (length-take-le _ _ (search rules))

pub returns : goal.returns
unfolding correct_call
returns c =
    let a = c.args in
    rw (c.answered.ensures, c.correct.ensures, c.least-l.ensures.0, c.least-k.ensures.0, take_least _ a.table.now, take_least _ a.store.now, c.whole_at-s.ensures)
