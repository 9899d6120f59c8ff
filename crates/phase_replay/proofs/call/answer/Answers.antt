-- `phase_replay::call::answer` meets its contract. Assumes nothing.
use native.Mathlib.Omega.{arith}
use Rattle.phase_replay.specs.Calls.{head_call, due_call, next_call}
use Rattle.phase_replay.specs.Replay.{answer_of}
use mathlib.Core.Path.{◌∙◌}
use Rattle.phase_replay.proofs.Laws.{answer_none}
use Rattle.phase_replay.proofs.call.answer.Goals as goal

pub returns-in-0 : goal.returns-in-0
unfolding answer_of
returns-in-0 c = rw (c.in-0.is, c.four.ensures, c.of.ensures)

pub returns-in-1 : goal.returns-in-1
unfolding answer_of
returns-in-1 c = rw (c.in-1.is, c.four-in-1.ensures, c.of-in-1.ensures)

pub returns-in-2 : goal.returns-in-2
unfolding answer_of
returns-in-2 c = rw (c.in-2.is, c.nco_new.ensures)

pub returns-in-3 : goal.returns-in-3
unfolding answer_of
returns-in-3 c = rw (c.in-3.is, c.rotate.ensures)

pub returns-in-4 : goal.returns-in-4
unfolding answer_of
returns-in-4 c = rw (c.in-4.is, c.hear.ensures)

pub returns-in-5 : goal.returns-in-5
unfolding answer_of
returns-in-5 c = rw (c.in-5.is, c.nco_restart.ensures)

pub returns-in-6 : goal.returns-in-6
unfolding answer_of
returns-in-6 c = rw (c.in-6.is, c.gain.ensures)

pub returns-in-7 : goal.returns-in-7
unfolding answer_of
returns-in-7 c = rw (c.in-7.is, c.phase.ensures, c.new.ensures)

pub returns-in-8 : goal.returns-in-8
unfolding answer_of
returns-in-8 c = rw (c.in-8.is, c.restart.ensures)

pub returns-in-9 : goal.returns-in-9
unfolding answer_of head_call
returns-in-9 c = rw (c.in-9.is, c.headed.ensures, c.head.ensures)

pub returns-in-10 : goal.returns-in-10
unfolding answer_of due_call
returns-in-10 c = rw (c.in-10.is, c.due.ensures, c.head-in-10.ensures)

pub returns-in-11 : goal.returns-in-11
unfolding answer_of next_call
returns-in-11 c = rw (c.in-11.is, c.next.ensures, c.head-in-11.ensures)

pub returns-in-12 : goal.returns-in-12
unfolding answer_of
returns-in-12 c = rw (c.in-12.is, c.correct.ensures)

pub returns-in_default : goal.returns-in_default
returns-in_default c = c.four-in_default.ensures ∙ answer_none c.args.op c.args.p.now c.args.table.now c.args.store.now c.requires (omega arith)
