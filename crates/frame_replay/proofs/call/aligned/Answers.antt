-- `frame_replay::call::aligned` meets its contract. Assumes nothing.
use native.Mathlib.Omega.{arith}
use Rattle.frame_replay.specs.Replay.{aligned_of}
use Rattle.frame_replay.proofs.Laws.{aligned_none}
use mathlib.Core.Path.{◌∙◌}
use Rattle.frame_replay.proofs.call.aligned.Goals as goal

pub returns-in-0 : goal.returns-in-0
unfolding aligned_of
returns-in-0 c = rw (c.in-0.is, c.new.ensures)

pub returns-in-1 : goal.returns-in-1
unfolding aligned_of
returns-in-1 c = rw (c.in-1.is, c.restart.ensures)

pub returns-in-2 : goal.returns-in-2
unfolding aligned_of
returns-in-2 c = rw (c.in-2.is, c.push.ensures)

pub returns-in-3 : goal.returns-in-3
unfolding aligned_of
returns-in-3 c = rw (c.in-3.is, c.words.ensures)

pub returns-in-4 : goal.returns-in-4
unfolding aligned_of
returns-in-4 c = rw (c.in-4.is, c.move_up.ensures)

pub returns-in-5 : goal.returns-in-5
unfolding aligned_of
returns-in-5 c = rw (c.in-5.is, c.line.ensures)

pub returns-in_default : goal.returns-in_default
returns-in_default c = c.plain.ensures ∙ aligned_none c.args.n c.args.p.now c.args.k (omega arith)
