-- `demap_replay::call::read` meets its contract. Assumes nothing.
use native.Mathlib.Omega.{arith}
use Rattle.demap_replay.proofs.Laws.{read_none}
use Rattle.demap_replay.specs.Replay.{desk, read_of}
use mathlib.Core.Path.{◌∙◌}
use Rattle.demap_replay.proofs.call.read.Goals as goal

pub returns-in-12 : goal.returns-in-12
unfolding read_of
returns-in-12 c = rw (c.in-12.is, c.single.ensures, c.of.ensures)

pub returns-in-13 : goal.returns-in-13
unfolding read_of
returns-in-13 c = rw (c.in-13.is, c.single-in-13.ensures, c.of-in-13.ensures)

pub returns-in-14 : goal.returns-in-14
unfolding read_of
returns-in-14 c = rw (c.in-14.is, c.part.ensures)

pub returns-in-15 : goal.returns-in-15
unfolding read_of
returns-in-15 c = rw (c.in-15.is, c.label.ensures)

pub returns-in-16 : goal.returns-in-16
unfolding read_of
returns-in-16 c = rw (c.in-16.is, c.force.ensures)

pub returns-in-17 : goal.returns-in-17
unfolding read_of
returns-in-17 c = rw (c.in-17.is, c.figure.ensures)

pub returns-in-18 : goal.returns-in-18
unfolding read_of
returns-in-18 c = rw (c.in-18.is, c.metric.ensures)

pub returns-in-19 : goal.returns-in-19
unfolding read_of
returns-in-19 c = rw (c.in-19.is, c.block.ensures)

pub returns-in_default : goal.returns-in_default
returns-in_default c = c.single-in_default.ensures ∙ read_none c.args.op c.args.p.now (desk c.args.k c.args.learned.now c.args.nominal.now) (omega arith)
