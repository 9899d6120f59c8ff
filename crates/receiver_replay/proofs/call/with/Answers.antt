-- `receiver_replay::call::with` meets its contract. Assumes nothing.
use native.Mathlib.Omega.{arith}
use Rattle.receiver_replay.proofs.Laws.{stores-none}
use Rattle.receiver_replay.specs.Replay.{stores_of}
use Rattle.receiver_replay.proofs.call.with.Goals as goal

pub returns-in-0 : goal.returns-in-0
unfolding stores_of
returns-in-0 c = rw (c.in-0.is, c.new.ensures.0, c.new.ensures.1)

pub returns-in-1 : goal.returns-in-1
unfolding stores_of
returns-in-1 c = rw (c.in-1.is, c.restart.ensures.0, c.restart.ensures.1)

pub returns-in-2 : goal.returns-in-2
unfolding stores_of
returns-in-2 c = rw (c.in-2.is, c.look.ensures)

pub returns-in-3 : goal.returns-in-3
unfolding stores_of
returns-in-3 c = rw (c.in-3.is, c.plain.ensures, c.set.ensures)

pub returns-in-4 : goal.returns-in-4
unfolding stores_of
returns-in-4 c = rw c.in-4.is (c.play.ensures c.args.input.now)

pub returns-in-5 : goal.returns-in-5
unfolding stores_of
returns-in-5 c = rw (c.in-5.is, ← c.symbols-x.ensures) (c.feed.ensures c.args.input.now)

pub returns-in-6 : goal.returns-in-6
unfolding stores_of
returns-in-6 c = rw (c.in-6.is, c.plain-in-6.ensures, c.set-in-6.ensures)

pub returns-in-7 : goal.returns-in-7
unfolding stores_of
returns-in-7 c = rw (c.in-7.is, c.plain-in-7.ensures, c.put.ensures)

pub returns-in-8 : goal.returns-in-8
unfolding stores_of
returns-in-8 c = rw c.in-8.is (c.feed-in-8.ensures c.args.input.now)

pub returns-in_default : goal.returns-in_default
returns-in_default c = rw c.plain-in_default.ensures (stores-none c.args.n c.args.p.now _ (omega arith))
