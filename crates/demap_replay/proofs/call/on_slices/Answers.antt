-- `demap_replay::call::on_slices` meets its contract. Assumes nothing.
use native.Mathlib.Omega.{arith}
use Rattle.demap_replay.proofs.Laws.{slices_none}
use Rattle.demap_replay.specs.Replay.{desk, turn_of, learned_of, nominal_of}
use Rattle.demap_replay.proofs.call.on_slices.Goals as goal

pub read-told-requires : goal.read-told-requires
read-told-requires c = omega arith

pub returns-in-8 : goal.returns-in-8
unfolding turn_of learned_of nominal_of
returns-in-8 c = let k = c.in-8.is in (rw (k, c.next.ensures.0), rw (k, c.next.ensures.1), rw k)

pub returns-in-9 : goal.returns-in-9
unfolding turn_of learned_of nominal_of
returns-in-9 c = let k = c.in-9.is in (rw (k, c.points.ensures.0), rw (k, c.points.ensures.1), rw k)

pub returns-in-10 : goal.returns-in-10
unfolding turn_of learned_of nominal_of
returns-in-10 c = let k = c.in-10.is in (rw (k, c.turned.ensures, c.single.ensures), rw (k, c.set.ensures), rw k)

pub returns-in-11 : goal.returns-in-11
unfolding turn_of learned_of nominal_of
returns-in-11 c = let k = c.in-11.is in (rw (k, c.turned-in-11.ensures, c.single-in-11.ensures), rw k, rw (k, c.set-in-11.ensures))

pub returns-in_default : goal.returns-in_default
returns-in_default c =
    let d = desk c.args.k c.args.learned.now c.args.nominal.now in
    let g = slices_none c.args.op c.args.p.now d (omega arith) in
    (rw (c.turned-in_default.ensures, c.read-told.ensures) g.0, g.1, g.2)
