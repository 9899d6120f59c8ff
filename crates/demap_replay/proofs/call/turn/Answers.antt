-- `demap_replay::call::turn` meets its contract. Assumes nothing.
use native.Mathlib.Omega.{arith}
use Rattle.demap_replay.specs.Replay.{turn_of, learned_of, nominal_of}
use Rattle.demap_replay.proofs.call.turn.Goals as goal

pub on_slices-requires : goal.on_slices-requires
on_slices-requires c = omega arith

pub returns-in-0 : goal.returns-in-0
unfolding turn_of learned_of nominal_of
returns-in-0 c = let k = c.in-0.is in (rw (k, c.new.ensures), rw k, rw k)

pub returns-in-1 : goal.returns-in-1
unfolding turn_of learned_of nominal_of
returns-in-1 c = let k = c.in-1.is in (rw (k, c.pilot.ensures), rw k, rw k)

pub returns-in-2 : goal.returns-in-2
unfolding turn_of learned_of nominal_of
returns-in-2 c = let k = c.in-2.is in (rw (k, c.noise.ensures), rw k, rw k)

pub returns-in-3 : goal.returns-in-3
unfolding turn_of learned_of nominal_of
returns-in-3 c = let k = c.in-3.is in (rw (k, c.sum.ensures), rw k, rw k)

pub returns-in-4 : goal.returns-in-4
unfolding turn_of learned_of nominal_of
returns-in-4 c = let k = c.in-4.is in (rw (k, c.count.ensures), rw k, rw k)

pub returns-in-5 : goal.returns-in-5
unfolding turn_of learned_of nominal_of
returns-in-5 c = let k = c.in-5.is in (rw (k, c.noise_put.ensures), rw k, rw k)

pub returns-in-6 : goal.returns-in-6
unfolding turn_of learned_of nominal_of
returns-in-6 c = let k = c.in-6.is in (rw (k, c.default.ensures), rw k, rw k)

pub returns-in-7 : goal.returns-in-7
unfolding turn_of learned_of nominal_of
returns-in-7 c = let k = c.in-7.is in (rw (k, c.force.ensures), rw k, rw k)

pub returns-in_default : goal.returns-in_default
returns-in_default c = c.on_slices.ensures
