-- `carrier::plain::advanced` meets its contract. Assumes nothing.
use Prim.Native.Nat.{◌<◌, ◌^◌}
use native.Mathlib.Omega.{arith}
use lib.Signed.{mag}
use mir.Syntax.{w32, w64}
use Rattle.laws.proofs.Size.{arg, at, fits, back}
use Rattle.carrier.specs.Carrier.{advanced_nco}
use Rattle.carrier.proofs.plain.advanced.Goals as goal

pub overflow_cast-n : goal.overflow_cast-n
overflow_cast-n c = let f : mag c.args.n.freq < 2 ^ 31 = search in fits w64 (arg {w = w32} {z = c.args.n.freq} (record { sfits = f })) tt

pub turn_on-requires : goal.turn_on-requires
turn_on-requires c =
    let f : mag c.args.n.freq < 2 ^ 31 = search in
    let n = at w64 (arg {w = w32} {z = c.args.n.freq} (record { sfits = f })) tt in
    rw n.is (omega (arith, n.size))

pub returns : goal.returns
unfolding advanced_nco
returns c =
    let z = c.args.n.freq in
    let f : mag z < 2 ^ 31 = search in
    rw (c.turn_on.ensures, (at w64 (arg {w = w32} {z = z} (record { sfits = f })) tt).is, back w32 z f)
