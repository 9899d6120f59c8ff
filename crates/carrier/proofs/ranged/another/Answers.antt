-- `carrier::ranged::another` meets its contract: one case at each return. Assumes nothing.
use Prim.Native.Nat.{◌+◌, ◌<◌, ◌^◌}
use native.Mathlib.Omega.{arith}
use lib.IntN.{◌+ℤ◌}
use lib.Signed.{mag}
use mir.Syntax.{w32, w64}
use mir.Val.{to_z, of_z}
use Rattle.angles.specs.Angles.{turn_from}
use Rattle.laws.proofs.Size.{Num, num, plus, at, back, fits}
use Rattle.laws.specs.Choice.{cases}
use Rattle.carrier.specs.Carrier.{ssync_heard}
use Rattle.carrier.proofs.ranged.another.Lts as lts
use Rattle.carrier.proofs.ranged.another.Tie as tie
use Rattle.carrier.proofs.ranged.another.Reads as reads
use Rattle.carrier.proofs.ranged.another.Goals as goal

-- a sum in range, and one more difference
more : (c : (lts.After-turn_from tie.the-claims reads.Pre reads.Post)) → Num (to_z w64 (of_z w64 c.args.s.sum) +ℤ to_z w64 (of_z w64 c.turn_from.result))
    (c.args.s.sum +ℤ turn_from c.args.s.last_ss c.args.theta) (126701535232 + 2 ^ 31)
more c =
    let e = c.turn_from.ensures in
    rw (← e.0) (plus (at w64 (num c.args.s.sum 126701535232 c.requires.sum) tt) (at w64 (num c.turn_from.result (2 ^ 31) e.1) tt))

pub overflow_add-sum : goal.overflow_add-sum
overflow_add-sum c = fits w64 (more c.before.before.before) tt

pub tune-requires : goal.tune-requires
tune-requires c =
    let n = at w64 (more c.before.before.before.before.before.before) tt in
    rw n.is (omega (arith, n.size))

pub returns-then-steps-lt60 : goal.returns-then-steps-lt60
unfolding ssync_heard
returns-then-steps-lt60 c =
    let f : mag c.args.n.freq < 2 ^ 31 = search in
    rw ((at w64 (more c.before.before.before.before.before) tt).is, back w32 c.args.n.freq f) (search cases)

pub returns-else-steps-lt60 : goal.returns-else-steps-lt60
unfolding ssync_heard
returns-else-steps-lt60 c =
    let n = c.args.n in
    let f : mag n.freq < 2 ^ 31 = search in
    rw (c.since.ensures, back w32 c.tune.result c.tune.type_inv, c.tune.ensures, (at w64 (more c.before.before.before.before.before.before.before) tt).is, back w32 n.freq f) (search cases)
