-- `sync_heads::given::head` meets its contract: one case at each return. Assumes nothing.
use Prim.Native.Nat.{◌<◌, ◌^◌}
use mathlib.Core.Path.{◌≡◌}
use lib.Signed.{mag}
use mir.Syntax.{w64}
use Rattle.laws.proofs.Size.{back}
use Rattle.fx.specs.Answers.{wide}
use Rattle.laws.specs.Choice.{cases}
use Rattle.sync_heads.specs.Given.{given_refusal}
use Rattle.sync_heads.proofs.given.head.Lts as lts
use Rattle.sync_heads.proofs.given.head.Tie as tie
use Rattle.sync_heads.proofs.given.head.Reads as reads
use Rattle.sync_heads.proofs.given.head.Goals as goal

-- the test of `amp`
wide-told : (c : (lts.After-wide tie.the-claims reads.Pre reads.Post)) → c.wide.result ≡ wide c.args.h.amp
wide-told c =
    let a = c.args.h in
    let h : mag a.amp < 2 ^ 63 = search in
    rw (back w64 a.amp h) at c.wide.ensures

pub returns-then-wide : goal.returns-then-wide
unfolding given_refusal
returns-then-wide c = rw (← (wide-told c.before)) (search cases)

pub returns-then-h-ge4611686018427387904 : goal.returns-then-h-ge4611686018427387904
unfolding given_refusal
returns-then-h-ge4611686018427387904 c = rw (← (wide-told c.before.before.before)) (search cases)

pub returns : goal.returns
unfolding given_refusal
returns c = rw (← (wide-told c.before.before.before)) (search cases)
