-- `carrier::ranged::ssync` meets its contract: one case of the trail at each return. Assumes nothing.
use Rattle.std.specs.Prelude.{Option}
use Rattle.carrier.specs.declared.Steps.{Steps}
use Prim.Native.Nat.{◌<◌, ◌^◌}
use mathlib.Core.Path.{sym, ap, ◌∙◌}
use lib.Signed.{mag}
use mir.Syntax.{w32}
use Rattle.laws.proofs.Size.{back}
use Rattle.carrier.specs.Carrier.{trail_heard}
use Rattle.carrier.proofs.ranged.ssync.Goals as goal

pub another-requires : goal.another-requires
another-requires c = rw c.in-Some.is at c.requires.trail

pub returns-in-None : goal.returns-in-None
unfolding trail_heard
returns-in-None c =
    let n = c.args.n in
    let f : mag n.freq < 2 ^ 31 = search in
    rw (c.in-None.is, c.since.ensures, back w32 n.freq f)

pub returns-in-Some : goal.returns-in-Some
unfolding trail_heard
returns-in-Some c =
    let a = c.args in
    c.another.ensures ∙ ap (λ (t : Option Steps). trail_heard a.n t a.theta) (sym c.in-Some.is)
