-- `phase::refusals::whole_in_range` meets its contract. Assumes nothing.
use Prim.Native.Nat.{◌<◌, ◌^◌}
use lib.Signed.{mag}
use mir.Syntax.{w64}
use Rattle.laws.proofs.Size.{back}
use Rattle.phase.specs.Ranges.{whole_in_range}
use Rattle.phase.proofs.refusals.whole_in_range.Goals as goal

pub returns : goal.returns
unfolding whole_in_range
returns c =
    let s = c.args.s in
    let told = c.struct_told-3-1.given in
    let a : mag s.head.amp < 2 ^ 63 = told.0.1.1.1.1.1.1.0.1 in
    let b : mag s.next.amp < 2 ^ 63 = told.1.0.1.1.1.1.1.1.0.1 in
    let d : mag s.delta < 2 ^ 63 = told.1.1.0.1 in
    let g : mag s.gain < 2 ^ 63 = told.1.1.1.0.1 in
    let m : mag s.gamma < 2 ^ 63 = told.1.1.1.1.0.1 in
    rw (rw (back w64 s.head.amp a) at c.wide.ensures, rw (back w64 s.next.amp b) at c.wide-2.ensures, back w64 s.delta d, back w64 s.gain g, back w64 s.gamma m)
