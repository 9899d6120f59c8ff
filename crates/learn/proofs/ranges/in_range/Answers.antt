-- `learn::ranges::in_range` meets its contract. Assumes nothing.
use Prim.Native.Nat.{◌<◌, ◌^◌}
use lib.Signed.{mag}
use mir.Syntax.{w64}
use Rattle.laws.proofs.Size.{back}
use Rattle.learn.specs.Ranges.{learn_in_range}
use Rattle.learn.proofs.ranges.in_range.Goals as goal

pub returns : goal.returns
unfolding learn_in_range
returns c =
    let l = c.args.l in
    let h : mag l.noise < 2 ^ 63 = search in
    rw (
      back w64 l.noise h,
      c.sums_in_range.ensures,
      c.counts_in_range.ensures,
    )
