-- `fx::turns::under` meets its contract. Assumes nothing.
use Rattle.std.proofs.Common.{ℕ, ◌^◌, ◌&&◌, ltb, ap₂, to_z-of_z}
use Rattle.fx.specs.Scale.{under_at}
use Rattle.laws.proofs.Size.{sfits_shr}
use Rattle.fx.proofs.turns.under.Goals as goal

pub returns : goal.returns
unfolding under_at
returns c =
    let m = 2 ^ c.args.s in
    ap₂ (λ (p q : ℕ). ltb p (2 ^ 22) && ltb q (2 ^ 22))
    (rw (to_z-of_z c.ranges.re, to_z-of_z (sfits_shr m c.ranges.re)) at c.unsigned_abs.ensures.value)
    (rw (to_z-of_z c.ranges.im, to_z-of_z (sfits_shr m c.ranges.im)) at c.unsigned_abs-2.ensures.value)
