-- `fx::sizes::outside2` meets its contract. Assumes nothing.
use Rattle.std.proofs.Common.{ℕ, ◌^◌, ◌||◌, leb, ap₂, to_z-of_z}
use Rattle.fx.proofs.sizes.outside2.Goals as goal

pub returns : goal.returns
returns c =
    ap₂ (λ (m n : ℕ). leb (2 ^ 22) m || leb (2 ^ 22) n) (rw (to_z-of_z c.ranges.a) at c.unsigned_abs.ensures.value) (rw (to_z-of_z c.ranges.b) at c.unsigned_abs-2.ensures.value)
