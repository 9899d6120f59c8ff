-- `solve::taps::size` meets its contract. Assumes nothing.
use Rattle.std.proofs.Common.{◌≡◌, ℕ, ◌+◌, ◌/◌, false, T, pos, sym, ap, ◌∙◌, subst, arith, rules}
use lib.Ieee.{binary64, fin, mul, to_unsigned, of_bits}
use Rattle.solve.proofs.Rounding.{small, large}
use Rattle.solve.proofs.taps.size.Goals as goal

pub truncating_f64_to_u64-requires : goal.truncating_f64_to_u64-requires
unfolding of_bits
truncating_f64_to_u64-requires c = let s = small c.args.y (subst T (sym c.well_formed.0.1) tt) c.requires c.if-y.true in record { lower_bound = s.above; upper_bound = s.below }

pub overflow_add-result : goal.overflow_add-result
unfolding of_bits
overflow_add-result c =
    let s = small c.args.y (subst T (sym c.well_formed.0.1) tt) c.requires c.if-y.true in
    let e : c.truncating_f64_to_u64.result ≡ to_unsigned 64 (mul binary64 c.args.y (fin false 1 (pos 1))) = c.truncating_f64_to_u64.ensures in
    omega (arith, s.few)

pub returns-then-y : goal.returns-then-y
unfolding of_bits
returns-then-y c =
    let s = small c.args.y (subst T (sym c.well_formed.0.1) tt) c.requires c.if-y.true in
    let e : c.truncating_f64_to_u64.result ≡ to_unsigned 64 (mul binary64 c.args.y (fin false 1 (pos 1))) = c.truncating_f64_to_u64.ensures in
    (ap (λ (n : ℕ). (n + 1) / 2) e ∙ s.is, omega (arith, s.few))

pub returns-else-y : goal.returns-else-y
unfolding of_bits
returns-else-y c = (sym (large c.args.y c.requires c.if-y.false), search rules)
