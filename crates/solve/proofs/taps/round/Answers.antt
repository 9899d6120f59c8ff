-- `solve::taps::round` meets its contract. Assumes nothing.
use Rattle.std.proofs.Common.{ℕ, pos, neg_ℤ, sym, ap, ◌∙◌, w16}
use lib.Ieee.{of_bits}
use mir.ValLaws.{to_z_pos}
use Rattle.solve.proofs.Rounding.{rounded_pos, rounded_neg, rounded_zero, above_neg, kept, capped, full, negated, negated_fits}
use Rattle.solve.proofs.taps.round.Goals as goal

pub size-n-requires-then-y-2 : goal.size-n-requires-then-y-2
unfolding of_bits
size-n-requires-then-y-2 c = above_neg c.args.y c.if-y-2.true

pub overflow_sub-result : goal.overflow_sub-result
overflow_sub-result c = negated_fits c.size-n-then-y-2.result c.if-n-lt32768-2.true

pub returns-then-n-lt32768 : goal.returns-then-n-lt32768
unfolding of_bits
returns-then-n-lt32768 c = to_z_pos w16 _ c.if-n-lt32768.true ∙ ap pos (kept _ _ c.size-n.ensures.0 c.if-n-lt32768.true) ∙ sym (rounded_pos _ c.if-y.true)

pub returns-else-n-lt32768 : goal.returns-else-n-lt32768
unfolding of_bits
returns-else-n-lt32768 c = ap pos (capped _ _ c.size-n.ensures.0 c.if-n-lt32768.false) ∙ sym (rounded_pos _ c.if-y.true)

pub returns-then-n-lt32768-2 : goal.returns-then-n-lt32768-2
unfolding of_bits
returns-then-n-lt32768-2 c = negated c.size-n-then-y-2.result c.if-n-lt32768-2.true ∙ ap (λ (n : ℕ). neg_ℤ (pos n)) c.size-n-then-y-2.ensures.0 ∙ sym (rounded_neg _ c.if-y-2.true)

pub returns-else-n-lt32768-2 : goal.returns-else-n-lt32768-2
unfolding of_bits
returns-else-n-lt32768-2 c = ap (λ (n : ℕ). neg_ℤ (pos n)) (full _ _ c.size-n-then-y-2.ensures.0 c.size-n-then-y-2.ensures.1 c.if-n-lt32768-2.false) ∙ sym (rounded_neg _ c.if-y-2.true)

pub returns-else-y-2 : goal.returns-else-y-2
unfolding of_bits
returns-else-y-2 c = sym (rounded_zero _ c.if-y.false c.if-y-2.false)
