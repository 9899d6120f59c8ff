-- Each of the four cases is a byte of a tap, in one of them negated. Assumes nothing.
use Prim.Native.Nat.{◌≤◌}
use Rattle.eq_fir.specs.Rows.{factor_at}
use Rattle.laws.proofs.Size.{abs_neg, back, sfits_abs}
use Rattle.laws.specs.Choice.{cases}
use lib.IntN.{nat_abs, neg_ℤ, +ℤ_idl}
use mathlib.Core.Path.{◌∙◌, ap}
use mir.Facts.{to_z-of_z}
use mir.Syntax.{w16}
use mir.Val.{SFits}
use native.Mathlib.Omega.{arith}
use Rattle.eq_fir.proofs.ranged_rows.factor.Goals as goal

pub overflow_sub-result : goal.overflow_sub-result
overflow_sub-result c =
    let b = c.byte-else-k-eq0-2 in
    let n : nat_abs (neg_ℤ b.result) ≤ 255 = rw (abs_neg b.result) b.ensures.1 in
    let f : SFits w16 (neg_ℤ b.result) = sfits_abs w16 (neg_ℤ b.result) (omega (arith, n)) in
    rw (back w16 b.result b.type_inv, +ℤ_idl (neg_ℤ b.result)) f

pub returns-then-k-eq0 : goal.returns-then-k-eq0
unfolding factor_at
returns-then-k-eq0 c =
    let b = c.byte in
    let g = rw (back w16 _ c.byte-arg-1.given) at b.ensures in
    rw (back w16 b.result b.type_inv) (g.0 ∙ search cases, g.1)

pub returns-else-k-eq0 : goal.returns-else-k-eq0
unfolding factor_at
returns-else-k-eq0 c =
    let b = c.byte-else-k-eq0 in
    let g = rw (back w16 _ c.byte-arg-else-k-eq0-1.given) at b.ensures in
    rw (back w16 b.result b.type_inv) (g.0 ∙ search cases, g.1)

pub returns-then-k-eq0-2 : goal.returns-then-k-eq0-2
unfolding factor_at
returns-then-k-eq0-2 c =
    let b = c.byte-then-k-eq0-2 in
    let g = rw (back w16 _ c.byte-arg-then-k-eq0-2-1.given) at b.ensures in
    rw (back w16 b.result b.type_inv) (g.0 ∙ search cases, g.1)

pub returns-else-k-eq0-2 : goal.returns-else-k-eq0-2
unfolding factor_at
returns-else-k-eq0-2 c =
    let b = c.byte-else-k-eq0-2 in
    let n : nat_abs (neg_ℤ b.result) ≤ 255 = rw (abs_neg b.result) b.ensures.1 in
    let f : SFits w16 (neg_ℤ b.result) = sfits_abs w16 (neg_ℤ b.result) (omega (arith, n)) in
    let g = rw (back w16 _ c.byte-arg-else-k-eq0-2-1.given) at b.ensures in
    rw (back w16 b.result b.type_inv, +ℤ_idl (neg_ℤ b.result), to_z-of_z f) (ap neg_ℤ g.0 ∙ search cases, n)
