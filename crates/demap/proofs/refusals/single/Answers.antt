-- `demap::refusals::single` meets its contract. Assumes nothing.
use mathlib.Core.Path.{◌≡◌, sym, ◌∙◌}
use Prim.Native.Nat.{ℕ, ◌*◌, ◌^◌, ◌%◌, ◌≤◌}
use native.Mathlib.Nat.{mod-eq_of_lt}
use native.Mathlib.Omega.{arith}
use borrow.Author.Tests.{lt-ltb, le-ltb, eq-eqb, ne_eqb}
use lib.Pow.{pow_mono}
use mir.Facts.{to_z-of_z}
use Rattle.laws.specs.Choice.{if_yes, if_no}
use Rattle.demap.specs.Answers.{demap_refusal}
use Rattle.demap.proofs.refusals.single.Goals as goal

pub returns-then-room-bits : goal.returns-then-room-bits
unfolding demap_refusal
returns-then-room-bits c = sym (if_yes _ _ _ (lt-ltb _ _ c.if-room-bits.true))

pub returns-then-bits-lt1 : goal.returns-then-bits-lt1
unfolding demap_refusal
returns-then-bits-lt1 c = sym (if_no _ _ _ (le-ltb _ _ c.if-room-bits.false) ∙ if_yes _ _ _ (rw (lt-ltb _ _ c.if-bits-lt1.true)))

pub returns-then-bits-gt5 : goal.returns-then-bits-gt5
unfolding demap_refusal
returns-then-bits-gt5 c =
    sym (if_no _ _ _ (le-ltb _ _ c.if-room-bits.false) ∙ if_yes _ _ _ (rw (le-ltb _ _ c.if-bits-lt1.false, lt-ltb _ _ c.if-bits-gt5.true)))

-- the number of i16, as the code shifts it
shifted : (b : ℕ) → b ≤ 5 → (2 * 2 ^ b) % 2 ^ 64 ≡ 2 * 2 ^ b
shifted b h =
    let p : 2 ^ b ≤ 2 ^ 5 = pow_mono h in
    mod-eq_of_lt (omega arith)

pub returns-then-len-bits : goal.returns-then-len-bits
unfolding demap_refusal
returns-then-len-bits c =
    let n = shifted _ c.if-bits-gt5.false in
    let f = ne_eqb _ _ (λ e. c.if-len-bits.true (e ∙ sym n)) in
    sym (if_no _ _ _ (le-ltb _ _ c.if-room-bits.false)
    ∙ if_yes _ _ _ (rw (le-ltb _ _ c.if-bits-lt1.false, le-ltb _ _ c.if-bits-gt5.false, f)))

pub returns-then-k-lt0 : goal.returns-then-k-lt0
unfolding demap_refusal
returns-then-k-lt0 c =
    let n = eq-eqb _ _ (c.if-len-bits.false ∙ shifted _ c.if-bits-gt5.false) in
    sym (if_no _ _ _ (le-ltb _ _ c.if-room-bits.false)
    ∙ if_no _ _ _ (rw (le-ltb _ _ c.if-bits-lt1.false, le-ltb _ _ c.if-bits-gt5.false, n))
    ∙ if_yes _ _ _ (rw (rw (to_z-of_z c.ranges.k) at c.if-k-lt0.true)))

pub returns-then-k-gt16777216 : goal.returns-then-k-gt16777216
unfolding demap_refusal
returns-then-k-gt16777216 c =
    let n = eq-eqb _ _ (c.if-len-bits.false ∙ shifted _ c.if-bits-gt5.false) in
    sym (if_no _ _ _ (le-ltb _ _ c.if-room-bits.false)
    ∙ if_no _ _ _ (rw (le-ltb _ _ c.if-bits-lt1.false, le-ltb _ _ c.if-bits-gt5.false, n))
    ∙ if_yes _ _ _ (rw (rw (to_z-of_z c.ranges.k) at c.if-k-lt0.false, rw (to_z-of_z c.ranges.k) at c.if-k-gt16777216.true)))

pub returns : goal.returns
unfolding demap_refusal
returns c =
    let n = eq-eqb _ _ (c.if-len-bits.false ∙ shifted _ c.if-bits-gt5.false) in
    sym (if_no _ _ _ (le-ltb _ _ c.if-room-bits.false)
    ∙ if_no _ _ _ (rw (le-ltb _ _ c.if-bits-lt1.false, le-ltb _ _ c.if-bits-gt5.false, n))
    ∙ if_no _ _ _ (rw (rw (to_z-of_z c.ranges.k) at c.if-k-lt0.false, rw (to_z-of_z c.ranges.k) at c.if-k-gt16777216.false)))
