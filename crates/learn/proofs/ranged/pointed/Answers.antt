-- `learn::ranged::pointed` meets its contract. Assumes nothing.
use mathlib.Core.Bool.{true, false}
use mathlib.Core.Path.{◌≡◌, sym, ◌∙◌}
use Prim.Native.Nat.{ℕ, ◌+◌, ◌-◌, ◌*◌, ◌/◌, ◌≤◌}
use native.Mathlib.Omega.{arith}
use lib.ListN.{length}
use Rattle.demap.proofs.Blocks.{whole, part_long}
use Rattle.laws.specs.Choice.{if_no}
use Rattle.learn.specs.Learning.{learned_slice}
use Rattle.learn.proofs.Laws.{piloted_at_lem, learned_is, slice_with}
use Rattle.learn.proofs.ranged.pointed.Goals as goal

pub write-requires : goal.write-requires
write-requires c =
    let n = c.labels-n.result in
    let s = 2 * (n - 2) in
    let o = c.args.learned.now in
    let p : s + 2 * n ≤ length o = omega arith in
    let t = sym c.all_piloted.ensures ∙ c.if-all_piloted.true in
    let half : (i : ℕ) → (s + i) / 2 ≡ n - 2 + i / 2 = λ i. omega arith in
    rw (whole s (2 * n), part_long s (2 * n) o p)
    (omega arith, c.requires.0.sums, λ i h. rw (half i) (piloted_at_lem c.args.l.count (n - 2) n (i / 2) t (omega arith)))

pub returns-then-all_piloted : goal.returns-then-all_piloted
returns-then-all_piloted c =
    let l = c.args.l in
    let n = c.labels-n.result in
    let s = 2 * (n - 2) in
    let o = c.args.learned.now in
    let p : s + 2 * n ≤ length o = omega arith in
    let a = sym c.all_piloted.ensures ∙ c.if-all_piloted.true in
    let t = learned_is l c.args.bits n true c.labels-n.ensures.0 a in
    let e = rw (whole s (2 * n), part_long s (2 * n) o p) at c.write.ensures in
    (sym t, rw (whole s (2 * n)) (slice_with l c.args.bits n o _ c.labels-n.ensures.0 t e))

pub returns-else-all_piloted : goal.returns-else-all_piloted
unfolding learned_slice
returns-else-all_piloted c =
    let a = sym c.all_piloted.ensures ∙ c.if-all_piloted.false in
    let t = learned_is c.args.l c.args.bits c.labels-n.result false c.labels-n.ensures.0 a in
    (sym t, sym (if_no _ _ _ t))
