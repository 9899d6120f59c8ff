-- `fx::turns::least_shift` meets its contract. Assumes nothing.
-- No shift before s does, so the search from s on finds what the search from 0 on finds. `re` and `im` are bits here.
use Rattle.std.proofs.Common.{◌≡◌, ℕ, suc, ◌+◌, ◌-◌, Bool, sym, refl, ◌∙◌, add-one, arith, to_z-of_z, w64, to_z, of_z}
use Rattle.fx.specs.Scale.{least_shift, under_at}
use Rattle.laws.proofs.First.{first_here, first-none, first_next}
use Rattle.laws.specs.Ranges.{first_from}
use Rattle.fx.proofs.turns.least_shift.Lts as lts
use Rattle.fx.proofs.turns.least_shift.Tie as tie
use Rattle.fx.proofs.turns.least_shift.Reads as reads
use Rattle.fx.proofs.turns.least_shift.Goals as goal

-- the test, and what the search is to find
abbrev does : (lts.Start tie.the-claims reads.Pre reads.Post goal.the-invariant-loop-s goal.the-decreases-loop-s) → ℕ → Bool
does c = under_at (to_z w64 (of_z w64 c.args.re)) (to_z w64 (of_z w64 c.args.im))

found : (c : (lts.Start tie.the-claims reads.Pre reads.Post goal.the-invariant-loop-s goal.the-decreases-loop-s)) → first_from (does c) 39 0 ≡ least_shift c.args.re c.args.im
unfolding least_shift
found c = rw (to_z-of_z c.ranges.re, to_z-of_z c.ranges.im)

pub loop-s-init : goal.loop-s-init
loop-s-init c = (omega arith, refl)

pub returns-then-under : goal.returns-then-under
returns-then-under c =
    let e = sym c.under.ensures ∙ c.if-under.true in
    (sym (first_here (does c.before.before.before.before) (39 - c.loop-s.s) c.loop-s.s e) ∙ c.loop-s.invariant.1 ∙ found c.before.before.before.before, c.loop-s.invariant.0)

pub loop-s-preserved : goal.loop-s-preserved
loop-s-preserved c =
    let s = c.loop-s.s in
    let e : 39 - s ≡ suc (39 - (s + 1)) = omega arith in
    let n = sym c.under.ensures ∙ c.if-under.false in
    (omega arith, rw (add-one s) (sym (first_next (does c.before.before.before.before) (39 - suc s) s n) ∙ (rw (e, add-one s) at c.loop-s.invariant.1)))

pub returns : goal.returns
returns c =
    let e : c.loop-s.s ≡ 39 = omega arith in
    (sym (first-none (does c.before.before) 39) ∙ (rw e at c.loop-s.invariant.1) ∙ found c.before.before, omega arith)
