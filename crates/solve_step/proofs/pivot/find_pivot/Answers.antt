-- `solve_step::pivot::find_pivot` meets its contract. Assumes nothing.
use mathlib.Core.Path.{ap, sym, ◌∙◌}
use borrow.Author.Rules.{rules}
use Rattle.solve_step.proofs.Turns.{scan_turn, scan_ended, judged_in, better_in}
use Rattle.solve_step.specs.Pivot.{judged_of, pivot_of}
use Rattle.solve_step.proofs.pivot.find_pivot.Goals as goal

pub loop-r-init : goal.loop-r-init
unfolding pivot_of
loop-r-init c = (search rules, search rules, rw (c.squared.ensures, c.entry.ensures))

pub loop-r-preserved : goal.loop-r-preserved
loop-r-preserved c =
    let h = c.loop-r-test.true in
    let inv = c.loop-r.invariant in (
      search rules,
      rw c.against-b.ensures (better_in _ _ _ inv.1 h),
      rw (c.against-b.ensures, c.squared-z.ensures, c.entry-in-loop-r.ensures) (ap judged_of (sym (scan_turn _ _ _ _ h)) ∙ inv.2),
    )

pub returns : goal.returns
returns c =
    let inv = c.loop-r.invariant in
    (c.judge.ensures ∙ ap judged_of (sym (scan_ended _ _ _ _ c.loop-r-test.false)) ∙ inv.2, rw c.judge.ensures (judged_in _ inv.1))
