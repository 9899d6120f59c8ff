-- `phase_bench::measure_correct` meets its contract. Assumes nothing.
use mathlib.Core.Path.{refl, sym, subst, ◌∙◌}
use mir.Facts.{to_z-of_z}
use Rattle.laws.specs.Choice.{if_yes, if_no}
use Rattle.phase_bench.proofs.Laws.{lengths}
use Rattle.phase_bench.specs.Slots.{places, DueOk, corrected_code, corrected_places}
use Rattle.phase_bench.proofs.measure_correct.Goals as goal

pub correct_all-requires : goal.correct_all-requires
correct_all-requires c =
    let a = c.args in
    let o = subst DueOk c.in-Some.is c.due.ensures.1 in
    let l = lengths a.table.now a.store.now (places a.y.now a.phi.now a.gain.now) c.if-fit.true in
    (o.0, o.1, l.table, l.store, l.y, l.phi, l.gain)

pub returns-in-None : goal.returns-in-None
unfolding corrected_code corrected_places
returns-in-None c =
    let e = sym (rw (to_z-of_z c.ranges.amp, to_z-of_z c.ranges.last) at c.due.ensures.0) ∙ c.in-None.is in
    rw e (refl, refl)

pub returns-then-fit : goal.returns-then-fit
unfolding corrected_code corrected_places
returns-then-fit c =
    let e = sym (rw (to_z-of_z c.ranges.amp, to_z-of_z c.ranges.last) at c.due.ensures.0) ∙ c.in-Some.is in
    let t = c.if-fit.true in
    rw e (sym (if_yes _ _ _ t), c.correct_all.ensures ∙ sym (if_yes _ _ _ t))

pub returns-else-fit : goal.returns-else-fit
unfolding corrected_code corrected_places
returns-else-fit c =
    let e = sym (rw (to_z-of_z c.ranges.amp, to_z-of_z c.ranges.last) at c.due.ensures.0) ∙ c.in-Some.is in
    rw e (sym (if_no _ _ _ c.if-fit.false), sym (if_no _ _ _ c.if-fit.false))
