-- `demap::demap` meets its contract: where the test lets it through, what `one` gives. Assumes nothing.
use Rattle.std.specs.Prelude.{Ok}
use mathlib.Core.Path.{refl, sym, ap, ◌∙◌}
use mir.Facts.{to_z-of_z}
use mir.Syntax.{w64}
use Rattle.std.proofs.lemmas.Result.{err_from_is_err_and}
use Rattle.laws.proofs.Size.{back}
use Rattle.demap.specs.Answers.{demap_answer, demap_buffer}
use Rattle.demap.proofs.Accepted.{accepted}
use Rattle.demap.proofs.demap.Goals as goal

pub returns-in_err-single : goal.returns-in_err-single
unfolding demap_answer demap_buffer
returns-in_err-single c =
    let p = err_from_is_err_and c.from_residual.result c.from_residual.ensures.1 in
    let n = rw (to_z-of_z c.ranges.k) at c.in_err-single.ensures in
    rw (p.1, p.2, ← n) (refl, refl)

pub one-requires : goal.one-requires
one-requires c =
    let a = accepted _ _ _ _ (sym (rw (to_z-of_z c.ranges.k) at c.in_ok-single.ensures)) in
    (a.some, a.few, a.points, a.fits, rw (to_z-of_z c.ranges.k) a.scale)

pub returns : goal.returns
unfolding demap_answer demap_buffer
returns c =
    let n = rw (to_z-of_z c.ranges.k) at c.in_ok-single.ensures in
    let r = c.one in
    let g = rw (to_z-of_z c.ranges.yi, to_z-of_z c.ranges.yq, to_z-of_z c.ranges.k) at r.ensures in
    rw (← n) (ap Ok (back w64 r.result r.type_inv ∙ g.0), g.1)
