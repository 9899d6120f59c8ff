-- The results of the parts, put together. Assumes nothing.
use Rattle.sync_corr.proofs.Laws.{dots_both, rows_small}
use Rattle.sync_corr.specs.Correlate.{both_of}
use Rattle.sync_corr.specs.Rows.{dots_of}
use Rattle.sync.proofs.Laws.{accepted_is, accepted_stores}
use Rattle.sync.specs.Sync.{window_after}
use lib.IntN.{ℤ}
use mathlib.Core.List.{List}
use mathlib.Core.Path.{◌∙◌, ◌≡◌, ap}
use mir.Facts.{to_z-of_z}
use native.Mathlib.Omega.{arith}
use Rattle.sync.proofs.ranged.accepted.Goals as goal

pub dots-b-requires : goal.dots-b-requires
dots-b-requires c =
    rw c.rows-rows.ensures (rows_small c.args.f.now c.args.w.now c.requires.1 c.requires.2)

pub store-requires : goal.store-requires
store-requires c =
    omega (arith, c.place-p.ensures.1, c.requires.3)

pub returns : goal.returns
returns c =
    let a = c.args in
    let v : c.shift.new.win ≡ window_after a.s.win a.i a.q = rw (to_z-of_z c.ranges.i, to_z-of_z c.ranges.q) at c.shift.ensures in
    let b : c.dots-b.result ≡ both_of c.shift.new.win a.f.now a.w.now =
    c.dots-b.ensures.0 ∙ ap (λ (l : List ℤ). dots_of c.shift.new.win l) c.rows-rows.ensures ∙ dots_both c.shift.new.win a.f.now a.w.now
    in (
      accepted_is a.s a.i a.q a.f.now a.w.now a.acc.now c.shift.new.win c.kept_window.result c.dots-b.result c.place-p.result c.step-x.result v b c.place-p.ensures.0 c.step-x.ensures c.kept_window.ensures,
      c.store.ensures ∙ accepted_stores a.s a.i a.q a.f.now a.w.now a.acc.now c.shift.new.win c.dots-b.result c.place-p.result c.step-x.result v b c.place-p.ensures.0 c.step-x.ensures,
    )
