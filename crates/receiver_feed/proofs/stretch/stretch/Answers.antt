-- What the loop leaves, put together. Assumes nothing.
use mathlib.Core.Path.{refl, ap, subst, ◌∙◌}
use native.Mathlib.Omega.{arith}
use mir.Facts.{to_z-of_z}
use mir.Syntax.{w32}
use Rattle.receiver_feed.specs.Quiet.{Fits, Moving, passed_by}
use Rattle.receiver_feed.proofs.Calm.{figures_in, moves_from_lem, passed_any, place_in_lem, tally_in, window_in}
use Rattle.receiver_feed.proofs.stretch.stretch.Goals as goal

pub moved-x-requires : goal.moved-x-requires
moved-x-requires c =
    let p = c.requires in
    let r = c.args.r in
    let w = c.window_of-win.ensures in (
      w.1,
      p.6,
      p.7,
      p.5,
      p.3,
      omega (arith, p.1.within, c.place-p.ensures.0),
      place_in_lem r p.0,
      p.2,
      p.4,
      rw w.0 (window_in r p.0),
      tally_in r p.0,
    )

pub passed-requires : goal.passed-requires
passed-requires c = let p = c.requires in let q = c.moved-x in (omega (arith, q.ensures.2, p.1.time), omega (arith, q.ensures.2, p.1.within))

pub returns : goal.returns
returns c =
    let a = c.args in
    let q = c.moved-x in
    let w = c.window_of-win.ensures.0 in
    let f = to_z-of_z {w = w32} (record { sfits = c.freq_of-d.type_inv }) ∙ c.freq_of-d.ensures in
    let ep = c.place-p.ensures.0 in
    let x = rw (w, f) at q.ensures.0 ∙ moves_from_lem a.r a.bytes.now a.table.now a.rows.now a.acc.now a.store.now a.i _ _ q.result.taken ep refl in (
      c.passed.ensures ∙ passed_any a.r q.result.taken _ _ _ _ _ ∙ ap (passed_by a.r q.result.taken) x,
      ap (λ (m : Moving). m.acc) x,
      ap (λ (m : Moving). m.store) x,
      q.ensures.1,
      q.ensures.2,
      (λ j l. subst Fits (moves_from_lem a.r a.bytes.now a.table.now a.rows.now a.acc.now a.store.now a.i _ _ j ep refl) (rw (w, f) at (q.ensures.3 j l))),
      rw c.passed.ensures (figures_in a.r q.result.taken _ c.requires.0 q.ensures.4 (omega (arith, q.ensures.2, c.requires.1.time))),
    )
