-- One symbol, or why it is refused. Assumes nothing.
use mathlib.Core.Path.{sym, ◌∙◌}
use native.Mathlib.Omega.{arith}
use lib.ListN.{length}
use mir.Facts.{to_z-of_z}
use mir.Syntax.{w8}
use Rattle.receiver_symbol.proofs.Ready.{soon_known}
use Rattle.receiver_feed.proofs.Stand.{single-end, state_soon, stopped_end}
use Rattle.receiver_feed.proofs.turns.single.Goals as goal

pub known-requires : goal.known-requires
known-requires c =
    let a = c.args in
    soon_known a.r (length a.acc.now) (length a.store.now) (length a.soft.now) a.f.now a.s.now (length a.table.now)
    (state_soon a.r _ _ _ _ _ _ c.requires.2 ∙ sym c.refusal.ensures ∙ c.in-Ok.is)

pub told-requires : goal.told-requires
told-requires c = omega (arith, c.requires.0, c.requires.1, c.well_formed.1.1.1.0.0)

pub returns-in-Ok : goal.returns-in-Ok
returns-in-Ok c =
    let a = c.args in
    let g = c.known.ensures in
    single-end (record { bytes = a.bytes.now; f = a.f.now; s = a.s.now; table = a.table.now }) a.n a.i a.r (record { acc = a.acc.now; store = a.store.now; soft = a.soft.now }) _ _ _ _ _ c.requires.0
    (to_z-of_z {w = w8} (record { sfits = c.known-arg-1.given })) (to_z-of_z {w = w8} (record { sfits = c.known-arg-in-Ok-1.given })) g.0 g.1 g.2 g.3 c.told.ensures

pub returns-in-Err : goal.returns-in-Err
returns-in-Err c =
    let a = c.args in
    stopped_end (record { bytes = a.bytes.now; f = a.f.now; s = a.s.now; table = a.table.now }) a.n a.i _ a.r (record { acc = a.acc.now; store = a.store.now; soft = a.soft.now }) _ c.requires.0 c.requires.2
    (sym c.in-Err.is ∙ c.refusal.ensures) c.stopped.ensures
