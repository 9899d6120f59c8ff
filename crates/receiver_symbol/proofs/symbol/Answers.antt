-- `receiver_symbol::symbol` meets its contract. Assumes nothing.
use Rattle.receiver_symbol.proofs.Ready.{soon_known}
use Rattle.receiver_symbol.proofs.Symbols.{answer-soon, lent-soon}
use Rattle.receiver.specs.Symbol.{Input, Lent}
use lib.ListN.{length}
use mathlib.Core.Path.{◌∙◌, sym}
use mir.Facts.{to_z-of_z}
use mir.Syntax.{w8}
use Rattle.receiver_symbol.proofs.symbol.Goals as goal

pub known-requires : goal.known-requires
known-requires c =
    let a = c.args in
    soon_known a.r (length a.acc.now) (length a.store.now) (length a.soft.now) a.f a.s (length a.table.now) (sym c.soon.ensures ∙ c.in-Ok.is)

pub returns-in-Ok : goal.returns-in-Ok
returns-in-Ok c = rw (to_z-of_z {w = w8} c.ranges.xi, to_z-of_z {w = w8} c.ranges.xq) at c.known.ensures

pub returns-in-Err : goal.returns-in-Err
returns-in-Err c =
    let a = c.args in
    let x : Input = record { xi = a.xi; xq = a.xq; f = a.f; s = a.s; table = a.table.now } in
    let l : Lent = record { acc = a.acc.now; store = a.store.now; soft = a.soft.now } in
    let n = sym c.soon.ensures ∙ c.in-Err.is in
    let e = lent-soon a.r x l c.in-Err.why n in (
      answer-soon a.r x l c.in-Err.why n,
      rw e,
      rw e,
      rw e,
    )
