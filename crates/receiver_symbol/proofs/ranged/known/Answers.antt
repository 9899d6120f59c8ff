-- `receiver_symbol::ranged::known` meets its contract. Assumes nothing.
use Rattle.receiver_symbol.proofs.Ready.{ahead_ok, known_soon}
use Rattle.receiver_symbol.proofs.Symbols.{acc-later, answer-later, soft-later, store-later}
use Rattle.receiver.specs.Symbol.{Input, Lent}
use lib.ListN.{length}
use mathlib.Core.Path.{◌∙◌}
use mir.Facts.{to_z-of_z}
use mir.Syntax.{w8}
use Rattle.receiver_symbol.proofs.ranged.known.Goals as goal

pub look-a-requires : goal.look-a-requires
look-a-requires c = let a = c.args in ahead_ok a.r (length a.acc.now) (length a.store.now) (length a.soft.now) a.f.now a.s.now a.table.now c.requires

pub returns : goal.returns
returns c =
    let a = c.args in
    let x : Input = record { xi = a.xi; xq = a.xq; f = a.f.now; s = a.s.now; table = a.table.now } in
    let l : Lent = record { acc = a.acc.now; store = a.store.now; soft = a.soft.now } in
    let k = known_soon a.r (length a.acc.now) (length a.store.now) (length a.soft.now) a.f.now a.s.now (length a.table.now) c.requires in
    let p = c.place-p.ensures.0 in
    let e = rw (to_z-of_z {w = w8} c.ranges.xi, to_z-of_z {w = w8} c.ranges.xq, p) at c.look-a.ensures.0 in
    let g = c.go_on.ensures in (
      g.0 ∙ rw e (answer-later a.r x l k),
      g.1 ∙ rw (e, p) (acc-later a.r x l k),
      g.2 ∙ rw e (store-later a.r x l k),
      g.3 ∙ rw e (soft-later a.r x l k),
    )
