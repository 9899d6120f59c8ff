-- `receiver_symbol::slots::go_on` meets its contract. Assumes nothing.
use Rattle.receiver_symbol.proofs.Symbols.{acc-none, answer_none, soft-none, store-none}
use Rattle.receiver_symbol.specs.Parts.{DueOk}
use mathlib.Core.Path.{◌∙◌, subst}
use Rattle.receiver_symbol.proofs.slots.go_on.Goals as goal

pub with_slot-requires : goal.with_slot-requires
with_slot-requires c = (c.requires.0, c.requires.1, c.in-Some.is, subst DueOk c.in-Some.is c.requires.2)

pub returns-in-None : goal.returns-in-None
returns-in-None c =
    let a = c.args in
    let f = a.f.now in
    let s = a.s.now in
    let table = a.table.now in
    let store = a.store.now in
    let d = c.in-None.is in
    let t = c.taken.ensures in (
      rw (t.0, c.no_runs.ensures) (answer_none a.r a.a f s table store d),
      t.1 ∙ acc-none a.r a.a f s table store d a.p a.acc.now,
      t.2 ∙ store-none a.r a.a f s table store d,
      soft-none a.r a.a f s table store d a.soft.now,
    )
