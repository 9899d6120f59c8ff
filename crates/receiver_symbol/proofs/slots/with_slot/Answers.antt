-- `receiver_symbol::slots::with_slot` meets its contract. Assumes nothing.
use Rattle.receiver_symbol.proofs.Ready.{back_in, due_is, slot_ok}
use Rattle.receiver_symbol.proofs.Symbols.{acc-full, acc-slot, answer-full, answer-slot, refusal-due, soft-full, soft-slot, store-full, store-slot}
use lib.ListN.{length}
use mathlib.Core.Path.{◌∙◌, sym}
use Rattle.receiver_symbol.proofs.slots.with_slot.Goals as goal

pub slot_refusal-requires : goal.slot_refusal-requires
slot_refusal-requires c = back_in c.args.r c.requires.0.within

pub slot-g-requires : goal.slot-g-requires
slot-g-requires c =
    let a = c.args in
    let f = a.f.now in
    let s = a.s.now in
    let table = a.table.now in
    let store = a.store.now in
    slot_ok a.r (length a.acc.now) a.w f s table store a.soft.now c.requires.0 c.requires.3
    (sym (c.slot_refusal.ensures ∙ due_is a.r a.w f s table store (back_in a.r c.requires.0.within)) ∙ c.in-Ok.is)

pub returns-in-Ok : goal.returns-in-Ok
returns-in-Ok c =
    let a = c.args in
    let f = a.f.now in
    let s = a.s.now in
    let table = a.table.now in
    let store = a.store.now in
    let d = c.requires.2 in
    let e = sym (c.slot_refusal.ensures ∙ due_is a.r a.w f s table store (back_in a.r c.requires.0.within) ∙ refusal-due a.r a.a f s table store a.w d) ∙ c.in-Ok.is in
    let g = c.slot-g in (
      rw c.taken.ensures.0 (answer-slot a.r a.a f s table store a.w d e g.result.back g.result.runs g.ensures.0 g.ensures.1),
      c.taken.ensures.1 ∙ acc-slot a.r a.a f s table store a.w d e a.p a.acc.now,
      c.taken.ensures.2 ∙ store-slot a.r a.a f s table store a.w d e,
      g.ensures.2 ∙ soft-slot a.r a.a f s table store a.w d e a.soft.now,
    )

pub returns-in-Err : goal.returns-in-Err
returns-in-Err c =
    let a = c.args in
    let f = a.f.now in
    let s = a.s.now in
    let table = a.table.now in
    let store = a.store.now in
    let why = c.in-Err.why in
    let e = sym (c.slot_refusal.ensures ∙ due_is a.r a.w f s table store (back_in a.r c.requires.0.within) ∙ refusal-due a.r a.a f s table store a.w c.requires.2) ∙ c.in-Err.is in (
      answer-full a.r a.a f s table store why e,
      acc-full a.r a.a f s table store why e a.p a.acc.now,
      store-full a.r a.a f s table store why e,
      soft-full a.r a.a f s table store why e a.soft.now,
    )
