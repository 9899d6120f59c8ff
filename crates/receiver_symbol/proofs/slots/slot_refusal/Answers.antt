-- `receiver_symbol::slots::slot_refusal` meets its contract. Assumes nothing.
use Prim.Native.Nat.{◌+◌, ◌^◌}
use Rattle.laws.specs.Choice.{if_no, if_yes}
use Rattle.receiver_symbol.specs.Parts.{slot_refusal}
use borrow.Author.Tests.{le-ltb, lt-ltb}
use mathlib.Core.Path.{◌∙◌, sym}
use native.Mathlib.Omega.{arith}
use Rattle.receiver_symbol.proofs.slots.slot_refusal.Goals as goal

pub returns-then-at-gt4611686018427378608 : goal.returns-then-at-gt4611686018427378608
unfolding slot_refusal
returns-then-at-gt4611686018427378608 c =
    let at = c.args.at in
    sym (if_yes _ _ _ (lt-ltb (2 ^ 62) (at + 9296) (omega (arith, c.if-at-gt4611686018427378608.true))))

pub returns-then-full : goal.returns-then-full
unfolding slot_refusal
returns-then-full c =
    let at = c.args.at in
    rw (← c.full.ensures) (sym (if_no _ _ _ (le-ltb (2 ^ 62) (at + 9296) (omega (arith, c.if-at-gt4611686018427378608.false))) ∙ if_yes _ _ _ c.if-full.true))

pub returns : goal.returns
unfolding slot_refusal
returns c =
    let at = c.args.at in
    rw (← c.full.ensures) (sym (if_no _ _ _ (le-ltb (2 ^ 62) (at + 9296) (omega (arith, c.if-at-gt4611686018427378608.false))) ∙ if_no _ _ _ c.if-full.false))
