-- `receiver_slot::bits::told` meets its contract. Assumes nothing.
use Rattle.std.specs.Prelude.{Option}
use Rattle.frame.specs.declared.AlignedSymbol.{AlignedSymbol}
use mathlib.Core.Path.{sym, ap, ◌∙◌}
use native.Mathlib.Omega.{arith}
use Rattle.receiver_slot.specs.Slot.{aligned_by, soft_all}
use Rattle.receiver_slot.proofs.Steps.{put_none, soft_given}
use Rattle.receiver_slot.proofs.bits.told.Goals as goal

pub symbol-requires : goal.symbol-requires
symbol-requires c =
    let a = c.args in
    let e = ap (λ (x : Option AlignedSymbol). soft_all a.p (aligned_by x)) c.in-Some.is ∙ soft_given a.p c.in-Some.a in
    (c.requires.0, rw e at c.requires.1)

pub returns-in-None : goal.returns-in-None
unfolding soft_all aligned_by
returns-in-None c =
    let a = c.args in
    rw c.in-None.is (omega arith, sym (put_none a.o a.soft.now))

pub returns-in-Some : goal.returns-in-Some
returns-in-Some c =
    let a = c.args in
    let e = ap (λ (y : Option AlignedSymbol). soft_all a.p (aligned_by y)) c.in-Some.is ∙ soft_given a.p c.in-Some.a in
    rw e c.symbol.ensures
