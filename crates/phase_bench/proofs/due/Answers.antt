-- `phase_bench::due` meets its contract. Assumes nothing.
use Rattle.std.specs.Prelude.{Option}
use mathlib.Core.Path.{◌≡◌, refl, sym, ap, subst, ◌∙◌}
use Prim.Native.Nat.{ℕ}
use lib.IntN.{ℤ}
use mir.Facts.{to_z-of_z}
use Rattle.phase.specs.Answers.{headed_due}
use Rattle.phase.specs.declared.WholeSlot.{WholeSlot}
use Rattle.phase_bench.proofs.Laws.{due_ok, at_zero}
use Rattle.phase_bench.specs.Slots.{head_of, due_between, DueOk}
use Rattle.phase_bench.proofs.due.Goals as goal

-- what the head's answer shows is the slot between the two, which has what it needs
told : (theta next : ℕ) (amp last : ℤ) (d : Option WholeSlot) → d ≡ due_between theta amp next last → (d ≡ due_between theta amp next last) × DueOk d
unfolding due_between
told theta next amp last d e = (e, subst DueOk (sym e) (due_ok (head_of 0 theta amp) (head_of 9296 next last) (at_zero theta amp)))

pub returns-in-Ok : goal.returns-in-Ok
unfolding due_between
returns-in-Ok c =
    let a = c.args in
    let e = rw (c.head_of.ensures, c.head_of-2.ensures, to_z-of_z c.ranges.amp, to_z-of_z c.ranges.last) at c.head.ensures in
    told a.theta a.next a.amp a.last _ (ap headed_due (sym c.in-Ok.is ∙ e))

pub returns-in-Err : goal.returns-in-Err
unfolding due_between
returns-in-Err c =
    let a = c.args in
    let e = rw (c.head_of.ensures, c.head_of-2.ensures, to_z-of_z c.ranges.amp, to_z-of_z c.ranges.last) at c.head.ensures in
    told a.theta a.next a.amp a.last _ (ap headed_due (sym c.in-Err.is ∙ e))
