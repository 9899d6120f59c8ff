-- `receiver_symbol::looks::step` meets its contract. Assumes nothing.
use Rattle.receiver_symbol.proofs.Events.{step_ok}
use Rattle.receiver_symbol.specs.Parts.{EventsOk}
use Rattle.sync_corr.proofs.Laws.{dots_both, rows_small}
use Rattle.sync_heads.specs.Ready.{Smalls}
use Rattle.sync_step.specs.declared.Step.{Step}
use mathlib.Core.Path.{◌∙◌, subst, sym}
use Rattle.receiver_symbol.proofs.looks.step.Goals as goal

pub dots-b-requires : goal.dots-b-requires
dots-b-requires c =
    rw c.rows-rows.ensures (rows_small c.args.f.now c.args.s.now c.requires.1 c.requires.2)

pub returns : goal.returns
returns c =
    let a = c.args in
    let d = c.dots-b in
    let small : Smalls d.result = record { f = record { re = d.ensures.1.re; im = d.ensures.1.im }; s = record { re = d.ensures.2.re; im = d.ensures.2.im } } in (
      c.step.ensures ∙ rw (d.ensures.0, c.rows-rows.ensures, dots_both a.win.now a.f.now a.s.now),
      subst (λ (t : Step). EventsOk t.events) (sym c.step.ensures) (step_ok 9296 a.r d.result a.level c.requires.0 small),
    )
