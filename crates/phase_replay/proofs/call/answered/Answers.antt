-- `phase_replay::call::answered` meets its contract. Assumes nothing.
use native.Mathlib.Omega.{arith}
use Rattle.phase_replay.specs.Replay.{answer_of, table_of, store_of}
use Rattle.laws.specs.Choice.{if_yes, if_no}
use borrow.Author.Tests.{ne_eqb}
use mathlib.Core.Path.{◌≡◌, refl, sym, ◌∙◌}
use Rattle.phase_replay.proofs.call.answered.Goals as goal

pub returns-in-13 : goal.returns-in-13
unfolding answer_of table_of store_of
returns-in-13 c = let k = c.in-13.is in (rw (k, c.push.ensures.0), rw k (sym (if_no _ _ _ refl)), rw k (c.push.ensures.1 ∙ sym (if_yes _ _ _ refl)))

pub returns-in-14 : goal.returns-in-14
unfolding answer_of table_of store_of
returns-in-14 c = let k = c.in-14.is in (rw (k, c.four.ensures), rw k (c.set.ensures ∙ sym (if_yes _ _ _ refl)), rw k (sym (if_no _ _ _ refl ∙ if_no _ _ _ refl)))

pub returns-in-15 : goal.returns-in-15
unfolding answer_of table_of store_of
returns-in-15 c = let k = c.in-15.is in (rw (k, c.four-in-15.ensures), rw k (sym (if_no _ _ _ refl)), rw k (c.set-in-15.ensures ∙ sym (if_no _ _ _ refl ∙ if_yes _ _ _ refl)))

pub returns-in_default : goal.returns-in_default
unfolding table_of store_of
returns-in_default c =
    let push : c.args.op ≡ 13 → ⊥ = λ e. omega arith in
    let first : c.args.op ≡ 14 → ⊥ = λ e. omega arith in
    let second : c.args.op ≡ 15 → ⊥ = λ e. omega arith in
    (c.answer.ensures, sym (if_no _ _ _ (ne_eqb _ _ first)), sym (if_no _ _ _ (ne_eqb _ _ push) ∙ if_no _ _ _ (ne_eqb _ _ second)))
