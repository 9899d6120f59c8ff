-- `sync_corr::correlate` meets its contract: rows of a word that passed the test are small, and the sums with them are the correlation.
-- Assumes nothing.
use Rattle.std.specs.Prelude.{Ok}
use Rattle.std.proofs.Common.{◌≡◌, ◌∙◌, ap, false, rules, sym, true}
use Rattle.laws.specs.Choice.{if_yes, if_no}
use Rattle.sync_corr.specs.Correlate.{both_of, correlate_answer, ones_of}
use Rattle.sync_corr.specs.Rows.{dots_of}
use Rattle.sync_corr.specs.declared.Both.{Both}
use Rattle.sync_corr.proofs.Laws.{rows_small, dots_both}
use Rattle.sync_corr.proofs.correlate.Goals as goal

pub returns-then-not-ones : goal.returns-then-not-ones
unfolding correlate_answer
returns-then-not-ones c = let o : c.ones.result ≡ false = search rules in sym (if_no _ _ _ (sym c.ones.ensures ∙ o))

pub dots-requires : goal.dots-requires
dots-requires c =
    let w = c.args.w in
    let o : c.ones.result ≡ true = search rules in
    let e : ones_of w ≡ true = sym c.ones.ensures ∙ o in
    rw c.rows.ensures (rows_small w w e e)

pub returns : goal.returns
unfolding both_of correlate_answer
returns c =
    let r = c.args.r in
    let w = c.args.w in
    let o : c.ones.result ≡ true = search rules in
    ap (λ (b : Both). Ok b.f) (c.dots.ensures.0 ∙ ap (dots_of r) c.rows.ensures ∙ dots_both r w w) ∙ sym (if_yes _ _ _ (sym c.ones.ensures ∙ o))
