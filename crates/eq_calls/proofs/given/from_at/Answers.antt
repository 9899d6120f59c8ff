-- `eq_calls::given::from_at` meets its contract. Assumes nothing.
use Rattle.laws.specs.Choice.{if_yes, if_no}
use mathlib.Core.Path.{sym}
use borrow.Author.Tests.{eq-eqb, ne_eqb}
use Rattle.eq_calls.specs.Given.{from_of}
use Rattle.eq_calls.proofs.given.from_at.Goals as goal

pub returns-then-p-eq0 : goal.returns-then-p-eq0
unfolding from_of
returns-then-p-eq0 c = sym (if_yes _ _ _ (eq-eqb _ _ c.if-p-eq0.true))

pub returns-else-p-eq0 : goal.returns-else-p-eq0
unfolding from_of
returns-else-p-eq0 c = rw c.of_bits.ensures (sym (if_no _ _ _ (ne_eqb _ _ c.if-p-eq0.false)))
