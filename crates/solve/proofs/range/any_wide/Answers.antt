-- `solve::range::any_wide` meets its contract. Assumes nothing.
use Rattle.std.proofs.Common.{rules, tests}
use Rattle.std.proofs.lemmas.Iterator.{YieldsList-from_slice}
use Rattle.std.proofs.lemmas.Iterator.Search.{any_from_yields_List}
use Rattle.solve.specs.Answers.{wide}
use Rattle.solve.proofs.range.any_wide.Goals as goal

pub returns : goal.returns
returns c = any_from_yields_List wide _ _ _ c.any.ensures.ran (YieldsList-from_slice c.args.l.now cc) (λ x b q k. search (rules, tests))
