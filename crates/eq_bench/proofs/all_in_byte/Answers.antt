-- `eq_bench::all_in_byte` meets its contract. Assumes nothing.
use Rattle.std.proofs.Common.{rules, tests}
use Rattle.std.proofs.lemmas.Iterator.{YieldsList-from_slice}
use Rattle.std.proofs.lemmas.Iterator.Search.{all_from_yields_List}
use Rattle.eq_bench.specs.Blocks.{in_byte}
use Rattle.eq_bench.proofs.all_in_byte.Goals as goal

pub returns : goal.returns
returns c = all_from_yields_List in_byte _ _ _ c.all.ensures.ran (YieldsList-from_slice c.args.rows.now cc) (λ x b q k. search (rules, tests))
