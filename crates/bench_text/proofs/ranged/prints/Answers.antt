-- All three tests. Assumes nothing.
use Rattle.bench_text.specs.Bench.{prints_of}
use Rattle.bench_text.proofs.ranged.prints.Goals as goal

pub returns : goal.returns
unfolding prints_of
returns c = rw c.is_main.ensures
