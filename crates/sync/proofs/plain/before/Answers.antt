use Prim.Native.Nat.{◌+◌, ◌-◌}
use Rattle.laws.proofs.Tests.{by_test}
use borrow.Author.Tests.{le-ltb, lt-ltb, ltb-false, ltb-true}
use lib.Dec.{ltb}
use mathlib.Core.Path.{◌∙◌, sym}
use native.Mathlib.Omega.{arith}
use Rattle.sync.proofs.plain.before.Goals as goal

pub returns-then-at-base : goal.returns-then-at-base
returns-then-at-base c = sym (lt-ltb c.args.at (c.args.base + c.args.t) (omega arith))

pub returns-else-at-base : goal.returns-else-at-base
returns-else-at-base c = by_test (ltb (c.args.at - c.args.base) c.args.t) (λ e. e ∙ sym (lt-ltb c.args.at (c.args.base + c.args.t) (omega (arith, ltb-true (c.args.at - c.args.base) c.args.t e)))) (λ e. e ∙ sym (le-ltb c.args.at (c.args.base + c.args.t) (omega (arith, ltb-false (c.args.at - c.args.base) c.args.t e))))
