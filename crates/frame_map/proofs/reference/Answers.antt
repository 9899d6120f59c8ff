-- `frame_map::reference` meets its contract. Assumes nothing.
use mathlib.Core.Path.{sym, ◌∙◌}
use Rattle.laws.proofs.Tests.{and_both}
use Rattle.laws.specs.Choice.{cases}
use Rattle.frame_map.specs.Reference.{reference_answer}
use Rattle.frame_map.proofs.reference.Goals as goal

pub reference-requires : goal.reference-requires
reference-requires c =
    let o = and_both c.ones.result c.ones-2.result c.if-not-ones.false in
    (c.if-k-ge24.false, sym c.ones.ensures ∙ o.0, sym c.ones-2.ensures ∙ o.1)

pub returns-then-not-ones : goal.returns-then-not-ones
unfolding reference_answer
returns-then-not-ones c = rw (← c.ones.ensures, ← c.ones-2.ensures) (search cases)

pub returns-then-k-ge24 : goal.returns-then-k-ge24
unfolding reference_answer
returns-then-k-ge24 c = rw (← c.ones.ensures, ← c.ones-2.ensures) (search cases)

pub returns : goal.returns
unfolding reference_answer
returns c = rw (c.reference.ensures, ← c.ones.ensures, ← c.ones-2.ensures) (search cases)
