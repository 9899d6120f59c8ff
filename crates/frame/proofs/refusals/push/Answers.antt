-- `frame::refusals::push` meets its contract. Assumes nothing.
use mathlib.Core.Path.{sym, ◌∙◌}
use mathlib.Core.Bool.{not, ◌&&◌}
use Prim.Native.Nat.{◌<◌, ◌^◌}
use lib.Dec.{ltb}
use lib.Signed.{mag}
use mir.Syntax.{w64}
use Rattle.laws.proofs.Tests.{and_both}
use Rattle.laws.proofs.Size.{back}
use Rattle.laws.specs.Choice.{cases}
use Rattle.frame.specs.Answers.{push_refusal}
use Rattle.frame.proofs.Laws.{ranged}
use Rattle.frame.proofs.refusals.push.Goals as goal

pub joined_to-requires : goal.joined_to-requires
joined_to-requires c =
    let r = c.in_range in
    let a = c.args in
    let t = and_both (r.result && ltb a.c.j 9296) (not c.wide.result) c.if-not-in_range-c.false in
    (ranged a.b (sym r.ensures ∙ (and_both r.result (ltb a.c.j 9296) t.0).0)).last

pub returns-then-not-ones : goal.returns-then-not-ones
unfolding push_refusal
returns-then-not-ones c = rw (← c.ones.ensures, ← c.ones-2.ensures) (search cases)

pub returns-then-not-in_range-c : goal.returns-then-not-in_range-c
unfolding push_refusal
returns-then-not-in_range-c c =
    let g = c.args.c.gain in
    let m : mag g < 2 ^ 63 = search in
    rw (
      ← c.ones.ensures,
      ← c.ones-2.ensures,
      ← c.in_range.ensures,
      ← (rw (back w64 g m) at c.wide.ensures),
    )
    (search cases)

pub returns-then-c-ge4611686018427387904 : goal.returns-then-c-ge4611686018427387904
unfolding push_refusal
returns-then-c-ge4611686018427387904 c =
    let g = c.args.c.gain in
    let m : mag g < 2 ^ 63 = search in
    rw (
      ← c.ones.ensures,
      ← c.ones-2.ensures,
      ← c.in_range.ensures,
      ← (rw (back w64 g m) at c.wide.ensures),
    )
    (search cases)

pub returns-then-full : goal.returns-then-full
unfolding push_refusal
returns-then-full c =
    let g = c.args.c.gain in
    let m : mag g < 2 ^ 63 = c.struct_told-1.given.1.1.1.1.1.1.0.1 in
    rw (
      ← c.ones.ensures,
      ← c.ones-2.ensures,
      ← c.in_range.ensures,
      ← (rw (back w64 g m) at c.wide.ensures),
      ← (rw c.joined_to.ensures at c.full.ensures),
    )
    (search cases)

pub returns : goal.returns
unfolding push_refusal
returns c =
    let g = c.args.c.gain in
    let m : mag g < 2 ^ 63 = c.struct_told-1.given.1.1.1.1.1.1.0.1 in
    rw (
      ← c.ones.ensures,
      ← c.ones-2.ensures,
      ← c.in_range.ensures,
      ← (rw (back w64 g m) at c.wide.ensures),
      ← (rw c.joined_to.ensures at c.full.ensures),
    )
    (search cases)
