-- `learn::means::write` meets its contract. Assumes nothing.
use mathlib.Core.List.{List, append-nil}
use mathlib.Core.Path.{◌≡◌, refl, ◌∙◌}
use Prim.Native.Nat.{ℕ, ◌+◌}
use native.Mathlib.Nat.{le_refl}
use native.Mathlib.Omega.{arith}
use lib.IntN.{ℤ}
use lib.ListN.{length, drop_of_length-le}
use mir.Syntax.{w16, w64}
use Rattle.laws.proofs.Lists.{firsts-step, length-fill}
use Rattle.laws.proofs.Size.{back}
use Rattle.laws.specs.Ranges.{firsts}
use Rattle.learn.specs.Learning.{sum_at, mean_at}
use Rattle.learn.proofs.means.write.Goals as goal

-- the means from number s on
abbrev means : List ℤ → List ℕ → ℕ → ℕ → ℤ
means sum count s j = mean_at sum count (s + j)

pub loop-i-init : goal.loop-i-init
unfolding firsts
loop-i-init c = (omega arith, refl)

pub mean-requires : goal.mean-requires
mean-requires c =
    let i = c.loop-i.i in
    rw (back w64 (sum_at c.args.sum.now (c.args.s + i)) c.mean-arg-1.given) (c.requires.1 (c.args.s + i) (omega arith), c.requires.2 i (omega arith))

pub loop-i-preserved : goal.loop-i-preserved
unfolding mean_at
loop-i-preserved c =
    let L = c.loop-i in
    let e = rw (back w64 (sum_at c.args.sum.now (c.args.s + L.i)) c.mean-arg-1.given) at c.mean.ensures in (
      omega arith,
      rw (L.invariant.1, back w16 c.mean.result c.mean.type_inv)
          (firsts-step (means c.args.sum.now c.args.count.now c.args.s) c.args.out.now L.i c.mean.result e (omega arith)),
    )

pub shape_of-out : goal.shape_of-out
shape_of-out c =
    let L = c.loop-i in
    rw L.invariant.1 (length-fill (means c.args.sum.now c.args.count.now c.args.s) c.args.out.now L.i L.invariant.0)

pub returns : goal.returns
returns c =
    let L = c.loop-i in
    let o = c.args.out.now in
    let e : L.i ≡ length o = omega arith in
    (rw e at L.invariant.1) ∙ rw (drop_of_length-le o {i = length o} (le_refl (length o))) (append-nil (firsts (means c.args.sum.now c.args.count.now c.args.s) (length o)))
