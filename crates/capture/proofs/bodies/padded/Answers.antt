-- `capture::bodies::padded` meets its contract. Assumes nothing.
use mathlib.Core.List.{List, ◌++◌}
use mathlib.Core.Path.{◌≡◌, refl, ap, ◌∙◌}
use Prim.Native.Nat.{ℕ, ◌+◌, ◌*◌}
use native.Mathlib.Omega.{arith}
use lib.IntN.{ℤ, pos}
use lib.ListN.{length, length-replicate, replicate}
use mir.Facts.{to_z-of_z}
use Rattle.laws.proofs.Lists.{firsts-step, length-firsts}
use Rattle.laws.specs.Ranges.{firsts}
use Rattle.capture.specs.Bytes.{short_at}
use Rattle.capture.specs.Bodies.{points_from, padded}
use Rattle.capture.proofs.Laws.{drop_zeros}
use Rattle.capture.proofs.bodies.padded.Goals as goal

pub loop-i-init : goal.loop-i-init
unfolding firsts
loop-i-init c = refl

pub loop-i-preserved : goal.loop-i-preserved
loop-i-preserved c =
    let z : List ℤ = replicate 64 (pos 0) in
    let n : length z ≡ 64 = length-replicate 64 (pos 0) in
    rw (to_z-of_z (record { sfits = c.short.type_inv }), c.loop-i.invariant)
    (firsts-step (λ (j : ℕ). short_at c.args.bytes.now (2178 + 2 * j)) z c.loop-i.i c.short.result c.short.ensures (omega arith))

pub returns : goal.returns
unfolding padded points_from
returns c =
    let a = c.args in
    let f : ℕ → ℤ = λ (j : ℕ). short_at a.bytes.now (2178 + 2 * j) in
    let e : c.loop-i.i ≡ a.n = omega arith in
    (rw e at c.loop-i.invariant)
    ∙ rw (length-firsts f a.n) (ap (λ (l : List ℤ). firsts f a.n ++ l) (drop_zeros a.n 64 (pos 0) (omega arith)))
