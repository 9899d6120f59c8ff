-- `capture::bodies::table` meets its contract. Assumes nothing.
use mathlib.Core.List.{[], append-nil}
use mathlib.Core.Path.{◌≡◌, refl, ◌∙◌}
use Prim.Native.Nat.{ℕ, ◌+◌, ◌*◌}
use native.Mathlib.Omega.{arith}
use lib.ListN.{drop, drop_of_length-le}
use mir.Facts.{to_z-of_z}
use Rattle.laws.proofs.Lists.{firsts-step, length-fill}
use Rattle.laws.specs.Ranges.{firsts}
use Rattle.capture.specs.Bytes.{short_at}
use Rattle.capture.specs.Bodies.{table_of}
use Rattle.capture.proofs.bodies.table.Goals as goal

pub loop-i-init : goal.loop-i-init
unfolding firsts
loop-i-init c = refl

pub bounds-out-i : goal.bounds-out-i
bounds-out-i c =
    let a = c.args in
    rw (c.loop-i.invariant, length-fill (λ (j : ℕ). short_at a.bytes.now (129 + 2 * j)) a.out.now c.loop-i.i (omega arith)) (omega arith)

pub loop-i-preserved : goal.loop-i-preserved
loop-i-preserved c =
    let a = c.args in
    rw (to_z-of_z (record { sfits = c.short.type_inv }), c.loop-i.invariant)
    (firsts-step (λ (j : ℕ). short_at a.bytes.now (129 + 2 * j)) a.out.now c.loop-i.i c.short.result c.short.ensures (omega arith))

pub shape_of-out : goal.shape_of-out
shape_of-out c =
    let a = c.args in
    rw (c.loop-i.invariant, length-fill (λ (j : ℕ). short_at a.bytes.now (129 + 2 * j)) a.out.now c.loop-i.i (omega arith))

pub returns : goal.returns
unfolding table_of
returns c =
    let a = c.args in
    let e : c.loop-i.i ≡ 1024 = omega arith in
    let none : drop 1024 a.out.now ≡ [] = drop_of_length-le a.out.now {i = 1024} (omega arith) in
    (rw (e, none) at c.loop-i.invariant) ∙ append-nil (firsts (λ (j : ℕ). short_at a.bytes.now (129 + 2 * j)) 1024)
