-- `capture::symbols` meets its contract. Assumes nothing.
use mathlib.Core.List.{List, ◌++◌}
use mathlib.Core.Path.{◌≡◌, refl, ap, ◌∙◌}
use Prim.Native.Nat.{ℕ, min}
use native.Mathlib.Omega.{arith}
use lib.IntN.{ℤ}
use lib.ListN.{length, drop}
use mir.Facts.{to_z-of_z}
use Rattle.laws.proofs.Lists.{firsts-step, length-fill}
use Rattle.laws.specs.Ranges.{firsts}
use Rattle.capture.specs.Bytes.{byte_at, signed_into}
use Rattle.capture.proofs.Laws.{firsts-signed}
use Rattle.capture.proofs.symbols.Goals as goal

pub loop-i-init : goal.loop-i-init
unfolding firsts
loop-i-init c = refl

pub bounds-out-i : goal.bounds-out-i
bounds-out-i c =
    let a = c.args in
    let n = c.min-n.ensures in
    rw (c.loop-i.invariant, length-fill (byte_at a.bytes.now) a.out.now c.loop-i.i (omega arith)) (omega arith)

pub loop-i-preserved : goal.loop-i-preserved
unfolding byte_at
loop-i-preserved c =
    let a = c.args in
    let n = c.min-n.ensures in
    rw (to_z-of_z (record { sfits = c.signed_byte.type_inv }), c.loop-i.invariant)
    (firsts-step (byte_at a.bytes.now) a.out.now c.loop-i.i c.signed_byte.result c.signed_byte.ensures (omega arith))

pub shape_of-out : goal.shape_of-out
shape_of-out c =
    let a = c.args in
    let n = c.min-n.ensures in
    rw (c.loop-i.invariant, length-fill (byte_at a.bytes.now) a.out.now c.loop-i.i (omega arith))

pub returns : goal.returns
unfolding signed_into
returns c =
    let a = c.args in
    let n = c.min-n.ensures in
    let e : c.loop-i.i ≡ min (length a.bytes.now) (length a.out.now) = omega arith in
    let m : ℕ = min (length a.bytes.now) (length a.out.now) in
    (n, (rw e at c.loop-i.invariant) ∙ ap (λ (l : List ℤ). l ++ drop m a.out.now) (firsts-signed a.bytes.now m (omega arith)))
