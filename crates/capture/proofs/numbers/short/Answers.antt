-- `capture::numbers::short` meets its contract. Assumes nothing.
use mathlib.Core.Path.{refl, ap, ◌∙◌}
use Prim.Native.Nat.{ℕ, ◌+◌, ◌*◌}
use native.Mathlib.Omega.{arith}
use lib.ListN.{get_or}
use mir.Syntax.{w16}
use mir.Val.{to_z}
use Rattle.wire.proofs.Laws.{read_signed}
use Rattle.capture.specs.Bytes.{short_at}
use Rattle.capture.proofs.numbers.short.Goals as goal

pub returns : goal.returns
unfolding short_at
returns c =
    let s = c.args.bytes.now in
    let k = c.args.k in
    let low = c.type_inv.bytes k in
    let high = c.type_inv.bytes (k + 1) in
    let u : ℕ = get_or s k 0 + 256 * get_or s (k + 1) 0 in
    read_signed w16 32768 u c.from_le_bytes.result (record { fits = omega (arith, low, high) }) refl refl
    (c.from_le_bytes.ensures ∙ ap (λ (n : ℕ). to_z w16 n) (omega arith))
