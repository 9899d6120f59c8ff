-- `receiver_slot::groups::opened` meets its contract: the loop has copied k numbers. Assumes nothing.
use Prim.Native.Nat.{◌+◌, ◌<◌, ◌^◌}
use lib.IntN.{pos}
use lib.ListN.{get_or, length-set, replicate}
use lib.Seq.{paste-zero}
use lib.Signed.{mag}
use mathlib.Core.Path.{◌≡◌, refl, ◌∙◌}
use mir.Syntax.{w16}
use native.Mathlib.Omega.{arith}
use Rattle.laws.proofs.Size.{back}
use Rattle.receiver_slot.proofs.Ahead.{copy_turn, opened_is}
use Rattle.receiver_slot.proofs.groups.opened.Goals as goal

pub loop-k-init : goal.loop-k-init
loop-k-init c = (omega arith, paste-zero (replicate 304 (pos 0)) 280 c.args.line.now, refl)

pub loop-k-preserved : goal.loop-k-preserved
loop-k-preserved c =
    let L = c.loop-k in
    let a = c.args in
    let t : L.k < 22 = search in
    let v = get_or a.line.now L.k (pos 0) in
    let s : mag v < 2 ^ 15 = search in
    rw (back w16 v s) (
      omega (arith, t),
      copy_turn (replicate 304 (pos 0)) L.l a.line.now 280 L.k v refl (omega (arith, t)) (omega (arith, t, c.requires)) L.invariant.1,
      length-set L.l (280 + L.k) v ∙ L.invariant.2,
    )

pub returns : goal.returns
returns c =
    let L = c.loop-k in
    let e : L.k ≡ 22 = omega arith in
    (opened_is c.args.line.now L.l c.requires (rw e at L.invariant.1), L.invariant.2)
