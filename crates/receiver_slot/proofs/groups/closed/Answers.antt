-- `receiver_slot::groups::closed` meets its contract: the loop has copied k numbers. Assumes nothing.
use Prim.Native.Nat.{◌+◌, ◌<◌, ◌^◌}
use lib.IntN.{pos}
use lib.ListN.{drop, get_or, length-drop, length-set}
use lib.Seq.{get_or-drop, paste-zero}
use lib.Signed.{mag}
use mathlib.Core.Path.{◌≡◌, sym, ◌∙◌}
use mir.Syntax.{w16}
use native.Mathlib.Omega.{arith}
use Rattle.laws.proofs.Size.{back}
use Rattle.receiver_slot.proofs.Ahead.{closed_is, copy_turn}
use Rattle.receiver_slot.proofs.groups.closed.Goals as goal

pub loop-k-init : goal.loop-k-init
loop-k-init c = (omega arith, paste-zero c.args.line.now 0 (drop c.args.e c.args.l.now), c.requires.0)

pub loop-k-preserved : goal.loop-k-preserved
loop-k-preserved c =
    let L = c.loop-k in
    let a = c.args in
    let t : L.k < 22 = search in
    let v = get_or a.l.now (a.e + L.k) (pos 0) in
    let s : mag v < 2 ^ 15 = search in
    let z : 0 + L.k ≡ L.k = omega arith in
    rw (back w16 v s) (
      omega (arith, t),
      rw z at (copy_turn a.line.now L.line (drop a.e a.l.now) 0 L.k v (sym (get_or-drop a.e a.l.now L.k (pos 0))) (omega (arith, t, c.requires.0))
          (omega (arith, t, c.requires.1, c.requires.2, length-drop a.e a.l.now)) L.invariant.1),
      length-set L.line L.k v ∙ L.invariant.2,
    )

pub returns : goal.returns
returns c =
    let L = c.loop-k in
    let e : L.k ≡ 22 = omega arith in
    closed_is c.args.line.now c.args.l.now L.line c.args.e c.requires.0 (rw e at L.invariant.1)
