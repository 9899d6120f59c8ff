-- As in `dots`, each of the four sums is that of the products so far, and grows by less than 2^23 a turn. Assumes nothing.
use Prim.Native.Nat.{◌+◌}
use Rattle.eq_fir.proofs.Bytes.{asked, none, read_sum}
use Rattle.eq_fir.proofs.Windows.{more_by, window_at_lem}
use Rattle.eq_fir.specs.Fir.{nth}
use Rattle.eq_fir.specs.Rows.{dots_of}
use mathlib.Core.Path.{◌≡◌, refl, sym}
use mir.Syntax.{w16}
use mir.Val.{SFits}
use native.Mathlib.Nat.{zero-add}
use native.Mathlib.Numerals.{add-one}
use native.Mathlib.Omega.{arith}
use Rattle.eq_fir.proofs.ranged_rows.dots_at.Goals as goal

pub loop-k-init : goal.loop-k-init
loop-k-init c = (omega arith, none _ _ 0, none _ _ 24, none _ _ 48, none _ _ 72)

pub added-a-requires : goal.added-a-requires
added-a-requires c =
    let t = c.loop-k-test.true in
    asked c.loop-k.k c.loop-k.invariant.1 t c.requires.0 (omega (arith, t)) (record { sfits = c.added-arg-1.given })

pub added-b-requires : goal.added-b-requires
added-b-requires c =
    let t = c.loop-k-test.true in
    asked (24 + c.loop-k.k) c.loop-k.invariant.2 t c.requires.0 (omega (arith, t)) (record { sfits = c.added-arg-in-loop-k-1.given })

pub added-c-requires : goal.added-c-requires
added-c-requires c =
    let t = c.loop-k-test.true in
    asked (48 + c.loop-k.k) c.loop-k.invariant.3 t c.requires.0 (omega (arith, t)) (record { sfits = c.added-arg-in-loop-k-2-1.given })

pub added-d-requires : goal.added-d-requires
added-d-requires c =
    let t = c.loop-k-test.true in
    asked (72 + c.loop-k.k) c.loop-k.invariant.4 t c.requires.0 (omega (arith, t)) (record { sfits = c.added-arg-in-loop-k-3-1.given })

pub loop-k-preserved : goal.loop-k-preserved
loop-k-preserved c =
    let t = c.loop-k-test.true in
    let u = c.requires.0 in
    let a = c.args in
    let v = nth a.l.now (a.at + c.loop-k.k) in
    let w = window_at_lem a.l.now a.at c.loop-k.k t in
    let x : SFits w16 v = record { sfits = c.x-1.given } in (
      rw (add-one c.loop-k.k) t,
      more_by v c.loop-k.k c.added-a.result w (sym (zero-add c.loop-k.k)) c.loop-k.invariant.1 t u (omega (arith, t)) x (record { sfits = c.added-arg-1.given }) c.added-a.ensures,
      more_by v (24 + c.loop-k.k) c.added-b.result w refl c.loop-k.invariant.2 t u (omega (arith, t)) x (record { sfits = c.added-arg-in-loop-k-1.given }) c.added-b.ensures,
      more_by v (48 + c.loop-k.k) c.added-c.result w refl c.loop-k.invariant.3 t u (omega (arith, t)) x (record { sfits = c.added-arg-in-loop-k-2-1.given }) c.added-c.ensures,
      more_by v (72 + c.loop-k.k) c.added-d.result w refl c.loop-k.invariant.4 t u (omega (arith, t)) x (record { sfits = c.added-arg-in-loop-k-3-1.given }) c.added-d.ensures,
    )

pub returns : goal.returns
unfolding dots_of
returns c =
    let e : c.loop-k.k ≡ 24 = omega arith in
    let l = c.loop-k.invariant.0 in
    let v = c.loop-k.invariant in
    rw ((read_sum v.1 l).is, (read_sum v.2 l).is, (read_sum v.3 l).is, (read_sum v.4 l).is, e)
