-- `lines::put::value` meets its contract. Assumes nothing.
use mathlib.Core.List.{List}
use mathlib.Core.Path.{sym, subst, ◌∙◌}
use Prim.Native.Nat.{ℕ}
use native.Mathlib.Omega.{arith}
use mir.Facts.{to_z-of_z}
use Rattle.lines.specs.Place.{Wrote}
use Rattle.lines.proofs.Laws.{then, value_neg, value_pos}
use Rattle.lines.proofs.put.value.Goals as goal

pub returns-then-v-lt0 : goal.returns-then-v-lt0
returns-then-v-lt0 c =
    let v = c.args.v in
    let b = c.byte-a.ensures in
    let t = rw (to_z-of_z c.ranges.v) at c.if-v-lt0.true in
    let m = c.byte-b.ensures in
    let N = c.number in
    let s = rw (to_z-of_z c.ranges.v) at c.unsigned_abs.ensures.value in
    let n = rw (c.from-n.ensures, s) at N.ensures.0 in (
      subst (λ (l : List ℕ). Wrote c.args.out.now c.args.at l N.new.out N.result) (sym (value_neg v t)) (then (then b m) n),
      omega (arith, N.ensures.1, b.behind, m.behind),
    )

pub returns-else-v-lt0 : goal.returns-else-v-lt0
returns-else-v-lt0 c =
    let v = c.args.v in
    let b = c.byte-a.ensures in
    let t = rw (to_z-of_z c.ranges.v) at c.if-v-lt0.false in
    let N = c.number-else-v-lt0 in
    let s = rw (to_z-of_z c.ranges.v) at c.unsigned_abs.ensures.value in
    let n = rw (c.from-n.ensures, s) at N.ensures.0 in (
      subst (λ (l : List ℕ). Wrote c.args.out.now c.args.at l N.new.out N.result) (sym (value_pos v t)) (then b n),
      omega (arith, N.ensures.1, b.behind),
    )
