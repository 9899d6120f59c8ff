-- `lines::put::values` meets its contract. Assumes nothing.
use mathlib.Core.List.{List}
use mathlib.Core.Path.{◌≡◌, subst, ◌∙◌}
use Prim.Native.Nat.{ℕ}
use native.Mathlib.Omega.{arith}
use lib.IntN.{pos}
use lib.ListN.{length, get_or}
use mir.Syntax.{w8}
use Rattle.laws.proofs.Size.{back}
use Rattle.lines.specs.Place.{Wrote}
use Rattle.lines.specs.Lines.{values_to, values_text}
use Rattle.lines.proofs.Laws.{then, nothing, values_none, values_more}
use Rattle.lines.proofs.put.values.Goals as goal

pub loop-v-init : goal.loop-v-init
loop-v-init c =
    let a = c.args in
    record { wrote = rw (values_none a.values.now) (nothing a.out.now a.at (omega arith)); room = omega arith }

pub value-to-requires : goal.value-to-requires
value-to-requires c = omega (arith, c.loop-v.auto.out, c.loop-v.invariant.room, c.requires)

pub loop-v-preserved : goal.loop-v-preserved
loop-v-preserved c =
    let a = c.args in
    let L = c.loop-v in
    let E = c.value-to in
    let v = rw (back w8 (get_or a.values.now L.v-index (pos 0)) (omega arith)) at E.ensures.0 in
    record {
      wrote = subst (λ (t : List ℕ). Wrote a.out.now a.at t E.new.out E.result) (values_more a.values.now L.v-index) (then L.invariant.wrote v);
      room = omega (arith, L.invariant.room, E.ensures.1);
    }

pub byte-requires : goal.byte-requires
byte-requires c = omega (arith, c.loop-v.auto.out, c.loop-v.invariant.room, c.requires)

pub returns : goal.returns
unfolding values_text
returns c =
    let a = c.args in
    let L = c.loop-v in
    let e : L.v-index ≡ length a.values.now = omega arith in
    then (subst (λ (n : ℕ). Wrote a.out.now a.at (values_to a.values.now n) L.out L.to) e L.invariant.wrote) c.byte.ensures
