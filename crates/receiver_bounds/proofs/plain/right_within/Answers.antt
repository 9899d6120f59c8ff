-- `receiver_bounds::plain::right_within` meets its contract. Assumes nothing.
use Rattle.receiver_bounds.proofs.Laws.{all_end, all_next}
use Rattle.laws.proofs.Size.{back, within_abs}
use lib.Dec.{leb}
use lib.IntN.{nat_abs, negsuc, pos}
use lib.ListN.{get_or, length}
use lib.Signed.{le_z}
use mathlib.Core.Bool.{◌&&◌}
use mathlib.Core.Path.{◌∙◌, ◌≡◌, refl, sym}
use mir.Syntax.{w64}
use mir.Val.{of_z, to_z}
use native.Mathlib.Omega.{arith}
use Rattle.receiver_bounds.proofs.plain.right_within.Goals as goal

pub loop-v-init : goal.loop-v-init
loop-v-init c = refl

pub loop-v-preserved : goal.loop-v-preserved
loop-v-preserved c =
    let l = c.args.p.now in
    let k = c.loop-v.v-index in
    let x = get_or l k (pos 0) in
    let u = to_z w64 (of_z w64 x) in
    let t : (le_z (negsuc 199010845458431) u && le_z u (pos 199010845458432)) ≡ leb (nat_abs x) 199010845458432 = rw (back w64 x c.v-1.given) (within_abs x 199010845458431) in
    all_next 199010845458432 l k c.loop-v.all _ (omega (arith, c.loop-v-test.true, c.told-p)) t ∙ c.loop-v.invariant

pub returns : goal.returns
returns c =
    let l = c.args.p.now in
    let e : c.loop-v.v-index ≡ length l = omega (arith, c.loop-v.auto.v-index-end, c.loop-v-test.false, c.told-p) in
    sym (all_end 199010845458432 l c.loop-v.all) ∙ rw e at c.loop-v.invariant
