-- `sync_corr::plain::ones` meets its contract: the bits of 1 and of -1 are those of a number of size 1. Assumes nothing.
use mathlib.Core.Bool.{Bool, true, false, ◌&&◌, ◌||◌}
use mathlib.Core.Path.{◌≡◌, refl, sym, ap₂, ◌∙◌}
use Prim.Native.Nat.{suc, ◌-◌}
use native.Mathlib.Numerals.{add-one}
use native.Mathlib.Omega.{arith}
use borrow.Author.Tests.{eqb-true, eqb-false, eq-eqb, ne_eqb}
use lib.Dec.{eqb}
use lib.IntN.{ℤ, pos, negsuc, nat_abs}
use lib.ListN.{get_or}
use mir.Syntax.{w8}
use mir.Val.{SFits, of_z}
use Rattle.laws.proofs.Tests.{by_test}
use Rattle.sync_corr.specs.Correlate.{at, ones_to, ones_of}
use Rattle.sync_corr.proofs.plain.ones.Goals as goal

or_no : (a b : Bool) → b ≡ false → (a || b) ≡ a
or_no true b e = refl
or_no false b e = e

one : (v : ℤ) → SFits w8 v → (eqb (of_z w8 v) 1 || eqb (of_z w8 v) 255) ≡ eqb (nat_abs v) 1
one (pos a) f = or_no (eqb a 1) (eqb a 255) (ne_eqb a 255 (λ e. omega (arith, f.sfits)))
one (negsuc a) f =
    rw (ne_eqb (256 - suc a) 1 (λ e. omega (arith, f.sfits)))
    (by_test (eqb (suc a) 1)
    (λ t. let e = eqb-true (suc a) 1 t in eq-eqb (256 - suc a) 255 (omega arith) ∙ sym t)
    (λ t. let e = eqb-false (suc a) 1 t in ne_eqb (256 - suc a) 255 (λ d. e (omega arith)) ∙ sym t))

pub loop-k-init : goal.loop-k-init
unfolding ones_to
loop-k-init c = (omega arith, refl)

pub loop-k-preserved : goal.loop-k-preserved
unfolding ones_to at
loop-k-preserved c =
    let v = get_or c.args.w.now c.loop-k.k (pos 0) in
    (omega arith, rw (add-one c.loop-k.k) (ap₂ ◌&&◌ c.loop-k.invariant.1 (one v (record { sfits = c.v-1.given }))))

pub returns : goal.returns
unfolding ones_of
returns c = let e : c.loop-k.k ≡ 48 = omega arith in c.loop-k.invariant.1 ∙ rw e
