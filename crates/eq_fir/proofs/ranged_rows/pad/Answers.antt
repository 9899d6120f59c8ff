-- The loop has copied the first k numbers; the two that it leaves are zeros. Assumes nothing.
use Prim.Native.Nat.{◌<◌, ◌^◌, ℕ}
use Rattle.eq_fir.proofs.Bytes.{two-zeros}
use Rattle.eq_fir.specs.Fir.{nth}
use Rattle.eq_fir.specs.Rows.{padded}
use Rattle.laws.proofs.Lists.{firsts-step}
use Rattle.laws.proofs.Size.{back}
use Rattle.laws.specs.Ranges.{firsts}
use lib.IntN.{pos, ℤ}
use lib.ListN.{get_or-eq_default, drop, replicate, set}
use lib.Signed.{mag}
use mathlib.Core.List.{List, [], ◌++◌, ◌∷◌}
use mathlib.Core.Path.{◌∙◌, ◌≡◌, ap, refl}
use mir.Syntax.{w16}
use native.Mathlib.Omega.{arith}
use Rattle.eq_fir.proofs.ranged_rows.pad.Goals as goal

pub loop-k-init : goal.loop-k-init
unfolding firsts
loop-k-init c = (omega arith, refl)

pub loop-k-preserved : goal.loop-k-preserved
loop-k-preserved c =
    let l = c.args.l.now in
    let k = c.loop-k.k in
    let t : k < 22 = search in
    let s : mag (nth l k) < 2 ^ 15 = search in
    (omega (arith, t), rw (back w16 (nth l k) s) (ap (λ (m : List ℤ). set m k (nth l k)) c.loop-k.invariant.1 ∙ firsts-step (nth l) (replicate 24 (pos 0)) k (nth l k) refl (omega (arith, t))))

pub returns : goal.returns
unfolding padded
returns c =
    let l = c.args.l.now in
    let e : c.loop-k.k ≡ 22 = omega arith in
    let g : c.loop-k.r ≡ firsts (nth l) 22 ++ (pos 0 ∷ pos 0 ∷ []) = c.loop-k.invariant.1 ∙ ap (λ (n : ℕ). firsts (nth l) n ++ drop n (replicate 24 (pos 0))) e in
    g ∙ two-zeros (nth l) 22 (get_or-eq_default l (pos 0) (omega (arith, c.requires))) (get_or-eq_default l (pos 0) (omega (arith, c.requires)))
