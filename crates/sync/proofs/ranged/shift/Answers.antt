-- The loop has moved the first k entries down by one symbol. Assumes nothing.
use Prim.Native.Nat.{◌+◌, ◌<◌, ◌^◌, ℕ}
use Rattle.laws.proofs.Lists.{firsts-step}
use Rattle.laws.proofs.Size.{back}
use Rattle.laws.specs.Ranges.{firsts}
use Rattle.sync.proofs.Laws.{get_d_past, moved_down}
use Rattle.sync.specs.Sync.{window_after}
use lib.IntN.{pos, ℤ}
use lib.ListN.{drop, get_or, set}
use lib.Signed.{mag}
use mathlib.Core.List.{List, ◌++◌}
use mathlib.Core.Path.{◌∙◌, ◌≡◌, ap, refl}
use mir.Facts.{to_z-of_z}
use mir.Syntax.{w16}
use native.Mathlib.Omega.{arith}
use Rattle.sync.proofs.ranged.shift.Goals as goal

pub loop-k-init : goal.loop-k-init
unfolding firsts
loop-k-init c = (omega arith, refl)

pub loop-k-preserved : goal.loop-k-preserved
loop-k-preserved c =
    let w = c.args.win.now in
    let k = c.loop-k.k in
    let f : ℕ → ℤ = λ j. get_or w (2 + j) (pos 0) in
    let v = get_or c.loop-k.win (k + 2) (pos 0) in
    let s : mag v < 2 ^ 15 = search in
    let t : k < 46 = search in
    let e : k + 2 ≡ 2 + k = omega arith in
    let x : v ≡ f k = ap (λ (l : List ℤ). get_or l (k + 2) (pos 0)) c.loop-k.invariant.1 ∙ get_d_past f (pos 0) k w (k + 2) (omega arith) ∙ rw e in
    (omega arith, rw (back w16 v s) (ap (λ (l : List ℤ). set l k v) c.loop-k.invariant.1 ∙ firsts-step f w k v x (omega (arith, c.requires, t))))

pub returns : goal.returns
unfolding window_after
returns c =
    let a = c.args in
    let f : ℕ → ℤ = λ j. get_or a.win.now (2 + j) (pos 0) in
    let e : c.loop-k.k ≡ 46 = omega arith in
    let g : c.loop-k.win ≡ firsts f 46 ++ drop 46 a.win.now = c.loop-k.invariant.1 ∙ rw e in
    rw (to_z-of_z c.ranges.i, to_z-of_z c.ranges.q) (ap (λ (l : List ℤ). set (set l 46 a.i) 47 a.q) g ∙ moved_down a.win.now (pos 0) 46 a.i a.q c.requires)
