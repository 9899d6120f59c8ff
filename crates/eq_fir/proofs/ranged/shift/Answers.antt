-- The loop has moved the entries above k up by one symbol. Assumes nothing.
use Prim.Native.Nat.{◌-◌, ◌<◌, ◌^◌, ◌≤◌, suc, ℕ}
use Rattle.eq_fir.proofs.Laws.{moved-end, moved-read, moved-start, moved-step}
use Rattle.eq_fir.specs.Fir.{line_after}
use Rattle.laws.proofs.Size.{back}
use lib.IntN.{pos, ℤ}
use lib.ListN.{drop, get_or, set, take}
use lib.Signed.{mag}
use mathlib.Core.List.{List, ◌++◌}
use mathlib.Core.Path.{◌∙◌, ◌≡◌, ap, ap₂}
use mir.Facts.{to_z-of_z}
use mir.Syntax.{w16}
use native.Mathlib.Omega.{arith}
use Rattle.eq_fir.proofs.ranged.shift.Goals as goal

pub loop-k-init : goal.loop-k-init
loop-k-init c = (omega arith, omega arith, moved-start c.args.line.now 20 c.requires)

pub loop-k-preserved : goal.loop-k-preserved
loop-k-preserved c =
    let l = c.args.line.now in
    let L = c.loop-k in
    let k = L.k - 1 in
    let all = take 20 l in
    let v = get_or L.line (k - 2) (pos 0) in
    let s : mag v < 2 ^ 15 = search in
    let t : 1 < k = omega (arith, c.loop-k-test.true) in
    let b : k ≤ 21 = omega (arith, L.invariant.1) in
    let next : L.k ≡ suc k = omega (arith, t) in
    let rest : L.k - 2 ≡ k - 1 = omega (arith, t) in
    let i : L.line ≡ take (suc k) l ++ drop (k - 1) all = L.invariant.2 ∙ ap₂ (λ (m n : ℕ). take m l ++ drop n all) next rest in
    let x : v ≡ get_or l (k - 2) (pos 0) = ap (λ (m : List ℤ). get_or m (k - 2) (pos 0)) i ∙ moved-read l (drop (k - 1) all) (pos 0) k t (omega (arith, b, c.requires)) in
    let p : suc (k - 1) ≡ k = omega (arith, t) in
    let q : k - 1 - 1 ≡ k - 2 = omega arith in
    let e : take (suc (k - 1)) l ++ drop (k - 1 - 1) all ≡ take k l ++ drop (k - 2) all = ap₂ (λ (m n : ℕ). take m l ++ drop n all) p q in
    (omega (arith, t), omega (arith, b), rw (back w16 v s) (rw x (ap (λ (m : List ℤ). set m k (get_or l (k - 2) (pos 0))) i ∙ moved-step l (pos 0) 20 k c.requires t b ∙ e)))

pub returns : goal.returns
unfolding line_after
returns c =
    let a = c.args in
    let l = a.line.now in
    let L = c.loop-k in
    let e : L.k ≡ 2 = omega (arith, L.invariant.0, c.loop-k-test.false) in
    let g : L.line ≡ take 2 l ++ take 20 l = L.invariant.2 ∙ ap (λ (n : ℕ). take n l ++ drop (n - 2) (take 20 l)) e in
    rw (to_z-of_z c.ranges.i, to_z-of_z c.ranges.q) (ap (λ (m : List ℤ). set (set m 0 a.i) 1 a.q) g ∙ moved-end l 20 a.i a.q c.requires)
