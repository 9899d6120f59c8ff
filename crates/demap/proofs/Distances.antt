-- The metric: from squared distances, from the products of the Rust's formula, and from twice the symbol's parts, as the code has it. Assumes
-- nothing.
use mathlib.Core.List.{List}
use mathlib.Core.Path.{◌≡◌, refl, ap, ◌∙◌}
use Prim.Native.Nat.{ℕ, ◌+◌, ◌*◌, ◌^◌, ◌≤◌}
use native.Mathlib.Omega.{arith}
use lib.IntN.{ℤ, pos, negsuc, nat_abs, ◌+ℤ◌, ◌-ℤ◌, ◌*ℤ◌, *ℤ_comm}
use lib.ListN.{get_or}
use lib.Signed.{◌≤ℤ◌}
use mir.Syntax.{w16, w64}
use mir.Val.{SFits, to_z, of_z}
use Rattle.laws.proofs.Linear.{up, dn, sum_ud, dif_ud, eq_ud, ud_eq, le_ud, size_ud}
use Rattle.laws.proofs.Product.{dist, dist_sub, twice, square}
use Rattle.laws.proofs.Size.{Num, num, at, arg, lit, plus, less, times}
use Rattle.laws.specs.Choice.{minus}
use Rattle.demap.specs.Demap.{squared_distance, metric_of, label_metric}
use Rattle.demap.specs.Folds.{by_twice, label_by_twice}

-- one axis of the squared distance, linear in its four products
axis : (s aa ba ab bb : ℤ) → s ≡ (aa -ℤ ba) -ℤ (ab -ℤ bb) → ba ≡ ab → up s + (up ab + up ab + dn aa + dn bb) ≡ dn s + (dn ab + dn ab + up aa + up bb)
axis s aa ba ab bb e f = rw (e, f) (omega (arith, dif_ud aa ab, dif_ud ab bb, dif_ud (aa -ℤ ab) (ab -ℤ bb)))

-- |p|² - 2 (yi pi + yq pq)
pub metric_parts : (yi yq pi pq : ℤ) → metric_of yi yq pi pq ≡ (pi *ℤ pi +ℤ pq *ℤ pq) -ℤ pos 2 *ℤ (yi *ℤ pi +ℤ yq *ℤ pq)
unfolding metric_of squared_distance
metric_parts yi yq pi pq =
    let s = (yi -ℤ pi) *ℤ (yi -ℤ pi) in
    let t = (yq -ℤ pq) *ℤ (yq -ℤ pq) in
    let pp = pi *ℤ pi +ℤ pq *ℤ pq in
    let yp = yi *ℤ pi +ℤ yq *ℤ pq in
    let yy = yi *ℤ yi +ℤ yq *ℤ yq in
    eq_ud ((s +ℤ t) -ℤ yy) (pp -ℤ pos 2 *ℤ yp)
    (omega (
      arith,
      axis s (yi *ℤ yi) (pi *ℤ yi) (yi *ℤ pi) (pi *ℤ pi) (square yi pi) (*ℤ_comm pi yi),
      axis t (yq *ℤ yq) (pq *ℤ yq) (yq *ℤ pq) (pq *ℤ pq) (square yq pq) (*ℤ_comm pq yq),
      sum_ud s t,
      sum_ud (pi *ℤ pi) (pq *ℤ pq),
      sum_ud (yi *ℤ pi) (yq *ℤ pq),
      sum_ud (yi *ℤ yi) (yq *ℤ yq),
      sum_ud yp yp,
      ud_eq (twice yp),
      dif_ud pp (pos 2 *ℤ yp),
      dif_ud (s +ℤ t) yy,
    ))

twice_axis : (p y : ℤ) → p *ℤ (p -ℤ pos 2 *ℤ y) ≡ p *ℤ p -ℤ (y *ℤ p +ℤ y *ℤ p)
twice_axis p y =
    *ℤ_comm p (p -ℤ pos 2 *ℤ y) ∙ dist_sub p (pos 2 *ℤ y) p
    ∙ ap (λ (z : ℤ). p *ℤ p -ℤ z) (ap (λ (z : ℤ). z *ℤ p) (twice y) ∙ dist y y p)

pub metric_twice : (yi yq pi pq : ℤ) → by_twice (pos 2 *ℤ yi) (pos 2 *ℤ yq) pi pq ≡ metric_of yi yq pi pq
unfolding by_twice
metric_twice yi yq pi pq =
    let u = yi *ℤ pi in
    let v = yq *ℤ pq in
    let a = pi *ℤ pi in
    let b = pq *ℤ pq in
    rw (metric_parts yi yq pi pq, twice_axis pi yi, twice_axis pq yq, twice (u +ℤ v))
    (eq_ud ((a -ℤ (u +ℤ u)) +ℤ (b -ℤ (v +ℤ v))) ((a +ℤ b) -ℤ ((u +ℤ v) +ℤ (u +ℤ v)))
    (omega (
      arith,
      sum_ud u u,
      sum_ud v v,
      sum_ud u v,
      sum_ud (u +ℤ v) (u +ℤ v),
      sum_ud a b,
      dif_ud a (u +ℤ u),
      dif_ud b (v +ℤ v),
      sum_ud (a -ℤ (u +ℤ u)) (b -ℤ (v +ℤ v)),
      dif_ud (a +ℤ b) ((u +ℤ v) +ℤ (u +ℤ v)),
    )))

pub label_twice : (yi yq : ℤ) (points : List ℤ) (l : ℕ) → label_by_twice (pos 2 *ℤ yi) (pos 2 *ℤ yq) points l ≡ label_metric yi yq points l
unfolding label_by_twice label_metric
label_twice yi yq points l = metric_twice yi yq (get_or points (2 * l) (pos 0)) (get_or points (2 * l + 1) (pos 0))

-- twice a part of a symbol, as the code has it
pub doubled : {y : ℤ} → SFits w16 y → Num (to_z w64 (of_z w64 (pos 2 *ℤ to_z w64 (of_z w64 (to_z w16 (of_z w16 y)))))) (pos 2 *ℤ y) 65536
doubled h = at w64 (times (lit 2) (at w64 (arg h) tt)) tt

-- ---- how large a metric of 16-bit numbers is: not below -|y|², which is 2^31 at most
square_up : (z : ℤ) → dn (z *ℤ z) ≡ 0
square_up (pos a) = refl
square_up (negsuc a) = refl

sized : (y p : ℤ) → nat_abs y ≤ 32768 → nat_abs p ≤ 32768 → nat_abs (p *ℤ (p -ℤ pos 2 *ℤ y)) ≤ 3221225472
sized y p h k = (times (num p 32768 k) (less (num p 32768 k) (times (lit 2) (num y 32768 h)))).size

pub metric_low : (yi yq pi pq : ℤ) → nat_abs yi ≤ 32768 → nat_abs yq ≤ 32768 → minus (2 ^ 31) ≤ℤ metric_of yi yq pi pq
unfolding metric_of squared_distance
metric_low yi yq pi pq h k =
    let s = (yi -ℤ pi) *ℤ (yi -ℤ pi) in
    let t = (yq -ℤ pq) *ℤ (yq -ℤ pq) in
    let y = yi *ℤ yi +ℤ yq *ℤ yq in
    let n = (plus (times (num yi 32768 h) (num yi 32768 h)) (times (num yq 32768 k) (num yq 32768 k))).size in
    le_ud (minus (2 ^ 31)) ((s +ℤ t) -ℤ y)
    (omega (arith, square_up (yi -ℤ pi), square_up (yq -ℤ pq), sum_ud s t, dif_ud (s +ℤ t) y, n, size_ud y))

pub metric_high : (yi yq pi pq : ℤ) → nat_abs yi ≤ 32768 → nat_abs yq ≤ 32768 → nat_abs pi ≤ 32768 → nat_abs pq ≤ 32768 →
    metric_of yi yq pi pq ≤ℤ pos (3 * 2 ^ 31)
unfolding by_twice
metric_high yi yq pi pq h k m n =
    let a = pi *ℤ (pi -ℤ pos 2 *ℤ yi) in
    let b = pq *ℤ (pq -ℤ pos 2 *ℤ yq) in
    rw (← (metric_twice yi yq pi pq))
    (le_ud (a +ℤ b) (pos (3 * 2 ^ 31)) (omega (arith, sum_ud a b, size_ud a, size_ud b, sized yi pi h m, sized yq pq k n)))
