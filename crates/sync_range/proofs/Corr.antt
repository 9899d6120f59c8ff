-- How large correlations and their size are with a window within the bounds: a symbol gives at most |I| + |Q| to a part, and twice the larger
-- of |I| and |Q| to both. Assumes nothing.
use Prim.Native.Nat.{◌*◌, ◌+◌, ◌/◌, ◌≤◌, max, min, suc, zero, ℕ}
use Rattle.fx.specs.Fx.{mag_approx}
use Rattle.laws.proofs.Linear.{dif_ud, dn, neg_ud, size_ud, sum_ud, up}
use Rattle.laws.proofs.Size.{abs_add, abs_neg, abs_sub}
use Rattle.sync_corr.proofs.Laws.{one_at}
use Rattle.sync_corr.specs.Correlate.{both_of, corr, corr_im, corr_re, ones_of, size_of}
use Rattle.sync_corr.specs.Rows.{Bounded}
use Rattle.sync_corr.specs.declared.Both.{Both}
use Rattle.sync_range.specs.Coherent.{Bound, WindowFits, corr_most, size_most}
use lib.IntN.{*ℤ-negsuc, *ℤ-one, ◌*ℤ◌, ◌+ℤ◌, ◌-ℤ◌, nat_abs, negsuc, neg_ℤ, pos, ℤ}
use mathlib.Core.Bool.{true}
use mathlib.Core.List.{List}
use mathlib.Core.Logic.{◌⊎◌, inl, inr}
use mathlib.Core.Path.{◌∙◌, ◌≡◌, ap}
use native.Mathlib.Nat.{le_refl}
use native.Mathlib.Omega.{arith}
use Rattle.sync_corr.specs.Correlate.{at}
use lib.IntN.{one}

-- ---- one symbol
-- a number of size 1 keeps or turns the sign of all
abbrev Sign : ℤ → Type 0
Sign u = ((x : ℤ) → x *ℤ u ≡ x) ⊎ ((x : ℤ) → x *ℤ u ≡ neg_ℤ x)

sign : (u : ℤ) → nat_abs u ≡ 1 → Sign u
unfolding one
sign (pos a) h = inl (λ x. rw h (*ℤ-one x))
sign (negsuc a) h = let e : a ≡ 0 = omega arith in inr (λ x. rw e (*ℤ-negsuc x 0 ∙ ap neg_ℤ (*ℤ-one x)))

-- a product with it is of the same size
sign_size : (x u : ℤ) → Sign u → nat_abs (x *ℤ u) ≡ nat_abs x
sign_size x u (inl e) = rw (e x)
sign_size x u (inr e) = rw (e x) (abs_neg x)

far : (x y : ℤ) (m : ℕ) →
    (up x + up y ≤ dn x + dn y + m) × (up x + dn y ≤ dn x + up y + m) × (dn x + up y ≤ up x + dn y + m) × (dn x + dn y ≤ up x + up y + m) →
    nat_abs x + nat_abs y ≤ m
far (pos a) (pos c) m h = omega arith
far (pos a) (negsuc c) m h = omega arith
far (negsuc a) (pos c) m h = omega arith
far (negsuc a) (negsuc c) m h = omega arith

-- both parts of one symbol: the sum and the difference of its numbers, in some order and with some signs
symbol : (p q u v : ℤ) (m : ℕ) → Sign u → Sign v → nat_abs p ≤ m → nat_abs q ≤ m → nat_abs ((p *ℤ u) +ℤ (q *ℤ v)) + nat_abs ((q *ℤ u) -ℤ (p *ℤ v)) ≤ m + m
symbol p q u v m (inl e) (inl d) hp hq = rw (e p, e q, d p, d q) (far (p +ℤ q) (q -ℤ p) (m + m) (omega (arith, size_ud p, size_ud q, sum_ud p q, dif_ud q p)))
symbol p q u v m (inl e) (inr d) hp hq =
    let l = neg_ℤ p in
    let k = neg_ℤ q in
    rw (e p, e q, d p, d q) (far (p +ℤ k) (q -ℤ l) (m + m) (omega (arith, size_ud p, size_ud q, neg_ud p, neg_ud q, sum_ud p k, dif_ud q l)))
symbol p q u v m (inr e) (inl d) hp hq =
    let l = neg_ℤ p in
    let k = neg_ℤ q in
    rw (e p, e q, d p, d q) (far (l +ℤ q) (k -ℤ p) (m + m) (omega (arith, size_ud p, size_ud q, neg_ud p, neg_ud q, sum_ud l q, dif_ud k p)))
symbol p q u v m (inr e) (inr d) hp hq =
    let l = neg_ℤ p in
    let k = neg_ℤ q in
    rw (e p, e q, d p, d q) (far (l +ℤ k) (k -ℤ l) (m + m) (omega (arith, size_ud p, size_ud q, neg_ud p, neg_ud q, sum_ud l k, dif_ud k l)))

-- ---- n symbols
re_small : (b : Bound) (r w : List ℤ) → WindowFits b r → ones_of w ≡ true → (n : ℕ) → n ≤ 24 → nat_abs (corr_re r w n) ≤ n * b.sum
unfolding corr_re
re_small b r w h e zero m = omega arith
re_small b r w h e (suc n) m =
    let x = at r (2 * n) *ℤ at w (2 * n) in
    let y = at r (2 * n + 1) *ℤ at w (2 * n + 1) in
    omega (
      arith,
      re_small b r w h e n (omega arith),
      abs_add (corr_re r w n) (x +ℤ y),
      abs_add x y,
      sign_size (at r (2 * n)) (at w (2 * n)) (sign (at w (2 * n)) (one_at w e (2 * n) (omega arith))),
      sign_size (at r (2 * n + 1)) (at w (2 * n + 1)) (sign (at w (2 * n + 1)) (one_at w e (2 * n + 1) (omega arith))),
      h.close n (omega arith),
    )

im_small : (b : Bound) (r w : List ℤ) → WindowFits b r → ones_of w ≡ true → (n : ℕ) → n ≤ 24 → nat_abs (corr_im r w n) ≤ n * b.sum
unfolding corr_im
im_small b r w h e zero m = omega arith
im_small b r w h e (suc n) m =
    let x = at r (2 * n + 1) *ℤ at w (2 * n) in
    let y = at r (2 * n) *ℤ at w (2 * n + 1) in
    omega (
      arith,
      im_small b r w h e n (omega arith),
      abs_add (corr_im r w n) (x -ℤ y),
      abs_sub x y,
      sign_size (at r (2 * n + 1)) (at w (2 * n)) (sign (at w (2 * n)) (one_at w e (2 * n) (omega arith))),
      sign_size (at r (2 * n)) (at w (2 * n + 1)) (sign (at w (2 * n + 1)) (one_at w e (2 * n + 1) (omega arith))),
      h.close n (omega arith),
    )

both_small : (b : Bound) (r w : List ℤ) → WindowFits b r → ones_of w ≡ true → (n : ℕ) → n ≤ 24 →
    nat_abs (corr_re r w n) + nat_abs (corr_im r w n) ≤ n * (b.part + b.part)
unfolding corr_re corr_im
both_small b r w h e zero m = omega arith
both_small b r w h e (suc n) m =
    let p = at r (2 * n) in
    let q = at r (2 * n + 1) in
    let u = at w (2 * n) in
    let v = at w (2 * n + 1) in
    omega (
      arith,
      both_small b r w h e n (omega arith),
      abs_add (corr_re r w n) ((p *ℤ u) +ℤ (q *ℤ v)),
      abs_add (corr_im r w n) ((q *ℤ u) -ℤ (p *ℤ v)),
      symbol p q u v b.part (sign u (one_at w e (2 * n) (omega arith))) (sign v (one_at w e (2 * n + 1) (omega arith))) (h.small (2 * n) (omega arith))
          (h.small (2 * n + 1) (omega arith)),
    )

-- ---- 24 of them, with both words
corr_fits : (b : Bound) (r w : List ℤ) → WindowFits b r → ones_of w ≡ true → Bounded (corr_most b) (corr r w)
unfolding corr
corr_fits b r w h e = record { re = re_small b r w h e 24 (le_refl 24); im = im_small b r w h e 24 (le_refl 24) }

mag_small : (x y c m : ℕ) → x ≤ 24 * c → y ≤ 24 * c → x + y ≤ 24 * (m + m) → max x y + min x y / 2 ≤ 24 * m + 12 * c
mag_small x y c m h k l = omega arith

mag_fits : (b : Bound) (r w : List ℤ) → WindowFits b r → ones_of w ≡ true → mag_approx (corr r w).re (corr r w).im ≤ size_most b
unfolding mag_approx corr
mag_fits b r w h e =
    mag_small (nat_abs (corr_re r w 24)) (nat_abs (corr_im r w 24)) b.sum b.part (re_small b r w h e 24 (le_refl 24)) (im_small b r w h e 24 (le_refl 24))
    (both_small b r w h e 24 (le_refl 24))

pub record BothFits (b : Bound) (x : Both) : Type 0 where
  pub f : Bounded (corr_most b) x.f
  pub s : Bounded (corr_most b) x.s
  pub size : size_of x ≤ size_most b

pub both_fits : (b : Bound) (win f s : List ℤ) → WindowFits b win → ones_of f ≡ true → ones_of s ≡ true → BothFits b (both_of win f s)
unfolding both_of size_of
both_fits b win f s h ef es =
    record {
      f = corr_fits b win f h ef;
      s = corr_fits b win s h es;
      size = omega (arith, mag_fits b win f h ef, mag_fits b win s h es);
    }
