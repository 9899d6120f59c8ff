-- The rows of two words of 1 and -1 are small; the sums of products with them are the two correlations; and how large those are.
-- Assumes nothing.
use mathlib.Core.Path.{◌≡◌, refl, ap, ◌∙◌}
use mathlib.Core.Bool.{true}
use mathlib.Core.List.{List}
use mathlib.Core.Logic.{◌⊎◌, inl, inr, ⊎_elim}
use Prim.Native.Nat.{ℕ, zero, suc, ◌+◌, ◌-◌, ◌*◌, ◌%◌, ◌^◌, ◌≤◌, ◌<◌}
use native.Mathlib.Nat.{le_refl, le_of_suc-le-suc, not-suc-le-zero, eq-or-lt_of_le, zero-add}
use native.Mathlib.Omega.{arith}
use borrow.Author.Tests.{lt-ltb, le-ltb, eq-eqb, ne_eqb, ltb-true, ltb-false, eqb-true}
use lib.Dec.{ltb, eqb}
use lib.IntN.{ℤ, pos, negsuc, nat_abs, neg_ℤ, ◌+ℤ◌, ◌-ℤ◌, ◌*ℤ◌, +ℤ_assoc, +ℤ_comm, one, *ℤ-one, *ℤ-negsuc}
use lib.ListN.{length, length-set, length-replicate}
use lib.Seq.{get_or-set_same, get_or-set_other}
use mir.Syntax.{w32}
use mir.Val.{SFits}
use Rattle.laws.specs.Choice.{if_yes, if_no}
use Rattle.laws.proofs.Linear.{up, dn, sum_ud, dif_ud, neg_ud, size_ud}
use Rattle.laws.proofs.Product.{mul_neg}
use Rattle.laws.proofs.Size.{abs≤, abs_add, abs_neg}
use Rattle.laws.proofs.Tests.{and_both, if_either}
use Rattle.fx.specs.Fx.{mag_approx}
use Rattle.sync_corr.specs.declared.Both.{Both}
use Rattle.sync_corr.specs.Correlate.{at, corr_re, corr_im, corr, both_of, size_of, ones_to, ones_of}
use Rattle.sync_corr.specs.Rows.{turned_at, row_at, rows_to, rows_of, SmallRows, dot_to, dots_of}

-- ---- entries of the rows
rows_length : (f s : List ℤ) (n : ℕ) → length (rows_to f s n) ≡ 192
unfolding rows_to
rows_length f s zero = length-replicate {A = ℤ} 192 (pos 0)
rows_length f s (suc n) = length-set (rows_to f s n) n (row_at f s n) ∙ rows_length f s n

pub rows_at : (f s : List ℤ) (n j : ℕ) → j < n → n ≤ 192 → at (rows_to f s n) j ≡ row_at f s j
unfolding rows_to at
rows_at f s zero j l m = absurd (not-suc-le-zero l)
rows_at f s (suc n) j l m =
    ⊎_elim
    (λ (e : j ≡ n). rw e (get_or-set_same (rows_to f s n) n (row_at f s n) (pos 0) (rw rows_length m)))
    (λ (k : j < n). get_or-set_other (rows_to f s n) n j (row_at f s n) (pos 0) (omega arith) ∙ rows_at f s n j k (omega arith))
    (eq-or-lt_of_le (le_of_suc-le-suc l))

row_1 : (f s : List ℤ) (j : ℕ) → j < 48 → row_at f s (0 + j) ≡ at f j
unfolding row_at
row_1 f s j h = rw (zero-add j, if_yes _ _ _ (lt-ltb j 48 h))

row_2 : (f s : List ℤ) (j : ℕ) → j < 48 → row_at f s (48 + j) ≡ turned_at f j
unfolding row_at
row_2 f s j h =
    let e : 48 + j - 48 ≡ j = omega arith in
    rw (if_no _ _ _ (le-ltb (48 + j) 48 (omega arith)), if_yes _ _ _ (lt-ltb (48 + j) 96 (omega arith)), e)

row_3 : (f s : List ℤ) (j : ℕ) → j < 48 → row_at f s (96 + j) ≡ at s j
unfolding row_at
row_3 f s j h =
    let e : 96 + j - 96 ≡ j = omega arith in
    rw (
      if_no _ _ _ (le-ltb (96 + j) 48 (omega arith)),
      if_no _ _ _ (le-ltb (96 + j) 96 (omega arith)),
      if_yes _ _ _ (lt-ltb (96 + j) 144 (omega arith)),
      e,
    )

row_4 : (f s : List ℤ) (j : ℕ) → j < 48 → row_at f s (144 + j) ≡ turned_at s j
unfolding row_at
row_4 f s j h =
    let e : 144 + j - 144 ≡ j = omega arith in
    rw (
      if_no _ _ _ (le-ltb (144 + j) 48 (omega arith)),
      if_no _ _ _ (le-ltb (144 + j) 96 (omega arith)),
      if_no _ _ _ (le-ltb (144 + j) 144 (omega arith)),
      e,
    )

turned-even : (w : List ℤ) (k : ℕ) → turned_at w (2 * k) ≡ neg_ℤ (at w (2 * k + 1))
unfolding turned_at
turned-even w k = if_yes _ _ _ (eq-eqb (2 * k % 2) 0 (omega arith))

turned_odd : (w : List ℤ) (k : ℕ) → turned_at w (2 * k + 1) ≡ at w (2 * k)
unfolding turned_at
turned_odd w k =
    let e : 2 * k + 1 - 1 ≡ 2 * k = omega arith in
    rw (if_no _ _ _ (ne_eqb ((2 * k + 1) % 2) 0 (λ z. omega arith)), e)

-- ---- rows of words of 1 and -1 are small
ones-at : (w : List ℤ) (n j : ℕ) → ones_to w n ≡ true → j < n → nat_abs (at w j) ≡ 1
unfolding ones_to
ones-at w zero j e l = absurd (not-suc-le-zero l)
ones-at w (suc n) j e l =
    let p = and_both (ones_to w n) (eqb (nat_abs (at w n)) 1) e in
    ⊎_elim
    (λ (i : j ≡ n). rw i (eqb-true (nat_abs (at w n)) 1 p.1))
    (λ (k : j < n). ones-at w n j p.0 k)
    (eq-or-lt_of_le (le_of_suc-le-suc l))

pub one_at : (w : List ℤ) → ones_of w ≡ true → (j : ℕ) → j < 48 → nat_abs (at w j) ≡ 1
unfolding ones_of
one_at w e j l = ones-at w 48 j e l

turned_unit : (w : List ℤ) → ones_of w ≡ true → (j : ℕ) → j < 48 → nat_abs (turned_at w j) ≤ 1
unfolding turned_at
turned_unit w e j h =
    if_either (λ (z : ℤ). nat_abs z ≤ 1) (eqb (j % 2) 0) (neg_ℤ (at w (j + 1))) (at w (j - 1))
    (λ t. let i = eqb-true (j % 2) 0 t in rw (abs_neg (at w (j + 1))) (omega (arith, one_at w e (j + 1) (omega arith))))
    (λ t. omega (arith, one_at w e (j - 1) (omega arith)))

row_unit : (f s : List ℤ) → ones_of f ≡ true → ones_of s ≡ true → (j : ℕ) → j < 192 → nat_abs (row_at f s j) ≤ 1
unfolding row_at
row_unit f s ef es j h =
    if_either Small (ltb j 48) _ _
    (λ a. omega (arith, one_at f ef j (ltb-true j 48 a)))
    (λ a.
    let a' = ltb-false j 48 a in
    if_either Small (ltb j 96) _ _
    (λ b. let b' = ltb-true j 96 b in turned_unit f ef (j - 48) (omega arith))
    (λ b.
    let b' = ltb-false j 96 b in
    if_either Small (ltb j 144) _ _
    (λ d. let d' = ltb-true j 144 d in omega (arith, one_at s es (j - 96) (omega arith)))
    (λ d. let d' = ltb-false j 144 d in turned_unit s es (j - 144) (omega arith))))
  where
    Small : ℤ → Type 0
    Small z = nat_abs z ≤ 1

pub rows_small : (f s : List ℤ) → ones_of f ≡ true → ones_of s ≡ true → SmallRows (rows_of f s)
unfolding rows_of
rows_small f s ef es = record { small = λ j l. rw (rows_at f s 192 j l (le_refl 192)) (row_unit f s ef es j l) }

-- ---- the sums of products are the correlations
-- a row with a word's entries: the sum over 2 n numbers is the real part over n symbols
dot_re : (r l w : List ℤ) (b : ℕ) → ((j : ℕ) → j < 48 → at l (b + j) ≡ at w j) → (n : ℕ) → n ≤ 24 → dot_to r l b (2 * n) ≡ corr_re r w n
unfolding dot_to corr_re
dot_re r l w b h zero m = refl
dot_re r l w b h (suc n) m =
    let e : 2 * suc n ≡ suc (suc (2 * n)) = omega arith in
    let e1 : suc (2 * n) ≡ 2 * n + 1 = omega arith in
    rw (e, e1, h (2 * n) (omega arith), h (2 * n + 1) (omega arith), dot_re r l w b h n (omega arith))
    (+ℤ_assoc (corr_re r w n) (at r (2 * n) *ℤ at w (2 * n)) (at r (2 * n + 1) *ℤ at w (2 * n + 1)))

-- a turned row: the imaginary part
dot_im : (r l w : List ℤ) (b : ℕ) → ((j : ℕ) → j < 48 → at l (b + j) ≡ turned_at w j) → (n : ℕ) → n ≤ 24 → dot_to r l b (2 * n) ≡ corr_im r w n
unfolding dot_to corr_im
dot_im r l w b h zero m = refl
dot_im r l w b h (suc n) m =
    let e : 2 * suc n ≡ suc (suc (2 * n)) = omega arith in
    let e1 : suc (2 * n) ≡ 2 * n + 1 = omega arith in
    let x = at r (2 * n) *ℤ at w (2 * n + 1) in
    let y = at r (2 * n + 1) *ℤ at w (2 * n) in
    rw (
      e,
      e1,
      h (2 * n) (omega arith),
      h (2 * n + 1) (omega arith),
      turned-even w n,
      turned_odd w n,
      mul_neg (at r (2 * n)) (at w (2 * n + 1)),
      dot_im r l w b h n (omega arith),
    )
    (+ℤ_assoc (corr_im r w n) (neg_ℤ x) y ∙ ap (λ (z : ℤ). corr_im r w n +ℤ z) (+ℤ_comm (neg_ℤ x) y))

pub dots_both : (win f s : List ℤ) → dots_of win (rows_of f s) ≡ both_of win f s
unfolding dots_of rows_of both_of corr
dots_both win f s =
    let l = rows_to f s 192 in
    let here : (j : ℕ) → j < 192 → at l j ≡ row_at f s j = λ j k. rows_at f s 192 j k (le_refl 192) in
    rw (
      dot_re win l f 0 (λ j h. here (0 + j) (omega arith) ∙ row_1 f s j h) 24 (le_refl 24),
      dot_im win l f 48 (λ j h. here (48 + j) (omega arith) ∙ row_2 f s j h) 24 (le_refl 24),
      dot_re win l s 96 (λ j h. here (96 + j) (omega arith) ∙ row_3 f s j h) 24 (le_refl 24),
      dot_im win l s 144 (λ j h. here (144 + j) (omega arith) ∙ row_4 f s j h) 24 (le_refl 24),
    )

-- ---- how large
far : (x y : ℤ) (m : ℕ) → (up x + up y ≤ dn x + dn y + m) × (up x + dn y ≤ dn x + up y + m) × (dn x + up y ≤ up x + dn y + m) × (dn x + dn y ≤ up x + up y + m) →
    nat_abs x + nat_abs y ≤ m
far (pos a) (pos c) m h = omega arith
far (pos a) (negsuc c) m h = omega arith
far (negsuc a) (pos c) m h = omega arith
far (negsuc a) (negsuc c) m h = omega arith

-- a number of size 1 keeps or turns the sign of all
abbrev Sign : ℤ → Type 0
Sign u = ((x : ℤ) → x *ℤ u ≡ x) ⊎ ((x : ℤ) → x *ℤ u ≡ neg_ℤ x)

sign : (u : ℤ) → nat_abs u ≡ 1 → Sign u
unfolding one
sign (pos a) h = inl (λ x. rw h (*ℤ-one x))
sign (negsuc a) h = let e : a ≡ 0 = omega arith in inr (λ x. rw e (*ℤ-negsuc x 0 ∙ ap neg_ℤ (*ℤ-one x)))

-- both parts of one symbol: the sum and the difference of its numbers, in some order and with some signs
symbol : (p q u v : ℤ) (b : ℕ) → Sign u → Sign v → nat_abs p ≤ b → nat_abs q ≤ b →
    nat_abs ((p *ℤ u) +ℤ (q *ℤ v)) + nat_abs ((q *ℤ u) -ℤ (p *ℤ v)) ≤ b + b
symbol p q u v b (inl e) (inl d) hp hq =
    rw (e p, e q, d p, d q) (far (p +ℤ q) (q -ℤ p) (b + b) (omega (arith, size_ud p, size_ud q, sum_ud p q, dif_ud q p)))
symbol p q u v b (inl e) (inr d) hp hq =
    let l = neg_ℤ p in
    let m = neg_ℤ q in
    rw (e p, e q, d p, d q) (far (p +ℤ m) (q -ℤ l) (b + b) (omega (arith, size_ud p, size_ud q, neg_ud p, neg_ud q, sum_ud p m, dif_ud q l)))
symbol p q u v b (inr e) (inl d) hp hq =
    let l = neg_ℤ p in
    let m = neg_ℤ q in
    rw (e p, e q, d p, d q) (far (l +ℤ q) (m -ℤ p) (b + b) (omega (arith, size_ud p, size_ud q, neg_ud p, neg_ud q, sum_ud l q, dif_ud m p)))
symbol p q u v b (inr e) (inr d) hp hq =
    let l = neg_ℤ p in
    let m = neg_ℤ q in
    rw (e p, e q, d p, d q) (far (l +ℤ m) (m -ℤ l) (b + b) (omega (arith, size_ud p, size_ud q, neg_ud p, neg_ud q, sum_ud l m, dif_ud m l)))

both_small : (b : ℕ) (r w : List ℤ) → ((j : ℕ) → j < 48 → nat_abs (at r j) ≤ b) → ones_of w ≡ true → (n : ℕ) → n ≤ 24 →
    nat_abs (corr_re r w n) + nat_abs (corr_im r w n) ≤ n * (b + b)
unfolding corr_re corr_im
both_small b r w h e zero m = omega arith
both_small b r w h e (suc n) m =
    let p = at r (2 * n) in
    let q = at r (2 * n + 1) in
    let u = at w (2 * n) in
    let v = at w (2 * n + 1) in
    omega (
      arith,
      both_small b r w h e n (omega arith),
      abs_add (corr_re r w n) ((p *ℤ u) +ℤ (q *ℤ v)),
      abs_add (corr_im r w n) ((q *ℤ u) -ℤ (p *ℤ v)),
      symbol p q u v b (sign u (one_at w e (2 * n) (omega arith))) (sign v (one_at w e (2 * n + 1) (omega arith))) (h (2 * n) (omega arith))
          (h (2 * n + 1) (omega arith)),
    )

pub corr_small : (b : ℕ) (r w : List ℤ) → ((j : ℕ) → j < 48 → nat_abs (at r j) ≤ b) → ones_of w ≡ true →
    (nat_abs (corr r w).re ≤ 48 * b) × (nat_abs (corr r w).im ≤ 48 * b)
unfolding corr
corr_small b r w h e = let s = both_small b r w h e 24 (le_refl 24) in (omega arith, omega arith)

-- the size of a correlation is at most the sum of its parts' sizes
mag_small : (b : ℕ) (r w : List ℤ) → ((j : ℕ) → j < 48 → nat_abs (at r j) ≤ b) → ones_of w ≡ true → mag_approx (corr r w).re (corr r w).im ≤ 48 * b
unfolding mag_approx corr
mag_small b r w h e = omega (arith, both_small b r w h e 24 (le_refl 24))

pub size_small : (b : ℕ) (r f s : List ℤ) → ((j : ℕ) → j < 48 → nat_abs (at r j) ≤ b) → ones_of f ≡ true → ones_of s ≡ true → size_of (both_of r f s) ≤ 48 * b
unfolding size_of both_of
size_small b r f s h ef es = omega (arith, mag_small b r f h ef, mag_small b r s h es)

-- the size of any two numbers of 32 bits is itself one, without a sign
pub mag_bound : (x y : ℤ) → SFits w32 x → SFits w32 y → mag_approx x y < 2 ^ 32
unfolding mag_approx
mag_bound x y f g = omega (arith, abs≤ x, abs≤ y, f.sfits, g.sfits)

pub size_bound : (b : Both) → SFits w32 b.f.re → SFits w32 b.f.im → SFits w32 b.s.re → SFits w32 b.s.im → size_of b < 2 ^ 32
unfolding size_of
size_bound b fr fi sr si = omega (arith, mag_bound b.f.re b.f.im fr fi, mag_bound b.s.re b.s.im sr si)
