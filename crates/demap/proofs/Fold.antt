-- The fold law, for any number of bits: dropping the top bit keeps the least metric of either kind of each lower bit, and the halves of the
-- table are the two kinds of the bit that is dropped. Assumes nothing.
use mathlib.Core.Bool.{Bool, true}
use mathlib.Core.Path.{◌≡◌, refl, sym, ap, ap₂, ◌∙◌}
use Prim.Native.Nat.{ℕ, zero, suc, ◌+◌, ◌-◌, ◌*◌, ◌/◌, ◌%◌, ◌^◌, ◌≤◌, ◌<◌}
use native.Mathlib.Nat.{le_refl, zero-mul, one-mul, div-eq_of_lt, add-div_left, mul-add-div_right, mod-eq_of_lt, pow-suc}
use native.Mathlib.Omega.{arith}
use borrow.Author.Tests.{eq-eqb, eqb-true, ltb-true, ltb-false}
use lib.Dec.{eqb, ltb}
use lib.IntN.{ℤ, nat_abs, ◌-ℤ◌}
use lib.Pow.{pow-lt, pow_pos, pow-add, pow_mono, shl-shr}
use lib.Signed.{◌≤ℤ◌}
use Rattle.laws.proofs.Least.{min_size, min_le, min_glb, least_le, least_glb, least_ext}
use Rattle.laws.proofs.Linear.{≤ℤ_trans, antisym}
use Rattle.laws.proofs.Tests.{by_test}
use Rattle.laws.specs.Ranges.{min_z, least_of}
use Rattle.demap.specs.Demap.{every, least_metric, bit_of, least_with, gap_of}
use Rattle.demap.specs.Folds.{fold, half_gap, folded}

pub by_half : {X : Type 0} (l h : ℕ) → (l < h → X) → (h ≤ l → X) → X
by_half l h a b = by_test (ltb l h) (λ e. a (ltb-true l h e)) (λ e. b (ltb-false l h e))

-- ---- one fold: p does not look at the bit of weight h, and t0 is some label that passes it
drop_bit : (p : ℕ → Bool) (f : ℕ → ℤ) (h t0 : ℕ) → t0 < h → p t0 ≡ true → ((t : ℕ) → t < h → p (h + t) ≡ p t) →
    least_of p f (f t0) (h + h) ≡ least_of p (fold f h) (fold f h t0) h
unfolding fold
drop_bit p f h t0 t0< pt0 same =
    let g : ℕ → ℤ = λ t. min_z (f t) (f (h + t)) in
    let L = least_of p f (f t0) (h + h) in
    let R = least_of p g (g t0) h in
    let each : (t : ℕ) → t < h → p t ≡ true → L ≤ℤ g t = λ t k e.
    min_glb L (f t) (f (h + t)) (least_le p f (f t0) (h + h) t (omega arith) e) (least_le p f (f t0) (h + h) (h + t) (omega arith) (same t k ∙ e)) in
    let low : (t : ℕ) → t < h → p t ≡ true → R ≤ℤ f t = λ t k e. ≤ℤ_trans (least_le p g (g t0) h t k e) (min_le (f t) (f (h + t))).0 in
    let high : (t : ℕ) → t < h → p (h + t) ≡ true → R ≤ℤ f (h + t) = λ t k e.
    ≤ℤ_trans (least_le p g (g t0) h t k (sym (same t k) ∙ e)) (min_le (f t) (f (h + t))).1 in
    antisym
    (least_glb p g (g t0) L h (each t0 t0< pt0) each)
    (least_glb p f (f t0) R (h + h) (low t0 t0< pt0)
    (λ l k e.
    by_half l h
    (λ (q : l < h). low l q e)
    (λ (q : h ≤ l). let s : h + (l - h) ≡ l = omega arith in rw s at (high (l - h) (omega arith) (rw s e)))))

-- ---- the labels from a on, h of them, are those that pass p
half : (p : ℕ → Bool) (f : ℕ → ℤ) (h a : ℕ) → 0 < h → a ≤ h → ((t : ℕ) → t < h → p (a + t) ≡ true) →
    ((l : ℕ) → l < h + h → p l ≡ true → (a ≤ l) × (l < a + h)) →
    least_of p f (f a) (h + h) ≡ least_of every (λ (t : ℕ). f (a + t)) (f a) h
half p f h a z small is only =
    let L = least_of p f (f a) (h + h) in
    let g : ℕ → ℤ = λ t. f (a + t) in
    let R = least_of every g (f a) h in
    let e : a + 0 ≡ a = omega arith in
    let first : L ≤ℤ f a = rw e at (least_le p f (f a) (h + h) (a + 0) (omega arith) (is 0 z)) in
    let first2 : R ≤ℤ f a = rw e at (least_le every g (f a) h 0 z refl) in
    antisym
    (least_glb every g (f a) L h first (λ t k _. least_le p f (f a) (h + h) (a + t) (omega arith) (is t k)))
    (least_glb p f (f a) R (h + h) first2
    (λ l k q.
    let o = only l k q in
    let s : a + (l - a) ≡ l = omega arith in
    rw s at (least_le every g (f a) h (l - a) (omega arith) refl)))

-- ---- bits of labels
-- a bit below b does not see 2^b
bit_low : (j d t : ℕ) → bit_of j (2 ^ (suc d + j) + t) ≡ bit_of j t
bit_low j d t =
    rw (pow-add 2 (suc d) j, mul-add-div_right {m = 2 ^ j} (pow_pos j) (2 ^ suc d) t) (two (2 ^ d) (t / 2 ^ j) (2 ^ suc d) (omega (arith, pow-suc 2 d)))
  where
    two : (x y z : ℕ) → z ≡ 2 * x → (z + y) % 2 ≡ y % 2
    two x y z e = omega arith

bit_zero : (b t : ℕ) → t < 2 ^ b → bit_of b t ≡ 0
bit_zero b t h = rw (div-eq_of_lt h)

bit-one : (b t : ℕ) → t < 2 ^ b → bit_of b (2 ^ b + t) ≡ 1
bit-one b t h = rw (add-div_left t {k = 2 ^ b} (pow_pos b), div-eq_of_lt h)

pub pow2 : (b : ℕ) → 2 ^ suc b ≡ 2 ^ b + 2 ^ b
pow2 b = omega (arith, pow-suc 2 b)

-- a power of two as the code shifts it
pub shifted : (b : ℕ) → b ≤ 5 → ((1 * 2 ^ b) % 2 ^ 64 ≡ 2 ^ b) × (2 ^ b ≤ 32)
shifted b h =
    let p : 2 ^ b ≤ 2 ^ 5 = pow_mono h in
    (rw one-mul (mod-eq_of_lt (omega arith)), p)

at_most : (v x : ℕ) → v ≤ 1 → v * x ≤ x
at_most zero x h = rw (zero-mul x) (omega arith)
at_most (suc zero) x h = omega (arith, one-mul x)
at_most (suc (suc v)) x h = absurd (no v h)
  where
    no : (v : ℕ) → suc (suc v) ≤ 1 → ⊥
    no v h = omega arith

-- ---- one fold of 2^(b + 1) labels: the kinds of a lower bit, all labels, and the two kinds of the dropped bit
kept : (f : ℕ → ℤ) (b j v : ℕ) → j < b → v ≤ 1 → least_with f (2 ^ suc b) j v ≡ least_with (fold f (2 ^ b)) (2 ^ b) j v
kept f b j v h k =
    let e : suc (b - 1 - j) + j ≡ b = omega arith in
    let first : eqb (bit_of j (v * 2 ^ j)) v ≡ true = eq-eqb (bit_of j (v * 2 ^ j)) v (rw (shl-shr v j) (omega arith)) in
    rw (pow2 b)
    (drop_bit (λ (l : ℕ). eqb (bit_of j l) v) f (2 ^ b) (v * 2 ^ j) (omega (arith, at_most v (2 ^ j) k, pow-lt h)) first
    (λ t q. ap (λ (x : ℕ). eqb x v) (rw e at (bit_low j (b - 1 - j) t))))

kept-all : (f : ℕ → ℤ) (b : ℕ) → least_metric f (2 ^ suc b) ≡ least_metric (fold f (2 ^ b)) (2 ^ b)
unfolding least_metric
kept-all f b = rw (pow2 b) (drop_bit every f (2 ^ b) 0 (pow_pos b) refl (λ t q. refl))

differ : (a : ℕ) → a ≡ 0 → a ≡ 1 → ⊥
differ a h k = omega arith

halves : (f : ℕ → ℤ) (b : ℕ) → gap_of f (2 ^ suc b) b ≡ half_gap f (2 ^ b)
unfolding gap_of half_gap
halves f b =
    let h = 2 ^ b in
    let one_only : (l : ℕ) → l < h + h → eqb (bit_of b l) 1 ≡ true → (h ≤ l) × (l < h + h) = λ l k e.
    (by_half l h (λ q. absurd (differ (bit_of b l) (bit_zero b l q) (eqb-true _ _ e))) (λ q. q), k) in
    let zero-only : (l : ℕ) → l < h + h → eqb (bit_of b l) 0 ≡ true → (0 ≤ l) × (l < 0 + h) = λ l k e. (
      omega arith,
      by_half l h (λ q. omega arith)
          (λ q. let s : h + (l - h) ≡ l = omega arith in absurd (differ (bit_of b l) (eqb-true _ _ e) (rw s at (bit-one b (l - h) (omega arith))))),
    ) in
    rw (
      pow2 b,
      one-mul (2 ^ b),
      zero-mul (2 ^ b),
      half (λ (l : ℕ). eqb (bit_of b l) 1) f h h (pow_pos b) (le_refl h) (λ t k. eq-eqb _ _ (bit-one b t k)) one_only,
      half (λ (l : ℕ). eqb (bit_of b l) 0) f h 0 (pow_pos b) (omega arith) (λ t k. eq-eqb _ _ (bit_zero b (0 + t) (omega arith))) zero-only,
      least_ext every (λ (t : ℕ). f (0 + t)) f (f 0) h (λ l k. ap f (omega arith)),
    )

-- ---- d folds
none : (n : ℕ) → n - 0 ≡ n
none n = omega arith

kept-bits : (f : ℕ → ℤ) (bits d j v : ℕ) → j < bits - d → v ≤ 1 → least_with f (2 ^ bits) j v ≡ least_with (folded f bits d) (2 ^ (bits - d)) j v
unfolding folded
kept-bits f bits zero j v h k = rw (none bits)
kept-bits f bits (suc d) j v h k =
    let e : bits - d ≡ suc (bits - suc d) = omega arith in
    kept-bits f bits d j v (omega arith) k ∙ rw e (kept (folded f bits d) (bits - suc d) j v h k)

pub kept_least : (f : ℕ → ℤ) (bits d : ℕ) → d ≤ bits → least_metric f (2 ^ bits) ≡ least_metric (folded f bits d) (2 ^ (bits - d))
unfolding folded
kept_least f bits zero h = rw (none bits)
kept_least f bits (suc d) h =
    let e : bits - d ≡ suc (bits - suc d) = omega arith in
    kept_least f bits d (omega arith) ∙ rw e (kept-all (folded f bits d) (bits - suc d))

pub folded_size : (f : ℕ → ℤ) (bits d B : ℕ) → d ≤ bits → ((l : ℕ) → l < 2 ^ bits → nat_abs (f l) ≤ B) → (l : ℕ) → l < 2 ^ (bits - d) →
    nat_abs (folded f bits d l) ≤ B
unfolding folded fold
folded_size f bits zero B h k l q = k l (rw (none bits) at q)
folded_size f bits (suc d) B h k l q =
    let e : bits - d ≡ suc (bits - suc d) = omega arith in
    let g = folded_size f bits d B (omega arith) k in
    let w : 2 ^ (bits - d) ≡ 2 ^ (bits - suc d) + 2 ^ (bits - suc d) = rw e (pow2 (bits - suc d)) in
    min_size (folded f bits d l) (folded f bits d (2 ^ (bits - suc d) + l)) B (g l (omega arith)) (g (2 ^ (bits - suc d) + l) (omega arith))

-- THE LAW: with the bits above b dropped, the halves of the table are the two kinds of bit b
pub bit_law : (f : ℕ → ℤ) (bits b : ℕ) → b < bits → gap_of f (2 ^ bits) b ≡ half_gap (folded f bits (bits - suc b)) (2 ^ b)
unfolding gap_of
bit_law f bits b h =
    let d = bits - suc b in
    let e : bits - d ≡ suc b = omega arith in
    ap₂ ◌-ℤ◌ (kept-bits f bits d b 1 (omega arith) (omega arith)) (kept-bits f bits d b 0 (omega arith) (omega arith))
    ∙ rw e (halves (folded f bits d) b)

-- ---- metrics that agree on the labels
pub half_gap_ext : (f g : ℕ → ℤ) (h : ℕ) → 0 < h → ((l : ℕ) → l < h + h → f l ≡ g l) → half_gap f h ≡ half_gap g h
unfolding half_gap
half_gap_ext f g h z e =
    rw (
      e h (omega arith),
      e 0 (omega arith),
      least_ext every (λ (t : ℕ). f (h + t)) (λ (t : ℕ). g (h + t)) (g h) h (λ l k. e (h + l) (omega arith)),
      least_ext every f g (g 0) h (λ l k. e l (omega arith)),
    )

pub least_metric_ext : (f g : ℕ → ℤ) (n : ℕ) → 0 < n → ((l : ℕ) → l < n → f l ≡ g l) → least_metric f n ≡ least_metric g n
unfolding least_metric
least_metric_ext f g n z h = rw (h 0 z) (least_ext every f g (g 0) n h)

pub gap_ext : (f g : ℕ → ℤ) (n b : ℕ) → 0 < n → 2 ^ b < n → ((l : ℕ) → l < n → f l ≡ g l) → gap_of f n b ≡ gap_of g n b
unfolding gap_of
gap_ext f g n b z p h =
    rw (
      h (1 * 2 ^ b) (omega arith),
      h (0 * 2 ^ b) (rw zero-mul z),
      least_ext (λ (l : ℕ). eqb (bit_of b l) 1) f g (g (1 * 2 ^ b)) n h,
      least_ext (λ (l : ℕ). eqb (bit_of b l) 0) f g (g (0 * 2 ^ b)) n h,
    )
