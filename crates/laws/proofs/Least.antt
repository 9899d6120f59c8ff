-- The least value of a range: how large it is, that it is the greatest lower bound, and that it is attained. Assumes nothing.
use Rattle.std.proofs.Common.{◌≡◌, ℕ, zero, suc, ◌+◌, ◌<◌, ◌≤◌, Bool, true, false, ℤ, nat_abs, ◌≤ℤ◌, refl, ⊎_elim, le_refl, le_of_suc-le-suc, not-suc-le-zero, eq-or-lt_of_le, add-one, arith}
use lib.Signed.{lt_z, ≤ℤ_refl}
use Rattle.laws.specs.Choice.{when◌then◌else◌, if_yes, if_no}
use Rattle.laws.specs.Ranges.{min_z, least_of}
use Rattle.laws.proofs.Tests.{if_both, if_either}
use Rattle.laws.proofs.Linear.{le_ud, test_lt, test_le, ≤ℤ_trans}

-- ---- the smaller of two
pub min_size : (a b : ℤ) (B : ℕ) → nat_abs a ≤ B → nat_abs b ≤ B → nat_abs (min_z a b) ≤ B
unfolding min_z
min_size a b B h k = if_both (λ (z : ℤ). nat_abs z ≤ B) (lt_z b a) b a k h

pub min_le : (a b : ℤ) → (min_z a b ≤ℤ a) × (min_z a b ≤ℤ b)
unfolding min_z
min_le a b =
    if_either (λ (z : ℤ). (z ≤ℤ a) × (z ≤ℤ b)) (lt_z b a) b a
    (λ e. (le_ud b a (omega (arith, test_lt b a e)), ≤ℤ_refl b)) (λ e. (≤ℤ_refl a, le_ud a b (omega (arith, test_le b a e))))

pub min_glb : (z a b : ℤ) → z ≤ℤ a → z ≤ℤ b → z ≤ℤ min_z a b
unfolding min_z
min_glb z a b h k = if_both (λ (x : ℤ). z ≤ℤ x) (lt_z b a) b a k h

-- ---- a turn of a loop over the range, by the test of the number
pub least_take : (p : ℕ → Bool) (f : ℕ → ℤ) (s : ℤ) (n : ℕ) → p n ≡ true → least_of p f s (n + 1) ≡ min_z (least_of p f s n) (f n)
unfolding least_of
least_take p f s n e = rw (add-one n) (if_yes (p n) (min_z (least_of p f s n) (f n)) (least_of p f s n) e)

pub least_pass : (p : ℕ → Bool) (f : ℕ → ℤ) (s : ℤ) (n : ℕ) → p n ≡ false → least_of p f s (n + 1) ≡ least_of p f s n
unfolding least_of
least_pass p f s n e = rw (add-one n) (if_no (p n) (min_z (least_of p f s n) (f n)) (least_of p f s n) e)

-- ---- the least of the range
pub least_size : (p : ℕ → Bool) (f : ℕ → ℤ) (s : ℤ) (n B : ℕ) → nat_abs s ≤ B → ((l : ℕ) → l < n → nat_abs (f l) ≤ B) → nat_abs (least_of p f s n) ≤ B
unfolding least_of
least_size p f s zero B h k = h
least_size p f s (suc n) B h k =
    let r = least_size p f s n B h (λ l m. k l (omega arith)) in
    if_both (λ (z : ℤ). nat_abs z ≤ B) (p n) (min_z (least_of p f s n) (f n)) (least_of p f s n) (min_size (least_of p f s n) (f n) B r (k n (le_refl (suc n)))) r

-- only the values below n matter
pub least_ext : (p : ℕ → Bool) (f g : ℕ → ℤ) (s : ℤ) (n : ℕ) → ((l : ℕ) → l < n → f l ≡ g l) → least_of p f s n ≡ least_of p g s n
unfolding least_of
least_ext p f g s zero h = refl
least_ext p f g s (suc n) h = rw (least_ext p f g s n (λ l k. h l (omega arith)), h n (le_refl (suc n)))

step_le : (t : Bool) (r x : ℤ) → (when t then min_z r x else r) ≤ℤ r
step_le t r x = if_both (λ (z : ℤ). z ≤ℤ r) t (min_z r x) r (min_le r x).0 (≤ℤ_refl r)

pub least_le : (p : ℕ → Bool) (f : ℕ → ℤ) (s : ℤ) (n l : ℕ) → l < n → p l ≡ true → least_of p f s n ≤ℤ f l
unfolding least_of
least_le p f s zero l h e = absurd (not-suc-le-zero h)
least_le p f s (suc n) l h e =
    ⊎_elim
    (λ (q : l ≡ n). rw (q, if_yes (p n) (min_z (least_of p f s n) (f n)) (least_of p f s n) (rw q at e)) (min_le (least_of p f s n) (f n)).1)
    (λ (k : l < n). ≤ℤ_trans (step_le (p n) (least_of p f s n) (f n)) (least_le p f s n l k e))
    (eq-or-lt_of_le (le_of_suc-le-suc h))

pub least_glb : (p : ℕ → Bool) (f : ℕ → ℤ) (s z : ℤ) (n : ℕ) → z ≤ℤ s → ((l : ℕ) → l < n → p l ≡ true → z ≤ℤ f l) → z ≤ℤ least_of p f s n
unfolding least_of
least_glb p f s z zero h k = h
least_glb p f s z (suc n) h k =
    let r = least_glb p f s z n h (λ l m. k l (omega arith)) in
    if_either (λ (x : ℤ). z ≤ℤ x) (p n) (min_z (least_of p f s n) (f n)) (least_of p f s n) (λ e. min_glb z (least_of p f s n) (f n) r (k n (le_refl (suc n)) e)) (λ e. r)

-- a number below n that passes p, at which f is z
abbrev pub Hit : (ℕ → Bool) → (ℕ → ℤ) → ℕ → ℤ → Type 0
Hit p f n z = (l : ℕ) × (l < n) × (p l ≡ true) × (z ≡ f l)

min_hit : (p : ℕ → Bool) (f : ℕ → ℤ) (n : ℕ) (a b : ℤ) → Hit p f n a → Hit p f n b → Hit p f n (min_z a b)
unfolding min_z
min_hit p f n a b h k = if_both (Hit p f n) (lt_z b a) b a k h

pub least_hit : (p : ℕ → Bool) (f : ℕ → ℤ) (s : ℤ) (n m : ℕ) → m ≤ n → Hit p f n s → Hit p f n (least_of p f s m)
unfolding least_of
least_hit p f s n zero h k = k
least_hit p f s n (suc m) h k =
    let r = least_hit p f s n m (omega arith) k in
    if_either (Hit p f n) (p m) (min_z (least_of p f s m) (f m)) (least_of p f s m) (λ e. min_hit p f n (least_of p f s m) (f m) r (m, h, e, refl)) (λ e. r)
