-- The bytes of a 16-bit number, and sums of products with bytes. Assumes nothing.
use Prim.Native.Nat.{◌+◌, ◌*◌, ◌/◌, ◌<◌, ◌^◌, ◌≤◌, suc, ℕ}
use Rattle.eq_fir.specs.Fir.{nth}
use Rattle.eq_fir.specs.Rows.{Bytes, dot_to}
use Rattle.laws.proofs.Floor.{floor_is}
use Rattle.laws.proofs.Linear.{dif_ud, eq_ud, sum_ud, ud_eq}
use Rattle.laws.proofs.Size.{Num, arg, arg_le, plus, sfits_abs, times}
use Rattle.laws.specs.Ranges.{firsts}
use lib.Dec.{lit<}
use lib.IntN.{◌+ℤ◌, ◌*ℤ◌, ◌-ℤ◌, nat_abs, negsuc, pos, ℤ}
use lib.Signed.{mag, shr_z}
use mathlib.Core.List.{List, [], ◌++◌, ◌∷◌, append_assoc}
use mathlib.Core.Logic.{⊎_elim}
use mathlib.Core.Path.{◌∙◌, ◌≡◌, refl, sym}
use mir.Facts.{to_z-of_z}
use mir.Syntax.{w16, w32}
use mir.Val.{SFits, of_z, to_z}
use native.Mathlib.Nat.{eq-or-lt_of_le, le_of_lt, le_of_suc-le-suc}
use native.Mathlib.Numerals.{add-one}
use native.Mathlib.Omega.{arith}

-- ---- the high byte, and 256 times it
pub high_small : (w : ℤ) → mag w < 2 ^ 15 → nat_abs (shr_z w 256) ≤ 128
high_small (pos a) h = omega arith
high_small (negsuc a) h = omega arith

pub high_fits : (w : ℤ) → mag w < 2 ^ 15 → SFits w16 (shr_z w 256 *ℤ pos 256)
high_fits (pos a) h = record { sfits = omega arith }
high_fits (negsuc a) h = rw whole (record { sfits = omega arith })
  where
    whole : suc (a / 256) * 256 ≡ suc (a / 256 * 256 + 255)
    whole = omega arith

-- the low byte
pub low_small : (w : ℤ) → nat_abs (w -ℤ shr_z w 256 *ℤ pos 256) ≤ 255
low_small w =
    let f = floor_is w 256 (lit< tt) in
    let q = shr_z w 256 *ℤ pos 256 in
    let e : w -ℤ q ≡ pos f.rest = eq_ud (w -ℤ q) (pos f.rest) (omega (arith, dif_ud w q, sum_ud q (pos f.rest), ud_eq f.is)) in
    rw e (omega (arith, f.below))

-- ---- what holds of all below k + 1
pub below_next : (P : ℕ → Type 0) (k : ℕ) → ((j : ℕ) → j < k → P j) → P k → (j : ℕ) → j < k + 1 → P j
below_next P k f p j h = ⊎_elim (λ (e : j ≡ k). rw e p) (λ (l : j < k). f j l) (eq-or-lt_of_le (le_of_suc-le-suc (rw (add-one k) at h)))

-- two zeros at the end of a list of values
pub two-zeros : (f : ℕ → ℤ) (n : ℕ) → f n ≡ pos 0 → f (suc n) ≡ pos 0 → firsts f n ++ (pos 0 ∷ pos 0 ∷ []) ≡ firsts f (suc (suc n))
unfolding firsts
two-zeros f n x y = rw (x, y) (sym (append_assoc (firsts f n) (pos 0 ∷ []) (pos 0 ∷ [])))

-- ---- v is the sum of the first n products with the row at b
pub record Sum (line rows : List ℤ) (b n : ℕ) (v : ℤ) : Type 0 where
  pub is : v ≡ dot_to line rows b n
  pub small : nat_abs (dot_to line rows b n) ≤ 2 ^ 23 * n

pub none : (line rows : List ℤ) (b : ℕ) → Sum line rows b 0 (pos 0)
unfolding dot_to
none line rows b = record { is = refl; small = omega arith }

pub read_sum : {line rows : List ℤ} {b n : ℕ} {v : ℤ} → Sum line rows b n v → n ≤ 24 → Num v (dot_to line rows b n) (2 ^ 23 * n)
read_sum s h = record { is = s.is; size = s.small }

pub asked : {line rows : List ℤ} {b n : ℕ} {v : ℤ} (j : ℕ) → Sum line rows b n v → n < 24 → Bytes rows → j < 96 → SFits w16 (nth rows j) →
    (nat_abs (v) ≤ 2 ^ 28) × (nat_abs (to_z w16 (of_z w16 (nth rows j))) ≤ 255)
asked j s h u k f = rw ((read_sum s (le_of_lt h)).is, to_z-of_z f) (omega (arith, s.small), u.small j k)

pub more : {line rows : List ℤ} {b n : ℕ} {v : ℤ} (j : ℕ) (r : ℤ) → j ≡ b + n → Sum line rows b n v → n < 24 → Bytes rows → j < 96 → SFits w16 (nth line n) → SFits w16 (nth rows j) →
    r ≡ v +ℤ to_z w16 (of_z w16 (nth line n)) *ℤ to_z w16 (of_z w16 (nth rows j)) → Sum line rows b (n + 1) (to_z w32 (of_z w32 r))
unfolding dot_to
more {n = n} j r i s h u k x y e =
    let next = plus (read_sum s (le_of_lt h)) (times (arg x) (arg_le 255 y (u.small j k))) in
    let f : SFits w32 r = sfits_abs w32 r (rw (e, next.is) (omega (arith, next.size))) in
    record { is = to_z-of_z f ∙ rw (e, next.is, add-one n, i); small = rw (add-one n, ← i) (omega (arith, next.size)) }
