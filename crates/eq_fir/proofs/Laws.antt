-- A line that a loop moves up by a symbol, and how large the sums of the filter are. Assumes nothing.
use Prim.Native.Nat.{◌+◌, ◌*◌, ◌-◌, ◌<◌, ◌^◌, ◌≤◌, suc, ℕ}
use Rattle.eq_fir.specs.Fir.{filtered, nth, term_added}
use Rattle.laws.proofs.Size.{sfits_abs}
use lib.IntN.{nat_abs, pos, ℤ, ◌+ℤ◌, ◌-ℤ◌, ◌*ℤ◌}
use lib.ListN.{get_or-append, drop, drop_of_length-le, get_or, length, set, take}
use lib.Seq.{drop-cons, get_or-take, length-take-le, set_at, take_all, take-suc}
use mathlib.Core.List.{List, [], ◌++◌, ◌∷◌, append_assoc, append-nil}
use mathlib.Core.Path.{◌∙◌, ◌≡◌, ap, refl, sym}
use mir.Facts.{to_z-of_z}
use mir.Syntax.{w16, w64}
use mir.Val.{SFits, of_z, to_z}
use native.Mathlib.Numerals.{add-one}
use native.Mathlib.Omega.{arith}

module _ {A : Type 0} where
  -- from its end down: places above k hold what stood two before them
  pub moved-start : (l : List A) (n : ℕ) → length l ≡ n + 2 → l ≡ take (n + 2) l ++ drop n (take n l)
  moved-start l n h =
      let none : drop n (take n l) ≡ [] = drop_of_length-le (take n l) {i = n} (omega (arith, length-take-le n l (omega arith))) in
      sym (rw (take_all (n + 2) l (omega arith), none) (append-nil l))

  pub moved-read : (l r : List A) (d : A) (k : ℕ) → 1 < k → k < length l → get_or (take (suc k) l ++ r) (k - 2) d ≡ get_or l (k - 2) d
  moved-read l r d k h b =
      get_or-append (take (suc k) l) r d (k - 2) (omega (arith, length-take-le (suc k) l b)) ∙ get_or-take (suc k) l (k - 2) d (omega arith)

  pub moved-step : (l : List A) (d : A) (n k : ℕ) → length l ≡ n + 2 → 1 < k → k ≤ n + 1 →
      set (take (suc k) l ++ drop (k - 1) (take n l)) k (get_or l (k - 2) d) ≡ take (suc (k - 1)) l ++ drop (k - 1 - 1) (take n l)
  moved-step l d n k h o b =
      let v = get_or l (k - 2) d in
      let few : length (take n l) ≡ n = length-take-le n l (omega arith) in
      let e : suc (k - 1) ≡ k = omega arith in
      let f : k - 1 - 1 ≡ k - 2 = omega arith in
      let g : suc (k - 2) ≡ k - 1 = omega arith in
      let x = get_or l k d in
      let rest : drop (k - 2) (take n l) ≡ v ∷ drop (k - 1) (take n l) = drop-cons (take n l) (k - 2) d (omega arith) ∙ rw (get_or-take n l (k - 2) d (omega arith), g) in
      rw (e, f, rest, take-suc l k d (omega arith))
      (ap (λ (m : List A). set m k v) (append_assoc (take k l) (x ∷ []) (drop (k - 1) (take n l))) ∙ set_at (take k l) x (drop (k - 1) (take n l)) v k (length-take-le k l (omega arith)))

  pub moved-end : (l : List A) (n : ℕ) (a b : A) → length l ≡ n + 2 → set (set (take 2 l ++ take n l) 0 a) 1 b ≡ a ∷ b ∷ take n l
  moved-end [] n a b h = absurd (no n h)
    where
      no : (n : ℕ) → 0 ≡ n + 2 → ⊥
      no n h = omega arith
  moved-end (x ∷ []) n a b h = absurd (no n h)
    where
      no : (n : ℕ) → 1 ≡ n + 2 → ⊥
      no n h = omega arith
  moved-end (x ∷ y ∷ l) n a b h = refl

-- v is a sum of n products of two parts
pub record Summed (z : ℤ) (n : ℕ) (v : ℤ) : Type 0 where
  pub is : v ≡ z
  pub small : nat_abs z ≤ 2 ^ 31 * n

pub read : {z v : ℤ} {n : ℕ} → Summed z n v → n ≤ 11 → v ≡ z
read s h = s.is

pub none_re : (taps line : List ℤ) → Summed (filtered taps line 0).re 0 (pos 0)
unfolding filtered
none_re taps line = record { is = refl; small = omega arith }

pub none_im : (taps line : List ℤ) → Summed (filtered taps line 0).im 0 (pos 0)
unfolding filtered
none_im taps line = record { is = refl; small = omega arith }

-- a number as a lent array's element gives it
abbrev pub held : ℤ → ℤ
held z = to_z w16 (of_z w16 z)

-- what a turn adds is the definition's, where the four numbers fit
pub record Four (taps line : List ℤ) (n : ℕ) : Type 0 where
  pub wr : SFits w16 (nth taps (2 * n))
  pub wi : SFits w16 (nth taps (2 * n + 1))
  pub xr : SFits w16 (nth line (2 * n))
  pub xi : SFits w16 (nth line (2 * n + 1))

pub more_re : (taps line : List ℤ) (n : ℕ) (v r : ℤ) → Four taps line n → Summed (filtered taps line n).re n v → n < 11 →
    r ≡ v +ℤ (held (nth taps (2 * n)) *ℤ held (nth line (2 * n)) -ℤ held (nth taps (2 * n + 1)) *ℤ held (nth line (2 * n + 1))) →
    nat_abs r ≤ nat_abs v + 2 ^ 31 → Summed (filtered taps line (n + 1)).re (n + 1) (to_z w64 (of_z w64 r))
unfolding filtered term_added
more_re taps line n v r f s h e k =
    let x = read s (omega arith) in
    let y : r ≡ (filtered taps line n).re +ℤ (nth taps (2 * n) *ℤ nth line (2 * n) -ℤ nth taps (2 * n + 1) *ℤ nth line (2 * n + 1)) =
    rw (to_z-of_z f.wr, to_z-of_z f.wi, to_z-of_z f.xr, to_z-of_z f.xi, x) at e in
    let z = rw x at k in
    rw (add-one n, ← y) (record { is = to_z-of_z (sfits_abs w64 r (omega (arith, z, y, s.small))); small = omega (arith, z, s.small) })

pub more_im : (taps line : List ℤ) (n : ℕ) (v r : ℤ) → Four taps line n → Summed (filtered taps line n).im n v → n < 11 →
    r ≡ v +ℤ (held (nth taps (2 * n)) *ℤ held (nth line (2 * n + 1)) +ℤ held (nth taps (2 * n + 1)) *ℤ held (nth line (2 * n))) →
    nat_abs r ≤ nat_abs v + 2 ^ 31 → Summed (filtered taps line (n + 1)).im (n + 1) (to_z w64 (of_z w64 r))
unfolding filtered term_added
more_im taps line n v r f s h e k =
    let x = read s (omega arith) in
    let y : r ≡ (filtered taps line n).im +ℤ (nth taps (2 * n) *ℤ nth line (2 * n + 1) +ℤ nth taps (2 * n + 1) *ℤ nth line (2 * n)) =
    rw (to_z-of_z f.wr, to_z-of_z f.wi, to_z-of_z f.xr, to_z-of_z f.xi, x) at e in
    let z = rw x at k in
    rw (add-one n, ← y) (record { is = to_z-of_z (sfits_abs w64 r (omega (arith, z, y, s.small))); small = omega (arith, z, s.small) })
