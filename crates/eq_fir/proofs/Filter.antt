-- The filter by rows is the filter. Assumes nothing.
use Prim.Native.Nat.{◌+◌, ◌*◌, ◌-◌, ◌/◌, ◌%◌, ◌<◌, ◌≤◌, suc, zero, ℕ}
use Rattle.eq_fir.specs.Fir.{filtered, nth, output_of, term_added}
use Rattle.eq_fir.specs.Rows.{byte_of, dot_to, dots_of, factor_at, finished_of, output_by, padded, rows_of}
use Rattle.laws.proofs.Linear.{dif_ud, eq_ud, sum_ud}
use Rattle.laws.proofs.Lists.{getD-firsts}
use Rattle.laws.proofs.Product.{dist, neg_mul}
use Rattle.laws.specs.Choice.{if_no, if_yes}
use Rattle.laws.specs.Ranges.{firsts}
use borrow.Author.Tests.{eq-eqb, le-leb, lt-leb, ne_eqb}
use lib.Dec.{eqb, leb}
use lib.IntN.{*ℤ_comm, *ℤ-zero, +ℤ_idr, ◌+ℤ◌, ◌*ℤ◌, ◌-ℤ◌, neg_ℤ, neg_ℤ-+ℤ, pos, suc_ℤ-*ℤ, zero-*ℤ, ℤ}
use lib.ListN.{get_or-eq_default, length}
use lib.Signed.{shr_z}
use mathlib.Core.Bool.{Bool, false, true}
use mathlib.Core.List.{List, [], append-nil}
use mathlib.Core.Path.{◌∙◌, ◌≡◌, ap, ap₂, refl, sym}
use native.Mathlib.Omega.{arith}

-- ---- the entries of rows and padded lists
firsts_at : (f : ℕ → ℤ) (n k : ℕ) → k < n → nth (firsts f n) k ≡ f k
firsts_at f n k h = sym (ap (λ (l : List ℤ). nth l k) (append-nil (firsts f n))) ∙ getD-firsts f (pos 0) n [] k h

pub padded-at : (l : List ℤ) (k : ℕ) → k < 24 → nth (padded l) k ≡ nth l k
unfolding padded
padded-at l k h = firsts_at (nth l) 24 k h

-- entry k of the row at b, whose part and byte are known
row_at : (taps : List ℤ) (imag high : Bool) (b k : ℕ) → b + k < 96 → leb 48 (b + k) ≡ imag → eqb ((b + k) / 24 % 2) 0 ≡ high → (b + k) % 24 ≡ k →
    nth (rows_of taps) (b + k) ≡ factor_at (padded taps) imag high k
unfolding rows_of
row_at taps imag high b k h x y z = firsts_at (λ j. factor_at (padded taps) (leb 48 j) (eqb (j / 24 % 2) 0) (j % 24)) 96 (b + k) h ∙ rw (x, y, z)

-- ---- both bytes together are the number
both_bytes : (w : ℤ) → byte_of true w *ℤ pos 256 +ℤ byte_of false w ≡ w
unfolding byte_of
both_bytes w =
    let q = shr_z w 256 *ℤ pos 256 in
    rw (if_yes true (shr_z w 256) (w -ℤ q) refl, if_no false (shr_z w 256) (w -ℤ q) refl)
    (eq_ud (q +ℤ (w -ℤ q)) w (omega (arith, sum_ud q (w -ℤ q), dif_ud w q)))

-- .. and so of their negatives
both-negated : (w : ℤ) → neg_ℤ (byte_of true w) *ℤ pos 256 +ℤ neg_ℤ (byte_of false w) ≡ neg_ℤ w
both-negated w =
    ap (λ (z : ℤ). z +ℤ neg_ℤ (byte_of false w)) (neg_mul (byte_of true w) (pos 256)) ∙ sym (neg_ℤ-+ℤ (byte_of true w *ℤ pos 256) (byte_of false w)) ∙ ap neg_ℤ (both_bytes w)

-- ---- one more product in both sums
dist_left : (x a b : ℤ) → x *ℤ (a +ℤ b) ≡ x *ℤ a +ℤ x *ℤ b
dist_left x a b = *ℤ_comm x (a +ℤ b) ∙ dist a b x ∙ ap₂ ◌+ℤ◌ (*ℤ_comm a x) (*ℤ_comm b x)

times-times : (n : ℕ) (x h : ℤ) → pos n *ℤ (x *ℤ h) ≡ x *ℤ (pos n *ℤ h)
times-times zero x h = zero-*ℤ (x *ℤ h) ∙ sym (ap (λ (z : ℤ). x *ℤ z) (zero-*ℤ h) ∙ *ℤ-zero x)
times-times (suc n) x h =
    suc_ℤ-*ℤ (pos n) (x *ℤ h) ∙ ap (λ (z : ℤ). z +ℤ x *ℤ h) (times-times n x h) ∙ sym (dist_left x (pos n *ℤ h) h) ∙ ap (λ (z : ℤ). x *ℤ z) (sym (suc_ℤ-*ℤ (pos n) h))

product_joins : (x h l : ℤ) → (x *ℤ h) *ℤ pos 256 +ℤ x *ℤ l ≡ (h *ℤ pos 256 +ℤ l) *ℤ x
product_joins x h l =
    ap₂ ◌+ℤ◌ (*ℤ_comm (x *ℤ h) (pos 256) ∙ times-times 256 x h ∙ ap (λ (z : ℤ). x *ℤ z) (*ℤ_comm (pos 256) h) ∙ *ℤ_comm x (h *ℤ pos 256)) (*ℤ_comm x l) ∙ sym (dist (h *ℤ pos 256) l x)

sum_joins : (H L x h l : ℤ) → (H +ℤ x *ℤ h) *ℤ pos 256 +ℤ (L +ℤ x *ℤ l) ≡ (H *ℤ pos 256 +ℤ L) +ℤ (h *ℤ pos 256 +ℤ l) *ℤ x
sum_joins H L x h l =
    let a = H *ℤ pos 256 in
    let b = (x *ℤ h) *ℤ pos 256 in
    let d = x *ℤ l in
    ap (λ (z : ℤ). z +ℤ (L +ℤ d)) (dist H (x *ℤ h) (pos 256))
    ∙ eq_ud ((a +ℤ b) +ℤ (L +ℤ d)) ((a +ℤ L) +ℤ (b +ℤ d)) (omega (arith, sum_ud a b, sum_ud L d, sum_ud (a +ℤ b) (L +ℤ d), sum_ud a L, sum_ud b d, sum_ud (a +ℤ L) (b +ℤ d)))
    ∙ ap (λ (z : ℤ). (a +ℤ L) +ℤ z) (product_joins x h l)

-- ---- the sums of both bytes after n taps
-- rows that begin at h and l and whose entries at the places of tap n are the bytes of a and b
record Tap (rows : List ℤ) (h l n : ℕ) (a b : ℤ) : Type 0 where
  pub one : nth rows (h + 2 * n) *ℤ pos 256 +ℤ nth rows (l + 2 * n) ≡ a
  pub two : nth rows (h + (2 * n + 1)) *ℤ pos 256 +ℤ nth rows (l + (2 * n + 1)) ≡ b

-- their sums after n numbers, together
unfoldable joined : List ℤ → List ℤ → ℕ → ℕ → ℕ → ℤ
joined line rows h l n = dot_to line rows h n *ℤ pos 256 +ℤ dot_to line rows l n

joined-none : (line rows : List ℤ) (h l : ℕ) → joined line rows h l 0 ≡ pos 0
unfolding joined dot_to
joined-none line rows h l = refl

joined_next : (line rows : List ℤ) (h l m : ℕ) → joined line rows h l (suc m) ≡ joined line rows h l m +ℤ (nth rows (h + m) *ℤ pos 256 +ℤ nth rows (l + m)) *ℤ nth line m
unfolding joined dot_to
joined_next line rows h l m = sum_joins (dot_to line rows h m) (dot_to line rows l m) (nth line m) (nth rows (h + m)) (nth rows (l + m))

joined-two : (line rows : List ℤ) (h l n : ℕ) (a b : ℤ) → Tap rows h l n a b →
    joined line rows h l (2 * suc n) ≡ (joined line rows h l (2 * n) +ℤ a *ℤ nth line (2 * n)) +ℤ b *ℤ nth line (2 * n + 1)
joined-two line rows h l n a b t =
    let e : 2 * suc n ≡ suc (2 * n + 1) = omega arith in
    let f : 2 * n + 1 ≡ suc (2 * n) = omega arith in
    let j = joined line rows h l (2 * n) in
    ap (joined line rows h l) e ∙ joined_next line rows h l (2 * n + 1)
    ∙ ap₂ (λ (x y : ℤ). x +ℤ y *ℤ nth line (2 * n + 1))
    (ap (joined line rows h l) f ∙ joined_next line rows h l (2 * n) ∙ ap (λ (z : ℤ). j +ℤ z *ℤ nth line (2 * n)) t.one)
    t.two

-- ---- the entries of the rows, by the parity of their place
even : (n : ℕ) → eqb ((2 * n) % 2) 0 ≡ true
even n = eq-eqb ((2 * n) % 2) 0 (omega arith)

odd : (n : ℕ) → eqb ((2 * n + 1) % 2) 0 ≡ false
odd n = ne_eqb ((2 * n + 1) % 2) 0 (omega arith)

pub real_even : (taps : List ℤ) (high : Bool) (k : ℕ) → k < 24 → eqb (k % 2) 0 ≡ true → factor_at (padded taps) false high k ≡ byte_of high (nth taps k)
unfolding factor_at
real_even taps high k h e = if_no false _ _ refl ∙ if_yes (eqb (k % 2) 0) _ _ e ∙ ap (byte_of high) (padded-at taps k h)

pub real_odd : (taps : List ℤ) (high : Bool) (k : ℕ) → k < 24 → eqb (k % 2) 0 ≡ false → factor_at (padded taps) false high k ≡ neg_ℤ (byte_of high (nth taps k))
unfolding factor_at
real_odd taps high k h e = if_no false _ _ refl ∙ if_no (eqb (k % 2) 0) _ _ e ∙ ap (λ (z : ℤ). neg_ℤ (byte_of high z)) (padded-at taps k h)

pub imag_even : (taps : List ℤ) (high : Bool) (k : ℕ) → k + 1 < 24 → eqb (k % 2) 0 ≡ true → factor_at (padded taps) true high k ≡ byte_of high (nth taps (k + 1))
unfolding factor_at
imag_even taps high k h e = if_yes true _ _ refl ∙ if_yes (eqb (k % 2) 0) _ _ e ∙ ap (byte_of high) (padded-at taps (k + 1) h)

pub imag_odd : (taps : List ℤ) (high : Bool) (k : ℕ) → k < 24 → eqb (k % 2) 0 ≡ false → factor_at (padded taps) true high k ≡ byte_of high (nth taps (k - 1))
unfolding factor_at
imag_odd taps high k h e = if_yes true _ _ refl ∙ if_no (eqb (k % 2) 0) _ _ e ∙ ap (byte_of high) (padded-at taps (k - 1) (omega arith))

-- the four rows, at k below 24
pub rh_at : (taps : List ℤ) (k : ℕ) → k < 24 → nth (rows_of taps) (0 + k) ≡ factor_at (padded taps) false true k
rh_at taps k h = row_at taps false true 0 k (omega arith) (lt-leb 48 (0 + k) (omega arith)) (eq-eqb ((0 + k) / 24 % 2) 0 (omega arith)) (omega arith)

pub rl_at : (taps : List ℤ) (k : ℕ) → k < 24 → nth (rows_of taps) (24 + k) ≡ factor_at (padded taps) false false k
rl_at taps k h = row_at taps false false 24 k (omega arith) (lt-leb 48 (24 + k) (omega arith)) (ne_eqb ((24 + k) / 24 % 2) 0 (omega arith)) (omega arith)

pub ih_at : (taps : List ℤ) (k : ℕ) → k < 24 → nth (rows_of taps) (48 + k) ≡ factor_at (padded taps) true true k
ih_at taps k h = row_at taps true true 48 k (omega arith) (le-leb 48 (48 + k) (omega arith)) (eq-eqb ((48 + k) / 24 % 2) 0 (omega arith)) (omega arith)

pub il_at : (taps : List ℤ) (k : ℕ) → k < 24 → nth (rows_of taps) (72 + k) ≡ factor_at (padded taps) true false k
il_at taps k h = row_at taps true false 72 k (omega arith) (le-leb 48 (72 + k) (omega arith)) (ne_eqb ((72 + k) / 24 % 2) 0 (omega arith)) (omega arith)

together : {h l : ℤ} (x y : ℤ) → h ≡ x → l ≡ y → h *ℤ pos 256 +ℤ l ≡ x *ℤ pos 256 +ℤ y
together x y e f = ap₂ (λ (a b : ℤ). a *ℤ pos 256 +ℤ b) e f

-- the real part: wr and -wi
real_tap : (taps : List ℤ) (n : ℕ) → n < 12 → Tap (rows_of taps) 0 24 n (nth taps (2 * n)) (neg_ℤ (nth taps (2 * n + 1)))
real_tap taps n h =
    let e : 2 * n < 24 = omega arith in
    let o : 2 * n + 1 < 24 = omega arith in
    record {
      one = together _ _ (rh_at taps (2 * n) e ∙ real_even taps true (2 * n) e (even n)) (rl_at taps (2 * n) e ∙ real_even taps false (2 * n) e (even n)) ∙ both_bytes (nth taps (2 * n));
      two = together _ _ (rh_at taps (2 * n + 1) o ∙ real_odd taps true (2 * n + 1) o (odd n)) (rl_at taps (2 * n + 1) o ∙ real_odd taps false (2 * n + 1) o (odd n))
          ∙ both-negated (nth taps (2 * n + 1));
    }

-- the imaginary part: wi and wr
imag_tap : (taps : List ℤ) (n : ℕ) → n < 12 → Tap (rows_of taps) 48 72 n (nth taps (2 * n + 1)) (nth taps (2 * n))
imag_tap taps n h =
    let e : 2 * n < 24 = omega arith in
    let o : 2 * n + 1 < 24 = omega arith in
    let p : 2 * n + 1 - 1 ≡ 2 * n = omega arith in
    record {
      one = together _ _ (ih_at taps (2 * n) e ∙ imag_even taps true (2 * n) o (even n)) (il_at taps (2 * n) e ∙ imag_even taps false (2 * n) o (even n)) ∙ both_bytes (nth taps (2 * n + 1));
      two = together _ _ (ih_at taps (2 * n + 1) o ∙ imag_odd taps true (2 * n + 1) o (odd n)) (il_at taps (2 * n + 1) o ∙ imag_odd taps false (2 * n + 1) o (odd n))
          ∙ both_bytes (nth taps (2 * n + 1 - 1)) ∙ ap (nth taps) p;
    }

-- ---- the sums after n taps are the filter's
module _ (taps line : List ℤ) where
  re-go : (n : ℕ) → n ≤ 11 → joined (padded line) (rows_of taps) 0 24 (2 * n) ≡ (filtered taps line n).re
  unfolding filtered term_added
  re-go zero h = joined-none (padded line) (rows_of taps) 0 24
  re-go (suc n) h =
      let wr = nth taps (2 * n) in
      let wi = nth taps (2 * n + 1) in
      let xr = nth line (2 * n) in
      let xi = nth line (2 * n + 1) in
      let f = (filtered taps line n).re in
      joined-two (padded line) (rows_of taps) 0 24 n wr (neg_ℤ wi) (real_tap taps n (omega arith))
      ∙ rw (padded-at line (2 * n) (omega arith), padded-at line (2 * n + 1) (omega arith), re-go n (omega arith), neg_mul wi xi)
      (eq_ud ((f +ℤ wr *ℤ xr) +ℤ neg_ℤ (wi *ℤ xi)) (f +ℤ (wr *ℤ xr -ℤ wi *ℤ xi))
      (omega (arith, sum_ud f (wr *ℤ xr), sum_ud (f +ℤ wr *ℤ xr) (neg_ℤ (wi *ℤ xi)), sum_ud f (wr *ℤ xr -ℤ wi *ℤ xi), sum_ud (wr *ℤ xr) (neg_ℤ (wi *ℤ xi)))))

  im-go : (n : ℕ) → n ≤ 11 → joined (padded line) (rows_of taps) 48 72 (2 * n) ≡ (filtered taps line n).im
  unfolding filtered term_added
  im-go zero h = joined-none (padded line) (rows_of taps) 48 72
  im-go (suc n) h =
      let wr = nth taps (2 * n) in
      let wi = nth taps (2 * n + 1) in
      let xr = nth line (2 * n) in
      let xi = nth line (2 * n + 1) in
      let f = (filtered taps line n).im in
      joined-two (padded line) (rows_of taps) 48 72 n wi wr (imag_tap taps n (omega arith))
      ∙ rw (padded-at line (2 * n) (omega arith), padded-at line (2 * n + 1) (omega arith), im-go n (omega arith))
      (eq_ud ((f +ℤ wi *ℤ xr) +ℤ wr *ℤ xi) (f +ℤ (wr *ℤ xi +ℤ wi *ℤ xr))
      (omega (arith, sum_ud f (wi *ℤ xr), sum_ud (f +ℤ wi *ℤ xr) (wr *ℤ xi), sum_ud f (wr *ℤ xi +ℤ wi *ℤ xr), sum_ud (wr *ℤ xi) (wi *ℤ xr))))

-- the two zeros add nothing
no_more : (line rows : List ℤ) (h l : ℕ) (a b : ℤ) → Tap rows h l 11 a b → a ≡ pos 0 → b ≡ pos 0 → joined line rows h l 24 ≡ joined line rows h l 22
no_more line rows h l a b t x y =
    let j = joined line rows h l 22 in
    joined-two line rows h l 11 a b t
    ∙ ap₂ (λ (p q : ℤ). (j +ℤ p *ℤ nth line 22) +ℤ q *ℤ nth line 23) x y
    ∙ ap₂ (λ (p q : ℤ). (j +ℤ p) +ℤ q) (zero-*ℤ (nth line 22)) (zero-*ℤ (nth line 23))
    ∙ +ℤ_idr (j +ℤ pos 0) ∙ +ℤ_idr j

-- THE FILTER BY ROWS: with the rows of 11 taps the output is the filter's
pub rows_output : (taps line : List ℤ) → length taps ≡ 22 → output_by (rows_of taps) line ≡ output_of taps line
unfolding output_by dots_of finished_of output_of joined
rows_output taps line h =
    let z22 : nth taps 22 ≡ pos 0 = get_or-eq_default taps (pos 0) (omega arith) in
    let z23 : nth taps 23 ≡ pos 0 = get_or-eq_default taps (pos 0) (omega arith) in
    let re = no_more (padded line) (rows_of taps) 0 24 (nth taps 22) (neg_ℤ (nth taps 23)) (real_tap taps 11 (omega arith)) z22 (ap neg_ℤ z23) ∙ re-go taps line 11 (omega arith) in
    let im = no_more (padded line) (rows_of taps) 48 72 (nth taps 23) (nth taps 22) (imag_tap taps 11 (omega arith)) z23 z22 ∙ im-go taps line 11 (omega arith) in
    rw (re, im)
