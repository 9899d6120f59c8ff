-- The products of one training symbol, each number of 16 bits, and sums that grow by them. Assumes nothing.
use mathlib.Core.Path.{◌≡◌, refl, sym, ap, ap₂, subst}
use mathlib.Core.Bool.{Bool, true, false, ◌&&◌}
use Prim.Native.Nat.{ℕ, suc, ◌+◌, ◌*◌, ◌≤◌, ◌<◌, ◌^◌}
use native.Mathlib.Omega.{arith}
use native.Mathlib.Nat.{mul-le-mul}
use borrow.Author.Tests.{le-leb, leb-true, eq-eqb, eqb-true}
use lib.Dec.{T, leb, eqb}
use lib.IntN.{ℤ, pos, negsuc, neg_ℤ, nat_abs, ◌+ℤ◌, ◌-ℤ◌, ◌*ℤ◌, *ℤ_comm}
use lib.Signed.{le_z, ◌≤ℤ◌}
use mir.Syntax.{w16}
use mir.Val.{SFits}
use Rattle.laws.specs.Choice.{minus}
use Rattle.laws.proofs.Tests.{and_both}
use Rattle.laws.proofs.Linear.{up, dn, sum_ud, dif_ud, neg_ud, size_le, eq_ud, ud_le, le_ud}
use Rattle.laws.proofs.Size.{abs_add}
use Rattle.eq_train.specs.Train.{conj_product}
use Rattle.eq_train.specs.Ranges.{diagonal_in_range, product_in_range}
use Rattle.eq_train.specs.Sound.{ProductSound, DiagonalSound}

-- ---- a product of two numbers of 16 bits, from -(2^30 - 2^15) to 2^30, and a square
record Within (z : ℤ) : Type 0 where
  pub high : up z ≤ dn z + 1073741824
  pub low : dn z ≤ up z + 1073709056

product_pos : (n : ℕ) → n ≤ 1073741824 → Within (pos n)
product_pos n h = record { high = omega arith; low = omega arith }

product_neg : (n : ℕ) → n ≤ 1073709056 → Within (neg_ℤ (pos n))
product_neg n h = record { high = omega (arith, neg_ud (pos n)); low = omega (arith, neg_ud (pos n)) }

product_within : (a b : ℤ) → SFits w16 a → SFits w16 b → Within (a *ℤ b)
product_within (pos a) (pos b) h k = product_pos (a * b) (omega (arith, mul-le-mul (below a h.sfits) (below b k.sfits)))
  where
    below : (n : ℕ) → n < 2 ^ 15 → n ≤ 32768
    below n h = omega arith
product_within (pos a) (negsuc b) h k = product_neg (a * suc b) (omega (arith, mul-le-mul (below a h.sfits) k.sfits))
  where
    below : (n : ℕ) → n < 2 ^ 15 → n ≤ 32767
    below n h = omega arith
product_within (negsuc a) (pos b) h k = product_neg (suc a * b) (omega (arith, mul-le-mul h.sfits (below b k.sfits)))
  where
    below : (n : ℕ) → n < 2 ^ 15 → n ≤ 32767
    below n h = omega arith
product_within (negsuc a) (negsuc b) h k = product_pos (suc a * suc b) (omega (arith, mul-le-mul h.sfits k.sfits))

square_up : (a : ℤ) → dn (a *ℤ a) ≡ 0
square_up (pos a) = refl
square_up (negsuc a) = refl

-- ---- conj(a) b, and conj(a) a
module _ (a b c d : ℤ) (ha : SFits w16 a) (hb : SFits w16 b) (hc : SFits w16 c) (hd : SFits w16 d) where
  re-high : up (conj_product a b c d).re ≤ dn (conj_product a b c d).re + 2147483648
  unfolding conj_product
  re-high = omega (arith, sum_ud (a *ℤ c) (b *ℤ d), product_within a c ha hc, product_within b d hb hd)

  re-low : dn (conj_product a b c d).re ≤ up (conj_product a b c d).re + 2147418112
  unfolding conj_product
  re-low = omega (arith, sum_ud (a *ℤ c) (b *ℤ d), product_within a c ha hc, product_within b d hb hd)

  im-size : nat_abs (conj_product a b c d).im ≤ 2147450880
  unfolding conj_product
  im-size =
      let p = product_within a d ha hd in
      let q = product_within b c hb hc in
      size_le (a *ℤ d -ℤ b *ℤ c) 2147450880 (omega (arith, dif_ud (a *ℤ d) (b *ℤ c), p, q)) (omega (arith, dif_ud (a *ℤ d) (b *ℤ c), p, q))

module _ (a b : ℤ) (ha : SFits w16 a) (hb : SFits w16 b) where
  own-low : pos 0 ≤ℤ (conj_product a b a b).re
  unfolding conj_product
  own-low = le_ud (pos 0) (a *ℤ a +ℤ b *ℤ b) (omega (arith, sum_ud (a *ℤ a) (b *ℤ b), square_up a, square_up b))

  own_turn : (conj_product a b a b).im ≡ pos 0
  unfolding conj_product
  own_turn = eq_ud (a *ℤ b -ℤ b *ℤ a) (pos 0) (rw (*ℤ_comm b a) (omega (arith, dif_ud (a *ℤ b) (a *ℤ b))))

-- ---- one more product
pub product_more : (n : ℕ) (re im a b c d : ℤ) → SFits w16 a → SFits w16 b → SFits w16 c → SFits w16 d → ProductSound n re im →
    ProductSound (n + 1) (re +ℤ (conj_product a b c d).re) (im +ℤ (conj_product a b c d).im)
product_more n re im a b c d ha hb hc hd s =
    let v = conj_product a b c d in
    record {
      low = le_ud (minus ((n + 1) * 2147418112)) (re +ℤ v.re)
          (omega (arith, ud_le s.low, neg_ud (pos (n * 2147418112)), neg_ud (pos ((n + 1) * 2147418112)), sum_ud re v.re, re-low a b c d ha hb hc hd));
      high = le_ud (re +ℤ v.re) (pos ((n + 1) * 2147483648)) (omega (arith, ud_le s.high, sum_ud re v.re, re-high a b c d ha hb hc hd));
      turn = omega (arith, s.turn, abs_add im v.im, im-size a b c d ha hb hc hd);
    }

pub diagonal_more : (n : ℕ) (re im a b : ℤ) → SFits w16 a → SFits w16 b → DiagonalSound n re im →
    DiagonalSound (n + 1) (re +ℤ (conj_product a b a b).re) (im +ℤ (conj_product a b a b).im)
diagonal_more n re im a b ha hb s =
    let v = conj_product a b a b in
    record {
      low = le_ud (pos 0) (re +ℤ v.re) (omega (arith, ud_le s.low, ud_le (own-low a b ha hb), sum_ud re v.re));
      high = le_ud (re +ℤ v.re) (pos ((n + 1) * 2147483648)) (omega (arith, ud_le s.high, sum_ud re v.re, re-high a b a b ha hb ha hb));
      turn = ap₂ ◌+ℤ◌ s.turn (own_turn a b ha hb);
    }

-- ---- of up to 2^22 products an entry is in range; and in range, it is one that a product can be added to
truth : (t : Bool) → T t → t ≡ true
truth true h = refl
truth false h = absurd h

at_most : (a b : ℤ) → a ≤ℤ b → le_z a b ≡ true
at_most a b h = truth (le_z a b) h.le

pub test_at_most : (a b : ℤ) → le_z a b ≡ true → a ≤ℤ b
test_at_most a b e = record { le = subst T (sym e) tt }

all_three : (a b c : Bool) → a ≡ true → b ≡ true → c ≡ true → ((a && b) && c) ≡ true
all_three a b c e f g = rw (e, f, g)

pub product_in : (n N : ℕ) (re im : ℤ) → n ≤ N → ProductSound n re im → product_in_range N re im ≡ true
unfolding product_in_range
product_in n N re im h s =
    all_three (le_z (minus (N * 2147418112)) re) (le_z re (pos (N * 2147483648))) (leb (nat_abs im) (N * 2147450880))
    (at_most (minus (N * 2147418112)) re (le_ud (minus (N * 2147418112)) re (omega (arith, ud_le s.low, neg_ud (pos (n * 2147418112)), neg_ud (pos (N * 2147418112))))))
    (at_most re (pos (N * 2147483648)) (le_ud re (pos (N * 2147483648)) (omega (arith, ud_le s.high))))
    (le-leb (nat_abs im) (N * 2147450880) (omega (arith, s.turn)))

pub diagonal_in : (n N : ℕ) (re im : ℤ) → n ≤ N → DiagonalSound n re im → diagonal_in_range N re im ≡ true
unfolding diagonal_in_range
diagonal_in n N re im h s =
    all_three (le_z (pos 0) re) (le_z re (pos (N * 2147483648))) (eqb (nat_abs im) 0)
    (at_most (pos 0) re s.low)
    (at_most re (pos (N * 2147483648)) (le_ud re (pos (N * 2147483648)) (omega (arith, ud_le s.high))))
    (eq-eqb (nat_abs im) 0 (ap nat_abs s.turn))

pub product_small : (N : ℕ) → N ≤ 4194304 → (re im : ℤ) → product_in_range N re im ≡ true → (nat_abs re ≤ 2 ^ 53) × (nat_abs im ≤ 2 ^ 53)
unfolding product_in_range
product_small N few re im e =
    let f = and_both (le_z (minus (N * 2147418112)) re && le_z re (pos (N * 2147483648))) (leb (nat_abs im) (N * 2147450880)) e in
    let g = and_both (le_z (minus (N * 2147418112)) re) (le_z re (pos (N * 2147483648))) f.0 in
    let low = ud_le (test_at_most (minus (N * 2147418112)) re g.0) in
    let high = ud_le (test_at_most re (pos (N * 2147483648)) g.1) in
    (size_le re 9007199254740992 (omega (arith, high)) (omega (arith, low, neg_ud (pos (N * 2147418112)))), omega (arith, leb-true (nat_abs im) (N * 2147450880) f.1))

pub diagonal_small : (N : ℕ) → N ≤ 4194304 → (re im : ℤ) → diagonal_in_range N re im ≡ true → (nat_abs re ≤ 2 ^ 53) × (nat_abs im ≤ 2 ^ 53)
unfolding diagonal_in_range
diagonal_small N few re im e =
    let f = and_both (le_z (pos 0) re && le_z re (pos (N * 2147483648))) (eqb (nat_abs im) 0) e in
    let g = and_both (le_z (pos 0) re) (le_z re (pos (N * 2147483648))) f.0 in
    let low = ud_le (test_at_most (pos 0) re g.0) in
    let high = ud_le (test_at_most re (pos (N * 2147483648)) g.1) in
    (size_le re 9007199254740992 (omega (arith, high)) (omega (arith, low)), omega (arith, eqb-true (nat_abs im) 0 f.1))
