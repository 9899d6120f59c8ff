-- A turn of each loop that tests the entries of sums, and its end. Assumes nothing.
use mathlib.Core.Path.{◌≡◌, refl, sym, ap, ◌∙◌}
use mathlib.Core.Bool.{Bool, true, false, ◌&&◌}
use mathlib.Core.List.{List}
use Prim.Native.Nat.{ℕ, suc, ◌+◌, ◌*◌, ◌-◌, ◌<◌}
use native.Mathlib.Omega.{arith}
use native.Mathlib.Numerals.{add-one}
use borrow.Author.Tests.{eq-eqb, ne_eqb, eqb-true, eqb-false}
use lib.Dec.{eqb}
use lib.IntN.{ℤ, pos, negsuc, nat_abs}
use mir.Facts.{to_z-of_z}
use mir.Syntax.{w64}
use mir.Val.{SFits, to_z, of_z}
use Rattle.laws.specs.Choice.{if_yes, if_no}
use Rattle.laws.proofs.Tests.{by_test}
use Rattle.sums.specs.Sums.{upper_at}
use Rattle.eq_train.specs.Train.{nth}
use Rattle.eq_train.specs.Ranges.{diagonal_in_range, product_in_range, entry_in_range, row_in_range, upper_in_range, right_in_range}
use Rattle.eq_train.proofs.Adding.{later}

pub and_assoc : (a b c : Bool) → ((a && b) && c) ≡ (a && (b && c))
and_assoc true b c = refl
and_assoc false b c = refl

pub and_true : (a : Bool) → (a && true) ≡ a
and_true true = refl
and_true false = refl

-- a number is 0 where its bits are
none : (z : ℤ) → nat_abs z ≡ 0 → z ≡ pos 0
none (pos n) e = ap pos e
none (negsuc n) e = absurd (no n e)
  where
    no : (n : ℕ) → suc n ≡ 0 → ⊥
    no n e = omega arith

pub zero_bits : (z : ℤ) → SFits w64 z → eqb (of_z w64 z) 0 ≡ eqb (nat_abs z) 0
zero_bits z f =
    by_test (eqb (nat_abs z) 0)
    (λ e. rw (none z (eqb-true (nat_abs z) 0 e)))
    (λ e. ne_eqb (of_z w64 z) 0 (λ b. eqb-false (nat_abs z) 0 e (ap nat_abs (sym (to_z-of_z f) ∙ ap (to_z w64) b))) ∙ sym e)

-- ---- entries
pub diagonal_entry : (N : ℕ) (s : List ℤ) (r : ℕ) → entry_in_range N s r r ≡ diagonal_in_range N (nth s (2 * upper_at r r)) (nth s (2 * upper_at r r + 1))
unfolding entry_in_range
diagonal_entry N s r = if_yes (eqb r r) _ _ (eq-eqb r r refl)

pub product_entry : (N : ℕ) (s : List ℤ) (r c : ℕ) → r < c → entry_in_range N s r c ≡ product_in_range N (nth s (2 * upper_at r c)) (nth s (2 * upper_at r c + 1))
unfolding entry_in_range
product_entry N s r c h = if_no (eqb r c) _ _ (ne_eqb r c (other r c h))
  where
    other : (r c : ℕ) → r < c → r ≡ c → ⊥
    other r c h e = omega arith

-- ---- a turn of each loop
pub row_one : (N : ℕ) (s : List ℤ) (r c : ℕ) (t : Bool) → c < 11 → t ≡ entry_in_range N s r c → (t && row_in_range N s r (c + 1) (11 - (c + 1))) ≡ row_in_range N s r c (11 - c)
unfolding row_in_range
row_one N s r c t h e = rw (e, later c h, add-one c)

pub row_next : (N : ℕ) (s : List ℤ) (r c : ℕ) (all t : Bool) → c < 11 → t ≡ entry_in_range N s r c → ((all && t) && row_in_range N s r (c + 1) (11 - (c + 1))) ≡ (all && row_in_range N s r c (11 - c))
row_next N s r c all t h e = and_assoc all t (row_in_range N s r (c + 1) (11 - (c + 1))) ∙ ap (λ (b : Bool). all && b) (row_one N s r c t h e)

pub row_end : (N : ℕ) (s : List ℤ) (r : ℕ) (all : Bool) → (all && row_in_range N s r 11 0) ≡ all
unfolding row_in_range
row_end N s r all = and_true all

upper_one : (N : ℕ) (s : List ℤ) (r : ℕ) (t : Bool) → r < 11 → t ≡ row_in_range N s r r (11 - r) → (t && upper_in_range N s (r + 1) (11 - (r + 1))) ≡ upper_in_range N s r (11 - r)
unfolding upper_in_range
upper_one N s r t h e = rw (e, later r h, add-one r)

pub upper_next : (N : ℕ) (s : List ℤ) (r : ℕ) (all t : Bool) → r < 11 → t ≡ row_in_range N s r r (11 - r) → ((all && t) && upper_in_range N s (r + 1) (11 - (r + 1))) ≡ (all && upper_in_range N s r (11 - r))
upper_next N s r all t h e = and_assoc all t (upper_in_range N s (r + 1) (11 - (r + 1))) ∙ ap (λ (b : Bool). all && b) (upper_one N s r t h e)

pub upper_end : (N : ℕ) (s : List ℤ) (all : Bool) → (all && upper_in_range N s 11 0) ≡ all
unfolding upper_in_range
upper_end N s all = and_true all

right_one : (N : ℕ) (p : List ℤ) (r : ℕ) (t : Bool) → r < 11 → t ≡ product_in_range N (nth p (2 * r)) (nth p (2 * r + 1)) → (t && right_in_range N p (r + 1) (11 - (r + 1))) ≡ right_in_range N p r (11 - r)
unfolding right_in_range
right_one N p r t h e = rw (e, later r h, add-one r)

pub right_next : (N : ℕ) (p : List ℤ) (r : ℕ) (all t : Bool) → r < 11 → t ≡ product_in_range N (nth p (2 * r)) (nth p (2 * r + 1)) → ((all && t) && right_in_range N p (r + 1) (11 - (r + 1))) ≡ (all && right_in_range N p r (11 - r))
right_next N p r all t h e = and_assoc all t (right_in_range N p (r + 1) (11 - (r + 1))) ∙ ap (λ (b : Bool). all && b) (right_one N p r t h e)

pub right_end : (N : ℕ) (p : List ℤ) (all : Bool) → (all && right_in_range N p 11 0) ≡ all
unfolding right_in_range
right_end N p all = and_true all
