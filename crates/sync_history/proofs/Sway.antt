-- The majority and marks: the step's tests are the rules'. Assumes nothing.
use Prim.Native.Nat.{◌≤◌, suc, zero, ℕ}
use Rattle.laws.proofs.Linear.{size_le, size_ud, sum_ud, test_le, test_lt}
use Rattle.laws.proofs.Tests.{by_test, if_both, if_either, never}
use Rattle.laws.specs.Choice.{if_no, if_yes, when◌then◌else◌, minus}
use Rattle.sync_corr.specs.declared.Both.{Both}
use Rattle.sync_heads.specs.Frames.{marks_of, swayed_of}
use Rattle.sync_history.specs.Heads.{clamped, f_at, majority, marked_at, positive_at}
use borrow.Author.Tests.{le-leb, le-ltb, lt-leb, lt-ltb, ltb-false, ltb-true}
use lib.Dec.{leb, ltb}
use lib.IntN.{◌+ℤ◌, ◌-ℤ◌, nat_abs, negsuc, pos, ℤ}
use lib.Signed.{lt_z}
use mathlib.Core.Bool.{Bool, ◌&&◌, false, true}
use mathlib.Core.Path.{◌∙◌, ◌≡◌, refl, sym}
use native.Mathlib.Nat.{le_refl}
use native.Mathlib.Omega.{arith}

-- ---- tests
pub and_no : (a : Bool) → (a && false) ≡ false
and_no true = refl
and_no false = refl

pub and_yes : (a : Bool) → (a && true) ≡ a
and_yes true = refl
and_yes false = refl

-- ---- the majority
clamped_small : (z : ℤ) → nat_abs (clamped z) ≤ 8
unfolding clamped
clamped_small z =
    if_either (λ (x : ℤ). nat_abs x ≤ 8) (lt_z z (minus 8)) (minus 8) (when lt_z (pos 8) z then pos 8 else z)
    (λ t. le_refl 8)
    (λ t. if_either (λ (x : ℤ). nat_abs x ≤ 8) (lt_z (pos 8) z) (pos 8) z (λ u. le_refl 8)
    (λ u. size_le z 8 (omega (arith, test_le (pos 8) z u)) (omega (arith, test_le z (minus 8) t))))

pub majority_small : (b : ℕ → Both) (i : ℕ) → nat_abs (majority b i) ≤ 8
unfolding majority
majority_small b zero = omega arith
majority_small b (suc i) =
    if_both (λ (x : ℤ). nat_abs x ≤ 8) (f_at b i) (clamped (majority b i +ℤ (when positive_at b i then pos 1 else minus 1))) (majority b i)
    (clamped_small (majority b i +ℤ (when positive_at b i then pos 1 else minus 1)))
    (majority_small b i)

-- one sign more
clamped_in : (z : ℤ) → lt_z z (minus 8) ≡ false → lt_z (pos 8) z ≡ false → clamped z ≡ z
unfolding clamped
clamped_in z l h = if_no (lt_z z (minus 8)) (minus 8) (when lt_z (pos 8) z then pos 8 else z) l ∙ if_no (lt_z (pos 8) z) (pos 8) z h

clamped-over : (z : ℤ) → lt_z z (minus 8) ≡ false → lt_z (pos 8) z ≡ true → clamped z ≡ pos 8
unfolding clamped
clamped-over z l h = if_no (lt_z z (minus 8)) (minus 8) (when lt_z (pos 8) z then pos 8 else z) l ∙ if_yes (lt_z (pos 8) z) (pos 8) z h

clamped_under : (z : ℤ) → lt_z z (minus 8) ≡ true → clamped z ≡ minus 8
unfolding clamped
clamped_under z l = if_yes (lt_z z (minus 8)) (minus 8) (when lt_z (pos 8) z then pos 8 else z) l

off : (a b : ℤ) → (lt_z a b ≡ true → ⊥) → lt_z a b ≡ false
off a b f = by_test (lt_z a b) (λ t. absurd (f t)) (λ t. t)

on : (a b : ℤ) → (lt_z a b ≡ false → ⊥) → lt_z a b ≡ true
on a b f = by_test (lt_z a b) (λ t. t) (λ t. absurd (f t))

sway_up : (m : ℤ) → nat_abs m ≤ 8 → (when lt_z m (pos 8) then m +ℤ pos 1 else pos 8) ≡ clamped (m +ℤ pos 1)
sway_up m h =
    let z = m +ℤ pos 1 in
    let s = sum_ud m (pos 1) in
    let k = size_ud m in
    let low = off z (minus 8) (λ t. omega (arith, test_lt z (minus 8) t, s, k, h)) in
    if_either (λ (x : ℤ). x ≡ clamped z) (lt_z m (pos 8)) z (pos 8)
    (λ t. sym (clamped_in z low (off (pos 8) z (λ u. omega (arith, test_lt (pos 8) z u, test_lt m (pos 8) t, s)))))
    (λ t. sym (clamped-over z low (on (pos 8) z (λ u. omega (arith, test_le (pos 8) z u, test_le m (pos 8) t, s)))))

sway_down : (m : ℤ) → nat_abs m ≤ 8 → (when lt_z (minus 8) m then m -ℤ pos 1 else minus 8) ≡ clamped (m +ℤ minus 1)
sway_down m h =
    let z = m +ℤ minus 1 in
    let s = sum_ud m (minus 1) in
    let k = size_ud m in
    let high = off (pos 8) z (λ t. omega (arith, test_lt (pos 8) z t, s, k, h)) in
    if_either (λ (x : ℤ). x ≡ clamped z) (lt_z (minus 8) m) (m -ℤ pos 1) (minus 8)
    (λ t. sym (clamped_in z (off z (minus 8) (λ u. omega (arith, test_lt z (minus 8) u, test_lt (minus 8) m t, s))) high))
    (λ t. sym (clamped_under z (on z (minus 8) (λ u. omega (arith, test_le z (minus 8) u, test_le (minus 8) m t, s)))))

pub sway_is : (p : Bool) (m : ℤ) → nat_abs m ≤ 8 → swayed_of p m ≡ clamped (m +ℤ (when p then pos 1 else minus 1))
unfolding swayed_of when◌then◌else◌
sway_is true m h = sway_up m h
sway_is false m h = sway_down m h

-- ---- marks
marks_go : (p : Bool) (m : ℤ) → marks_of p m ≡ (leb 2 (nat_abs m) && (when p then lt_z m (pos 0) else lt_z (pos 0) m))
unfolding marks_of when◌then◌else◌
marks_go true (pos k) = sym (rw (le-ltb k 0 (omega arith)) (and_no (leb 2 k)))
marks_go true (negsuc k) = by_test (ltb 0 k) (λ t. t ∙ sym (rw (le-leb 2 (suc k) (omega (arith, ltb-true 0 k t))))) (λ t. t ∙ sym (rw (lt-leb 2 (suc k) (omega (arith, ltb-false 0 k t)))))
marks_go false (pos k) = by_test (ltb 1 k)
    (λ t. t ∙ sym (rw (le-leb 2 k (omega (arith, ltb-true 1 k t)), lt-ltb 0 k (omega (arith, ltb-true 1 k t)))))
    (λ t. t ∙ sym (rw (lt-leb 2 k (omega (arith, ltb-false 1 k t)))))
marks_go false (negsuc k) = sym (and_no (leb 2 (suc k)))

pub marks_is : (b : ℕ → Both) (i : ℕ) → f_at b i ≡ true → marks_of (positive_at b i) (majority b i) ≡ marked_at b i
unfolding marked_at
marks_is b i f = marks_go (positive_at b i) (majority b i) ∙ sym (rw f)

pub unmarked_other : (b : ℕ → Both) (i : ℕ) → f_at b i ≡ false → marked_at b i ≡ false
unfolding marked_at
unmarked_other b i f = rw f

pub marked_f : (b : ℕ → Both) (i : ℕ) → marked_at b i ≡ true → f_at b i ≡ true
marked_f b i e = by_test (f_at b i) (λ t. t) (λ t. absurd (never (sym e ∙ unmarked_other b i t)))
