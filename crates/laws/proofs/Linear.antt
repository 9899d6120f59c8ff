-- Linear arithmetic on ℤ by `omega`, which reads ℕ alone: z is up z - dn z, and each operation, order and test is one linear fact of those
-- two numbers. `omega (arith, sum_ud a b, ud_le h)` then closes a linear goal. Assumes nothing.
use Rattle.std.proofs.Common.{◌≡◌, ℕ, zero, suc, ◌+◌, ◌-◌, ◌<◌, ◌≤◌, Bool, true, false, cond, ltb, ℤ, pos, negsuc, ◌+ℤ◌, ◌-ℤ◌, neg_ℤ, nat_abs, ◌≤ℤ◌, ◌<ℤ◌, refl, ap, arith, le→leb, ltb→lt, lt→ltb, leb→le, ltb-false, ltb-true, le-ltb, lt-ltb}
use lib.Signed.{lt_z}

abbrev pub up : ℤ → ℕ
up (pos n) = n
up (negsuc n) = 0

abbrev pub dn : ℤ → ℕ
dn (pos n) = 0
dn (negsuc n) = suc n

-- ---- operations
sub_go : (t : Bool) (a b : ℕ) → ltb a b ≡ t → up (cond t (negsuc (b - suc a)) (pos (a - b))) + b ≡ dn (cond t (negsuc (b - suc a)) (pos (a - b))) + a
sub_go true a b e = omega (arith, ltb-true a b e)
sub_go false a b e = omega (arith, ltb-false a b e)

pub sum_ud : (a b : ℤ) → up (a +ℤ b) + (dn a + dn b) ≡ dn (a +ℤ b) + (up a + up b)
sum_ud (pos a) (pos b) = omega arith
sum_ud (pos a) (negsuc b) = omega (arith, sub_go (ltb a (suc b)) a (suc b) refl)
sum_ud (negsuc a) (pos b) = omega (arith, sub_go (ltb b (suc a)) b (suc a) refl)
sum_ud (negsuc a) (negsuc b) = omega arith

pub neg_ud : (a : ℤ) → (up (neg_ℤ a) ≡ dn a) × (dn (neg_ℤ a) ≡ up a)
neg_ud (pos zero) = (refl, refl)
neg_ud (pos (suc n)) = (refl, refl)
neg_ud (negsuc n) = (refl, refl)

pub dif_ud : (a b : ℤ) → up (a -ℤ b) + (dn a + up b) ≡ dn (a -ℤ b) + (up a + dn b)
dif_ud a b = omega (arith, sum_ud a (neg_ℤ b), neg_ud b)

-- the size is one of the two, and the other is 0
pub size_ud : (a : ℤ) → nat_abs a ≡ up a + dn a
size_ud (pos a) = omega arith
size_ud (negsuc a) = omega arith

pub one_side : (z : ℤ) → (0 < up z → dn z ≡ 0) × (0 < dn z → up z ≡ 0)
one_side (pos a) = (λ h. refl, omega arith)
one_side (negsuc a) = (omega arith, λ h. refl)

-- which side is 0, and the size, from a bound on the two
pub not_below : (z : ℤ) → dn z ≤ up z → dn z ≡ 0
not_below (pos a) h = refl
not_below (negsuc a) h = omega arith

pub not_above : (z : ℤ) → up z ≤ dn z → up z ≡ 0
not_above (pos a) h = omega arith
not_above (negsuc a) h = refl

pub size_le : (z : ℤ) (b : ℕ) → up z ≤ dn z + b → dn z ≤ up z + b → nat_abs z ≤ b
size_le (pos a) b h k = omega arith
size_le (negsuc a) b h k = omega arith

-- ---- equality and order
pub eq_ud : (a b : ℤ) → up a + dn b ≡ up b + dn a → a ≡ b
eq_ud (pos a) (pos b) h = ap pos (omega arith)
eq_ud (pos a) (negsuc b) h = absurd (no a b h)
  where
    no : (a b : ℕ) → a + suc b ≡ 0 + 0 → ⊥
    no a b h = omega arith
eq_ud (negsuc a) (pos b) h = absurd (no a b h)
  where
    no : (a b : ℕ) → 0 + 0 ≡ b + suc a → ⊥
    no a b h = omega arith
eq_ud (negsuc a) (negsuc b) h = ap negsuc (omega arith)

pub ud_eq : {a b : ℤ} → a ≡ b → up a + dn b ≡ up b + dn a
ud_eq {a} {b} e = rw e

pub ud_lt : {a b : ℤ} → a <ℤ b → up a + dn b < up b + dn a
ud_lt {a = pos a} {b = pos b} h = omega (arith, ltb→lt a b h.lt)
ud_lt {a = pos a} {b = negsuc b} h = absurd h.lt
ud_lt {a = negsuc a} {b = pos b} h = omega arith
ud_lt {a = negsuc a} {b = negsuc b} h = omega (arith, ltb→lt b a h.lt)

pub ud_le : {a b : ℤ} → a ≤ℤ b → up a + dn b ≤ up b + dn a
ud_le {a = pos a} {b = pos b} h = omega (arith, leb→le a b h.le)
ud_le {a = pos a} {b = negsuc b} h = absurd h.le
ud_le {a = negsuc a} {b = pos b} h = omega arith
ud_le {a = negsuc a} {b = negsuc b} h = omega (arith, leb→le b a h.le)

pub lt_ud : (a b : ℤ) → up a + dn b < up b + dn a → a <ℤ b
lt_ud (pos a) (pos b) h = record { lt = lt→ltb a b (omega arith) }
lt_ud (pos a) (negsuc b) h = absurd (no a b h)
  where
    no : (a b : ℕ) → a + suc b < 0 + 0 → ⊥
    no a b h = omega arith
lt_ud (negsuc a) (pos b) h = record { lt = tt }
lt_ud (negsuc a) (negsuc b) h = record { lt = lt→ltb b a (omega arith) }

pub le_ud : (a b : ℤ) → up a + dn b ≤ up b + dn a → a ≤ℤ b
le_ud (pos a) (pos b) h = record { le = le→leb a b (omega arith) }
le_ud (pos a) (negsuc b) h = absurd (no a b h)
  where
    no : (a b : ℕ) → a + suc b ≤ 0 + 0 → ⊥
    no a b h = omega arith
le_ud (negsuc a) (pos b) h = record { le = tt }
le_ud (negsuc a) (negsuc b) h = record { le = le→leb b a (omega arith) }

-- ---- tests, as the code leaves them
pub test_lt : (a b : ℤ) → lt_z a b ≡ true → up a + dn b < up b + dn a
test_lt (pos a) (pos b) t = omega (arith, ltb-true a b t)
test_lt (pos a) (negsuc b) t = omega (arith, ltb-true 1 0 t)
test_lt (negsuc a) (pos b) t = omega arith
test_lt (negsuc a) (negsuc b) t = omega (arith, ltb-true b a t)

pub test_le : (a b : ℤ) → lt_z a b ≡ false → up b + dn a ≤ up a + dn b
test_le (pos a) (pos b) t = omega (arith, ltb-false a b t)
test_le (pos a) (negsuc b) t = omega arith
test_le (negsuc a) (pos b) t = omega (arith, ltb-false 0 1 t)
test_le (negsuc a) (negsuc b) t = omega (arith, ltb-false b a t)

-- .. and back
pub lt_test : (a b : ℤ) → up a + dn b < up b + dn a → lt_z a b ≡ true
lt_test (pos a) (pos b) h = lt-ltb a b (omega arith)
lt_test (pos a) (negsuc b) h = absurd (no a b h)
  where
    no : (a b : ℕ) → a + suc b < 0 + 0 → ⊥
    no a b h = omega arith
lt_test (negsuc a) (pos b) h = refl
lt_test (negsuc a) (negsuc b) h = lt-ltb b a (omega arith)

pub le_test : (a b : ℤ) → up b + dn a ≤ up a + dn b → lt_z a b ≡ false
le_test (pos a) (pos b) h = le-ltb a b (omega arith)
le_test (pos a) (negsuc b) h = refl
le_test (negsuc a) (pos b) h = absurd (no a b h)
  where
    no : (a b : ℕ) → b + suc a ≤ 0 + 0 → ⊥
    no a b h = omega arith
le_test (negsuc a) (negsuc b) h = le-ltb b a (omega arith)

pub ≤ℤ_trans : {a b c : ℤ} → a ≤ℤ b → b ≤ℤ c → a ≤ℤ c
≤ℤ_trans {a} {b} {c} h k = le_ud a c (omega (arith, ud_le h, ud_le k))

pub antisym : {a b : ℤ} → a ≤ℤ b → b ≤ℤ a → a ≡ b
antisym {a} {b} h k = eq_ud a b (omega (arith, ud_le h, ud_le k))
