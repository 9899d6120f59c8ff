-- Positions and places: the whole periods before a position, and its place in its own. Assumes nothing.
use Prim.Native.Nat.{◌%◌, ◌*◌, ◌+◌, ◌-◌, ◌/◌, ◌<◌, suc, ℕ}
use mathlib.Core.Path.{◌∙◌, ◌≡◌}
use native.Mathlib.Nat.{div-add-mod', div-eq_of_lt, mod-eq_of_lt, mod-lt, mul-add-div_right, mul-add-mod_self_right, zero-div, zero-mod}
use native.Mathlib.Omega.{arith}

pub place-less : (n c : ℕ) → 0 < n → c % n < n
place-less n c h = mod-lt c h

pub whole : (n c : ℕ) → c / n * n + c % n ≡ c
whole n c = div-add-mod' c n

-- the only whole number of periods and rest
pub parts : (n k r : ℕ) → 0 < n → r < n → ((k * n + r) / n ≡ k) × ((k * n + r) % n ≡ r)
parts n k r p h = (mul-add-div_right p k r ∙ rw (div-eq_of_lt h) (omega arith), mul-add-mod_self_right k n r ∙ mod-eq_of_lt h)

-- within a period
pub next_in_lem : (n c : ℕ) → 0 < n → suc (c % n) < n → (suc c / n ≡ c / n) × (suc c % n ≡ suc (c % n))
next_in_lem n c p h =
    let e : c / n * n + suc (c % n) ≡ suc c = omega (arith, whole n c) in
    rw e at (parts n (c / n) (suc (c % n)) p h)

-- at its end
pub next_end : (n c : ℕ) → 0 < n → c % n ≡ n - 1 → (suc c / n ≡ suc (c / n)) × (suc c % n ≡ 0)
next_end n c p h =
    let e : suc (c / n) * n + 0 ≡ suc c = omega (arith, whole n c) in
    rw e at (parts n (suc (c / n)) 0 p p)

pub first-place : (n : ℕ) → 0 < n → (0 / n ≡ 0) × (0 % n ≡ 0)
first-place n p = (zero-div n, zero-mod n)
