-- Tests and choices. Assumes nothing.
use Rattle.std.proofs.Common.{◌≡◌, ℕ, ◌<◌, ◌≤◌, Bool, true, false, ◌&&◌, ◌||◌, ltb, leb, sym, refl, arith, ltb-false, le-ltb, lt-ltb, le-leb}
use borrow.Author.Tests.{lt-leb}
use Rattle.laws.specs.Choice.{when◌then◌else◌}

pub never : true ≡ false → ⊥
never e = omega (arith, ltb-false 0 1 e)

-- by the value of a test, with what it was known as
pub by_test : {X : Type 0} (t : Bool) → (t ≡ true → X) → (t ≡ false → X) → X
by_test true f g = f refl
by_test false f g = g refl

-- what holds of both holds of the one that is chosen
pub if_both : {A : Type 0} (P : A → Type 0) (t : Bool) (a b : A) → P a → P b → P (when t then a else b)
unfolding when◌then◌else◌
if_both P true a b p q = p
if_both P false a b p q = q

-- what holds of either where the test chooses it holds of the one that is chosen
pub if_either : {A : Type 0} (P : A → Type 0) (t : Bool) (a b : A) → (t ≡ true → P a) → (t ≡ false → P b) → P (when t then a else b)
unfolding when◌then◌else◌
if_either P true a b p q = p refl
if_either P false a b p q = q refl

-- a function of the chosen one
pub if_ap : {A B : Type 0} (f : A → B) (t : Bool) (a b : A) → f (when t then a else b) ≡ (when t then f a else f b)
unfolding when◌then◌else◌
if_ap f true a b = refl
if_ap f false a b = refl

-- a choice from equals
pub if_cong : {A : Type 0} (t : Bool) (a b x y : A) → (t ≡ true → a ≡ x) → (t ≡ false → b ≡ y) → (when t then a else b) ≡ (when t then x else y)
unfolding when◌then◌else◌
if_cong true a b x y p q = p refl
if_cong false a b x y p q = q refl

pub and_both : (a b : Bool) → (a && b) ≡ true → (a ≡ true) × (b ≡ true)
and_both true b e = (refl, e)
and_both false b e = absurd (never (sym e))

pub neither : (a b : Bool) → (a || b) ≡ false → (a ≡ false) × (b ≡ false)
neither true b e = absurd (never e)
neither false b e = (refl, e)

-- ---- a test of the number n that a call gave, where a definition tests m itself
pub over : {n m k : ℕ} → n ≡ m → k < n → ltb k m ≡ true
over {n} {m} {k} e t = lt-ltb k m (rw e at t)

pub within : {n m k : ℕ} → n ≡ m → n ≤ k → ltb k m ≡ false
within {n} {m} {k} e t = le-ltb k m (rw e at t)

pub reaches : {n m k : ℕ} → n ≡ m → k ≤ n → leb k m ≡ true
reaches {n} {m} {k} e t = le-leb k m (rw e at t)

pub short : {n m k : ℕ} → n ≡ m → n < k → leb k m ≡ false
short {n} {m} {k} e t = lt-leb k m (rw e at t)
