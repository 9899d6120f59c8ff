-- Words of the definitions: a choice by a test, and a negative number.
use Rattle.std.specs.Prelude.{◌≡◌, ℕ, Bool, true, false, ℤ, pos, neg_ℤ}
use Rattle.std.proofs.Common.{lt-ltb, le-ltb, le-leb, eq-eqb, ne_eqb}
use Rattle.std.proofs.lemmas.Bool.{lt-leb}

infixr 5 when◌then◌else◌
-- the first where the test holds, else the second; shut, so that a goal keeps its tests
unfoldable pub when◌then◌else◌ : {A : Type 0} → Bool → A → A → A
when◌then◌else◌ true a b = a
when◌then◌else◌ false a b = b

pub if_yes : {A : Type 0} (t : Bool) (a b : A) → t ≡ true → (when t then a else b) ≡ a
unfolding when◌then◌else◌
if_yes t a b e = rw e

pub if_no : {A : Type 0} (t : Bool) (a b : A) → t ≡ false → (when t then a else b) ≡ b
unfolding when◌then◌else◌
if_no t a b e = rw e

-- `search cases` finds the case of a choice by the tests on the way
pub ruleset cases = (if_yes, if_no, lt-ltb, le-ltb, le-leb, lt-leb, eq-eqb, ne_eqb)

-- -n
abbrev pub minus : ℕ → ℤ
minus n = neg_ℤ (pos n)
