-- Refusals and their numbers. Assumes nothing.
use Prim.Native.Nat.{ℕ}
use Rattle.std.specs.Prelude.{Result, Ok, Err, ⊤}
use Rattle.refusal.specs.declared.Refusal.{Refusal}
use Rattle.refusal.specs.declared.Refusal.TheVariants.{Stores, Words, Table, Points, Scale, Arithmetic, Position, Counts, Sums, Pivot, Contents, Bodies}
use Rattle.refusal.specs.Refusals.{answered, code_of, number_of, written}
use Rattle.receiver.specs.Answers.{code_in}
use Rattle.laws.specs.Choice.{when◌then◌else◌}
use borrow.Author.Tests.{eq-eqb, ne_eqb}
use lib.Dec.{eqb}
use mathlib.Core.Bool.{Bool, false, true}
use mathlib.Core.Path.{◌∙◌, ◌≡◌, ap, refl, sym}
use native.Mathlib.Omega.{arith}

-- no refusal has the number of an accepted call
pub numbered : (why : Refusal) → number_of why ≡ 0 → ⊥
numbered Stores e = omega (arith, e)
numbered Words e = omega (arith, e)
numbered Table e = omega (arith, e)
numbered Points e = omega (arith, e)
numbered Scale e = omega (arith, e)
numbered Arithmetic e = omega (arith, e)
numbered Position e = omega (arith, e)
numbered Counts e = omega (arith, e)
numbered Sums e = omega (arith, e)
numbered Pivot e = omega (arith, e)
numbered Contents e = omega (arith, e)
numbered Bodies e = omega (arith, e)

-- a test of number 0 let the call through
pub let_through : (t : Result ⊤ Refusal) → code_of t ≡ 0 → t ≡ Ok tt
let_through (Ok x) e = refl
let_through (Err why) e = absurd (numbered why e)

-- the number of an answer is that of its test
pub code_shown : {T S : Type 0} (t : Result ⊤ Refusal) (s : S) (a : T) → code_in (answered t s a) ≡ code_of t
code_shown (Ok x) s a = refl
code_shown (Err why) s a = refl

-- by what a test says, with what it was known as
pub by_refusal : {X : Type 0} (t : Result ⊤ Refusal) → (t ≡ Ok tt → X) → ((why : Refusal) → t ≡ Err why → X) → X
by_refusal (Ok x) p q = p refl
by_refusal (Err why) p q = q why refl

-- the number of a choice is the choice of the numbers
pub code_chosen : (t : Bool) (a b : Result ⊤ Refusal) (x y : ℕ) → (t ≡ true → code_of a ≡ x) → (t ≡ false → code_of b ≡ y) → code_of (when t then a else b) ≡ (when t then x else y)
unfolding when◌then◌else◌
code_chosen true a b x y p q = p refl
code_chosen false a b x y p q = q refl

-- what a number tested against 0 says, if it is a test's
pub taken_0 : (t : Result ⊤ Refusal) (n : ℕ) → code_of t ≡ n → t ≡ Ok tt → eqb n 0 ≡ true
taken_0 t n q e = eq-eqb n 0 (sym q ∙ ap (λ (u : Result ⊤ Refusal). code_of u) e)

pub refused_0 : (t : Result ⊤ Refusal) (n : ℕ) (why : Refusal) → code_of t ≡ n → t ≡ Err why → eqb n 0 ≡ false
refused_0 t n why q e = ne_eqb n 0 (λ z. numbered why (sym (ap (λ (u : Result ⊤ Refusal). code_of u) e) ∙ q ∙ z))

-- what holds of what is lent and of what is written holds of what is left
pub written_both : {A : Type 0} (P : A → Type 0) (t : Result ⊤ Refusal) (old new : A) → P old → P new → P (written t old new)
written_both P (Ok x) old new p q = q
written_both P (Err why) old new p q = p
