-- Laws of the definitions of fields. Assumes nothing.
use mathlib.Core.List.{List}
use mathlib.Core.Path.{◌≡◌, refl, sym, ap, ◌∙◌}
use Prim.Native.Nat.{ℕ, zero, suc, ◌+◌, ◌≤◌, min}
use native.Mathlib.Nat.{le_refl}
use native.Mathlib.Omega.{arith}
use borrow.Author.Tests.{ltb-false, ltb-true}
use lib.ListN.{length, take, drop, drop_of_length-le}
use lib.Seq.{take_all, length-take-le}
use Rattle.laws.proofs.Tests.{if_either}
use mathlib.Core.Bool.{Bool, true, false, not}
use Rattle.std.specs.Prelude.{None, Some}
use Rattle.std.specs.Bool.{then_some}
use Rattle.laws.proofs.Lists.{length-firsts}
use Rattle.wire.specs.Wire.{byte_at, packed_of}
use mir.Val.{bool_byte}
use Rattle.laws.specs.Choice.{when◌then◌else◌}
use Rattle.fields.specs.Fields.{flag_of, least_of}

-- ---- a flag as a number
pub flag_byte : (b : Bool) → bool_byte b ≡ flag_of b
unfolding flag_of when◌then◌else◌
flag_byte true = refl
flag_byte false = refl

-- ---- what is there unless a test says that it is not
pub unless : {A : Type 0} (t : Bool) (x : A) → then_some (not t) x ≡ (when t then None else Some x)
unfolding when◌then◌else◌
unless true x = refl
unless false x = refl

-- ---- an answer of numbers has 192 bytes, as a call has
pub length_packed : (p : List ℕ) → length (packed_of p) ≡ 192
unfolding packed_of
length_packed p = length-firsts (byte_at p) 192

-- ---- as many entries as there are
pub min_least : (n all : ℕ) → min n all ≡ least_of n all
unfolding least_of
min_least n all = if_either (λ (k : ℕ). min n all ≡ k) _ _ _ (λ t. omega (arith, ltb-true n all t)) (λ t. omega (arith, ltb-false n all t))

pub take_least : {A : Type 0} (n : ℕ) (l : List A) → take (least_of n (length l)) l ≡ take n l
unfolding least_of
take_least n l = if_either (λ (k : ℕ). take k l ≡ take n l) _ _ _ (λ t. refl) (λ t. take_all (length l) l (le_refl _) ∙ sym (take_all n l (ltb-false n (length l) t)))

pub drop_least : {A : Type 0} (n : ℕ) (l : List A) → drop (least_of n (length l)) l ≡ drop n l
unfolding least_of
drop_least n l =
    if_either (λ (k : ℕ). drop k l ≡ drop n l) _ _ _ (λ t. refl)
    (λ t. drop_of_length-le l {i = length l} (le_refl _) ∙ sym (drop_of_length-le l {i = n} (ltb-false n (length l) t)))

pub least_length : {A : Type 0} (n : ℕ) (l : List A) → least_of n (length l) ≡ length (take n l)
unfolding least_of
least_length {A} n l =
    if_either (λ (k : ℕ). k ≡ length (take n l)) _ _ _ (λ t. sym (length-take-le n l (omega (arith, ltb-true n (length l) t))))
    (λ t. sym (ap (λ (s : List A). length s) (take_all n l (ltb-false n (length l) t))))

-- ---- a number of at least a that a `match` on a, a + 1, .. a + k - 1 leaves
abbrev pub NoneFrom : ℕ → ℕ → ℕ → Type 0
NoneFrom a zero n = Unit {0}
NoneFrom a (suc k) n = NoneFrom a k n × (n ≡ a + k → ⊥)

pub past_from : (a k n : ℕ) → a ≤ n → NoneFrom a k n → a + k ≤ n
past_from a zero n h t = omega arith
past_from a (suc k) n h t = let e = past_from a k n h t.0 in let g = t.1 in omega arith
