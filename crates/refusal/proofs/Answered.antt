-- What an answer tells of the test that it came from. Assumes nothing.
use Rattle.std.specs.Prelude.{Result, Ok, Err, ⊤}
use Rattle.std.proofs.Common.{◌≡◌, ap, refl}
use Rattle.refusal.specs.Refusals.{answered}
use Rattle.refusal.specs.declared.Refusal.{Refusal}
use Rattle.refusal.specs.declared.Refused.{Refused}

-- what holds of the own answer where the test let the call through, and of the refusal where it did not, holds of the answer
pub answered_either : {T S : Type 0} (P : Result T (Refused S) → Type 0) (r : Result ⊤ Refusal) (s : S) (a : T) →
    (r ≡ Ok tt → P (Ok a)) → ((why : Refusal) → r ≡ Err why → P (Err (record { why = why; state = s }))) → P (answered r s a)
answered_either P (Ok x) s a p q = p refl
answered_either P (Err why) s a p q = q why refl

pub answered_both : {T S : Type 0} (P : Result T (Refused S) → Type 0) (r : Result ⊤ Refusal) (s : S) (a : T) →
    P (Ok a) → ((why : Refusal) → P (Err (record { why = why; state = s }))) → P (answered r s a)
answered_both P (Ok x) s a p q = p
answered_both P (Err why) s a p q = q why

-- the test that an answer shows
abbrev test_of : {T S : Type 0} → Result T (Refused S) → Result ⊤ Refusal
test_of (Ok a) = Ok tt
test_of (Err x) = Err x.why

test_shown : {T S : Type 0} (r : Result ⊤ Refusal) (s : S) (a : T) → test_of (answered r s a) ≡ r
test_shown (Ok x) s a = refl
test_shown (Err why) s a = refl

-- a refused call was refused by its test
pub refused_by : {T S : Type 0} (r : Result ⊤ Refusal) (s : S) (a : T) (x : Refused S) → answered r s a ≡ Err x → r ≡ Err x.why
refused_by r s a x e = rw (test_shown r s a) at (ap test_of e)
