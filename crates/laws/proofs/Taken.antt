-- Tests that let a call through: what is known where one answered Ok, and of the choices that it is made of. Assumes nothing.
use Rattle.std.specs.Prelude.{Result, Ok, Err, IsErr, ⊤}
use Rattle.std.proofs.Common.{◌≡◌, Bool, true, false, refl, sym, subst}
use Rattle.laws.proofs.Tests.{never}
use Rattle.laws.specs.Choice.{when◌then◌else◌}

pub err_not_ok : {T E : Type 0} {x : T} {why : E} → Err why ≡ Ok x → ⊥
err_not_ok e = absurd (never (sym (subst IsErr e refl)))

-- what is left of a test's choices where it let the call through: none stood in the way
pub ok_yes : {E : Type 0} (t : Bool) (a : Result ⊤ E) (why : E) → (when t then a else Err why) ≡ Ok tt → (t ≡ true) × (a ≡ Ok tt)
unfolding when◌then◌else◌
ok_yes true a why e = (refl, e)
ok_yes false a why e = absurd (err_not_ok e)

pub ok_no : {E : Type 0} (t : Bool) (why : E) (b : Result ⊤ E) → (when t then Err why else b) ≡ Ok tt → (t ≡ false) × (b ≡ Ok tt)
unfolding when◌then◌else◌
ok_no true why b e = absurd (err_not_ok e)
ok_no false why b e = (refl, e)
