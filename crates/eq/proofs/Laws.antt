-- The tests of an equaliser, and what a training that is not refused may rely on. Assumes nothing.
use Prim.Native.Nat.{◌<◌}
use Rattle.std.specs.Prelude.{Ok}
use Rattle.laws.proofs.Taken.{ok_no, ok_yes}
use Rattle.eq_train.proofs.Theorems.{in_range_ok}
use Rattle.eq_train.specs.Ranges.{sums_in_range}
use Rattle.eq.specs.Answers.{train_refusal}
use Rattle.eq.specs.Eq.{trains_eq}
use Rattle.eq.specs.Ranges.{TrainOk, eq_in_range}
use Rattle.eq.specs.declared.Equaliser.{Equaliser}
use Rattle.laws.proofs.Tests.{and_both}
use Rattle.laws.specs.Choice.{if_yes, when◌then◌else◌}
use borrow.Author.Tests.{leb-false}
use lib.Dec.{leb}
use mathlib.Core.Bool.{◌&&◌, true}
use mathlib.Core.Path.{◌∙◌, ◌≡◌, sym}

-- ---- what a number of the state in its range says
pub few_symbols : (e : Equaliser) → eq_in_range e ≡ true → leb e.filled 11 ≡ true
unfolding eq_in_range
few_symbols e h = (and_both (leb e.filled 11) (when e.opened then sums_in_range e.sums else true) h).0

pub open_sums : (e : Equaliser) → eq_in_range e ≡ true → e.opened ≡ true → sums_in_range e.sums ≡ true
unfolding eq_in_range
open_sums e h o = sym (if_yes e.opened (sums_in_range e.sums) true o) ∙ (and_both (leb e.filled 11) (when e.opened then sums_in_range e.sums else true) h).1

-- ---- no refusal: what is then known
pub record Taking (e : Equaliser) : Type 0 where
  pub ranged : eq_in_range e ≡ true
  pub room : trains_eq e ≡ true → e.sums.count < 4194304

pub taking : (e : Equaliser) → train_refusal e ≡ Ok tt → Taking e
unfolding train_refusal
taking e h =
    let r = ok_yes (eq_in_range e) _ _ h in
    let f = (ok_no (trains_eq e && leb 4194304 e.sums.count) _ _ r.1).0 in
    record { ranged = r.0; room = λ t. leb-false 4194304 e.sums.count (rw t at f) }

pub train_ok : (e : Equaliser) → Taking e → TrainOk e
unfolding trains_eq
train_ok e t =
    record { sums = λ h. in_range_ok e.sums (open_sums e t.ranged (and_both e.opened (leb 11 e.filled) h).0) (t.room h) }
