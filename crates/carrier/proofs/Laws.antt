-- What the ranges give, what is accepted, and how large a rotated symbol is. Assumes nothing.
use Rattle.std.specs.Prelude.{Option, None, Some, Ok}
use mathlib.Core.Path.{◌≡◌}
use mathlib.Core.Bool.{true, ◌&&◌}
use Prim.Native.Nat.{ℕ, ◌+◌, ◌≤◌}
use native.Mathlib.Omega.{arith}
use borrow.Author.Tests.{leb-true, eqb-true}
use lib.Dec.{eqb, leb, lit<}
use lib.IntN.{ℤ, pos, negsuc, nat_abs}
use lib.Signed.{le_z}
use Rattle.laws.proofs.Taken.{ok_yes}
use Rattle.laws.proofs.Tests.{and_both}
use Rattle.laws.specs.Choice.{minus}
use Rattle.angles.proofs.Laws.{turned_size}
use Rattle.angles.specs.Angles.{turned_back}
use Rattle.fx.specs.declared.CosSin.{CosSin}
use Rattle.fx.specs.declared.Parts.{Parts}
use Rattle.refusal.specs.declared.Refusal.TheVariants.{Table, Arithmetic}
use Rattle.sync_heads.specs.declared.Head.{Head}
use Rattle.carrier.specs.Answers.{rotate_refusal, head_refusal}
use Rattle.carrier.specs.Ranges.{steps_in_range, trail_in_range, nco_in_range, StepsOk, TrailOk, NcoOk}
use Rattle.carrier.specs.declared.Nco.{Nco}
use Rattle.carrier.specs.declared.Steps.{Steps}

-- ---- what the ranges give
sum_size : (z : ℤ) → le_z (minus 126701535232) z ≡ true → le_z z (pos 126701535173) ≡ true → nat_abs z ≤ 126701535232
sum_size (pos a) l h = omega (arith, leb-true a 126701535173 h)
sum_size (negsuc a) l h = omega (arith, leb-true a 126701535231 l)

pub steps_ok : (s : Steps) → steps_in_range s ≡ true → StepsOk s
unfolding steps_in_range
steps_ok s e =
    let h = and_both (leb s.steps 59 && le_z (minus 126701535232) s.sum) (le_z s.sum (pos 126701535173)) e in
    let k = and_both (leb s.steps 59) (le_z (minus 126701535232) s.sum) h.0 in
    record { steps = leb-true s.steps 59 k.0; sum = sum_size s.sum k.1 h.1 }

trail_ok : (t : Option Steps) → trail_in_range t ≡ true → TrailOk t
unfolding trail_in_range
trail_ok None e = tt
trail_ok (Some s) e = steps_ok s e

pub nco_ok : (n : Nco) → nco_in_range n ≡ true → NcoOk n
unfolding nco_in_range
nco_ok n e = record { trail = trail_ok n.trail e }

-- ---- what is accepted
pub rotate_accepts : (n : Nco) (len : ℕ) → rotate_refusal n len ≡ Ok tt → (len ≡ 1024) × (nco_in_range n ≡ true)
unfolding rotate_refusal
rotate_accepts n len e =
    let a = ok_yes (eqb len 1024) _ Table e in
    (eqb-true len 1024 a.0, (ok_yes (nco_in_range n) (Ok tt) Arithmetic a.1).0)

pub head-accepts : (n : Nco) (h : Head) → head_refusal n h ≡ Ok tt → nco_in_range n ≡ true
unfolding head_refusal
head-accepts n h e = (ok_yes (nco_in_range n) _ Arithmetic e).0

-- ---- a rotated symbol's parts
pub record Small (p : Parts) : Type 0 where
  pub re : nat_abs p.re ≤ 4096
  pub im : nat_abs p.im ≤ 4096
  pub both : nat_abs p.re + nat_abs p.im ≤ 4097

pub turned_small : (p : CosSin) (xi xq : ℤ) → nat_abs p.cos ≤ 32768 → nat_abs p.sin ≤ 32768 → nat_abs xi ≤ 128 → nat_abs xq ≤ 128 → Small (turned_back p xi xq 11)
turned_small p xi xq hc hd hi hq =
    let t = turned_size p xi xq 128 11 hc hd hi hq (lit< tt) in
    record { re = omega (arith, t.re); im = omega (arith, t.im); both = omega (arith, t.both) }
