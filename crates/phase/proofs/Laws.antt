-- Laws of the definitions of phase that its proofs cite: sizes of gains and steps, and what is known where nothing refuses. Assumes nothing.
use Rattle.std.specs.Prelude.{Option, None, Some, Ok}
use mathlib.Core.Bool.{Bool, true, false, not, ◌&&◌, ◌||◌}
use mathlib.Core.Path.{◌≡◌, refl, sym}
use Prim.Native.Nat.{ℕ, ◌+◌, ◌*◌, ◌^◌, ◌≤◌, ◌<◌}
use native.Mathlib.Nat.{div-lt_iff_lt-mul, le_of_suc-le-suc}
use native.Mathlib.Omega.{arith}
use borrow.Author.Tests.{ltb-true, ltb-false, leb-true, leb-false, le-ltb, eqb-true}
use lib.Dec.{eqb, leb, ltb}
use lib.IntN.{ℤ, pos, negsuc, nat_abs, ◌*ℤ◌}
use lib.Signed.{lt_z, le_z}
use mir.Facts.{to_z_pos}
use mir.Syntax.{w64}
use mir.Val.{to_z, of_z}
use Rattle.fx.proofs.Laws.{not_wide}
use Rattle.fx.specs.Answers.{wide}
use Rattle.fx.specs.Fx.{div_round}
use Rattle.laws.proofs.Size.{Num, arg_le, sfits_abs, times}
use Rattle.laws.proofs.Taken.{ok_yes, ok_no}
use Rattle.laws.proofs.Tests.{if_either, never, and_both, neither}
use Rattle.laws.specs.Choice.{minus}
use Rattle.refusal.specs.declared.Refusal.TheVariants.{Stores, Table, Arithmetic, Position}
use Rattle.sync_heads.specs.Given.{given_refusal}
use Rattle.sync_heads.specs.declared.Head.{Head}
use Rattle.phase.specs.Answers.{past_end, place_past, push_refusal, head_refusal, correct_refusal}
use Rattle.phase.specs.Phase.{gain_of}
use Rattle.phase.specs.Ranges.{held_in_range, phase_in_range, whole_in_range, HeadOk, PhaseOk, WholeOk}
use Rattle.phase.specs.declared.Held.{Held}
use Rattle.phase.specs.declared.WholeSlot.{WholeSlot}

-- ---- gains
-- 64 and more are not below 1
pub above_64 : (z : ℤ) → lt_z z (pos 64) ≡ false → (64 ≤ nat_abs z) × (lt_z z (pos 1) ≡ false)
above_64 (pos n) e = let h = ltb-false n 64 e in (h, le-ltb n 1 (omega (arith, h)))
above_64 (negsuc n) e = absurd (never e)

quotient_size : (b : ℤ) → 64 ≤ nat_abs b → nat_abs (div_round (pos 4555500750) b) ≤ 71179699
unfolding div_round
quotient_size b h = le_of_suc-le-suc ((div-lt_iff_lt-mul {k = 2 * nat_abs b} {x = 9111001500 + nat_abs b} {y = 71179700} (omega arith)).1 (omega arith))

pub gain_size : (amp : ℤ) → nat_abs (gain_of amp) ≤ 71179699
unfolding gain_of
gain_size amp =
    if_either (λ (b : ℤ). nat_abs (div_round (pos 4555500750) b) ≤ 71179699) (lt_z amp (pos 64)) (pos 64) amp (λ e. quotient_size (pos 64) (omega arith))
    (λ e. quotient_size amp (above_64 amp e).0)

-- ---- a step times an index
pub index : (j : ℕ) → j < 9296 → Num (to_z w64 j) (pos j) 9296
index j h = record { is = to_z_pos w64 (omega (arith, h)); size = omega (arith, h) }

pub stepped : (z : ℤ) (j B : ℕ) → nat_abs z ≤ B → B ≤ 2 ^ 34 → j < 9296 → Num (to_z w64 (of_z w64 z) *ℤ to_z w64 j) (z *ℤ pos j) (B * 9296)
stepped z j B h k l = times (arg_le B (sfits_abs w64 z (omega (arith, h, k))) h) (index j l)

-- ---- no refusal: what is then known
not_true : (t : Bool) → not t ≡ true → t ≡ false
not_true true e = absurd (never (sym e))
not_true false e = refl

held_ok : (x : Held) → held_in_range x ≡ true → HeadOk x.head
unfolding held_in_range
held_ok x e =
    let p = and_both (not (wide x.head.amp) && ltb x.head.at (2 ^ 62)) (leb x.count 9296) e in
    let q = and_both (not (wide x.head.amp)) (ltb x.head.at (2 ^ 62)) p.0 in
    record { amp = not_wide x.head.amp (not_true (wide x.head.amp) q.0) }

pub phase_ok : (s : Option Held) → phase_in_range s ≡ true → PhaseOk s
unfolding phase_in_range
phase_ok None e = tt
phase_ok (Some x) e = held_ok x e

-- a number between -a and b
between : (z : ℤ) (a b B : ℕ) → le_z (negsuc a) z ≡ true → le_z z (pos b) ≡ true → a < B → b ≤ B → nat_abs z ≤ B
between (pos n) a b B l h p q = omega (arith, leb-true n b h)
between (negsuc n) a b B l h p q = omega (arith, leb-true n a l)

positive : (z : ℤ) (b : ℕ) → le_z (pos 0) z ≡ true → le_z z (pos b) ≡ true → nat_abs z ≤ b
positive (pos n) b l h = leb-true n b h
positive (negsuc n) b l h = absurd (never (sym l))

pub whole_ok : (s : WholeSlot) → whole_in_range s ≡ true → WholeOk s
unfolding whole_in_range
whole_ok s e =
    let a = not (wide s.head.amp) && not (wide s.next.amp) in
    let b = a && le_z (minus 15139574784) s.delta in
    let c = b && le_z s.delta (pos 15139574777) in
    let d = c && le_z (pos 0) s.gain in
    let f = d && le_z s.gain (pos 71179699) in
    let g = f && le_z (minus 501810748) s.gamma in
    let p0 = and_both g (le_z s.gamma (pos 501810748)) e in
    let p1 = and_both f (le_z (minus 501810748) s.gamma) p0.0 in
    let p2 = and_both d (le_z s.gain (pos 71179699)) p1.0 in
    let p3 = and_both c (le_z (pos 0) s.gain) p2.0 in
    let p4 = and_both b (le_z s.delta (pos 15139574777)) p3.0 in
    let p5 = and_both a (le_z (minus 15139574784) s.delta) p4.0 in
    record {
      delta = between s.delta 15139574783 15139574777 (2 ^ 34) p5.1 p4.1 (omega arith) (omega arith);
      gain = omega (arith, positive s.gain 71179699 p3.1 p2.1);
      gamma = between s.gamma 501810747 501810748 (2 ^ 29) p1.1 p0.1 (omega arith) (omega arith);
    }

pub record PushTaken (s : Option Held) (len : ℕ) : Type 0 where
  pub long : len ≡ 18592
  pub in_range : phase_in_range s ≡ true
  pub before_end : past_end s ≡ false

pub push_taken : (s : Option Held) (len : ℕ) → push_refusal s len ≡ Ok tt → PushTaken s len
unfolding push_refusal
push_taken s len e =
    let p = ok_yes (eqb len 18592) _ Stores e in
    let q = ok_yes (phase_in_range s) _ Arithmetic p.1 in
    record { long = eqb-true len 18592 p.0; in_range = q.0; before_end = (ok_no (past_end s) Position (Ok tt) q.1).0 }

pub record HeadTaken (s : Option Held) (h : Head) : Type 0 where
  pub in_range : phase_in_range s ≡ true
  pub head : HeadOk h
  pub place : h.at < 2 ^ 62

pub head_taken : (s : Option Held) (h : Head) → head_refusal s h ≡ Ok tt → HeadTaken s h
unfolding head_refusal given_refusal
head_taken s h e =
    let p = ok_yes (phase_in_range s) _ Arithmetic e in
    let q = ok_no (wide h.amp) Arithmetic _ p.1 in
    record {
      in_range = p.0;
      head = record { amp = not_wide h.amp q.0 };
      place = leb-false (2 ^ 62) h.at (ok_no (leb (2 ^ 62) h.at) Position (Ok tt) q.1).0;
    }

pub record CorrectTaken (s : WholeSlot) (j t k : ℕ) : Type 0 where
  pub store : k ≡ 18592
  pub table : t ≡ 1024
  pub whole : WholeOk s
  pub index : j < 9296
  pub place : s.head.at + j < 2 ^ 62

pub correct_taken : (s : WholeSlot) (j table store : ℕ) → correct_refusal s j table store ≡ Ok tt → CorrectTaken s j table store
unfolding correct_refusal place_past
correct_taken s j table store e =
    let p = ok_yes (eqb store 18592) _ Stores e in
    let q = ok_yes (eqb table 1024) _ Table p.1 in
    let r = ok_yes (whole_in_range s && ltb j 9296) _ Arithmetic q.1 in
    let b = and_both (whole_in_range s) (ltb j 9296) r.0 in
    let k = neither (leb (2 ^ 62) (s.head.at + j)) (leb (2 ^ 62) s.next.at) (ok_no (leb (2 ^ 62) (s.head.at + j) || leb (2 ^ 62) s.next.at) Position (Ok tt) r.1).0 in
    record {
      store = eqb-true store 18592 p.0;
      table = eqb-true table 1024 q.0;
      whole = whole_ok s b.0;
      index = ltb-true j 9296 b.1;
      place = leb-false (2 ^ 62) (s.head.at + j) k.0;
    }
