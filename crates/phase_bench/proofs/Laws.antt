-- One more symbol of a block, and of a slot. Assumes nothing.
use Rattle.std.specs.Prelude.{Option, None, Some, Result}
use mathlib.Core.Bool.{true, ◌&&◌}
use mathlib.Core.List.{List}
use mathlib.Core.Path.{◌≡◌}
use Prim.Native.Nat.{ℕ, ◌+◌, ◌*◌, ◌≤◌, ◌^◌}
use borrow.Author.Tests.{eqb-true}
use lib.Dec.{eqb}
use native.Mathlib.Numerals.{add-one}
use native.Mathlib.Omega.{arith}
use lib.IntN.{ℤ, pos}
use lib.ListN.{length, get_or, set}
use Rattle.angles.specs.declared.Symbol.{Symbol}
use Rattle.carrier.specs.Carrier.{rotated_of, advanced_nco}
use Rattle.carrier.specs.declared.Nco.{Nco}
use Rattle.laws.proofs.Tests.{if_both, and_both}
use Rattle.refusal.proofs.Answered.{answered_either}
use Rattle.refusal.specs.declared.Refused.{Refused}
use Rattle.phase.proofs.Laws.{head_taken, phase_ok, whole_ok}
use Rattle.phase.specs.Answers.{head_refusal, head_answer, headed_due}
use Rattle.phase.specs.Phase.{begun_of, whole_of, due_of, corrected_of, due_in}
use Rattle.phase.specs.Ranges.{HeadOk}
use Rattle.phase.specs.declared.Headed.{Headed}
use Rattle.phase.specs.declared.Held.{Held}
use Rattle.phase_range.proofs.Steps.{whole_in_range_lem}
use Rattle.sync_heads.specs.declared.Head.{Head}
use Rattle.phase.specs.declared.Corrected.{Corrected}
use Rattle.phase.specs.declared.WholeSlot.{WholeSlot}
use Rattle.phase_bench.specs.Blocks.{Turned, turned, rotated_one, rotated_all}
use Rattle.phase_bench.specs.Slots.{Places, places, corrected_one, corrected_all, head_of, DueOk, fitting}

pub rotate_more : (xs table : List ℤ) (k : ℕ) (t₀ t : Turned) (x : Symbol) (n : Nco) → t ≡ rotated_all xs table k t₀ →
    x ≡ rotated_of table t.nco.phase (get_or xs (2 * k) (pos 0)) (get_or xs (2 * k + 1) (pos 0)) →
    n ≡ advanced_nco t.nco →
    turned n (set (set t.out (2 * k) x.i) (2 * k + 1) x.q) ≡ rotated_all xs table (k + 1) t₀
unfolding rotated_all rotated_one
rotate_more xs table k t₀ t x n et ex en = rw (add-one k, ← et, en, ex)

pub correct_more : (w : WholeSlot) (table store : List ℤ) (j : ℕ) (p₀ p : Places) (c : Corrected) → p ≡ corrected_all w table store j p₀ → c ≡ corrected_of w table store j →
    places (set (set p.y (2 * j) c.y.i) (2 * j + 1) c.y.q) (set p.phi j c.phi) (set p.gain j c.gain) ≡ corrected_all w table store (j + 1) p₀
unfolding corrected_all corrected_one
correct_more w table store j p₀ p c ep ec = rw (add-one j, ← ep, ec)

-- what a slot that is due has
whole_due : (a b : Head) → HeadOk a → HeadOk b → a.at + 9296 ≤ 2 ^ 62 → DueOk (Some (whole_of a b))
unfolding whole_of
whole_due a b ha hb room = (whole_ok (whole_of a b) (whole_in_range_lem a b ha hb), place a b room)
  where
    place : (a b : Head) → a.at + 9296 ≤ 2 ^ 62 → (whole_of a b).head.at + 9296 ≤ 2 ^ 62
    place a b h = h

pub due_ok : (a b : Head) → a.at + 9296 ≤ 2 ^ 62 → DueOk (headed_due (head_answer (Some (record { head = a; count = 9296 })) b))
unfolding head_answer due_in
due_ok a b room =
    let s : Option Held = Some (record { head = a; count = 9296 }) in
    answered_either (λ (x : Result Headed (Refused (Option Held))). DueOk (headed_due x)) (head_refusal s b) s (record { phase = begun_of b; due = due_of s b })
    (λ e.
    let t = head_taken s b e in
    if_both DueOk (eqb 9296 9296) (Some (whole_of a b)) None (whole_due a b (phase_ok s t.in_range) t.head room) tt)
    (λ why e. tt)

pub at_zero : (theta : ℕ) (amp : ℤ) → (head_of 0 theta amp).at + 9296 ≤ 2 ^ 62
unfolding head_of
at_zero theta amp = omega arith

-- what lengths that fit are
pub record Fits (t u : List ℤ) (p : Places) : Type 0 where
  pub table : length t ≡ 1024
  pub store : length u ≡ 18592
  pub y : length p.y ≡ 18592
  pub phi : length p.phi ≡ 9296
  pub gain : length p.gain ≡ 9296

pub lengths : (t u : List ℤ) (p : Places) → fitting t u p ≡ true → Fits t u p
lengths t u p e =
    let a = eqb (length t) 1024 in
    let b = a && eqb (length u) 18592 in
    let c = b && eqb (length p.y) 18592 in
    let d = c && eqb (length p.phi) 9296 in
    let e0 = and_both d (eqb (length p.gain) 9296) e in
    let e1 = and_both c (eqb (length p.phi) 9296) e0.0 in
    let e2 = and_both b (eqb (length p.y) 18592) e1.0 in
    let e3 = and_both a (eqb (length u) 18592) e2.0 in
    record {
      table = eqb-true (length t) 1024 e3.0;
      store = eqb-true (length u) 18592 e3.1;
      y = eqb-true (length p.y) 18592 e2.1;
      phi = eqb-true (length p.phi) 9296 e1.1;
      gain = eqb-true (length p.gain) 9296 e0.1;
    }
