-- The window that a loop shifts, and the tests of positions. Assumes nothing.
use Prim.Native.Nat.{◌+◌, ◌-◌, ◌<◌, ◌^◌, ◌≤◌, suc, zero, ℕ}
use Rattle.laws.proofs.Lists.{length-firsts}
use Rattle.laws.proofs.Tests.{and_both}
use Rattle.laws.proofs.Taken.{ok_no, ok_yes}
use Rattle.std.specs.Prelude.{Ok}
use Rattle.refusal.specs.declared.Refusal.TheVariants.{Stores, Words, Arithmetic, Position}
use Rattle.laws.specs.Ranges.{firsts}
use Rattle.sync_corr.specs.Correlate.{both_of, ones_of}
use Rattle.sync_corr.specs.declared.Both.{Both}
use Rattle.sync_step.proofs.Laws.{run_ready}
use Rattle.sync_step.specs.Ranges.{RunOk, run_in_range}
use Rattle.sync_step.specs.Step.{place_of, step_of}
use Rattle.sync_step.specs.declared.Run.{Run}
use Rattle.sync_step.specs.declared.Step.{Step}
use Rattle.sync.specs.Answers.{accepted_acc, accepted_push, push_refusal}
use Rattle.sync.specs.Sync.{kept_window, stored_of, symbol_of, window_after}
use Rattle.sync.specs.declared.SlotSync.{SlotSync}
use borrow.Author.Tests.{eqb-true}
use lib.Dec.{eqb, leb}
use lib.IntN.{ℤ}
use lib.ListN.{drop, drop_of_length-le, get_or, length, length-append, set}
use lib.Seq.{drop-cons, get_or-append-add, get_or-drop, set_at}
use mathlib.Core.Bool.{◌&&◌, true}
use mathlib.Core.List.{List, [], ◌++◌, ◌∷◌, append_assoc, append-nil}
use mathlib.Core.Path.{◌∙◌, ◌≡◌, ap, sym}
use native.Mathlib.Nat.{add-zero}
use native.Mathlib.Omega.{arith}

module _ {A : Type 0} where
  -- past what a loop has written stands what stood there
  pub get_d_past : (f : ℕ → A) (d : A) (n : ℕ) (ys : List A) (l : ℕ) → n ≤ l → get_or (firsts f n ++ drop n ys) l d ≡ get_or ys l d
  get_d_past f d n ys l h =
      let e : n + (l - n) ≡ l = omega arith in
      let g = get_or-append-add (firsts f n) (drop n ys) (l - n) d in
      let k : get_or (firsts f n ++ drop n ys) (n + (l - n)) d ≡ get_or (drop n ys) (l - n) d = rw (length-firsts f n) at g in
      rw e at (k ∙ get_or-drop n ys (l - n) d)

  -- the entries from m on, one by one
  pub firsts-from : (ys : List A) (d : A) (m n : ℕ) → m + n ≤ length ys → firsts (λ j. get_or ys (m + j) d) n ++ drop (m + n) ys ≡ drop m ys
  unfolding firsts
  firsts-from ys d m zero h = rw add-zero
  firsts-from ys d m (suc n) h =
      let e : m + suc n ≡ suc (m + n) = omega arith in
      let k : m + n < length ys = omega arith in
      rw e (append_assoc (firsts (λ j. get_or ys (m + j) d) n) (get_or ys (m + n) d ∷ []) (drop (suc (m + n)) ys)
      ∙ ap (λ (l : List A). firsts (λ j. get_or ys (m + j) d) n ++ l) (sym (drop-cons ys (m + n) d k))
      ∙ firsts-from ys d m n (omega arith))

  -- a list moved down by two, with two more at its end
  pub moved_down : (w : List A) (d : A) (n : ℕ) (a b : A) → length w ≡ n + 2 →
      set (set (firsts (λ j. get_or w (2 + j) d) n ++ drop n w) n a) (n + 1) b ≡ drop 2 w ++ (a ∷ b ∷ [])
  moved_down w d n a b h =
      let p = firsts (λ j. get_or w (2 + j) d) n in
      let x = get_or w n d in
      let y = get_or w (suc n) d in
      let none : drop (2 + n) w ≡ [] = drop_of_length-le w {i = 2 + n} (omega arith) in
      let from : p ≡ drop 2 w = sym (append-nil p) ∙ ap (λ (l : List A). p ++ l) (sym none) ∙ firsts-from w d 2 n (omega arith) in
      let e : suc (suc n) ≡ 2 + n = omega arith in
      let rest : drop n w ≡ x ∷ y ∷ [] = drop-cons w n d (omega arith) ∙ ap (λ (l : List A). x ∷ l) (drop-cons w (suc n) d (omega arith) ∙ ap (λ (l : List A). y ∷ l) (rw e none)) in
      let one : length (p ++ (a ∷ [])) ≡ n + 1 = length-append p (a ∷ []) ∙ rw (length-firsts (λ j. get_or w (2 + j) d) n) in
      rw (rest, set_at p x (y ∷ []) a n (length-firsts (λ j. get_or w (2 + j) d) n), ← append_assoc p (a ∷ []) (y ∷ []))
      (set_at (p ++ (a ∷ [])) y [] b (n + 1) one ∙ append_assoc p (a ∷ []) (b ∷ []) ∙ ap (λ (l : List A). l ++ (a ∷ b ∷ [])) from)

-- ---- what a symbol makes, from the results of the parts
pub accepted_is : (s : SlotSync) (i q : ℤ) (f w : List ℤ) (acc : List ℕ) (v k : List ℤ) (b : Both) (p : ℕ) (x : Step) →
    v ≡ window_after s.win i q → b ≡ both_of v f w → p ≡ place_of 9296 s.run.t → x ≡ step_of 9296 s.run b (get_or acc p 0) → k ≡ kept_window x.stores v →
    record { sync = record { win = k; run = x.run }; last = x.last; events = x.events } ≡ accepted_push s i q f w acc
unfolding accepted_push symbol_of
accepted_is s i q f w acc v k b p x ev eb ep ex ek = rw (ek, ex, ep, eb, ev)

pub accepted_stores : (s : SlotSync) (i q : ℤ) (f w : List ℤ) (acc : List ℕ) (v : List ℤ) (b : Both) (p : ℕ) (x : Step) →
    v ≡ window_after s.win i q → b ≡ both_of v f w → p ≡ place_of 9296 s.run.t → x ≡ step_of 9296 s.run b (get_or acc p 0) →
    stored_of x.stores p acc ≡ accepted_acc s i q f w acc
unfolding accepted_acc symbol_of
accepted_stores s i q f w acc v b p x ev eb ep ex = rw (ex, ep, eb, ev)

-- ---- no refusal: what is then known
pub record Taking (len : ℕ) (f w : List ℤ) (r : Run) : Type 0 where
  pub long : len ≡ 9296
  pub ones_f : ones_of f ≡ true
  pub ones_w : ones_of w ≡ true
  pub ready : RunOk r

pub taking : (len : ℕ) (f w : List ℤ) (r : Run) → push_refusal len f w r ≡ Ok tt → Taking len f w r
unfolding push_refusal
taking len f w r h =
    let a = ok_yes (eqb len 9296) _ Stores h in
    let b = ok_yes (ones_of f && ones_of w) _ Words a.1 in
    let d = ok_yes (run_in_range r) _ Arithmetic b.1 in
    let e = ok_no (leb (2 ^ 62) (r.base + r.t)) Position _ d.1 in
    let o = and_both (ones_of f) (ones_of w) b.0 in
    record { long = eqb-true len 9296 a.0; ones_f = o.0; ones_w = o.1; ready = run_ready r d.0 e.0 }
