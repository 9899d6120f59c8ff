-- What each change of an equaliser keeps, and what a coherent one answers. Assumes nothing.
use Rattle.std.specs.Prelude.{Option, Ok, Err}
use Prim.Native.Nat.{◌+◌, ◌*◌, ◌<◌, ◌≤◌, min, suc, zero, ℕ}
use Rattle.eq.proofs.Laws.{taking}
use Rattle.eq.specs.Answers.{range_refusal, train_refusal}
use Rattle.refusal.specs.declared.Refusal.TheVariants.{Counts}
use Rattle.eq.specs.Eq.{loaded_eq, pushed_eq, started_eq, trained_eq, trains_eq, with_sums}
use Rattle.eq.specs.Ranges.{eq_in_range}
use Rattle.eq.specs.declared.Equaliser.{Equaliser}
use Rattle.eq_fir.specs.Fir.{line_after, no_line, nth}
use Rattle.eq_range.specs.Coherent.{Coherent}
use Rattle.eq_train.proofs.Theorems.{sound_in_range, train_sound}
use Rattle.eq_train.specs.Ranges.{sums_in_range}
use Rattle.eq_train.specs.Sound.{SumsSound}
use Rattle.laws.proofs.Tests.{and_both, if_either, never}
use Rattle.laws.specs.Choice.{if_no, if_yes, when◌then◌else◌}
use Rattle.sums.specs.Sums.{empty_sums}
use borrow.Author.Tests.{le-leb}
use lib.Dec.{leb}
use lib.IntN.{pos, ℤ}
use lib.ListN.{get_or-replicate, length, length-replicate}
use lib.Seq.{get_or-take, length-take-le}
use mathlib.Core.Bool.{Bool, ◌&&◌, false, true}
use mathlib.Core.List.{List}
use mathlib.Core.Path.{◌∙◌, ◌≡◌, refl, sym}
use mir.Syntax.{w16}
use mir.Val.{SFits}
use native.Mathlib.Omega.{arith}

-- ---- the line
zero_fits : SFits w16 (pos 0)
zero_fits = record { sfits = omega arith }

line_pairs : (l : List ℤ) (i q : ℤ) → length l ≡ 22 → length (line_after l i q) ≡ 22
unfolding line_after
line_pairs l i q h = let e = length-take-le 20 l (omega arith) in omega (arith, e)

line_short : (l : List ℤ) (i q : ℤ) → SFits w16 i → SFits w16 q → ((k : ℕ) → k < 22 → SFits w16 (nth l k)) → (k : ℕ) → k < 22 → SFits w16 (nth (line_after l i q) k)
unfolding line_after
line_short l i q fi fq h zero b = fi
line_short l i q fi fq h (suc zero) b = fq
line_short l i q fi fq h (suc (suc k)) b = rw (get_or-take 20 l k (pos 0) (omega arith)) (h k (omega arith))

line_rest : (l : List ℤ) (i q : ℤ) (n : ℕ) → ((k : ℕ) → 2 * n ≤ k → k < 22 → nth l k ≡ pos 0) → (k : ℕ) → 2 * min (n + 1) 11 ≤ k → k < 22 → nth (line_after l i q) k ≡ pos 0
unfolding line_after
line_rest l i q n h zero a b = absurd (no n a)
  where
    no : (n : ℕ) → 2 * min (n + 1) 11 ≤ 0 → ⊥
    no n a = omega arith
line_rest l i q n h (suc zero) a b = absurd (no n a)
  where
    no : (n : ℕ) → 2 * min (n + 1) 11 ≤ 1 → ⊥
    no n a = omega arith
line_rest l i q n h (suc (suc k)) a b = get_or-take 20 l k (pos 0) (omega arith) ∙ h k (omega arith) (omega arith)

-- ---- each change
pub started_coherent : (taps : List ℤ) (from : Option ℕ) → Coherent (started_eq taps from)
unfolding started_eq no_line
started_coherent taps from =
    record {
      filled = omega arith;
      pairs = length-replicate {A = ℤ} 22 (pos 0);
      short = λ k h. rw (get_or-replicate {A = ℤ} 22 k (pos 0) (pos 0) h) zero_fits;
      rest = λ k h b. get_or-replicate {A = ℤ} 22 k (pos 0) (pos 0) b;
      open_sums = λ o. absurd (never (sym o));
      no_sums = λ o. refl;
    }

pub pushed_coherent : (e : Equaliser) (i q : ℤ) → Coherent e → SFits w16 i → SFits w16 q → Coherent (pushed_eq e i q)
unfolding pushed_eq
pushed_coherent e i q c fi fq =
    record {
      filled = omega arith;
      pairs = line_pairs e.line i q c.pairs;
      short = line_short e.line i q fi fq c.short;
      rest = line_rest e.line i q e.filled c.rest;
      open_sums = c.open_sums;
      no_sums = c.no_sums;
    }

-- open sums that are sound
pub open_coherent : (e : Equaliser) (s : _) → Coherent e → SumsSound s → Coherent (with_sums e true s)
unfolding with_sums
open_coherent e s c h = record { filled = c.filled; pairs = c.pairs; short = c.short; rest = c.rest; open_sums = λ o. h; no_sums = λ o. absurd (never o) }

pub closed_coherent : (e : Equaliser) → Coherent e → Coherent (with_sums e false (empty_sums 0))
unfolding with_sums
closed_coherent e c = record { filled = c.filled; pairs = c.pairs; short = c.short; rest = c.rest; open_sums = λ o. absurd (never (sym o)); no_sums = λ o. refl }

pub loaded_coherent : (e : Equaliser) (taps : List ℤ) (frame : ℕ) → Coherent e → Coherent (loaded_eq e taps frame)
unfolding loaded_eq
loaded_coherent e taps frame c = record { filled = c.filled; pairs = c.pairs; short = c.short; rest = c.rest; open_sums = c.open_sums; no_sums = c.no_sums }

-- ---- the ranges
pub coherent_in_range : (e : Equaliser) → Coherent e → eq_in_range e ≡ true
unfolding eq_in_range
coherent_in_range e c =
    let t : (when e.opened then sums_in_range e.sums else true) ≡ true = if_either (λ (b : Bool). b ≡ true) e.opened (sums_in_range e.sums) true (λ o. sound_in_range e.sums (c.open_sums o)) (λ o. refl) in
    rw (le-leb e.filled 11 c.filled, t)

-- ---- a training
pub trains_open : (e : Equaliser) → trains_eq e ≡ true → e.opened ≡ true
unfolding trains_eq
trains_open e t = (and_both e.opened (leb 11 e.filled) t).0

-- of an equaliser in range: 8 where it would be counted and the count is full, else none
pub accepted : (e : Equaliser) → eq_in_range e ≡ true → range_refusal e ≡ Ok tt
unfolding range_refusal
accepted e h = if_yes (eq_in_range e) _ _ h

pub refusal_8 : (e : Equaliser) → eq_in_range e ≡ true → (trains_eq e && leb 4194304 e.sums.count) ≡ true → train_refusal e ≡ Err Counts
unfolding train_refusal
refusal_8 e h t = if_yes (eq_in_range e) _ _ h ∙ if_yes _ _ _ t

pub no_refusal : (e : Equaliser) → eq_in_range e ≡ true → (trains_eq e && leb 4194304 e.sums.count) ≡ false → train_refusal e ≡ Ok tt
unfolding train_refusal
no_refusal e h t = if_yes (eq_in_range e) _ _ h ∙ if_no _ _ _ t

pub trained_coherent : (e : Equaliser) (di dq : ℤ) → Coherent e → SFits w16 di → SFits w16 dq → train_refusal e ≡ Ok tt → Coherent (trained_eq e di dq)
unfolding trained_eq
trained_coherent e di dq c fi fq z =
    if_either Coherent (trains_eq e) _ _
    (λ t. open_coherent e _ c (train_sound e.sums e.line di dq (c.open_sums (trains_open e t)) c.short fi fq ((taking e z).room t)))
    (λ t. c)
