-- Whether a slot finds the sums full: `overfull` by two numbers of its back. Assumes nothing.
use Prim.Native.Nat.{ℕ, zero, suc, ◌+◌, ◌-◌, ◌≤◌, ◌<◌, min}
use mathlib.Core.Bool.{Bool, true, false, ◌||◌}
use mathlib.Core.List.{List, ◌∷◌}
use mathlib.Core.Logic.{◌⊎◌, inl, inr}
use mathlib.Core.Path.{◌≡◌, refl, sym, ap, subst, ◌∙◌}
use native.Mathlib.Nat.{le_refl}
use native.Mathlib.Omega.{arith}
use borrow.Author.Tests.{leb-true, leb-false, lt-ltb, le-ltb, ltb-true, ltb-false}
use lib.Dec.{eqb, leb, ltb}
use lib.IntN.{ℤ}
use Rattle.laws.specs.Choice.{when◌then◌else◌, if_yes, if_no}
use Rattle.laws.specs.Ranges.{firsts}
use Rattle.laws.proofs.Tests.{by_test}
use Rattle.phase.specs.declared.Corrected.{Corrected}
use Rattle.phase.specs.declared.WholeSlot.{WholeSlot}
use Rattle.phase.specs.Phase.{corrected_of}
use Rattle.eq.specs.Eq.{started_eq}
use Rattle.frame_line.specs.declared.Metas.{Metas}
use Rattle.frame_line.specs.Line.{gap_at, no_metas}
use Rattle.frame.specs.declared.Back.{Back}
use Rattle.frame.specs.Align.{joined_to, pushed_back, restarted_back, started_back}
use Rattle.frame.specs.Answers.{trains_back, full_back}
use Rattle.frame.proofs.Theorems.{no_gap}
use Rattle.receiver_slot.specs.Aligned.{Between}
use Rattle.receiver_slot.specs.Aligned.Between.{five, none}
use Rattle.receiver_slot.specs.Full.{full_at, trainings_on}
use Rattle.receiver_slot.specs.Ranges.{BackOk}
use Rattle.receiver_slot.specs.Slot.{corrected_all, overfull}
use Rattle.receiver_slot.specs.Steps.{back_at, pushed_at}
use Rattle.receiver_slot.proofs.Aligned.{firsts_cons, joined_last}
use Rattle.receiver_slot.proofs.Filling.{Filling, From, count_step, filling_step, opened_step, trains_in, trains_out}
use Rattle.receiver_slot.proofs.Steps.{back_none, back_step, over_none, over-step}

or_false : (t : Bool) → (t || false) ≡ t
or_false true = refl
or_false false = refl

pub corrected_at : (w : WholeSlot) (table store : List ℤ) (j : ℕ) → (corrected_of w table store j).at ≡ w.head.at + j
unfolding corrected_of
corrected_at w table store j = refl

pub corrected_j : (w : WholeSlot) (table store : List ℤ) (j : ℕ) → (corrected_of w table store j).j ≡ j
unfolding corrected_of
corrected_j w table store j = refl

-- ---- the first n symbols of a slot that adjoins
module _ (b : Back) (w : WholeSlot) (table store f s : List ℤ) (c l lo : ℕ) (five : (c ≡ 0) ⊎ (c ≡ 5)) (z : From l lo) (start : Filling w.head.at c l 0 b) where
  abbrev gone : ℕ → Back
  gone n = back_at n b w table store f s

  abbrev cs : ℕ → Corrected
  cs n = corrected_of w table store n

  abbrev over : ℕ → Bool
  over n = overfull b (corrected_all n w table store) f s

  gone-step : (n : ℕ) → gone (suc n) ≡ (pushed_back (gone n) (cs n) f s).back
  unfolding pushed_at
  gone-step n = back_step b w table store f s n

  fills : (n : ℕ) → n ≤ 9296 → Filling w.head.at c l n (gone n)
  fills zero h = subst (Filling w.head.at c l 0) (sym (back_none b w table store f s)) start
  fills (suc n) h =
      subst (Filling w.head.at c l (suc n)) (sym (gone-step n))
      (filling_step w.head.at c l n (gone n) (cs n) f s h (corrected_at w table store n) (corrected_j w table store n) (fills n (omega arith)))

  follows : (n : ℕ) → n < 9296 → gap_at (gone n).last (cs n).at ≡ false
  follows n h = rw (corrected_at w table store n) (fills n (omega arith)).follows

  stays_open : (n : ℕ) → n ≤ 9296 → (gone n).eq.opened ≡ b.eq.opened
  stays_open zero h = ap (λ (x : Back). x.eq.opened) (back_none b w table store f s)
  stays_open (suc n) h = ap (λ (x : Back). x.eq.opened) (gone-step n) ∙ opened_step (gone n) (cs n) f s (follows n h) ∙ stays_open n (omega arith)

  count_next : (n : ℕ) → n < 9296 → (gone (suc n)).eq.sums.count ≡ (gone n).eq.sums.count + (when trains_back (gone n) then 1 else 0)
  count_next n h =
      ap (λ (x : Back). x.eq.sums.count) (gone-step n) ∙ count_step (gone n) (cs n) f s (omega (arith, (fills n (omega arith)).count)) (follows n h)

  trains : (n : ℕ) → n < 9296 → lo ≤ n → n < 29 → trains_back (gone n) ≡ b.eq.opened
  trains n h k u = trains_in w.head.at c l lo n (gone n) z (fills n (omega arith)) k u ∙ stays_open n (omega arith)

  idle : (n : ℕ) → n < 9296 → (n < lo) ⊎ (29 ≤ n) → trains_back (gone n) ≡ false
  idle n h o = trains_out w.head.at c l lo n (gone n) five z (fills n (omega arith)) h o

  count-idle : (n : ℕ) → n < 9296 → (n < lo) ⊎ (29 ≤ n) → (gone (suc n)).eq.sums.count ≡ (gone n).eq.sums.count
  count-idle n h o = rw (count_next n h, if_no {A = ℕ} (trains_back (gone n)) 1 0 (idle n h o)) (omega arith)

  -- open sums count each training
  counts : b.eq.opened ≡ true → (n : ℕ) → n ≤ 9296 → (gone n).eq.sums.count ≡ b.eq.sums.count + (min n 29 - lo)
  counts o zero h = rw (back_none b w table store f s) (omega arith)
  counts o (suc n) h =
      let ih = counts o n (omega arith) in
      by_test (ltb n lo) (λ t. let k = ltb-true n lo t in count-idle n h (inl k) ∙ ih ∙ omega (arith, k))
      (λ t.
      let k = ltb-false n lo t in
      by_test (ltb n 29)
      (λ u.
      let m = ltb-true n 29 u in
      rw (count_next n h, if_yes {A = ℕ} (trains_back (gone n)) 1 0 (trains n h k m ∙ o)) (omega (arith, ih, k, m)))
      (λ u. let m = ltb-false n 29 u in count-idle n h (inr m) ∙ ih ∙ omega (arith, m)))

  no-trains : b.eq.opened ≡ false → (n : ℕ) → n < 9296 → trains_back (gone n) ≡ false
  no-trains o n h =
      by_test (ltb n lo) (λ t. idle n h (inl (ltb-true n lo t)))
      (λ t. by_test (ltb n 29) (λ u. trains n h (ltb-false n lo t) (ltb-true n 29 u) ∙ o) (λ u. idle n h (inr (ltb-false n 29 u))))

  -- ---- the sums are full for one of them
  over-next : (n : ℕ) → n < 9296 → over (suc n) ≡ (over n || full_back (gone n))
  over-next n h = over-step b w table store f s n ∙ ap (λ (x : Back). over n || full_back x) (no_gap (gone n) (cs n).at (follows n h))

  full-idle : (n : ℕ) → trains_back (gone n) ≡ false → full_back (gone n) ≡ false
  unfolding full_back
  full-idle n e = rw e

  full-train : (n : ℕ) → trains_back (gone n) ≡ true → full_back (gone n) ≡ leb 4194304 (gone n).eq.sums.count
  unfolding full_back
  full-train n e = rw e

  over-idle : (n : ℕ) → n < 9296 → trains_back (gone n) ≡ false → over (suc n) ≡ over n
  over-idle n h e = over-next n h ∙ rw (full-idle n e) (or_false (over n))

  more : (k : ℕ) → (ltb 4194304 k || leb 4194304 k) ≡ ltb 4194304 (k + 1)
  more k =
      by_test (ltb 4194304 k) (λ t. rw (t, lt-ltb 4194304 (k + 1) (omega (arith, ltb-true 4194304 k t))))
      (λ t.
      by_test (leb 4194304 k)
      (λ u. rw (t, u, lt-ltb 4194304 (k + 1) (omega (arith, leb-true 4194304 k u))))
      (λ u. rw (t, u, le-ltb 4194304 (k + 1) (omega (arith, leb-false 4194304 k u)))))

  overs : b.eq.opened ≡ true → b.eq.sums.count ≤ 4194304 → (n : ℕ) → n ≤ 9296 → over n ≡ ltb 4194304 (b.eq.sums.count + (min n 29 - lo))
  overs o e zero h = over_none b w table store f s ∙ sym (le-ltb 4194304 (b.eq.sums.count + (min 0 29 - lo)) (omega arith))
  overs o e (suc n) h =
      let k = b.eq.sums.count in
      let ih = overs o e n (omega arith) in
      by_test (ltb n lo) (λ t. let i = ltb-true n lo t in over-idle n h (idle n h (inl i)) ∙ ih ∙ ap (λ (x : ℕ). ltb 4194304 (k + x)) (omega (arith, i)))
      (λ t.
      let i = ltb-false n lo t in
      by_test (ltb n 29)
      (λ u.
      let m = ltb-true n 29 u in
      let now = k + (min n 29 - lo) in
      let next : now + 1 ≡ k + (min (suc n) 29 - lo) = omega (arith, i, m) in
      let step : (over n || full_back (gone n)) ≡ ltb 4194304 (now + 1) = rw (ih, full-train n (trains n h i m ∙ o), counts o n (omega arith)) (more now) in
      over-next n h ∙ step ∙ ap (λ (x : ℕ). ltb 4194304 x) next)
      (λ u. let m = ltb-false n 29 u in over-idle n h (idle n h (inr m)) ∙ ih ∙ ap (λ (x : ℕ). ltb 4194304 (k + x)) (omega (arith, m))))

  no-overs : b.eq.opened ≡ false → (n : ℕ) → n ≤ 9296 → over n ≡ false
  no-overs o zero h = over_none b w table store f s
  no-overs o (suc n) h = over-idle n h (no-trains o n h) ∙ no-overs o n (omega arith)

-- ---- a gap before the first symbol has been seen to
over-joined : (b : Back) (c : Corrected) (rest : List Corrected) (f s : List ℤ) → overfull b (c ∷ rest) f s ≡ overfull (joined_to b c.at) (c ∷ rest) f s
unfolding overfull pushed_back
over-joined b c rest f s = rw (no_gap (joined_to b c.at) c.at (joined_last b c.at))

slot_joined : (b : Back) (w : WholeSlot) (table store f s : List ℤ) →
    overfull b (corrected_all 9296 w table store) f s ≡ overfull (joined_to b w.head.at) (corrected_all 9296 w table store) f s
unfolding corrected_all
slot_joined b w table store f s =
    let g = corrected_of w table store in
    let e : (g 0).at ≡ w.head.at = corrected_at w table store 0 ∙ omega arith in
    rw (firsts_cons g 9295)
    (over-joined b (g 0) _ f s ∙ ap (λ (at : ℕ). overfull (joined_to b at) (g 0 ∷ firsts (λ (j : ℕ). g (suc j)) 9295) f s) e)

-- ---- what a slot begins with
count_is : (w : Metas) → Between w → (w.count ≡ 0) ⊎ (w.count ≡ 5)
count_is w (none e) = inl e
count_is w (five e i j k l m) = inr e

pub begins : (at : ℕ) (b : Back) → Between b.metas → b.eq.filled ≤ 11 → gap_at b.last at ≡ false → Filling at b.metas.count b.eq.filled 0 b
begins at b (none e) h g =
    record {
      count = omega (arith, e);
      filled = omega (arith, h);
      follows = rw (at-start at) g;
      first = λ x. absurd (omega (arith, e, x));
      second = λ x. absurd (omega (arith, e, x));
      third = λ x. absurd (omega (arith, e, x));
      fourth = λ x. absurd (omega (arith, e, x));
      fifth = λ x. absurd (omega (arith, e, x));
    }
  where
    at-start : (at : ℕ) → at + 0 ≡ at
    at-start at = omega arith
begins at b (five e i j k l m) h g =
    record {
      count = omega (arith, e);
      filled = omega (arith, h);
      follows = rw (at-start at) g;
      first = λ x. omega (arith, e, i);
      second = λ x. omega (arith, e, j);
      third = λ x. omega (arith, e, k);
      fourth = λ x. omega (arith, e, l);
      fifth = λ x. omega (arith, e, m);
    }
  where
    at-start : (at : ℕ) → at + 0 ≡ at
    at-start at = omega arith

on_empty : trainings_on 0 ≡ 19
unfolding trainings_on when◌then◌else◌
on_empty = refl

on_full : trainings_on 11 ≡ 24
unfolding trainings_on when◌then◌else◌
on_full = refl

from_line : (b : Back) → (b.eq.filled ≡ 0) ⊎ (b.eq.filled ≡ 11) → From b.eq.filled (29 - trainings_on b.eq.filled)
from_line b (inl e) = inl (e, omega (arith, ap trainings_on e, on_empty))
from_line b (inr e) = inr (e, omega (arith, ap trainings_on e, on_full))

few_trainings : (n : ℕ) → trainings_on n ≤ 24
unfolding trainings_on when◌then◌else◌
few_trainings n = by_test (eqb n 11) (λ t. rw t (omega arith)) (λ t. rw t (omega arith))

pub line_few : (b : Back) → (b.eq.filled ≡ 0) ⊎ (b.eq.filled ≡ 11) → b.eq.filled ≤ 11
line_few b (inl e) = omega (arith, e)
line_few b (inr e) = omega (arith, e)

-- ---- A SLOT FINDS THE SUMS FULL as the code tells
module _ (w : WholeSlot) (table store f s : List ℤ) where
  abbrev slot : List Corrected
  slot = corrected_all 9296 w table store

  -- closed sums are never full
  closed : (b : Back) → Between b.metas → (b.eq.filled ≡ 0) ⊎ (b.eq.filled ≡ 11) → gap_at b.last w.head.at ≡ false → b.eq.opened ≡ false →
      overfull b slot f s ≡ false
  closed b m k g o =
      no-overs b w table store f s b.metas.count b.eq.filled (29 - trainings_on b.eq.filled) (count_is b.metas m) (from_line b k)
      (begins w.head.at b m (line_few b k) g) o 9296 (le_refl 9296)

  opened : (b : Back) → Between b.metas → (b.eq.filled ≡ 0) ⊎ (b.eq.filled ≡ 11) → gap_at b.last w.head.at ≡ false → b.eq.opened ≡ true →
      b.eq.sums.count ≤ 4194304 → overfull b slot f s ≡ ltb 4194304 (b.eq.sums.count + trainings_on b.eq.filled)
  opened b m k g o h =
      overs b w table store f s b.metas.count b.eq.filled (29 - trainings_on b.eq.filled) (count_is b.metas m) (from_line b k)
      (begins w.head.at b m (line_few b k) g) o h 9296 (le_refl 9296)
      ∙ ap (λ (x : ℕ). ltb 4194304 (b.eq.sums.count + x)) (omega (arith, few_trainings b.eq.filled))

  after-gap : (b : Back) → overfull (restarted_back b) slot f s ≡ false
  unfolding restarted_back started_back started_eq no_metas gap_at
  after-gap b = closed (restarted_back b) (none refl) (inl refl) refl refl

  pub full_is : (b : Back) → BackOk b → full_at b w.head.at ≡ overfull b slot f s
  unfolding full_at
  full_is b h =
      let o = b.eq.opened in
      let g = gap_at b.last w.head.at in
      let n = ltb 4194304 (b.eq.sums.count + trainings_on b.eq.filled) in
      let j = slot_joined b w table store f s in
      by_test g
      (λ t.
      by_test o (λ u. if_yes o _ false u ∙ if_yes g false n t ∙ sym (j ∙ gapped b t)) (λ u. if_no o _ false u ∙ sym (j ∙ gapped b t)))
      (λ t.
      by_test o
      (λ u. if_yes o _ false u ∙ if_no g false n t ∙ sym (opened b h.metas h.filled t u (h.sums u).count))
      (λ u. if_no o _ false u ∙ sym (closed b h.metas h.filled t u)))
    where
      gapped : (b : Back) → gap_at b.last w.head.at ≡ true → overfull (joined_to b w.head.at) slot f s ≡ false
      gapped b t = unfold joined_to in rw (if_yes (gap_at b.last w.head.at) (restarted_back b) b t) (after-gap b)
