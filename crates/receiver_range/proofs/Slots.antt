-- What a corrected slot makes of the alignment: from nothing, or from the slot before it, to the next. Assumes nothing.
use Rattle.std.specs.Prelude.{Option, Some}
use Prim.Native.Nat.{ℕ, zero, suc, ◌+◌, ◌-◌, ◌≤◌, ◌<◌, min}
use mathlib.Core.Bool.{true, false, not, ◌||◌}
use mathlib.Core.List.{List, [], ◌∷◌, ◌++◌}
use mathlib.Core.Logic.{◌⊎◌, inl, inr}
use mathlib.Core.Path.{◌≡◌, refl, sym, ap, subst, ◌∙◌}
use native.Mathlib.Nat.{le_refl}
use native.Mathlib.Omega.{arith}
use borrow.Author.Tests.{leb-true, leb-false, lt-ltb, le-ltb, ltb-true, ltb-false}
use lib.Dec.{leb, ltb}
use lib.IntN.{ℤ, pos, negsuc}
use lib.Signed.{◌≤ℤ◌}
use mir.Syntax.{w16}
use mir.Val.{SFits}
use Rattle.laws.specs.Choice.{when◌then◌else◌, if_yes, if_no, minus}
use Rattle.laws.specs.Ranges.{firsts}
use Rattle.laws.proofs.Linear.{ud_le}
use Rattle.laws.proofs.Tests.{and_both, by_test, neither}
use Rattle.fx.specs.Fx.{sat16_of}
use Rattle.fx.proofs.Theorems.{sat16_theorem}
use Rattle.sync_corr.specs.Correlate.{ones_of}
use Rattle.sync_heads.specs.Ranges.{slot_in_range}
use Rattle.phase.specs.declared.WholeSlot.{WholeSlot}
use Rattle.phase.specs.declared.Corrected.{Corrected}
use Rattle.phase.specs.Phase.{scaled_of, corrected_of}
use Rattle.frame_line.specs.Line.{gap_at}
use Rattle.frame.specs.declared.Back.{Back}
use Rattle.frame.specs.Align.{pushed_back}
use Rattle.frame.specs.Answers.{trains_back, full_back}
use Rattle.frame.specs.Stretch.{after_all, unbroken}
use Rattle.frame.proofs.Theorems.{no_gap}
use Rattle.receiver_slot.specs.Slot.{corrected_all, overfull}
use Rattle.receiver_slot.proofs.Filling.{count_step, opened_step}
use Rattle.receiver_slot.proofs.Steps.{after_snoc, or_false, over_snoc, pushed_last}
use Rattle.receiver_range.specs.Coherent.{Untouched, Adjoins}
use Rattle.receiver_range.proofs.Push.{Symbol, Filling, Begins, SoundEq, filling_step, trains_in, trains_out, sound_step, untouched_filling, adjoins_filling, filled_adjoins}

-- ---- one symbol behind others
unbroken_snoc : (b : Back) (xs : List Corrected) (c : Corrected) (f s : List ℤ) → unbroken b.last xs ≡ true →
    gap_at (after_all b xs f s).last c.at ≡ false → unbroken b.last (xs ++ (c ∷ [])) ≡ true
unfolding unbroken after_all
unbroken_snoc b [] c f s u g = rw g
unbroken_snoc b (x ∷ xs) c f s u g =
    let k = and_both (not (gap_at b.last x.at)) (unbroken (Some x.at) xs) u in
    let e = pushed_last b x f s in
    let ih = unbroken_snoc (pushed_back b x f s).back xs c f s (subst (λ (a : Option ℕ). unbroken a xs ≡ true) (sym e) k.1) g in
    rw k.0 (subst (λ (a : Option ℕ). unbroken a (xs ++ (c ∷ [])) ≡ true) e ih)

-- ---- the first n symbols of a slot
module _ (at : ℕ) (cs : ℕ → Corrected) (f s : List ℤ) (hf : ones_of f ≡ true) (hs : ones_of s ≡ true) (good : (j : ℕ) → j < 9296 → Symbol at j (cs j))
    (c₀ f₀ : ℕ) (b : Back) (start : Filling at c₀ f₀ 0 b) where
  abbrev gone : ℕ → Back
  gone n = after_all b (firsts cs n) f s

  gone-step : (n : ℕ) → gone (suc n) ≡ (pushed_back (gone n) (cs n) f s).back
  unfolding firsts
  gone-step n = after_snoc b (firsts cs n) (cs n) f s

  gone-none : gone 0 ≡ b
  unfolding firsts after_all
  gone-none = refl

  fills : (n : ℕ) → n ≤ 9296 → Filling at c₀ f₀ n (gone n)
  fills zero h = subst (Filling at c₀ f₀ 0) (sym gone-none) start
  fills (suc n) h = subst (Filling at c₀ f₀ (suc n)) (sym (gone-step n)) (filling_step at c₀ f₀ n (gone n) (cs n) f s hf hs h (good n h) (fills n (omega arith)))

  follows : (n : ℕ) → n < 9296 → gap_at (gone n).last (cs n).at ≡ false
  follows n h = rw (good n h).at_is (fills n (omega arith)).follows

  no-breaks : (n : ℕ) → n ≤ 9296 → unbroken b.last (firsts cs n) ≡ true
  unfolding firsts
  no-breaks zero h = unfold unbroken in refl
  no-breaks (suc n) h = unbroken_snoc b (firsts cs n) (cs n) f s (no-breaks n (omega arith)) (follows n h)

  stays_open : (n : ℕ) → n ≤ 9296 → (gone n).eq.opened ≡ b.eq.opened
  stays_open zero h = ap (λ (x : Back). x.eq.opened) gone-none
  stays_open (suc n) h =
      ap (λ (x : Back). x.eq.opened) (gone-step n) ∙ opened_step (gone n) (cs n) f s (follows n h) ∙ stays_open n (omega arith)

  count_next : (n : ℕ) → n < 9296 → (gone (suc n)).eq.sums.count ≡ (gone n).eq.sums.count + (when trains_back (gone n) then 1 else 0)
  count_next n h =
      ap (λ (x : Back). x.eq.sums.count) (gone-step n) ∙
      count_step (gone n) (cs n) f s (omega (arith, (fills n (omega arith)).count)) (follows n h)

  -- ---- trainings: those from lo on, up to the 29th symbol
  module _ (lo : ℕ) (z : Begins c₀ f₀ lo) where
    trains : (n : ℕ) → n < 9296 → lo ≤ n → n < 29 → trains_back (gone n) ≡ b.eq.opened
    trains n h l u = trains_in at c₀ f₀ lo n (gone n) z (fills n (omega arith)) l u ∙ stays_open n (omega arith)

    idle : (n : ℕ) → n < 9296 → (n < lo) ⊎ (29 ≤ n) → trains_back (gone n) ≡ false
    idle n h o = trains_out at c₀ f₀ lo n (gone n) z (fills n (omega arith)) h o

    count-idle : (n : ℕ) → n < 9296 → (n < lo) ⊎ (29 ≤ n) → (gone (suc n)).eq.sums.count ≡ (gone n).eq.sums.count
    count-idle n h o = rw (count_next n h, if_no {A = ℕ} (trains_back (gone n)) 1 0 (idle n h o)) (omega arith)

    -- open sums count each; closed ones none
    counts : b.eq.opened ≡ true → (n : ℕ) → n ≤ 9296 → (gone n).eq.sums.count ≡ b.eq.sums.count + (min n 29 - lo)
    counts o zero h = rw gone-none (omega arith)
    counts o (suc n) h =
        let ih = counts o n (omega arith) in
        by_test (ltb n lo) (λ t. let l = ltb-true n lo t in count-idle n h (inl l) ∙ ih ∙ omega (arith, l))
        (λ t.
        let l = ltb-false n lo t in
        by_test (ltb n 29)
        (λ u.
        let m = ltb-true n 29 u in
        rw (count_next n h, if_yes {A = ℕ} (trains_back (gone n)) 1 0 (trains n h l m ∙ o)) (omega (arith, ih, l, m)))
        (λ u. let m = ltb-false n 29 u in count-idle n h (inr m) ∙ ih ∙ omega (arith, m)))

    no-trains : b.eq.opened ≡ false → (n : ℕ) → n < 9296 → trains_back (gone n) ≡ false
    no-trains o n h =
        by_test (ltb n lo) (λ t. idle n h (inl (ltb-true n lo t)))
        (λ t. by_test (ltb n 29) (λ u. trains n h (ltb-false n lo t) (ltb-true n 29 u) ∙ o) (λ u. idle n h (inr (ltb-false n 29 u))))

    -- ---- 8: the sums are full for one of them
    over-next : (n : ℕ) → n < 9296 → overfull b (firsts cs (suc n)) f s ≡ (overfull b (firsts cs n) f s || full_back (gone n))
    unfolding firsts
    over-next n h =
        over_snoc b (firsts cs n) (cs n) f s ∙ ap (λ (x : Back). overfull b (firsts cs n) f s || full_back x) (no_gap (gone n) (cs n).at (follows n h))

    over_none : overfull b (firsts cs 0) f s ≡ false
    unfolding firsts overfull
    over_none = refl

    full-idle : (n : ℕ) → trains_back (gone n) ≡ false → full_back (gone n) ≡ false
    unfolding full_back
    full-idle n e = rw e

    full-train : (n : ℕ) → trains_back (gone n) ≡ true → full_back (gone n) ≡ leb 4194304 (gone n).eq.sums.count
    unfolding full_back
    full-train n e = rw e

    over-idle : (n : ℕ) → n < 9296 → trains_back (gone n) ≡ false → overfull b (firsts cs (suc n)) f s ≡ overfull b (firsts cs n) f s
    over-idle n h e = over-next n h ∙ rw (full-idle n e) (or_false (overfull b (firsts cs n) f s))

    more : (k : ℕ) → (ltb 4194304 k || leb 4194304 k) ≡ ltb 4194304 (k + 1)
    more k =
        by_test (ltb 4194304 k) (λ t. rw (t, lt-ltb 4194304 (k + 1) (omega (arith, ltb-true 4194304 k t))))
        (λ t.
        by_test (leb 4194304 k)
        (λ u. rw (t, u, lt-ltb 4194304 (k + 1) (omega (arith, leb-true 4194304 k u))))
        (λ u. rw (t, u, le-ltb 4194304 (k + 1) (omega (arith, leb-false 4194304 k u)))))

    overs : b.eq.opened ≡ true → b.eq.sums.count ≤ 4194304 → (n : ℕ) → n ≤ 9296 →
        overfull b (firsts cs n) f s ≡ ltb 4194304 (b.eq.sums.count + (min n 29 - lo))
    overs o e zero h = over_none ∙ sym (le-ltb 4194304 (b.eq.sums.count + (min 0 29 - lo)) (omega arith))
    overs o e (suc n) h =
        let k = b.eq.sums.count in
        let ih = overs o e n (omega arith) in
        by_test (ltb n lo) (λ t. let l = ltb-true n lo t in over-idle n h (idle n h (inl l)) ∙ ih ∙ ap (λ (x : ℕ). ltb 4194304 (k + x)) (omega (arith, l)))
        (λ t.
        let l = ltb-false n lo t in
        by_test (ltb n 29)
        (λ u.
        let m = ltb-true n 29 u in
        let now = k + (min n 29 - lo) in
        let next : now + 1 ≡ k + (min (suc n) 29 - lo) = omega (arith, l, m) in
        let step : (overfull b (firsts cs n) f s || full_back (gone n)) ≡ ltb 4194304 (now + 1) =
        rw (ih, full-train n (trains n h l m ∙ o), counts o n (omega arith)) (more now) in
        over-next n h ∙ step ∙ ap (λ (x : ℕ). ltb 4194304 x) next)
        (λ u. let m = ltb-false n 29 u in over-idle n h (idle n h (inr m)) ∙ ih ∙ ap (λ (x : ℕ). ltb 4194304 (k + x)) (omega (arith, m))))

    no-overs : b.eq.opened ≡ false → (n : ℕ) → n ≤ 9296 → overfull b (firsts cs n) f s ≡ false
    no-overs o zero h = over_none
    no-overs o (suc n) h = over-idle n h (no-trains o n h) ∙ no-overs o n (omega arith)

    -- ---- else the equaliser stays sound
    sounds : SoundEq b.eq → (n : ℕ) → n ≤ 9296 → overfull b (firsts cs n) f s ≡ false → SoundEq (gone n).eq
    sounds k zero h e = subst (λ (x : Back). SoundEq x.eq) (sym gone-none) k
    sounds k (suc n) h e =
        let m = neither (overfull b (firsts cs n) f s) (full_back (gone n)) (sym (over-next n h) ∙ e) in
        subst (λ (x : Back). SoundEq x.eq) (sym (gone-step n))
        (sound_step (gone n) (cs n) f s hf hs (good n h).short (follows n h) m.1 (sounds k n (omega arith) m.0))

-- ---- a corrected slot
saturated_fits : (v : ℤ) → SFits w16 (sat16_of v)
saturated_fits v = let t = sat16_theorem v in fits (sat16_of v) t.low t.high
  where
    fits : (z : ℤ) → minus 32768 ≤ℤ z → z ≤ℤ pos 32767 → SFits w16 z
    fits (pos a) l h = record { sfits = omega (arith, ud_le h) }
    fits (negsuc a) l h = record { sfits = omega (arith, ud_le l) }

corrected_symbol : (w : WholeSlot) (table store : List ℤ) → slot_in_range w.head.slot ≡ true → (j : ℕ) → j < 9296 → Symbol w.head.at j (corrected_of w table store j)
unfolding corrected_of scaled_of
corrected_symbol w table store h j l = record { at_is = refl; j = refl; slot = h; short = record { i = saturated_fits _; q = saturated_fits _ } }

-- what a number of trainings does: open sums count them, and are too full (8) exactly if there is no room for all; closed ones are never
pub record Trains (n : ℕ) (b : Back) (cs : List Corrected) (f s : List ℤ) : Type 0 where
  pub counted : b.eq.opened ≡ true → (after_all b cs f s).eq.sums.count ≡ b.eq.sums.count + n
  pub full : b.eq.opened ≡ true → b.eq.sums.count ≤ 4194304 → overfull b cs f s ≡ ltb 4194304 (b.eq.sums.count + n)
  pub closed : b.eq.opened ≡ false → overfull b cs f s ≡ false

module _ (w : WholeSlot) (table store f s : List ℤ) (hf : ones_of f ≡ true) (hs : ones_of s ≡ true) (h : slot_in_range w.head.slot ≡ true) (b : Back) where
  symbols : (j : ℕ) → j < 9296 → Symbol w.head.at j (corrected_of w table store j)
  symbols = corrected_symbol w table store h

  -- ---- A WHOLE SLOT, the first or one that adjoins: the next adjoins
  pub slot-adjoins : 46480 ≤ w.head.at → Untouched b ⊎ Adjoins w.head.at b →
      Adjoins (w.head.at + 9296) (after_all b (corrected_all 9296 w table store) f s)
  unfolding corrected_all
  slot-adjoins l (inl u) =
      filled_adjoins w.head.at 0 0 _ l
      (fills w.head.at (corrected_of w table store) f s hf hs symbols 0 0 b (untouched_filling w.head.at b u) 9296 (le_refl 9296))
  slot-adjoins l (inr a) =
      filled_adjoins w.head.at 5 11 _ l
      (fills w.head.at (corrected_of w table store) f s hf hs symbols 5 11 b (adjoins_filling w.head.at b a) 9296 (le_refl 9296))

  -- no position is left out
  pub slot-unbroken : Untouched b ⊎ Adjoins w.head.at b → unbroken b.last (corrected_all 9296 w table store) ≡ true
  unfolding corrected_all
  slot-unbroken (inl u) = no-breaks w.head.at (corrected_of w table store) f s hf hs symbols 0 0 b (untouched_filling w.head.at b u) 9296 (le_refl 9296)
  slot-unbroken (inr a) = no-breaks w.head.at (corrected_of w table store) f s hf hs symbols 5 11 b (adjoins_filling w.head.at b a) 9296 (le_refl 9296)

  -- sums stay open, or closed
  pub slot-opened : Untouched b ⊎ Adjoins w.head.at b → (after_all b (corrected_all 9296 w table store) f s).eq.opened ≡ b.eq.opened
  unfolding corrected_all
  slot-opened (inl u) = stays_open w.head.at (corrected_of w table store) f s hf hs symbols 0 0 b (untouched_filling w.head.at b u) 9296 (le_refl 9296)
  slot-opened (inr a) = stays_open w.head.at (corrected_of w table store) f s hf hs symbols 5 11 b (adjoins_filling w.head.at b a) 9296 (le_refl 9296)

  -- and the equaliser sound, if there is room
  pub slot-sound : Untouched b ⊎ Adjoins w.head.at b → SoundEq b.eq → overfull b (corrected_all 9296 w table store) f s ≡ false →
      SoundEq (after_all b (corrected_all 9296 w table store) f s).eq
  unfolding corrected_all
  slot-sound (inl u) k e =
      sounds w.head.at (corrected_of w table store) f s hf hs symbols 0 0 b (untouched_filling w.head.at b u) 10 (inl (refl, refl, refl)) k 9296 (le_refl 9296) e
  slot-sound (inr a) k e =
      sounds w.head.at (corrected_of w table store) f s hf hs symbols 5 11 b (adjoins_filling w.head.at b a) 5 (inr (refl, refl, refl)) k 9296 (le_refl 9296) e

  -- ---- TRAININGS: 19 on an untouched line, 24 after
  pub slot-first : Untouched b → Trains 19 b (corrected_all 9296 w table store) f s
  unfolding corrected_all
  slot-first u =
      let p = untouched_filling w.head.at b u in
      record {
        counted = λ o. counts w.head.at (corrected_of w table store) f s hf hs symbols 0 0 b p 10 (inl (refl, refl, refl)) o 9296 (le_refl 9296);
        full = λ o e. overs w.head.at (corrected_of w table store) f s hf hs symbols 0 0 b p 10 (inl (refl, refl, refl)) o e 9296 (le_refl 9296);
        closed = λ o. no-overs w.head.at (corrected_of w table store) f s hf hs symbols 0 0 b p 10 (inl (refl, refl, refl)) o 9296 (le_refl 9296);
      }

  pub slot-later : Adjoins w.head.at b → Trains 24 b (corrected_all 9296 w table store) f s
  unfolding corrected_all
  slot-later a =
      let p = adjoins_filling w.head.at b a in
      record {
        counted = λ o. counts w.head.at (corrected_of w table store) f s hf hs symbols 5 11 b p 5 (inr (refl, refl, refl)) o 9296 (le_refl 9296);
        full = λ o e. overs w.head.at (corrected_of w table store) f s hf hs symbols 5 11 b p 5 (inr (refl, refl, refl)) o e 9296 (le_refl 9296);
        closed = λ o. no-overs w.head.at (corrected_of w table store) f s hf hs symbols 5 11 b p 5 (inr (refl, refl, refl)) o 9296 (le_refl 9296);
      }
