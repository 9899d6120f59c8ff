-- What the heads so far come to, written by the rules, goes on by the step's own rules head by head, as long as no head loses. Assumes nothing.
use Rattle.std.specs.Prelude.{Option, None, Some}
use Rattle.sync_heads.specs.Numbers.{slot_in, last_head}
use Rattle.sync_heads.specs.declared.FrameHead.{FrameHead}
use Rattle.sync_heads.specs.declared.SlotNumber.{SlotNumber}
use Prim.Native.Nat.{◌%◌, ◌*◌, ◌+◌, ◌-◌, ◌/◌, ◌<◌, ◌^◌, suc, ℕ}
use Rattle.laws.proofs.Tests.{and_both, by_test, never}
use Rattle.laws.specs.Choice as choice
use Rattle.laws.specs.Choice.{if_no, if_yes, when◌then◌else◌, minus}
use Rattle.sync_corr.specs.declared.Both.{Both}
use Rattle.sync_heads.specs.Frames.{due_of, elsewhere_of, frame_due, frame_of, framed_of, fsync_course, gap_of, marks_of, next_slot, swayed_of, tick_of, unknown_slot, with_sign}
use Rattle.sync_heads.specs.declared.Course.{Course}
use Rattle.sync_heads.specs.declared.Marked.{Marked}
use Rattle.sync_history.proofs.Firsts.{by_first, first-begins, first-is, first_stays, first-waits}
use Rattle.sync_history.proofs.Sway.{and_no, majority_small, marked_f, marks_is, sway_is, unmarked_other}
use Rattle.sync_history.specs.Heads.{capped, clamped, expected, f_at, first_mark, frame_at, majority, marked_at, markers_lose, missed_at, missed_since, misses_to, parity, position_at, positive_at, record_since, record_to, slot_since, ssync_at, stray_at, stray_since, strays_to}
use borrow.Author.Tests.{eq-eqb, eqb-false, eqb-true, le-ltb, lt-ltb}
use lib.Dec.{eqb, ltb}
use lib.IntN.{◌+ℤ◌, pos, ℤ}
use mathlib.Core.Bool.{Bool, ◌&&◌, false, not, true}
use mathlib.Core.Path.{◌∙◌, ◌≡◌, ap, refl, sym}
use native.Mathlib.Nat.{div-eq_of_lt-le}
use native.Mathlib.Omega.{arith}

-- ---- a course by its six parts
course_is : {m m' : ℤ} {s s' : Option SlotNumber} {l l' : Option FrameHead} {k k' a a' d d' : ℕ} → m ≡ m' → s ≡ s' → l ≡ l' → k ≡ k' → a ≡ a' → d ≡ d' →
    ◌≡◌ {A = Course} (record { majority = m; slot = s; last = l; misses = k; stray = a; missed = d }) (record { majority = m'; slot = s'; last = l'; misses = k'; stray = a'; missed = d' })
course_is p q r u v w = rw (p, q, r, u, v, w)

kept_is : {c c' : Course} → c ≡ c' → ◌≡◌ {A = Marked} (record { lost = false; course = c }) (record { lost = false; course = c' })
kept_is w = rw w

tick_is : (k : ℕ) → tick_of (capped k) ≡ capped (k + 1)
unfolding tick_of capped
tick_is k = omega arith

-- ---- a frame later
gap_one : (n at last : ℕ) → 0 < n → at ≡ last + 120 * n → gap_of n at last ≡ 1
unfolding gap_of
gap_one n at last z e =
    let q : (at - last + 60 * n) / (120 * n) ≡ 1 = div-eq_of_lt-le (120 * n) (omega (arith, e)) (omega (arith, e, z)) in
    rw q

frame_one : (n at last frame : ℕ) → 0 < n → at ≡ last + 120 * n → frame_of n at (last_head last frame) ≡ (frame + 1) % 2 ^ 32
unfolding frame_of
frame_one n at last frame z e = rw (gap_one n at last z e)

frame_small : (n at : ℕ) (r : Option FrameHead) → frame_of n at r % 2 ^ 32 ≡ frame_of n at r
unfolding frame_of
frame_small n at None = refl
frame_small n at (Some s) = omega arith

-- ---- an F head, by the step, of a course in its parts
module _ (n at : ℕ) (p : Bool) (m : ℤ) (l : Option FrameHead) (k a d : ℕ) where
  abbrev course_of : Option SlotNumber → Course
  course_of s = record { majority = m; slot = s; last = l; misses = k; stray = a; missed = d }

  abbrev framed : ℕ → ℕ → Marked
  framed k' d' =
      let g = frame_of n at l in
      record { lost = false; course = record { majority = swayed_of p m; slot = slot_in 0 g; last = last_head at g; misses = k'; stray = a; missed = d' } }

  -- without numbers
  head_first : marks_of p m ≡ true → fsync_course n p (course_of None) at ≡ framed k d
  unfolding fsync_course next_slot frame_due elsewhere_of unknown_slot framed_of choice.when◌then◌else◌
  head_first e = rw e

  head-none : marks_of p m ≡ false → fsync_course n p (course_of None) at ≡ record { lost = false; course = record { majority = swayed_of p m; slot = None; last = l; misses = k; stray = a; missed = d } }
  unfolding fsync_course next_slot frame_due elsewhere_of unknown_slot choice.when◌then◌else◌
  head-none e = rw e

  -- where a mark is expected
  module _ (r g : ℕ) where
    head-marked : marks_of p m ≡ true → (r + 1) % 120 ≡ 0 → fsync_course n p (course_of (slot_in r g)) at ≡ framed 0 d
    unfolding fsync_course next_slot frame_due due_of framed_of choice.when◌then◌else◌
    head-marked e z = rw (e, z)

    head-missed : marks_of p m ≡ false → (r + 1) % 120 ≡ 0 → ltb k 1 ≡ true → fsync_course n p (course_of (slot_in r g)) at ≡ framed (k + 1) (tick_of d)
    unfolding fsync_course next_slot frame_due due_of framed_of choice.when◌then◌else◌
    head-missed e z t = rw (e, z, t)

    head-loses : marks_of p m ≡ false → (r + 1) % 120 ≡ 0 → ltb k 1 ≡ false →
        fsync_course n p (course_of (slot_in r g)) at ≡ record { lost = true; course = record { majority = swayed_of p m; slot = slot_in 0 g; last = l; misses = k; stray = a; missed = d } }
    unfolding fsync_course next_slot frame_due due_of framed_of choice.when◌then◌else◌
    head-loses e z t = rw (e, z, t)

    -- elsewhere
    head-stray : marks_of p m ≡ true → (q : ℕ) → (r + 1) % 120 ≡ q → eqb q 0 ≡ false →
        fsync_course n p (course_of (slot_in r g)) at ≡ record { lost = false; course = record { majority = swayed_of p m; slot = slot_in q g; last = l; misses = k; stray = tick_of a; missed = d } }
    unfolding fsync_course next_slot frame_due elsewhere_of unknown_slot choice.when◌then◌else◌
    head-stray e q z t = rw (e, z, t)

    head_plain : marks_of p m ≡ false → (q : ℕ) → (r + 1) % 120 ≡ q → eqb q 0 ≡ false →
        fsync_course n p (course_of (slot_in r g)) at ≡ record { lost = false; course = record { majority = swayed_of p m; slot = slot_in q g; last = l; misses = k; stray = a; missed = d } }
    unfolding fsync_course next_slot frame_due elsewhere_of unknown_slot choice.when◌then◌else◌
    head_plain e q z t = rw (e, z, t)

module _ (n start : ℕ) (kept : Option FrameHead) (b : ℕ → Both) where
  -- no mark at the last frame head
  unfoldable pub held_since : Option ℕ → ℕ → ℕ
  held_since None i = 0
  held_since (Some f) i = when marked_at b (f + (i - 1 - f) / 120 * 120) then 0 else 1

  unfoldable pub course_since : Option ℕ → ℕ → Course
  course_since o i =
      record {
        majority = majority b i;
        slot = slot_since n start kept b o (i - 1);
        last = record_since n start kept b o i;
        misses = held_since o i;
        stray = capped (strays_to b i);
        missed = capped (misses_to b i);
      }

  -- the course after the first i heads
  unfoldable pub course_to : ℕ → Course
  course_to i = course_since (first_mark b i) i

  -- ---- what one head more makes of each part
  majority-f : (i : ℕ) → f_at b i ≡ true → swayed_of (positive_at b i) (majority b i) ≡ majority b (suc i)
  unfolding majority
  majority-f i f =
      sway_is (positive_at b i) (majority b i) (majority_small b i)
      ∙ sym (if_yes (f_at b i) (clamped (majority b i +ℤ (when positive_at b i then pos 1 else minus 1))) (majority b i) f)

  majority-other : (i : ℕ) → f_at b i ≡ false → majority b i ≡ majority b (suc i)
  unfolding majority
  majority-other i f = sym (if_no (f_at b i) (clamped (majority b i +ℤ (when positive_at b i then pos 1 else minus 1))) (majority b i) f)

  strays-more : (i : ℕ) → stray_at b i ≡ true → tick_of (capped (strays_to b i)) ≡ capped (strays_to b (suc i))
  unfolding strays_to
  strays-more i e = tick_is (strays_to b i) ∙ ap (λ (k : ℕ). capped (strays_to b i + k)) (sym (if_yes (stray_at b i) 1 0 e))

  strays-same : (i : ℕ) → stray_at b i ≡ false → capped (strays_to b i) ≡ capped (strays_to b (suc i))
  unfolding strays_to
  strays-same i e = let z : strays_to b i ≡ strays_to b i + 0 = omega arith in ap capped (z ∙ ap (λ (k : ℕ). strays_to b i + k) (sym (if_no (stray_at b i) 1 0 e)))

  misses_more : (i : ℕ) → missed_at b i ≡ true → tick_of (capped (misses_to b i)) ≡ capped (misses_to b (suc i))
  unfolding misses_to
  misses_more i e = tick_is (misses_to b i) ∙ ap (λ (k : ℕ). capped (misses_to b i + k)) (sym (if_yes (missed_at b i) 1 0 e))

  misses-same : (i : ℕ) → missed_at b i ≡ false → capped (misses_to b i) ≡ capped (misses_to b (suc i))
  unfolding misses_to
  misses-same i e = let z : misses_to b i ≡ misses_to b i + 0 = omega arith in ap capped (z ∙ ap (λ (k : ℕ). misses_to b i + k) (sym (if_no (missed_at b i) 1 0 e)))

  -- ---- before the first mark
  module _ (i : ℕ) (e : first_mark b i ≡ None) where
    stray-none : stray_at b i ≡ false
    unfolding stray_at stray_since
    stray-none = rw e

    missed-none : missed_at b i ≡ false
    unfolding missed_at missed_since
    missed-none = rw e

    pub lose-none : markers_lose b i ≡ false
    unfolding markers_lose
    lose-none = rw missed-none (and_no (missed_since b (first_mark b i) (i - 120)))

  -- ---- after it, at head i
  module _ (i f : ℕ) (e : first_mark b i ≡ Some f) where
    less : f < i
    less = (first-is (marked_at b) i f e).0

    back : suc i - 1 ≡ i
    back = omega arith

    number : ((i - 1 - f) % 120 + 1) % 120 ≡ (i - f) % 120
    number = omega (arith, less)

    due_is : eqb ((i - f) % 120) 0 ≡ expected f i
    unfolding expected
    due_is = rw (lt-ltb f i less)

    -- by whether a mark is expected
    same-frame : expected f i ≡ false → (i - 1 - f) / 120 ≡ (i - f) / 120
    same-frame d = let u = eqb-false ((i - f) % 120) 0 (due_is ∙ d) in omega (arith, less, u)

    whole : expected f i ≡ true → (i - f) % 120 ≡ 0
    whole d = eqb-true ((i - f) % 120) 0 (due_is ∙ d)

    here : expected f i ≡ true → f + (i - f) / 120 * 120 ≡ i
    here d = omega (arith, less, whole d)

    before : expected f i ≡ true → f + (i - 1 - f) / 120 * 120 ≡ i - 120
    before d = omega (arith, less, whole d)

    next-frame : expected f i ≡ true → (i - f) / 120 ≡ (i - 1 - f) / 120 + 1
    next-frame d = omega (arith, less, whole d)

    stray-is : stray_at b i ≡ (marked_at b i && not (expected f i))
    unfolding stray_at stray_since
    stray-is = rw e

    missed-is : missed_at b i ≡ (expected f i && not (marked_at b i))
    unfolding missed_at missed_since
    missed-is = rw e

    lose-is : markers_lose b i ≡ ((expected f (i - 120) && not (marked_at b (i - 120))) && (expected f i && not (marked_at b i)))
    unfolding markers_lose missed_at missed_since
    lose-is = rw e

    -- ---- the parts of the course
    -- the slot, the record and the held miss of a frame that goes on
    slot_on : expected f i ≡ false → slot_in ((i - f) % 120) (frame_at n start kept b f (i - 1)) ≡ slot_since n start kept b (Some f) (suc i - 1)
    unfolding slot_since frame_at
    slot_on d = rw (back, same-frame d)

    record-on : expected f i ≡ false → record_since n start kept b (Some f) i ≡ record_since n start kept b (Some f) (suc i)
    unfolding record_since frame_at
    record-on d = rw (back, same-frame d)

    held_on : expected f i ≡ false → held_since (Some f) i ≡ held_since (Some f) (suc i)
    unfolding held_since
    held_on d = rw (back, same-frame d)

    -- .. and of one that begins
    frame-new : 0 < n → expected f i ≡ true → frame_of n (position_at n start kept b i) (record_since n start kept b (Some f) i) ≡ frame_at n start kept b f i
    unfolding record_since frame_at position_at
    frame-new z d =
        let x = f + (i - 1 - f) / 120 * 120 in
        let g : i ≡ x + 120 = omega (arith, less, whole d) in
        let far : start + i * n ≡ start + x * n + 120 * n = ap (λ (k : ℕ). start + k * n) g ∙ apart x in
        frame_one n (start + i * n) (start + x * n) ((frame_of n (start + f * n) kept + (i - 1 - f) / 120) % 2 ^ 32) z far
        ∙ rw (next-frame d) (wraps (frame_of n (start + f * n) kept) ((i - 1 - f) / 120))
      where
        apart : (x : ℕ) → start + (x + 120) * n ≡ start + x * n + 120 * n
        apart x = omega arith

        wraps : (g q : ℕ) → ((g + q) % 2 ^ 32 + 1) % 2 ^ 32 ≡ (g + (q + 1)) % 2 ^ 32
        wraps g q = omega arith

    slot-new : 0 < n → expected f i ≡ true → slot_in 0 (frame_of n (position_at n start kept b i) (record_since n start kept b (Some f) i)) ≡ slot_since n start kept b (Some f) (suc i - 1)
    unfolding slot_since
    slot-new z d = rw (back, frame-new z d, whole d)

    record-here : expected f i ≡ true → last_head (position_at n start kept b i) (frame_at n start kept b f i) ≡ record_since n start kept b (Some f) (suc i)
    unfolding record_since
    record-here d = rw (back, here d)

    record-new : 0 < n → expected f i ≡ true →
        last_head (position_at n start kept b i) (frame_of n (position_at n start kept b i) (record_since n start kept b (Some f) i)) ≡ record_since n start kept b (Some f) (suc i)
    record-new z d = ap (last_head (position_at n start kept b i)) (frame-new z d) ∙ record-here d

    held_new : expected f i ≡ true → (when marked_at b i then 0 else 1) ≡ held_since (Some f) (suc i)
    unfolding held_since
    held_new d = rw (back, here d)

    -- ---- an F head
    module _ (z : 0 < n) (fa : f_at b i ≡ true) where
      abbrev at : ℕ
      at = position_at n start kept b i

      abbrev l : Option FrameHead
      l = record_since n start kept b (Some f) i

      abbrev k : ℕ
      k = held_since (Some f) i

      abbrev strays : ℕ
      strays = capped (strays_to b i)

      abbrev misses : ℕ
      misses = capped (misses_to b i)

      abbrev r : ℕ
      r = (i - 1 - f) % 120

      abbrev g : ℕ
      g = frame_at n start kept b f (i - 1)

      abbrev Goes : Type 0
      Goes = fsync_course n (positive_at b i) (course_since (Some f) i) (position_at n start kept b i) ≡ record { lost = false; course = course_since (Some f) (suc i) }

      marked-due : expected f i ≡ true → marked_at b i ≡ true → Goes
      unfolding course_since slot_since
      marked-due d m =
          head-marked n at (positive_at b i) (majority b i) l k strays misses r g (marks_is b i fa ∙ m) (number ∙ whole d)
          ∙ kept_is (course_is (majority-f i fa) (slot-new z d) (record-new z d) (sym (if_yes (marked_at b i) 0 1 m) ∙ held_new d)
          (strays-same i (stray-is ∙ rw (m, d))) (misses-same i (missed-is ∙ rw (d, m))))

      -- none is held: the last frame head was marked
      held_none : expected f i ≡ true → marked_at b (i - 120) ≡ true → held_since (Some f) i ≡ 0
      unfolding held_since
      held_none d w = rw (before d) (if_yes (marked_at b (i - 120)) 0 1 w)

      held_one : expected f i ≡ true → marked_at b (i - 120) ≡ false → held_since (Some f) i ≡ 1
      unfolding held_since
      held_one d w = rw (before d) (if_no (marked_at b (i - 120)) 0 1 w)

      missed-due : expected f i ≡ true → marked_at b i ≡ false → marked_at b (i - 120) ≡ true → Goes
      unfolding course_since slot_since
      missed-due d m w =
          let h = held_none d w in
          head-missed n at (positive_at b i) (majority b i) l k strays misses r g (marks_is b i fa ∙ m) (number ∙ whole d) (lt-ltb k 1 (omega (arith, h)))
          ∙ kept_is (course_is (majority-f i fa) (slot-new z d) (record-new z d) (ap (λ (x : ℕ). x + 1) h ∙ sym (if_no (marked_at b i) 0 1 m) ∙ held_new d)
          (strays-same i (stray-is ∙ rw m)) (misses_more i (missed-is ∙ rw (d, m))))

      stray-else : expected f i ≡ false → marked_at b i ≡ true → Goes
      unfolding course_since slot_since
      stray-else d m =
          head-stray n at (positive_at b i) (majority b i) l k strays misses r g (marks_is b i fa ∙ m) ((i - f) % 120) number (due_is ∙ d)
          ∙ kept_is (course_is (majority-f i fa) (slot_on d) (record-on d) (held_on d) (strays-more i (stray-is ∙ rw (m, d))) (misses-same i (missed-is ∙ rw d)))

      plain-else : expected f i ≡ false → marked_at b i ≡ false → Goes
      unfolding course_since slot_since
      plain-else d m =
          head_plain n at (positive_at b i) (majority b i) l k strays misses r g (marks_is b i fa ∙ m) ((i - f) % 120) number (due_is ∙ d)
          ∙ kept_is (course_is (majority-f i fa) (slot_on d) (record-on d) (held_on d) (strays-same i (stray-is ∙ rw m)) (misses-same i (missed-is ∙ rw d)))

      -- the second in a row: that before was no first mark, so it was expected
      second-due : expected f i ≡ true → marked_at b (i - 120) ≡ false → expected f (i - 120) ≡ true
      unfolding expected
      second-due d w =
          let u = (first-is (marked_at b) i f e).1.passes in
          let v : (i - 120 ≡ f) → ⊥ = λ q. never (sym u ∙ ap (marked_at b) (sym q) ∙ w) in
          let y = whole d in
          rw (lt-ltb f (i - 120) (omega (arith, less, y, v)), eq-eqb ((i - 120 - f) % 120) 0 (omega (arith, less, y))) refl

      lost-due : expected f i ≡ true → marked_at b i ≡ false → marked_at b (i - 120) ≡ false →
          ((fsync_course n (positive_at b i) (course_since (Some f) i) (position_at n start kept b i)).lost ≡ true)
          × ((fsync_course n (positive_at b i) (course_since (Some f) i) (position_at n start kept b i)).course.last ≡ l)
      unfolding course_since slot_since
      lost-due d m w =
          let h = held_one d w in
          let y = head-loses n at (positive_at b i) (majority b i) l k strays misses r g (marks_is b i fa ∙ m) (number ∙ whole d) (le-ltb k 1 (omega (arith, h))) in
          (ap (λ (x : Marked). x.lost) y, ap (λ (x : Marked). x.course.last) y)

      -- whether it loses
      loses-second : expected f i ≡ true → marked_at b i ≡ false → marked_at b (i - 120) ≡ false → markers_lose b i ≡ true
      loses-second d m w = lose-is ∙ rw (second-due d w, w, d, m)

      keeps-first : expected f i ≡ true → marked_at b (i - 120) ≡ true → markers_lose b i ≡ false
      keeps-first d w = lose-is ∙ rw w (rw (and_no (expected f (i - 120))) refl)

      keeps-marked : marked_at b i ≡ true → markers_lose b i ≡ false
      keeps-marked m = lose-is ∙ rw (m, and_no (expected f i)) (and_no (expected f (i - 120) && not (marked_at b (i - 120))))

      keeps-else : expected f i ≡ false → markers_lose b i ≡ false
      keeps-else d = lose-is ∙ rw d (and_no (expected f (i - 120) && not (marked_at b (i - 120))))

  -- ---- a head that is no F head
  f-odd : (j : ℕ) → f_at b j ≡ true → j % 2 ≡ parity b → ⊥
  unfolding f_at ssync_at
  f-odd j t q = let w = and_both (ltb 0 j) (not (eqb (j % 2) (parity b))) t in never (sym w.1 ∙ rw (eq-eqb (j % 2) (parity b) q) refl)

  module _ (i : ℕ) (fa : f_at b i ≡ false) where
    ssync-here : 0 < i → i % 2 ≡ parity b
    unfolding f_at ssync_at
    ssync-here l =
        by_test (eqb (i % 2) (parity b))
        (λ t. eqb-true (i % 2) (parity b) t)
        (λ t. absurd (never (sym (rw (lt-ltb 0 i l, t) refl) ∙ fa)))

    not-expected : (f : ℕ) → first_mark b i ≡ Some f → expected f i ≡ false
    not-expected f e =
        let w = first-is (marked_at b) i f e in
        let l : 0 < i = omega (arith, w.0) in
        let u = ssync-here l in
        let v = f-odd f (marked_f b f w.1.passes) in
        by_test (expected f i) (λ d. let y = whole i f e d in absurd (omega (arith, u, v, w.0, y))) (λ d. d)

    -- the numbers go on
    other_none : first_mark b i ≡ None → with_sign (course_since None i) (majority b i) None ≡ course_since None (suc i)
    unfolding course_since slot_since record_since held_since
    other_none e = course_is (majority-other i fa) refl refl refl (strays-same i (stray-none i e)) (misses-same i (missed-none i e))

    other-some : (f : ℕ) → first_mark b i ≡ Some f →
        with_sign (course_since (Some f) i) (majority b i) (slot_in (((i - 1 - f) % 120 + 1) % 120) (frame_at n start kept b f (i - 1))) ≡ course_since (Some f) (suc i)
    unfolding course_since
    other-some f e =
        let d = not-expected f e in
        let m = unmarked_other b i fa in
        course_is (majority-other i fa) (ap (λ (x : ℕ). slot_in x (frame_at n start kept b f (i - 1))) (number i f e) ∙ slot_on i f e d) (record-on i f e d) (held_on i f e d)
        (strays-same i (stray-is i f e ∙ rw m)) (misses-same i (missed-is i f e ∙ rw d))

    pub other_step : with_sign (course_to i) (course_to i).majority (next_slot (course_to i).slot) ≡ course_to (suc i)
    unfolding course_to course_since slot_since next_slot
    other_step =
        by_first (marked_at b) i
        (λ e. rw (e, first-waits (marked_at b) i e (unmarked_other b i fa)) (other_none e))
        (λ f e. rw (e, first_stays (marked_at b) i f e) (other-some f e))

    pub other-keeps : markers_lose b i ≡ false
    other-keeps = by_first (marked_at b) i (λ e. lose-none i e) (λ f e. lose-is i f e ∙ rw (not-expected f e) (and_no (expected f (i - 120) && not (marked_at b (i - 120)))))

  -- ---- an F head
  abbrev pub comes_to : ℕ → Marked
  comes_to i = fsync_course n (positive_at b i) (course_to i) (position_at n start kept b i)

  pub record Comes (i : ℕ) : Type 0 where
    pub lost : (comes_to i).lost ≡ markers_lose b i
    pub on : markers_lose b i ≡ false → (comes_to i).course ≡ course_to (suc i)
    pub last : markers_lose b i ≡ true → (comes_to i).course.last ≡ record_to n start kept b i

  keeps : (i : ℕ) → markers_lose b i ≡ false → comes_to i ≡ record { lost = false; course = course_to (suc i) } → Comes i
  keeps i k e =
      record {
        lost = ap (λ (x : Marked). x.lost) e ∙ sym k;
        on = λ q. ap (λ (x : Marked). x.course) e;
        last = λ q. absurd (never (sym q ∙ k));
      }

  module _ (i : ℕ) (z : 0 < n) (fa : f_at b i ≡ true) where
    -- the first mark: frame and record begin
    frame-first : frame_of n (position_at n start kept b i) kept ≡ frame_at n start kept b i i
    unfolding frame_at
    frame-first =
        let x : (i - i) / 120 ≡ 0 = omega arith in
        let y : frame_of n (position_at n start kept b i) kept + 0 ≡ frame_of n (position_at n start kept b i) kept = omega arith in
        rw (x, y) (sym (frame_small n (position_at n start kept b i) kept))

    first_slot : slot_in 0 (frame_of n (position_at n start kept b i) kept) ≡ slot_since n start kept b (Some i) (suc i - 1)
    unfolding slot_since
    first_slot =
        let x : suc i - 1 ≡ i = omega arith in
        let y : (i - i) % 120 ≡ 0 = omega arith in
        rw (x, y, frame-first)

    first-record : last_head (position_at n start kept b i) (frame_of n (position_at n start kept b i) kept) ≡ record_since n start kept b (Some i) (suc i)
    unfolding record_since
    first-record =
        let x : suc i - 1 ≡ i = omega arith in
        let y : i + (i - i) / 120 * 120 ≡ i = omega arith in
        rw (x, y, frame-first)

    first-held : marked_at b i ≡ true → 0 ≡ held_since (Some i) (suc i)
    unfolding held_since
    first-held m =
        let y : i + (suc i - 1 - i) / 120 * 120 ≡ i = omega arith in
        rw y (sym (if_yes (marked_at b i) 0 1 m))

    first_goes : first_mark b i ≡ None → marked_at b i ≡ true →
        fsync_course n (positive_at b i) (course_since None i) (position_at n start kept b i) ≡ record { lost = false; course = course_since (Some i) (suc i) }
    unfolding course_since slot_since record_since held_since
    first_goes e m =
        head_first n (position_at n start kept b i) (positive_at b i) (majority b i) kept 0 (capped (strays_to b i)) (capped (misses_to b i)) (marks_is b i fa ∙ m)
        ∙ kept_is (course_is (majority-f i fa) first_slot first-record (first-held m) (strays-same i (stray-none i e)) (misses-same i (missed-none i e)))

    none-goes : first_mark b i ≡ None → marked_at b i ≡ false →
        fsync_course n (positive_at b i) (course_since None i) (position_at n start kept b i) ≡ record { lost = false; course = course_since None (suc i) }
    unfolding course_since slot_since record_since held_since
    none-goes e m =
        head-none n (position_at n start kept b i) (positive_at b i) (majority b i) kept 0 (capped (strays_to b i)) (capped (misses_to b i)) (marks_is b i fa ∙ m)
        ∙ kept_is (course_is (majority-f i fa) refl refl refl (strays-same i (stray-none i e)) (misses-same i (missed-none i e)))

    at_some : (f : ℕ) → first_mark b i ≡ Some f →
        fsync_course n (positive_at b i) (course_since (Some f) i) (position_at n start kept b i) ≡ record { lost = false; course = course_since (Some f) (suc i) } →
        comes_to i ≡ record { lost = false; course = course_to (suc i) }
    unfolding course_to
    at_some f e q = rw (e, first_stays (marked_at b) i f e) q

    loses : (f : ℕ) → first_mark b i ≡ Some f → expected f i ≡ true → marked_at b i ≡ false → marked_at b (i - 120) ≡ false → Comes i
    unfolding course_to record_to
    loses f e d m w =
        let y = lost-due i f e z fa d m w in
        let v = loses-second i f e z fa d m w in
        record { lost = rw e y.0 ∙ sym v; on = λ q. absurd (never (sym v ∙ q)); last = λ q. rw e y.1 }

    some-step : (f : ℕ) → first_mark b i ≡ Some f → Comes i
    some-step f e =
        by_test (expected f i)
        (λ d. by_test (marked_at b i)
        (λ m. keeps i (keeps-marked i f e z fa m) (at_some f e (marked-due i f e z fa d m)))
        (λ m. by_test (marked_at b (i - 120))
        (λ w. keeps i (keeps-first i f e z fa d w) (at_some f e (missed-due i f e z fa d m w)))
        (λ w. loses f e d m w)))
        (λ d. keeps i (keeps-else i f e z fa d) (at_some f e (by_test (marked_at b i) (stray-else i f e z fa d) (plain-else i f e z fa d))))

    none-step : first_mark b i ≡ None → comes_to i ≡ record { lost = false; course = course_to (suc i) }
    unfolding course_to
    none-step e =
        by_test (marked_at b i)
        (λ m. rw (e, first-begins (marked_at b) i e m) (first_goes e m))
        (λ m. rw (e, first-waits (marked_at b) i e m) (none-goes e m))

    pub f-step : Comes i
    f-step = by_first (marked_at b) i (λ e. keeps i (lose-none i e) (none-step e)) some-step
