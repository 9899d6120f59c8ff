-- One reading, number h since the lock: stage and course stay within what h + 1 heads allow. A mark needs a majority of 2, which two F heads
-- make: so it stands at head five or later. Assumes nothing.
use Rattle.std.specs.Prelude.{Option, None, Some}
use Rattle.sync_heads.specs.Numbers.{last_head}
use Rattle.sync_heads.specs.declared.SlotNumber.{SlotNumber}
use Prim.Native.Nat.{◌%◌, ◌+◌, ◌-◌, ◌/◌, ◌≤◌, suc, ℕ}
use Rattle.laws.proofs.Linear.{dif_ud, size_le, size_ud, sum_ud, test_le, test_lt}
use Rattle.laws.proofs.Size.{abs_add, abs_sub}
use Rattle.laws.proofs.Tests.{if_both, if_either, never}
use Rattle.laws.specs.Choice.{when◌then◌else◌, minus}
use Rattle.sync_corr.specs.declared.Corr.{Corr}
use Rattle.sync_heads.specs.Frames.{due_of, elsewhere_of, frame_due, frame_of, framed_of, fsync_course, marks_of, next_slot, swayed_of, tick_of, unknown_slot, with_misses, with_sign}
use Rattle.sync_heads.specs.Heads.{both_heads, first_of, fsync_of, fsync_taken, known_of, read_of, ssync_of, ssync_taken}
use Rattle.sync_heads.specs.Ranges.{record_in_range}
use Rattle.sync_heads.specs.declared.Course.{Course}
use Rattle.sync_heads.specs.declared.Marked.{Marked}
use Rattle.sync_heads.specs.declared.Parity.{Parity}
use Rattle.sync_heads.specs.declared.Reading.{Reading}
use Rattle.sync_heads.specs.declared.Stage.{Stage}
use Rattle.sync_heads.specs.declared.Taken.{Taken}
use Rattle.sync_heads.specs.declared.Told.{Told}
use Rattle.sync_range.specs.Coherent.{Bound, CourseFits, KnownFits, ReadingFits, SlotFits, StageFits, f_heads_of}
use Rattle.sync_step.specs.Step.{parity_of}
use borrow.Author.Tests.{eq-eqb, eqb-false, eqb-true, ltb-true, ne_eqb}
use lib.Dec.{eqb, ltb}
use lib.IntN.{◌+ℤ◌, ◌-ℤ◌, nat_abs, pos, ℤ}
use lib.Signed.{lt_z}
use mathlib.Core.Bool.{Bool, false, true}
use mathlib.Core.Path.{◌∙◌, ◌≡◌, sym}
use native.Mathlib.Nat.{le_refl}
use native.Mathlib.Omega.{arith}
use Rattle.laws.specs.Choice as choice
use Rattle.sync_heads.specs.declared.Stage.TheVariants.{Before, First, Known}

-- ---- the majority
swayed_near : (positive : Bool) (m : ℤ) → nat_abs (swayed_of positive m) ≤ suc (nat_abs m)
unfolding swayed_of
swayed_near positive m =
    if_both Near positive _ _
    (if_either Near (lt_z m (pos 8)) _ _ (λ t. above) (λ t. omega (arith, test_le m (pos 8) t, size_ud m)))
    (if_either Near (lt_z (minus 8) m) _ _ (λ t. below) (λ t. omega (arith, test_le (minus 8) m t, size_ud m)))
  where
    Near : ℤ → Type 0
    Near z = nat_abs z ≤ suc (nat_abs m)

    above : nat_abs (m +ℤ pos 1) ≤ suc (nat_abs m)
    above = omega (arith, abs_add m (pos 1))

    below : nat_abs (m -ℤ pos 1) ≤ suc (nat_abs m)
    below = omega (arith, abs_sub m (pos 1))

swayed_clamped : (positive : Bool) (m : ℤ) → nat_abs m ≤ 8 → nat_abs (swayed_of positive m) ≤ 8
unfolding swayed_of
swayed_clamped positive m h =
    if_both (λ (z : ℤ). nat_abs z ≤ 8) positive _ _
    (if_either (λ (z : ℤ). nat_abs z ≤ 8) (lt_z m (pos 8)) _ _ above (λ t. le_refl 8))
    (if_either (λ (z : ℤ). nat_abs z ≤ 8) (lt_z (minus 8) m) _ _ below (λ t. le_refl 8))
  where
    above : lt_z m (pos 8) ≡ true → nat_abs (m +ℤ pos 1) ≤ 8
    above t =
        let s = sum_ud m (pos 1) in
        let l = test_lt m (pos 8) t in
        let k = size_ud m in
        size_le (m +ℤ pos 1) 8 (omega (arith, s, l, k)) (omega (arith, s, l, k))

    below : lt_z (minus 8) m ≡ true → nat_abs (m -ℤ pos 1) ≤ 8
    below t =
        let s = dif_ud m (pos 1) in
        let l = test_lt (minus 8) m t in
        let k = size_ud m in
        size_le (m -ℤ pos 1) 8 (omega (arith, s, l, k)) (omega (arith, s, l, k))

-- a mark goes against a majority of at least 2
marks_two : (positive : Bool) (m : ℤ) → marks_of positive m ≡ true → 2 ≤ nat_abs m
unfolding marks_of
marks_two positive m =
    if_both (λ (t : Bool). t ≡ true → 2 ≤ nat_abs m) positive _ _
    (λ t. omega (arith, test_lt m (minus 1) t, size_ud m))
    (λ t. omega (arith, test_lt (pos 1) m t, size_ud m))

-- ---- the slot
next_slot_fits : (h misses : ℕ) (k : Option SlotNumber) → SlotFits h misses k → SlotFits h misses (next_slot k)
unfolding next_slot
next_slot_fits h misses None g = g
next_slot_fits h misses (Some s) g = record { within = omega arith; few = g.few; heads = g.heads }

later_slot : (h misses : ℕ) (k : Option SlotNumber) → SlotFits h misses k → SlotFits (suc h) misses k
later_slot h misses None g = g
later_slot h misses (Some s) g = record { within = g.within; few = g.few; heads = omega (arith, g.heads) }

due_heads : (h misses : ℕ) (k : Option SlotNumber) → SlotFits h misses k → frame_due k ≡ true → 6 ≤ h
unfolding frame_due
due_heads h misses None g e = absurd (never (sym e))
due_heads h misses (Some s) g e = g.heads

slot_misses : (h misses : ℕ) (k : Option SlotNumber) → SlotFits h misses k → misses ≤ 1
slot_misses h misses None g = omega arith
slot_misses h misses (Some s) g = g.few

-- ---- the course
-- a record made at the position of head h is in range from head five on
abbrev Marks : ℕ → ℕ → Type 0
Marks h at = 5 ≤ h → (f : ℕ) → record_in_range (last_head at f) ≡ true

later-course : (h m i : ℕ) (c : Course) → m ≤ i → CourseFits h m c → CourseFits (suc h) i c
later-course h m i c l g = record { majority = omega (arith, g.majority); clamped = g.clamped; slot = later_slot h c.misses c.slot g.slot; last = g.last }

framed_fits : (n h m at : ℕ) (c : Course) → 5 ≤ h → c.misses ≤ 1 → Marks h at → CourseFits (suc h) m c → CourseFits (suc h) m (framed_of n c at)
unfolding framed_of
framed_fits n h m at c l u r g =
    record { majority = g.majority; clamped = g.clamped; slot = record { within = omega arith; few = u; heads = omega arith }; last = r l (frame_of n at c.last) }

-- other misses, before a frame begins
missed_fits : (n h m at x y : ℕ) (c : Course) → 5 ≤ h → x ≤ 1 → Marks h at → CourseFits (suc h) m c →
    CourseFits (suc h) m (framed_of n (with_misses c x y) at)
unfolding framed_of
missed_fits n h m at x y c l u r g =
    record { majority = g.majority; clamped = g.clamped; slot = record { within = omega arith; few = u; heads = omega arith }; last = r l (frame_of n at c.last) }

due_fits : (n h m at : ℕ) (marked : Bool) (c : Course) → 5 ≤ h → Marks h at → CourseFits (suc h) m c →
    CourseFits (suc h) m (due_of n marked c at).course
unfolding due_of
due_fits n h m at marked c l r g =
    if_both (λ (x : Marked). CourseFits (suc h) m x.course) marked _ _
    (missed_fits n h m at 0 c.missed c l (omega arith) r g)
    (if_either (λ (x : Marked). CourseFits (suc h) m x.course) (ltb c.misses 1) _ _
    (λ t. missed_fits n h m at (c.misses + 1) (tick_of c.missed) c l (omega (arith, ltb-true c.misses 1 t)) r g)
    (λ t. g))

elsewhere_fits : (n h m at : ℕ) (marked : Bool) (c : Course) → (marked ≡ true → 5 ≤ h) → Marks h at → CourseFits (suc h) m c →
    CourseFits (suc h) m (elsewhere_of n marked c at)
unfolding elsewhere_of
elsewhere_fits n h m at marked c l r g =
    if_either (CourseFits (suc h) m) marked _ _
    (λ t.
    if_both (CourseFits (suc h) m) (unknown_slot c.slot) _ _
    (framed_fits n h m at c (l t) (slot_misses (suc h) c.misses c.slot g.slot) r g)
    (record { majority = g.majority; clamped = g.clamped; slot = g.slot; last = g.last }))
    (λ t. g)

-- an F head: m of them before it
fsync_course_fits : (n h m at : ℕ) (positive : Bool) (c : Course) → (2 ≤ m → 5 ≤ h) → Marks h at → CourseFits h m c →
    CourseFits (suc h) (suc m) (fsync_course n positive c at).course
unfolding fsync_course
fsync_course_fits n h m at positive c l r g =
    let k = later_slot h c.misses (next_slot c.slot) (next_slot_fits h c.misses c.slot g.slot) in
    let d : CourseFits (suc h) (suc m) (with_sign c (swayed_of positive c.majority) (next_slot c.slot)) =
    record {
      majority = omega (arith, g.majority, swayed_near positive c.majority);
      clamped = swayed_clamped positive c.majority g.clamped;
      slot = k;
      last = g.last;
    }
    in
    if_either (λ (x : Marked). CourseFits (suc h) (suc m) x.course) (frame_due (next_slot c.slot)) _ _
    (λ t. due_fits n h (suc m) at _ _ (omega (arith, due_heads (suc h) c.misses (next_slot c.slot) k t)) r d)
    (λ t. elsewhere_fits n h (suc m) at _ _ (λ u. l (omega (arith, marks_two positive c.majority u, g.majority))) r d)

-- an Ssync head
ssync_course_fits : (h m : ℕ) (c : Course) (z : Reading) → CourseFits h m c → CourseFits h m (ssync_of c z).course
unfolding ssync_of
ssync_course_fits h m c z g =
    record { majority = g.majority; clamped = g.clamped; slot = next_slot_fits h c.misses c.slot g.slot; last = g.last }

fsync_head_fits : (n h m : ℕ) (c : Course) (z : Reading) (last : Corr) → (2 ≤ m → 5 ≤ h) → Marks h z.at → CourseFits h m c →
    CourseFits (suc h) (suc m) (fsync_of n c z last).course
unfolding fsync_of
fsync_head_fits n h m c z last l r g =
    let k = fsync_course_fits n h m z.at _ c l r g in
    if_both (λ (t : Told). CourseFits (suc h) (suc m) t.course) _ _ _ k k

-- ---- the parity
parity_few : (p : Parity) → parity_of (Known p) ≤ 1
unfolding parity_of
parity_few p = if_both (λ (x : ℕ). x ≤ 1) p.odd 1 0 (omega arith) (omega arith)

turn_to_f : (h x : ℕ) → x ≤ 1 → eqb (h % 2) x ≡ true → false ≡ eqb (suc h % 2) x
turn_to_f h x l e = sym (ne_eqb (suc h % 2) x (λ z. omega (arith, eqb-true (h % 2) x e)))

turn_to_s : (h x : ℕ) → x ≤ 1 → (h % 2 ≡ x → ⊥) → true ≡ eqb (suc h % 2) x
turn_to_s h x l e = sym (eq-eqb (suc h % 2) x (omega arith))

-- two F heads before an F head: it is head five or later
two_f_heads : (h x : ℕ) → x ≤ 1 → (h % 2 ≡ x → ⊥) → 2 ≤ (h - x) / 2 → 5 ≤ h
two_f_heads h x l e k = omega arith

one_more_f : (h x : ℕ) → x ≤ 1 → 2 ≤ h → (h % 2 ≡ x → ⊥) → suc ((h - x) / 2) ≤ (suc h - x) / 2
one_more_f h x l k e = omega arith

-- ---- stage and course together
abbrev Fits : Bound → ℕ → Taken → Type 0
Fits b h t = StageFits b h t.stage × CourseFits h (f_heads_of h t.stage) t.course

more_course : (h m i : ℕ) (c : Course) → m ≤ i → CourseFits h m c → CourseFits h i c
more_course h m i c l g = record { majority = omega (arith, g.majority); clamped = g.clamped; slot = g.slot; last = g.last }

-- head zero waits
before_fits : (n : ℕ) (b : Bound) (h : ℕ) (c : Course) (r : Reading) → h ≡ 0 → CourseFits h (f_heads_of h Before) c → ReadingFits b r →
    Fits b (suc h) (read_of n Before c r)
unfolding read_of f_heads_of parity_of
before_fits n b h c r e g z = ((rw e, z), later-course h ((h - 0) / 2) ((suc h - 0) / 2) c (omega arith) g)

-- head one carries Ssync, head zero stays silent
silent_fits : (b : Bound) (h : ℕ) (c : Course) (r : Reading) (z : Reading) → h ≡ 1 → CourseFits h (f_heads_of h (First z)) c → ReadingFits b r →
    Fits b (suc h) (ssync_taken true c r)
unfolding ssync_taken f_heads_of parity_of choice.when◌then◌else◌
silent_fits b h c r z e g u = (
  record { heads = omega arith; due = rw e; last = u.s },
  later-course h ((h - 0) / 2) ((suc h - 1) / 2) (ssync_of c r).course (omega arith) (ssync_course_fits h ((h - 0) / 2) c r g),
)

-- head zero carries Ssync, and head one is an F head
both_heads_fits : (n : ℕ) (b : Bound) (h : ℕ) (z : Reading) (c : Course) (r : Reading) → h ≡ 1 → ReadingFits b z →
    CourseFits h (f_heads_of h (First z)) c → Marks h r.at →
    Fits b (suc h) (both_heads n z c r)
unfolding both_heads fsync_taken f_heads_of parity_of choice.when◌then◌else◌
both_heads_fits n b h z c r e u g k =
    let a = (ssync_of c z).course in (
      record { heads = omega arith; due = rw e; last = u.s },
      more_course (suc h) (suc ((h - 0) / 2)) ((suc h - 0) / 2) (fsync_of n a r z.both.s).course (omega arith)
          (fsync_head_fits n h ((h - 0) / 2) a r z.both.s (λ l. omega arith) k (ssync_course_fits h ((h - 0) / 2) c z g)),
    )

first_fits : (n : ℕ) (b : Bound) (h : ℕ) (z : Reading) (c : Course) (r : Reading) → StageFits b h (First z) →
    CourseFits h (f_heads_of h (First z)) c → ReadingFits b r → Marks h r.at →
    Fits b (suc h) (first_of n z c r)
unfolding first_of
first_fits n b h z c r s g u k = if_both (Fits b (suc h)) _ _ _ (silent_fits b h c r z s.0 g u) (both_heads_fits n b h z c r s.0 s.1 g k)

-- once the parity is known
ssync_taken_fits : (b : Bound) (h : ℕ) (p : Parity) (c : Course) (r : Reading) → p.due ≡ true → KnownFits b h p →
    CourseFits h (f_heads_of h (Known p)) c → ReadingFits b r →
    Fits b (suc h) (ssync_taken p.odd c r)
unfolding ssync_taken f_heads_of parity_of
ssync_taken_fits b h p c r t s g u =
    let x : ℕ = when p.odd then 1 else 0 in (
      record { heads = omega (arith, s.heads); due = turn_to_f h x (parity_few p) (sym s.due ∙ t); last = u.s },
      later-course h ((h - x) / 2) ((suc h - x) / 2) (ssync_of c r).course (omega arith) (ssync_course_fits h ((h - x) / 2) c r g),
    )

fsync_taken_fits : (n : ℕ) (b : Bound) (h : ℕ) (p : Parity) (c : Course) (r : Reading) → p.due ≡ false → KnownFits b h p →
    CourseFits h (f_heads_of h (Known p)) c → Marks h r.at →
    Fits b (suc h) (fsync_taken n p.odd p.last c r)
unfolding fsync_taken f_heads_of parity_of
fsync_taken_fits n b h p c r t s g k =
    let x : ℕ = when p.odd then 1 else 0 in
    let l = parity_few p in
    let e = eqb-false (h % 2) x (sym s.due ∙ t) in (
      record { heads = omega (arith, s.heads); due = turn_to_s h x l e; last = s.last },
      more_course (suc h) (suc ((h - x) / 2)) ((suc h - x) / 2) (fsync_of n c r p.last).course (one_more_f h x l s.heads e)
          (fsync_head_fits n h ((h - x) / 2) c r p.last (two_f_heads h x l e) k g),
    )

known_fits : (n : ℕ) (b : Bound) (h : ℕ) (p : Parity) (c : Course) (r : Reading) → KnownFits b h p → CourseFits h (f_heads_of h (Known p)) c →
    ReadingFits b r → Marks h r.at →
    Fits b (suc h) (known_of n p c r)
unfolding known_of
known_fits n b h p c r s g u k =
    if_either (Fits b (suc h)) p.due _ _ (λ t. ssync_taken_fits b h p c r t s g u) (λ t. fsync_taken_fits n b h p c r t s g k)

-- any reading
pub read_fits : (n : ℕ) (b : Bound) (h : ℕ) (s : Stage) (c : Course) (r : Reading) → StageFits b h s → CourseFits h (f_heads_of h s) c →
    ReadingFits b r →
    (5 ≤ h → (f : ℕ) → record_in_range (last_head r.at f) ≡ true) → StageFits b (suc h) (read_of n s c r).stage ×
    CourseFits (suc h) (f_heads_of (suc h) (read_of n s c r).stage) (read_of n s c r).course
unfolding read_of
read_fits n b h Before c r s g u k = before_fits n b h c r s g u
read_fits n b h (First z) c r s g u k = first_fits n b h z c r s g u k
read_fits n b h (Known p) c r s g u k = known_fits n b h p c r s g u k
