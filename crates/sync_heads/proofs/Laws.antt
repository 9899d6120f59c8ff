-- Small numbers as the code holds them; what the ranges give; and what one reading leaves: stage and course stay ready and in range, and the
-- record of the last frame head is the one before or is made at the reading. Assumes nothing.
use Rattle.sync_heads.specs.Numbers.{last_head}
use Rattle.sync_heads.specs.declared.FrameHead.{FrameHead}
use Rattle.sync_heads.specs.declared.SlotNumber.{SlotNumber}
use Rattle.std.proofs.Common.{◌≡◌, ℕ, ◌+◌, ◌-◌, ◌^◌, ◌≤◌, Bool, true, false, ◌&&◌, ltb, leb, ℤ, pos, ◌+ℤ◌, ◌-ℤ◌, nat_abs, sym, refl, ◌∙◌, le_refl, arith, w32, w64, to_z, of_z, ltb-true, le-leb, leb-true, Option, None, Some}
use Rattle.laws.proofs.Linear.{dif_ud, size_le, size_ud, sum_ud, test_lt}
use Rattle.laws.proofs.Size.{Num, abs_neg, at, num}
use Rattle.laws.proofs.Tests.{and_both, if_both, if_either, never}
use Rattle.laws.specs.Choice.{minus}
use Rattle.sync_corr.specs.declared.Both.{Both}
use Rattle.sync_corr.specs.declared.Corr.{Corr}
use Rattle.sync_heads.specs.Frames.{due_of, elsewhere_of, frame_of, framed_of, fsync_course, next_slot, swayed_of, tick_of, unknown_slot, with_misses, with_sign}
use Rattle.sync_heads.specs.Heads.{both_heads, first_of, fsync_of, fsync_taken, known_of, read_of, ssync_of, ssync_taken}
use Rattle.sync_heads.specs.Ranges.{both_in_range, corr_in_range, course_in_range, reading_in_range, record_in_range, slot_in_range, stage_in_range}
use Rattle.sync_heads.specs.Ready.{CourseOk, ParityOk, ReadingOk, SlotOk, Small, Smalls, StageOk}
use Rattle.sync_heads.specs.Words.{negated, said_of}
use Rattle.sync_heads.specs.declared.Course.{Course}
use Rattle.sync_heads.specs.declared.Marked.{Marked}
use Rattle.sync_heads.specs.declared.Parity.{Parity}
use Rattle.sync_heads.specs.declared.Reading.{Reading}
use Rattle.sync_heads.specs.declared.Said.{Said}
use Rattle.sync_heads.specs.declared.Stage.TheVariants.{Before, First, Known}
use Rattle.sync_heads.specs.declared.Stage.{Stage}
use Rattle.sync_heads.specs.declared.Taken.{Taken}
use Rattle.sync_heads.specs.declared.Told.{Told}
use lib.Signed.{lt_z}

-- ---- numbers that a local holds
-- a part of a correlation, and widened
pub part : (z : ℤ) → nat_abs z ≤ 1572864 → Num (to_z w32 (of_z w32 z)) z 1572864
part z h = at w32 (num z 1572864 h) tt

pub wide : (z : ℤ) → nat_abs z ≤ 1572864 → Num (to_z w64 (of_z w64 (to_z w32 (of_z w32 z)))) z 1572864
wide z h = at w64 (part z h) tt

pub held : (z : ℤ) → nat_abs z ≤ 1572864 → nat_abs (to_z w32 (of_z w32 z)) ≤ 1572864
held z h = rw (part z h).is h

-- what is equal to a number of that size
pub given : {x y z : ℤ} {B : ℕ} → x ≡ y → Num y z B → Num x z B
given e m = record { is = e ∙ m.is; size = m.size }

-- ---- what the ranges give
corr_ready : (c : Corr) → corr_in_range c ≡ true → Small c
unfolding corr_in_range
corr_ready c e =
    let h = and_both (leb (nat_abs c.re) 1572864) (leb (nat_abs c.im) 1572864) e in
    record { re = leb-true (nat_abs c.re) 1572864 h.0; im = leb-true (nat_abs c.im) 1572864 h.1 }

both_ready : (b : Both) → both_in_range b ≡ true → Smalls b
unfolding both_in_range
both_ready b e = let h = and_both (corr_in_range b.f) (corr_in_range b.s) e in record { f = corr_ready b.f h.0; s = corr_ready b.s h.1 }

pub reading_ready : (r : Reading) → reading_in_range r ≡ true → ReadingOk r
unfolding reading_in_range
reading_ready r e =
    let h = and_both (leb 37184 r.at && leb r.at (2 ^ 62 - 24)) (both_in_range r.both) e in
    let k = and_both (leb 37184 r.at) (leb r.at (2 ^ 62 - 24)) h.0 in
    record { at = omega (arith, leb-true r.at (2 ^ 62 - 24) k.1); small = both_ready r.both h.1 }

pub stage_ready : (k : Stage) → stage_in_range k ≡ true → StageOk k
unfolding stage_in_range
stage_ready Before e = tt
stage_ready (First z) e = reading_ready z e
stage_ready (Known p) e = record { last = corr_ready p.last e }

slot_ready : (s : Option SlotNumber) → slot_in_range s ≡ true → SlotOk s
unfolding slot_in_range
slot_ready None e = tt
slot_ready (Some s) e = omega (arith, leb-true s.number 119 e)

pub course_ready : (c : Course) → course_in_range c ≡ true → CourseOk c
unfolding course_in_range
course_ready c e =
    let h = and_both (leb (nat_abs c.majority) 8 && slot_in_range c.slot && record_in_range c.last) (leb c.misses 1) e in
    let k = and_both (leb (nat_abs c.majority) 8 && slot_in_range c.slot) (record_in_range c.last) h.0 in
    let m = and_both (leb (nat_abs c.majority) 8) (slot_in_range c.slot) k.0 in
    record { majority = leb-true (nat_abs c.majority) 8 m.0; slot = slot_ready c.slot m.1; misses = omega (arith, leb-true c.misses 1 h.1) }

-- .. and back: what is ready, with a record in range, is in range
slot_range : (s : Option SlotNumber) → SlotOk s → slot_in_range s ≡ true
unfolding slot_in_range
slot_range None h = refl
slot_range (Some s) h = le-leb s.number 119 (omega arith)

pub course_range : (c : Course) → CourseOk c → record_in_range c.last ≡ true → course_in_range c ≡ true
unfolding course_in_range
course_range c h e = rw (le-leb (nat_abs c.majority) 8 h.majority, slot_range c.slot h.slot, e, le-leb c.misses 1 (omega (arith, h.misses)))

-- ---- the word
negated_small : (c : Corr) → Small c → Small (negated c)
unfolding negated
negated_small c h = record { re = rw (abs_neg c.re) h.re; im = rw (abs_neg c.im) h.im }

pub said_small : (ssync : Bool) (b : Both) (last : Corr) → Smalls b → Small (said_of ssync b last).corr
unfolding said_of
said_small ssync b last h =
    if_both (λ (w : Said). Small w.corr) ssync _ _ h.s
    (if_both (λ (w : Said). Small w.corr) _ _ _ (negated_small b.f h.f) h.f)

-- ---- the course
pub next_slot_ready : (s : Option SlotNumber) → SlotOk s → SlotOk (next_slot s)
unfolding next_slot
next_slot_ready None h = tt
next_slot_ready (Some s) h = omega arith

swayed_small : (positive : Bool) (m : ℤ) → nat_abs m ≤ 8 → nat_abs (swayed_of positive m) ≤ 8
unfolding swayed_of
swayed_small positive m h =
    if_both (λ (z : ℤ). nat_abs z ≤ 8) positive _ _
    (if_either (λ (z : ℤ). nat_abs z ≤ 8) (lt_z m (pos 8)) _ _ above (λ t. le_refl 8))
    (if_either (λ (z : ℤ). nat_abs z ≤ 8) (lt_z (minus 8) m) _ _ below (λ t. le_refl 8))
  where
    above : lt_z m (pos 8) ≡ true → nat_abs (m +ℤ pos 1) ≤ 8
    above t =
        let s = sum_ud m (pos 1) in
        let l = test_lt m (pos 8) t in
        let k = size_ud m in
        size_le (m +ℤ pos 1) 8 (omega (arith, s, l, k)) (omega (arith, s, l, k))

    below : lt_z (minus 8) m ≡ true → nat_abs (m -ℤ pos 1) ≤ 8
    below t =
        let s = dif_ud m (pos 1) in
        let l = test_lt (minus 8) m t in
        let k = size_ud m in
        size_le (m -ℤ pos 1) 8 (omega (arith, s, l, k)) (omega (arith, s, l, k))

framed_ready : (n : ℕ) (c : Course) (at : ℕ) → CourseOk c → CourseOk (framed_of n c at)
unfolding framed_of
framed_ready n c at h = record { majority = h.majority; slot = omega arith; misses = h.misses }

due_ready : (n : ℕ) (marked : Bool) (c : Course) (at : ℕ) → CourseOk c → CourseOk (due_of n marked c at).course
unfolding due_of
due_ready n marked c at h =
    if_both (λ (m : Marked). CourseOk m.course) marked _ _
    (framed_ready n (with_misses c 0 c.missed) at (record { majority = h.majority; slot = h.slot; misses = omega arith }))
    (if_either (λ (m : Marked). CourseOk m.course) (ltb c.misses 1) _ _
    (λ t. framed_ready n (with_misses c (c.misses + 1) (tick_of c.missed)) at (record { majority = h.majority; slot = h.slot; misses = omega (arith, ltb-true c.misses 1 t) }))
    (λ t. h))

elsewhere_ready : (n : ℕ) (marked : Bool) (c : Course) (at : ℕ) → CourseOk c → CourseOk (elsewhere_of n marked c at)
unfolding elsewhere_of
elsewhere_ready n marked c at h =
    if_both CourseOk marked _ _
    (if_both CourseOk (unknown_slot c.slot) _ _ (framed_ready n c at h) (record { majority = h.majority; slot = h.slot; misses = h.misses }))
    h

sign_ready : (c : Course) (m : ℤ) → nat_abs m ≤ 8 → CourseOk c → CourseOk (with_sign c m (next_slot c.slot))
sign_ready c m k h = record { majority = k; slot = next_slot_ready c.slot h.slot; misses = h.misses }

course-kept : (n : ℕ) (positive : Bool) (c : Course) (at : ℕ) → CourseOk c → CourseOk (fsync_course n positive c at).course
unfolding fsync_course
course-kept n positive c at h =
    let k = sign_ready c (swayed_of positive c.majority) (swayed_small positive c.majority h.majority) h in
    if_both (λ (m : Marked). CourseOk m.course) _ _ _ (due_ready n _ _ at k) (elsewhere_ready n _ _ at k)

-- ---- one head
pub ssync_ready : (c : Course) (r : Reading) → CourseOk c → CourseOk (ssync_of c r).course
unfolding ssync_of
ssync_ready c r h = sign_ready c c.majority h.majority h

fsync_ready : (n : ℕ) (c : Course) (r : Reading) (last : Corr) → CourseOk c → CourseOk (fsync_of n c r last).course
unfolding fsync_of
fsync_ready n c r last h = let k = course-kept n _ c r.at h in if_both (λ (t : Told). CourseOk t.course) _ _ _ k k

-- ---- one reading
-- stage and course stay ready
abbrev Left : Taken → Type 0
Left t = StageOk t.stage × CourseOk t.course

ssync_taken_ready : (odd : Bool) (c : Course) (r : Reading) → CourseOk c → ReadingOk r → Left (ssync_taken odd c r)
unfolding ssync_taken
ssync_taken_ready odd c r h g = (record { last = g.small.s }, ssync_ready c r h)

fsync_taken_ready : (n : ℕ) (odd : Bool) (last : Corr) (c : Course) (r : Reading) → Small last → CourseOk c → Left (fsync_taken n odd last c r)
unfolding fsync_taken
fsync_taken_ready n odd last c r l h = (record { last = l }, fsync_ready n c r last h)

known_ready : (n : ℕ) (p : Parity) (c : Course) (r : Reading) → ParityOk p → CourseOk c → ReadingOk r → Left (known_of n p c r)
unfolding known_of
known_ready n p c r l h g = if_both Left p.due _ _ (ssync_taken_ready p.odd c r h g) (fsync_taken_ready n p.odd p.last c r l.last h)

both_heads_ready : (n : ℕ) (z : Reading) (c : Course) (r : Reading) → ReadingOk z → CourseOk c → Left (both_heads n z c r)
unfolding both_heads
both_heads_ready n z c r g h = fsync_taken_ready n false z.both.s (ssync_of c z).course r g.small.s (ssync_ready c z h)

first_ready : (n : ℕ) (z : Reading) (c : Course) (r : Reading) → ReadingOk z → CourseOk c → ReadingOk r → Left (first_of n z c r)
unfolding first_of
first_ready n z c r f h g = if_both Left _ _ _ (ssync_taken_ready true c r h g) (both_heads_ready n z c r f h)

pub read_ready : (n : ℕ) (k : Stage) (c : Course) (r : Reading) → StageOk k → CourseOk c → ReadingOk r →
    StageOk (read_of n k c r).stage × CourseOk (read_of n k c r).course
unfolding read_of
read_ready n Before c r k h g = (g, h)
read_ready n (First z) c r k h g = first_ready n z c r k h g
read_ready n (Known p) c r k h g = known_ready n p c r k h g

-- the reading that loses leaves the record
due_lost : (n : ℕ) (marked : Bool) (c : Course) (at : ℕ) → (due_of n marked c at).lost ≡ true → (due_of n marked c at).course.last ≡ c.last
unfolding due_of
due_lost n marked c at =
    if_both (λ (m : Marked). m.lost ≡ true → m.course.last ≡ c.last) marked _ _
    (λ e. absurd (never (sym e)))
    (if_both (λ (m : Marked). m.lost ≡ true → m.course.last ≡ c.last) _ _ _ (λ e. absurd (never (sym e))) (λ e. refl))

course_lost : (n : ℕ) (positive : Bool) (c : Course) (at : ℕ) → (fsync_course n positive c at).lost ≡ true → (fsync_course n positive c at).course.last ≡ c.last
unfolding fsync_course
course_lost n positive c at =
    if_both (λ (m : Marked). m.lost ≡ true → m.course.last ≡ c.last) _ _ _
    (due_lost n _ (with_sign c (swayed_of positive c.majority) (next_slot c.slot)) at)
    (λ e. absurd (never (sym e)))

fsync_lost : (n : ℕ) (c : Course) (r : Reading) (last : Corr) → (fsync_of n c r last).lost ≡ true → (fsync_of n c r last).course.last ≡ c.last
unfolding fsync_of
fsync_lost n c r last =
    if_either (λ (t : Told). t.lost ≡ true → t.course.last ≡ c.last) _ _ _
    (λ l e. course_lost n _ c r.at l)
    (λ l e. absurd (never (sym e)))

abbrev Loses : Course → Taken → Type 0
Loses c t = t.lost ≡ true → t.course.last ≡ c.last

ssync_taken_lost : (odd : Bool) (c : Course) (r : Reading) → Loses c (ssync_taken odd c r)
unfolding ssync_taken
ssync_taken_lost odd c r e = absurd (never (sym e))

fsync_taken_lost : (n : ℕ) (odd : Bool) (last : Corr) (c : Course) (r : Reading) → Loses c (fsync_taken n odd last c r)
unfolding fsync_taken
fsync_taken_lost n odd last c r e = fsync_lost n c r last e

known_lost : (n : ℕ) (p : Parity) (c : Course) (r : Reading) → Loses c (known_of n p c r)
unfolding known_of
known_lost n p c r = if_both (Loses c) p.due _ _ (ssync_taken_lost p.odd c r) (fsync_taken_lost n p.odd p.last c r)

both_heads_lost : (n : ℕ) (z : Reading) (c : Course) (r : Reading) → Loses c (both_heads n z c r)
unfolding both_heads ssync_of
both_heads_lost n z c r = fsync_taken_lost n false z.both.s (ssync_of c z).course r

first_lost : (n : ℕ) (z : Reading) (c : Course) (r : Reading) → Loses c (first_of n z c r)
unfolding first_of
first_lost n z c r = if_both (Loses c) _ _ _ (ssync_taken_lost true c r) (both_heads_lost n z c r)

pub read_lost : (n : ℕ) (k : Stage) (c : Course) (r : Reading) → (read_of n k c r).lost ≡ true → (read_of n k c r).course.last ≡ c.last
unfolding read_of
read_lost n Before c r e = absurd (never (sym e))
read_lost n (First z) c r e = first_lost n z c r e
read_lost n (Known p) c r e = known_lost n p c r e

-- what holds of the record before, and of one made at the reading, holds of the record after
framed_record : (P : Option FrameHead → Type 0) (n : ℕ) (c : Course) (at : ℕ) → ((f : ℕ) → P (last_head at f)) → P (framed_of n c at).last
unfolding framed_of
framed_record P n c at q = q (frame_of n at c.last)

course_record : (P : Option FrameHead → Type 0) (n : ℕ) (positive : Bool) (c : Course) (at : ℕ) → P c.last → ((f : ℕ) → P (last_head at f)) → P (fsync_course n positive c at).course.last
unfolding fsync_course due_of elsewhere_of
course_record P n positive c at p q =
    if_both (λ (m : Marked). P m.course.last) _ _ _
    (if_both (λ (m : Marked). P m.course.last) _ _ _ (framed_record P n _ at q) (if_both (λ (m : Marked). P m.course.last) _ _ _ (framed_record P n _ at q) p))
    (if_both (λ (d : Course). P d.last) _ _ _ (if_both (λ (d : Course). P d.last) _ _ _ (framed_record P n _ at q) p) p)

fsync_record : (P : Option FrameHead → Type 0) (n : ℕ) (c : Course) (r : Reading) (last : Corr) → P c.last → ((f : ℕ) → P (last_head r.at f)) → P (fsync_of n c r last).course.last
unfolding fsync_of
fsync_record P n c r last p q = let k = course_record P n _ c r.at p q in if_both (λ (t : Told). P t.course.last) _ _ _ k k

pub read_record : (P : Option FrameHead → Type 0) (n : ℕ) (k : Stage) (c : Course) (r : Reading) → P c.last → ((f : ℕ) → P (last_head r.at f)) → P (read_of n k c r).course.last
unfolding read_of first_of known_of both_heads ssync_taken fsync_taken ssync_of
read_record P n Before c r p q = p
read_record P n (First z) c r p q = if_both (λ (t : Taken). P t.course.last) _ _ _ p (fsync_record P n _ r _ p q)
read_record P n (Known s) c r p q = if_both (λ (t : Taken). P t.course.last) s.due _ _ p (fsync_record P n c r _ p q)

-- the stage stays in range
s_in_range : (r : Reading) → reading_in_range r ≡ true → corr_in_range r.both.s ≡ true
unfolding reading_in_range both_in_range
s_in_range r e = (and_both (corr_in_range r.both.f) (corr_in_range r.both.s) (and_both (leb 37184 r.at && leb r.at (2 ^ 62 - 24)) (both_in_range r.both) e).1).1

pub read_stage : (n : ℕ) (k : Stage) (c : Course) (r : Reading) → stage_in_range k ≡ true → reading_in_range r ≡ true → stage_in_range (read_of n k c r).stage ≡ true
unfolding read_of first_of known_of both_heads ssync_taken fsync_taken stage_in_range
read_stage n Before c r k g = g
read_stage n (First z) c r k g = if_both (λ (t : Taken). stage_in_range t.stage ≡ true) _ _ _ (s_in_range r g) (s_in_range z k)
read_stage n (Known p) c r k g = if_both (λ (t : Taken). stage_in_range t.stage ≡ true) p.due _ _ (s_in_range r g) k
