-- What the step makes of each reading is what the rules say, as long as none before has lost. Assumes nothing.
use Rattle.sync_heads.specs.declared.FrameHead.{FrameHead}
use Rattle.sync_heads.specs.declared.SlotNumber.{SlotNumber}
use Rattle.std.specs.Prelude.{None, Some, Option}
use Prim.Native.Nat.{◌%◌, ◌-◌, ◌<◌, ◌≤◌, suc, zero, ℕ}
use Rattle.laws.proofs.Tests.{and_both, by_test, if_both, if_either, never}
use Rattle.laws.specs.Choice as choice
use Rattle.laws.specs.Choice.{if_no, if_yes, when◌then◌else◌}
use Rattle.sync_corr.specs.declared.Both.{Both}
use Rattle.sync_corr.specs.declared.Corr.{Corr}
use Rattle.sync_heads.specs.Frames.{next_slot, with_sign}
use Rattle.sync_heads.specs.Heads.{both_heads, first_of, fsync_of, fsync_taken, head_of, is_fsync, known_of, read_of, ssync_of, ssync_taken}
use Rattle.sync_heads.specs.Words.{margin_of, said_of, side_of}
use Rattle.sync_heads.specs.declared.Course.{Course}
use Rattle.sync_heads.specs.declared.Reading.{Reading}
use Rattle.sync_heads.specs.declared.Said.{Said}
use Rattle.sync_heads.specs.declared.Stage.TheVariants.{Before, First, Known}
use Rattle.sync_heads.specs.declared.Stage.{Stage}
use Rattle.sync_heads.specs.declared.Taken.{Taken}
use Rattle.sync_heads.specs.declared.Told.{Told}
use Rattle.sync_history.proofs.Course.{comes_to, course_since, course_to, f-step, held_since, lose-none, other-keeps, other_step}
use Rattle.sync_history.proofs.Firsts.{by_first, first_found, first-is, first-waits}
use Rattle.sync_history.proofs.Sway.{unmarked_other}
use Rattle.sync_history.specs.Claims.{HeadsClaim, MarkersTell, heard_to, read_at}
use Rattle.sync_history.specs.History.{first_to}
use Rattle.sync_history.specs.Heads.{MarkerLoss, capped, corr_at, expected, f_at, first_mark, first_told, head_at, majority, marked_at, markers_lose, missed_at, missed_since, misses_to, parity, position_at, positive_at, record_since, record_to, second_told, slot_at, slot_since, ssync_at, strays_to, word_at}
use borrow.Author.Tests.{eq-eqb, eqb-false, eqb-true, lt-ltb, ltb-true, ne_eqb}
use lib.Dec.{eqb, ltb}
use lib.IntN.{pos}
use lib.Signed.{lt_z}
use mathlib.Core.Bool.{Bool, ◌&&◌, false, not, true}
use mathlib.Core.Path.{◌∙◌, ◌≡◌, ap, refl, sym}
use native.Mathlib.Omega.{arith}

module _ (n start : ℕ) (kept : Option FrameHead) (b : ℕ → Both) where
  -- ---- turns
  parity-small : parity b ≤ 1
  unfolding parity
  parity-small = if_both (λ (x : ℕ). x ≤ 1) _ 1 0 (omega arith) (omega arith)

  turn-f : (i : ℕ) → ssync_at b i ≡ true → ssync_at b (suc i) ≡ false
  unfolding ssync_at
  turn-f i e = let u = eqb-true (i % 2) (parity b) e in ne_eqb (suc i % 2) (parity b) (λ q. omega (arith, u, q))

  turn-s : (i : ℕ) → ssync_at b i ≡ false → ssync_at b (suc i) ≡ true
  unfolding ssync_at
  turn-s i e = let u = eqb-false (i % 2) (parity b) e in let v = parity-small in eq-eqb (suc i % 2) (parity b) (omega (arith, u, v))

  f-after : (i : ℕ) → ssync_at b (suc i) ≡ false → f_at b (suc i) ≡ true
  unfolding f_at
  f-after i e = rw (lt-ltb 0 (suc i) (omega arith), e) refl

  no-f : (i : ℕ) → ssync_at b i ≡ true → f_at b i ≡ false
  unfolding f_at
  no-f i e = rw e (none (ltb 0 i))
    where
      none : (t : Bool) → (t && false) ≡ false
      none true = refl
      none false = refl

  no-f-zero : f_at b 0 ≡ false
  unfolding f_at
  no-f-zero = refl

  -- ---- heads
  abbrev reading : ℕ → Reading
  reading i = record { at = position_at n start kept b i; both = b i }

  slot-after : (i : ℕ) → (course_to n start kept b (suc i)).slot ≡ slot_at n start kept b i
  unfolding course_to course_since slot_at
  slot-after i = let e : suc i - 1 ≡ i = omega arith in rw e

  said-ssync : (i : ℕ) (c : Corr) → ssync_at b i ≡ true → said_of true (b i) c ≡ record { word = word_at b i; corr = corr_at b i }
  unfolding said_of word_at corr_at choice.when◌then◌else◌
  said-ssync i c e = rw e

  said-f : (i : ℕ) → ssync_at b (suc i) ≡ false → said_of false (b (suc i)) (b i).s ≡ record { word = word_at b (suc i); corr = corr_at b (suc i) }
  unfolding said_of word_at corr_at positive_at choice.when◌then◌else◌
  said-f i e =
      let g : suc i - 1 ≡ i = omega arith in
      by_test (lt_z (side_of (b (suc i)).f (b i).s) (pos 0)) (λ t. rw (e, g, t) refl) (λ t. rw (e, g, t) refl)

  positive-is : (i : ℕ) → ssync_at b (suc i) ≡ false → is_fsync (word_at b (suc i)) ≡ positive_at b (suc i)
  unfolding word_at is_fsync choice.when◌then◌else◌
  positive-is i e = by_test (positive_at b (suc i)) (λ t. rw (e, t) refl) (λ t. rw (e, t) refl)

  head-is : (i : ℕ) (w : Said) (s : Option SlotNumber) → w ≡ record { word = word_at b i; corr = corr_at b i } → s ≡ slot_at n start kept b i → head_of w (position_at n start kept b i) s ≡ head_at n start kept b i
  unfolding head_of head_at
  head-is i w s e g = rw (e, g)

  ssync-told : (i : ℕ) → ssync_at b i ≡ true → ssync_of (course_to n start kept b i) (reading i) ≡ record { lost = false; course = course_to n start kept b (suc i); head = Some (head_at n start kept b i) }
  unfolding ssync_of
  ssync-told i e =
      let o = other_step n start kept b i (no-f i e) in
      let s : next_slot (course_to n start kept b i).slot ≡ slot_at n start kept b i = ap (λ (c : Course). c.slot) o ∙ slot-after i in
      let h = head-is i (said_of true (b i) (b i).s) (next_slot (course_to n start kept b i).slot) (said-ssync i (b i).s e) s in
      rw (h, o)

  -- an F head
  record Tells (i : ℕ) (t : Told) : Type 0 where
    lost : t.lost ≡ markers_lose b i
    head : t.head ≡ (when markers_lose b i then None else Some (head_at n start kept b i))
    on : markers_lose b i ≡ false → t.course ≡ course_to n start kept b (suc i)
    last : markers_lose b i ≡ true → t.course.last ≡ record_to n start kept b i

  f-tells : (i : ℕ) → 0 < n → ssync_at b (suc i) ≡ false → Tells (suc i) (fsync_of n (course_to n start kept b (suc i)) (reading (suc i)) (b i).s)
  unfolding fsync_of
  f-tells i z e =
      let c = comes_to n start kept b (suc i) in
      let k = f-step n start kept b (suc i) z (f-after i e) in
      let w : Said = record { word = word_at b (suc i); corr = corr_at b (suc i) } in
      let lost : Told = record { lost = true; course = c.course; head = None } in
      let told : Told = record { lost = false; course = c.course; head = Some (head_of w (position_at n start kept b (suc i)) c.course.slot) } in
      rw (said-f i e, positive-is i e)
      (if_either (Tells (suc i)) c.lost lost told
      (λ t. let m = sym k.lost ∙ t in
      record { lost = sym m; head = sym (if_yes (markers_lose b (suc i)) None (Some (head_at n start kept b (suc i))) m); on = λ q. absurd (never (sym m ∙ q)); last = k.last })
      (λ t. let m = sym k.lost ∙ t in
      let s : c.course.slot ≡ slot_at n start kept b (suc i) = ap (λ (x : Course). x.slot) (k.on m) ∙ slot-after (suc i) in
      record {
        lost = sym m;
        head = ap Some (head-is (suc i) w c.course.slot refl s) ∙ sym (if_no (markers_lose b (suc i)) None (Some (head_at n start kept b (suc i))) m);
        on = k.on;
        last = λ q. absurd (never (sym q ∙ m));
      }))

  -- ---- readings
  unfoldable pub stage_to : ℕ → Stage
  stage_to zero = Before
  stage_to (suc zero) = First (record { at = position_at n start kept b 0; both = b 0 })
  stage_to (suc (suc i)) =
      Known (record { odd = lt_z (margin_of (b 0)) (margin_of (b 1)); due = ssync_at b (suc (suc i)); last = when ssync_at b (suc i) then (b (suc i)).s else (b i).s })

  -- what reading i comes to, from what the first i came to
  pub record ReadIs (i : ℕ) (k : Taken) : Type 0 where
    pub lost : k.lost ≡ markers_lose b i
    pub first : k.first ≡ first_told n start kept b i
    pub second : k.second ≡ second_told n start kept b i
    pub stage : k.stage ≡ stage_to (suc i)
    pub on : markers_lose b i ≡ false → k.course ≡ course_to n start kept b (suc i)
    pub last : markers_lose b i ≡ true → k.course.last ≡ record_to n start kept b i

  abbrev odd : Bool
  odd = lt_z (margin_of (b 0)) (margin_of (b 1))

  ssync-read : (i : ℕ) → ssync_at b (suc (suc i)) ≡ true → ReadIs (suc (suc i)) (ssync_taken odd (course_to n start kept b (suc (suc i))) (reading (suc (suc i))))
  unfolding ssync_taken stage_to first_told second_told
  ssync-read i e =
      let t = ssync-told (suc (suc i)) e in
      let m = other-keeps n start kept b (suc (suc i)) (no-f (suc (suc i)) e) in
      record {
        lost = sym m;
        first = ap (λ (x : Told). x.head) t ∙ sym (if_no (markers_lose b (suc (suc i))) None (Some (head_at n start kept b (suc (suc i)))) m);
        second = refl;
        stage = rw (turn-f (suc (suc i)) e, if_yes (ssync_at b (suc (suc i))) (b (suc (suc i))).s (b (suc i)).s e) refl;
        on = λ q. ap (λ (x : Told). x.course) t;
        last = λ q. absurd (never (sym q ∙ m));
      }

  f-read : (i : ℕ) → 0 < n → ssync_at b (suc (suc i)) ≡ false → ReadIs (suc (suc i)) (fsync_taken n odd (b (suc i)).s (course_to n start kept b (suc (suc i))) (reading (suc (suc i))))
  unfolding fsync_taken stage_to first_told second_told
  f-read i z e =
      let t = f-tells (suc i) z e in
      record {
        lost = t.lost;
        first = t.head;
        second = refl;
        stage = rw (turn-s (suc (suc i)) e, if_no (ssync_at b (suc (suc i))) (b (suc (suc i))).s (b (suc i)).s e) refl;
        on = t.on;
        last = t.last;
      }

  known_read : (i : ℕ) → 0 < n → ReadIs (suc (suc i)) (read_of n (stage_to (suc (suc i))) (course_to n start kept b (suc (suc i))) (reading (suc (suc i))))
  unfolding read_of known_of stage_to
  known_read i z =
      let c = course_to n start kept b (suc (suc i)) in
      let r = reading (suc (suc i)) in
      let f = fsync_taken n odd (when ssync_at b (suc i) then (b (suc i)).s else (b i).s) c r in
      if_either (ReadIs (suc (suc i))) (ssync_at b (suc (suc i))) (ssync_taken odd c r) f (ssync-read i)
      (λ e. rw (if_yes (ssync_at b (suc i)) (b (suc i)).s (b i).s (before i e)) (f-read i z e))
    where
      before : (i : ℕ) → ssync_at b (suc (suc i)) ≡ false → ssync_at b (suc i) ≡ true
      before i e = by_test (ssync_at b (suc i)) (λ t. t) (λ t. absurd (never (sym (turn-s (suc i) t) ∙ e)))

  -- head zero waits: nothing is known of it, whatever it is
  pub course-zero : course_to n start kept b 0 ≡ record { majority = pos 0; slot = None; last = kept; misses = 0; stray = 0; missed = 0 }
  unfolding course_to course_since first_to majority slot_since record_since held_since strays_to misses_to capped
  course-zero = refl

  course-one : course_to n start kept b 1 ≡ course_to n start kept b 0
  unfolding next_slot
  course-one = sym (other_step n start kept b 0 no-f-zero) ∙ ap (λ (c : Course). with_sign c c.majority (next_slot c.slot)) course-zero ∙ sym course-zero

  zero-read : ReadIs 0 (read_of n (stage_to 0) (course_to n start kept b 0) (reading 0))
  unfolding read_of stage_to first_told second_told
  zero-read =
      let m = other-keeps n start kept b 0 no-f-zero in
      record { lost = sym m; first = refl; second = refl; stage = refl; on = λ q. sym course-one; last = λ q. absurd (never (sym q ∙ m)) }

  -- head one tells the parity
  parity-odd : odd ≡ true → parity b ≡ 1
  unfolding parity
  parity-odd t = if_yes odd 1 0 t

  parity-even : odd ≡ false → parity b ≡ 0
  unfolding parity
  parity-even t = if_no odd 1 0 t

  one-odd : odd ≡ true → (ssync_at b 0 ≡ false) × (ssync_at b 1 ≡ true)
  unfolding ssync_at
  one-odd t = let p = parity-odd t in (ne_eqb (0 % 2) (parity b) (λ q. omega (arith, p, q)), eq-eqb (1 % 2) (parity b) (omega (arith, p)))

  one-even : odd ≡ false → (ssync_at b 0 ≡ true) × (ssync_at b 1 ≡ false)
  unfolding ssync_at
  one-even t = let p = parity-even t in (eq-eqb (0 % 2) (parity b) (omega (arith, p)), ne_eqb (1 % 2) (parity b) (λ q. omega (arith, p, q)))

  odd-read : odd ≡ true → ReadIs 1 (ssync_taken true (course_to n start kept b 1) (reading 1))
  unfolding ssync_taken stage_to first_told second_told
  odd-read t =
      let e = one-odd t in
      let w = ssync-told 1 e.1 in
      let m = other-keeps n start kept b 1 (no-f 1 e.1) in
      record {
        lost = sym m;
        first = ap (λ (x : Told). x.head) w ∙ sym (if_no (ssync_at b 0) (Some (head_at n start kept b 0)) (Some (head_at n start kept b 1)) e.0);
        second = sym (if_no (ssync_at b 0) (Some (head_at n start kept b 1)) None e.0);
        stage = rw (t, turn-f 1 e.1, if_yes (ssync_at b 1) (b 1).s (b 0).s e.1) refl;
        on = λ q. ap (λ (x : Told). x.course) w;
        last = λ q. absurd (never (sym q ∙ m));
      }

  pub none-one : markers_lose b 1 ≡ false
  none-one = lose-none n start kept b 1 (first-waits (marked_at b) 0 none-zero (unmarked_other b 0 no-f-zero))
    where
      none-zero : first_mark b 0 ≡ None
      none-zero = unfold first_to in refl

  even-read : 0 < n → odd ≡ false → ReadIs 1 (both_heads n (reading 0) (course_to n start kept b 1) (reading 1))
  unfolding both_heads fsync_taken stage_to first_told second_told
  even-read z t =
      let e = one-even t in
      let a = ap (λ (c : Course). ssync_of c (reading 0)) course-one ∙ ssync-told 0 e.0 in
      let w = f-tells 0 z e.1 in
      rw a
      (record {
        lost = w.lost;
        first = sym (if_yes (ssync_at b 0) (Some (head_at n start kept b 0)) (Some (head_at n start kept b 1)) e.0);
        second =
            w.head
            ∙ if_no (markers_lose b 1) None (Some (head_at n start kept b 1)) none-one
            ∙ sym (if_yes (ssync_at b 0) (Some (head_at n start kept b 1)) None e.0);
        stage = rw (t, turn-s 1 e.1, if_no (ssync_at b 1) (b 1).s (b 0).s e.1) refl;
        on = w.on;
        last = w.last;
      })

  pub read_is : (i : ℕ) → 0 < n → ReadIs i (read_of n (stage_to i) (course_to n start kept b i) (record { at = position_at n start kept b i; both = b i }))
  unfolding read_of first_of stage_to
  read_is zero z = zero-read
  read_is (suc zero) z =
      if_either (ReadIs 1) odd (ssync_taken true (course_to n start kept b 1) (reading 1)) (both_heads n (reading 0) (course_to n start kept b 1) (reading 1)) odd-read (even-read z)
  read_is (suc (suc i)) z = known_read i z

  -- ---- the step, reading after reading
  heard-is : (i : ℕ) → 0 < n → ((j : ℕ) → j < i → markers_lose b j ≡ false) → heard_to n start kept b i ≡ (stage_to i, course_to n start kept b i)
  unfolding heard_to stage_to
  heard-is zero z k = rw course-zero
  heard-is (suc i) z k =
      let h = heard-is i z (λ j l. k j (omega arith)) in
      let r = read_is i z in
      rw h (pair r.stage (r.on (k i (omega arith))))
    where
      pair : {s s' : Stage} {c c' : Course} → s ≡ s' → c ≡ c' → ◌≡◌ {A = Stage × Course} (s, c) (s', c')
      pair p q = rw (p, q)

  -- the parts of a course
  pub course-last : (i : ℕ) → (course_to n start kept b i).last ≡ record_to n start kept b i
  unfolding course_to course_since record_to
  course-last i = refl

  pub course-stray : (i : ℕ) → (course_to n start kept b i).stray ≡ capped (strays_to b i)
  unfolding course_to course_since
  course-stray i = refl

  pub course-missed : (i : ℕ) → (course_to n start kept b i).missed ≡ capped (misses_to b i)
  unfolding course_to course_since
  course-missed i = refl

  -- the record after reading i
  pub read-last : (i : ℕ) (k : Taken) → ReadIs i k → k.course.last ≡ (when markers_lose b i then record_to n start kept b i else record_to n start kept b (suc i))
  read-last i k r =
      by_test (markers_lose b i)
      (λ m. r.last m ∙ sym (if_yes (markers_lose b i) (record_to n start kept b i) (record_to n start kept b (suc i)) m))
      (λ m. ap (λ (c : Course). c.last) (r.on m) ∙ course-last (suc i) ∙ sym (if_no (markers_lose b i) (record_to n start kept b i) (record_to n start kept b (suc i)) m))

pub heads_tell : HeadsClaim
heads_tell n start kept b i z k =
    let h = heard-is n start kept b i z k in
    let r : ReadIs n start kept b i (read_at n start kept b i) = rw h (read_is n start kept b i z) in
    record {
      lost = r.lost;
      first = r.first;
      second = r.second;
      last = read-last n start kept b i (read_at n start kept b i) r;
      stray = λ m. ap (λ (c : Course). c.stray) (r.on m) ∙ course-stray n start kept b (suc i);
      missed = λ m. ap (λ (c : Course). c.missed) (r.on m) ∙ course-missed n start kept b (suc i);
    }

-- ---- the loss by markers, as a test
expected-after : (f i : ℕ) → expected f i ≡ true → f < i
unfolding expected
expected-after f i e = ltb-true f i (and_both (ltb f i) (eqb ((i - f) % 120) 0) e).0

not_false : (t : Bool) → not t ≡ true → t ≡ false
not_false true e = absurd (never (sym e))
not_false false e = refl

module _ (b : ℕ → Both) (i : ℕ) where
  lose-some : (f : ℕ) → first_mark b i ≡ Some f → markers_lose b i ≡ ((expected f (i - 120) && not (marked_at b (i - 120))) && (expected f i && not (marked_at b i)))
  unfolding markers_lose missed_at missed_since
  lose-some f e = rw e

  lose-first : first_mark b i ≡ None → markers_lose b i ≡ false
  unfolding markers_lose missed_at missed_since
  lose-first e = rw e refl

  both-missed : MarkerLoss b i → markers_lose b i ≡ true
  both-missed l =
      let f = l.first in
      let g : i - 120 ≡ l.before = omega (arith, l.frame) in
      lose-some f (first_found (marked_at b) i f (record { passes = l.begins.marked; first = l.begins.first }) (expected-after f i l.now.due))
      ∙ rw (g, l.was.due, l.was.unmarked, l.now.due, l.now.unmarked) refl

  missed-both : markers_lose b i ≡ true → MarkerLoss b i
  missed-both e =
      by_first (marked_at b) i
      (λ q. absurd (never (sym e ∙ lose-first q)))
      (λ f q.
      let w = and_both (expected f (i - 120) && not (marked_at b (i - 120))) (expected f i && not (marked_at b i)) (sym (lose-some f q) ∙ e) in
      let u = and_both (expected f (i - 120)) (not (marked_at b (i - 120))) w.0 in
      let v = and_both (expected f i) (not (marked_at b i)) w.1 in
      record {
        first = f;
        begins = let w = (first-is (marked_at b) i f q).1 in record { marked = w.passes; first = w.first };
        before = i - 120;
        frame = omega (arith, expected-after f (i - 120) u.0);
        was = record { due = u.0; unmarked = not_false (marked_at b (i - 120)) u.1 };
        now = record { due = v.0; unmarked = not_false (marked_at b i) v.1 };
      })

  pub markers-tell : MarkersTell b i
  markers-tell = record { loses = both-missed; loses_only = missed-both }
