-- Heads among the events: none without a reading, and one at each reading from the second on. Assumes nothing.
use Rattle.sync_heads.specs.declared.FrameHead.{FrameHead}
use Rattle.std.specs.Prelude.{None, Some, Option}
use Prim.Native.Nat.{◌+◌, ◌-◌, ◌<◌, ◌≤◌, suc, zero, ℕ}
use Rattle.laws.proofs.Tests.{by_test, if_both, if_either, never}
use Rattle.laws.specs.Choice.{if_no, if_yes, when◌then◌else◌}
use Rattle.sync_corr.specs.declared.Corr.{Corr}
use Rattle.sync_heads.specs.Frames.{fsync_course}
use Rattle.sync_heads.specs.Heads.{both_heads, first_of, fsync_of, fsync_taken, head_of, is_fsync, known_of, read_of, ssync_of, ssync_taken}
use Rattle.sync_heads.specs.Words.{margin_of, said_of}
use Rattle.sync_heads.specs.declared.Course.{Course}
use Rattle.sync_heads.specs.declared.Reading.{Reading}
use Rattle.sync_heads.specs.declared.Stage.TheVariants.{Before, First, Known}
use Rattle.sync_heads.specs.declared.Stage.{Stage}
use Rattle.sync_heads.specs.declared.Taken.{Taken}
use Rattle.sync_heads.specs.declared.Told.{Told}
use Rattle.sync_step.specs.Events.{event_of, heads_of, is_nothing, no_events, then_of}
use Rattle.sync_step.specs.Step.{started_of, stats_of}
use Rattle.sync_step.specs.declared.Event.{Event}
use Rattle.sync_step.specs.declared.Events.{Events}
use Rattle.sync_tie.proofs.Track.{heard-next}
use Rattle.sync_tie.specs.Claims.{HeadAt, any_head, is_head}
use Rattle.sync_tie.specs.Pushes.{Push}
use Rattle.sync_tie.proofs.Story.{Heard, ends_at, heard_to, period_loses, reading_at, reads_at, stats_at, taken_at, tells, told_at}
use borrow.Author.Tests.{le-ltb, lt-ltb, ltb-false, ltb-true}
use lib.Dec.{ltb}
use lib.Signed.{lt_z}
use mathlib.Core.Bool.{Bool, false, true}
use mathlib.Core.List.{List}
use mathlib.Core.Logic.{◌⊎◌, inl, inr}
use mathlib.Core.Path.{◌∙◌, ◌≡◌, ap, refl, sym}
use native.Mathlib.Omega.{arith}
use Rattle.sync_step.specs.declared.Event.TheVariants.{Nothing, Head, Period, Lost}

-- ---- no head
pub record NoHeads (es : Events) : Type 0 where
  pub first : is_head es.first ≡ false
  pub second : is_head es.second ≡ false
  pub third : is_head es.third ≡ false

pub none_any : (es : Events) → NoHeads es → any_head es ≡ false
unfolding any_head
none_any es k = rw (k.first, k.second, k.third)

then_none : (es : Events) (e : Event) → NoHeads es → is_head e ≡ false → NoHeads (then_of es e)
unfolding then_of is_head
then_none es e k q =
    let a : Events = record { first = e; second = es.second; third = Nothing } in
    let b : Events = record { first = es.first; second = e; third = Nothing } in
    let d : Events = record { first = es.first; second = es.second; third = e } in
    if_both NoHeads (is_nothing es.first) a (when is_nothing es.second then b else d)
    (record { first = q; second = k.second; third = refl })
    (if_both NoHeads (is_nothing es.second) b d (record { first = k.first; second = q; third = refl }) (record { first = k.first; second = k.second; third = q }))

-- ---- a head at a position
abbrev pub Has : ℕ → Events → Type 0
Has at es = HeadAt at es.first ⊎ HeadAt at es.second

head_some : (at : ℕ) (e : Event) → HeadAt at e → is_nothing e ≡ false
unfolding is_nothing
head_some at Nothing p = absurd p
head_some at (Head h) p = refl
head_some at (Period s) p = absurd p
head_some at (Lost to) p = absurd p

then_has : (at : ℕ) (es : Events) (e : Event) → Has at es → Has at (then_of es e)
unfolding then_of
then_has at es e (inl p) =
    let a : Events = record { first = e; second = es.second; third = Nothing } in
    let b : Events = record { first = es.first; second = e; third = Nothing } in
    let d : Events = record { first = es.first; second = es.second; third = e } in
    if_either (Has at) (is_nothing es.first) a (when is_nothing es.second then b else d)
    (λ t. absurd (never (sym t ∙ head_some at es.first p)))
    (λ t. if_both (Has at) (is_nothing es.second) b d (inl p) (inl p))
then_has at es e (inr p) =
    let a : Events = record { first = e; second = es.second; third = Nothing } in
    let b : Events = record { first = es.first; second = e; third = Nothing } in
    let d : Events = record { first = es.first; second = es.second; third = e } in
    if_both (Has at) (is_nothing es.first) a (when is_nothing es.second then b else d)
    (inr p)
    (if_either (Has at) (is_nothing es.second) b d (λ t. absurd (never (sym t ∙ head_some at es.second p))) (λ t. inr p))

-- ---- a reading
unfoldable pub is_before : Stage → Bool
is_before Before = true
is_before (First z) = false
is_before (Known p) = false

pub read_begins : (n : ℕ) (s : Stage) (c : Course) (r : Reading) → is_before (read_of n s c r).stage ≡ false
unfolding is_before read_of first_of known_of both_heads ssync_taken fsync_taken
read_begins n Before c r = refl
read_begins n (First z) c r =
    if_both (λ (k : Taken). is_before k.stage ≡ false) (lt_z (margin_of z.both) (margin_of r.both)) (ssync_taken true c r) (both_heads n z c r) refl refl
read_begins n (Known p) c r =
    if_both (λ (k : Taken). is_before k.stage ≡ false) p.due (ssync_taken p.odd c r) (fsync_taken n p.odd p.last c r) refl refl

fsync_has : (n : ℕ) (c : Course) (r : Reading) (last : Corr) → (fsync_of n c r last).lost ≡ false → HeadAt r.at (event_of (fsync_of n c r last).head)
unfolding fsync_of event_of head_of
fsync_has n c r last =
    let w = said_of false r.both last in
    let m = fsync_course n (is_fsync w.word) c r.at in
    let a : Told = record { lost = true; course = m.course; head = None } in
    let b : Told = record { lost = false; course = m.course; head = Some (head_of w r.at m.course.slot) } in
    if_both (λ (t : Told). t.lost ≡ false → HeadAt r.at (event_of t.head)) m.lost a b (λ e. absurd (never e)) (λ e. refl)

ssync_has : (c : Course) (r : Reading) → HeadAt r.at (event_of (ssync_of c r).head)
unfolding ssync_of event_of head_of
ssync_has c r = refl

abbrev Tells : ℕ → Taken → Type 0
Tells at k = k.lost ≡ false → Has at (heads_of k)

ssync_tells : (odd : Bool) (c : Course) (r : Reading) → Tells r.at (ssync_taken odd c r)
unfolding ssync_taken heads_of
ssync_tells odd c r e = inl (ssync_has c r)

fsync_tells : (n : ℕ) (odd : Bool) (last : Corr) (c : Course) (r : Reading) → Tells r.at (fsync_taken n odd last c r)
unfolding fsync_taken heads_of
fsync_tells n odd last c r e = inl (fsync_has n c r last e)

both_tells : (n : ℕ) (z : Reading) (c : Course) (r : Reading) → Tells r.at (both_heads n z c r)
unfolding both_heads fsync_taken heads_of
both_tells n z c r e = inr (fsync_has n (ssync_of c z).course r z.both.s e)

pub read_tells : (n : ℕ) (s : Stage) (c : Course) (r : Reading) → is_before s ≡ false → (read_of n s c r).lost ≡ false → Has r.at (heads_of (read_of n s c r))
unfolding is_before read_of first_of known_of
read_tells n Before c r b = absurd (never b)
read_tells n (First z) c r b =
    if_both (Tells r.at) (lt_z (margin_of z.both) (margin_of r.both)) (ssync_taken true c r) (both_heads n z c r) (ssync_tells true c r) (both_tells n z c r)
read_tells n (Known p) c r b =
    if_both (Tells r.at) p.due (ssync_taken p.odd c r) (fsync_taken n p.odd p.last c r) (ssync_tells p.odd c r) (fsync_tells n p.odd p.last c r)

module _ (n base : ℕ) (last : Option FrameHead) (h : List Push) where
  -- ---- what a position tells has the heads that it was taken for, and no others
  module _ (P : Events → Type 0) (c : ℕ) (more : (es : Events) (e : Event) → is_head e ≡ false → P es → P (then_of es e)) where
    pub told-as : P (heads_of (taken_at n base last h c)) → P (told_at n base last h c)
    unfolding told_at is_head
    told-as p =
        let k = taken_at n base last h c in
        let d = ends_at n base last h c in
        let w = period_loses n base last h c in
        let lost = then_of (heads_of k) (Lost (base + c + 24)) in
        let zeros = Period (stats_of (started_of (base + c + 24) k.course.last)) in
        let ended = then_of (heads_of k) (Period (stats_at n base last h c)) in
        let q : P lost = more (heads_of k) (Lost (base + c + 24)) refl p in
        if_both P k.lost (when d then then_of lost zeros else lost) (when d then (when w then lost else ended) else heads_of k)
        (if_both P d (then_of lost zeros) lost (more lost zeros refl q) q)
        (if_both P d (when w then lost else ended) (heads_of k) (if_both P w lost ended q (more (heads_of k) (Period (stats_at n base last h c)) refl p)) p)

  pub taken-other : (c : ℕ) → reads_at n base last h c ≡ false →
      taken_at n base last h c ≡ record { lost = false; stage = (heard_to n base last h c).stage; course = (heard_to n base last h c).course; first = None; second = None }
  unfolding taken_at
  taken-other c r =
      let e = heard_to n base last h c in
      if_no (reads_at n base last h c) (read_of n e.stage e.course (reading_at n base last h c)) (record { lost = false; stage = e.stage; course = e.course; first = None; second = None }) r

  pub taken-reading : (c : ℕ) → reads_at n base last h c ≡ true → taken_at n base last h c ≡ read_of n (heard_to n base last h c).stage (heard_to n base last h c).course (reading_at n base last h c)
  unfolding taken_at
  taken-reading c r =
      let e = heard_to n base last h c in
      if_yes (reads_at n base last h c) (read_of n e.stage e.course (reading_at n base last h c)) (record { lost = false; stage = e.stage; course = e.course; first = None; second = None }) r

  pub told_none : (c : ℕ) → reads_at n base last h c ≡ false → any_head (told_at n base last h c) ≡ false
  unfolding heads_of event_of is_head
  told_none c e = none_any (told_at n base last h c) (told-as NoHeads c (λ es v q p. then_none es v p q) (silent c e))
    where
      silent : (c : ℕ) → reads_at n base last h c ≡ false → NoHeads (heads_of (taken_at n base last h c))
      silent c e = rw (taken-other c e) (record { first = refl; second = refl; third = refl })

  pub told-has : (at c : ℕ) → Has at (heads_of (taken_at n base last h c)) → Has at (told_at n base last h c)
  told-has at c = told-as (Has at) c (λ es e q p. then_has at es e p)

  -- ---- the stage after a reading
  reads-next : (c : ℕ) → reads_at n base last h c ≡ true → is_before (heard_to n base last h (suc c)).stage ≡ false
  reads-next c r =
      let e = heard_to n base last h c in
      ap (λ (x : Heard). is_before x.stage) (heard-next n base last h c) ∙ ap (λ (k : Taken). is_before k.stage) (taken-reading c r) ∙ read_begins n e.stage e.course (reading_at n base last h c)

  stays-next : (c : ℕ) → is_before (heard_to n base last h c).stage ≡ false → is_before (heard_to n base last h (suc c)).stage ≡ false
  stays-next c b =
      by_test (reads_at n base last h c) (reads-next c)
      (λ r. ap (λ (x : Heard). is_before x.stage) (heard-next n base last h c) ∙ ap (λ (k : Taken). is_before k.stage) (taken-other c r) ∙ b)

  pub begun-after : (d : ℕ) → reads_at n base last h d ≡ true → (c : ℕ) → d < c → is_before (heard_to n base last h c).stage ≡ false
  begun-after d r zero l = absurd (omega arith)
  begun-after d r (suc c) l =
      by_test (ltb d c)
      (λ t. stays-next c (begun-after d r c (ltb-true d c t)))
      (λ t. let e : d ≡ c = omega (arith, ltb-false d c t) in reads-next c (rw e at r))

  -- ---- a reading that is not the first, and does not lose, tells a head of its window
  pub reading-tells : (c : ℕ) → reads_at n base last h c ≡ true → is_before (heard_to n base last h c).stage ≡ false → (taken_at n base last h c).lost ≡ false →
      Has (base + c) (told_at n base last h c)
  unfolding reading_at
  reading-tells c r b l =
      let e = heard_to n base last h c in
      let t = taken-reading c r in
      told-has (base + c) c (rw t (read_tells n e.stage e.course (reading_at n base last h c) b (rw t at l)))

  -- ---- by pushes
  pub tells_none : (m : ℕ) → m < 23 → any_head (tells n base last h m) ≡ false
  unfolding tells no_events any_head is_head
  tells_none m l = ap any_head (if_yes (ltb m 23) no_events (told_at n base last h (m - 23)) (lt-ltb m 23 l))

  pub tells-late : (m : ℕ) → 23 ≤ m → tells n base last h m ≡ told_at n base last h (m - 23)
  unfolding tells
  tells-late m l = if_no (ltb m 23) no_events (told_at n base last h (m - 23)) (le-ltb m 23 l)
