-- What an accepted symbol makes of a coherent receiver. Assumes nothing.
use Rattle.sync_heads.specs.declared.SlotNumber.{SlotNumber}
use Rattle.std.specs.Prelude.{Option, None, Some}
use Prim.Native.Nat.{ℕ, suc, ◌+◌, ◌-◌, ◌*◌, ◌^◌, ◌≤◌, ◌<◌}
use mathlib.Core.Bool.{true, false, not}
use mathlib.Core.List.{List, [], ◌∷◌}
use mathlib.Core.Logic.{◌⊎◌, inl, inr}
use mathlib.Core.Path.{◌≡◌, refl, sym, ap, subst, ◌∙◌}
use native.Mathlib.Nat.{not-suc-le-zero}
use native.Mathlib.Omega.{arith}
use borrow.Author.Tests.{le-leb, lt-leb, leb-false, le-ltb, ltb-true, ltb-false}
use lib.Dec.{leb, ltb}
use lib.IntN.{ℤ}
use lib.ListN.{length}
use Rattle.laws.specs.Choice.{when◌then◌else◌, if_yes, if_no}
use Rattle.laws.proofs.Lists.{length-firsts}
use Rattle.laws.proofs.Size.{arg}
use Rattle.laws.proofs.Tests.{and_both, by_test, if_either}
use Rattle.carrier.specs.declared.Nco.{Nco}
use Rattle.carrier.specs.Carrier.{advanced_nco}
use Rattle.carrier.proofs.Theorems.{rotated_small}
use Rattle.sync_corr.specs.Correlate.{ones_of, both_of}
use Rattle.sync_corr.specs.Rows.{Bounded}
use Rattle.sync_corr.specs.declared.Both.{Both}
use Rattle.sync_heads.specs.Ranges.{slot_in_range}
use Rattle.sync_step.specs.declared.Run.{Run}
use Rattle.sync_step.specs.declared.Step.{Step}
use Rattle.sync_step.specs.Events.{no_events}
use Rattle.sync_step.specs.Step.{place_of, taken_of, early_of, late_of, step_of}
use Rattle.sync.specs.Answers.{accepted_push}
use Rattle.sync.specs.Sync.{window_after, symbol_of}
use Rattle.sync_range.specs.Calls.{PushFits}
use Rattle.sync_range.specs.Coherent.{corr_most, SlotFits, Coherent as CoherentSync}
use Rattle.sync_range.specs.Coherent as Bounds
use Rattle.sync_range.proofs.Corr.{both_fits}
use Rattle.sync_range.proofs.Theorems.{push_coherent}
use Rattle.sync_range.proofs.Window.{window_after_fits}
use Rattle.phase.specs.declared.Held.{Held}
use Rattle.phase.specs.declared.WholeSlot.{WholeSlot}
use Rattle.phase.specs.declared.Corrected.{Corrected}
use Rattle.phase.specs.Phase.{pushed_in, corrected_of}
use Rattle.frame_line.specs.Line.{gap_at}
use Rattle.frame.specs.declared.Back.{Back}
use Rattle.frame.specs.Stretch.{after_all, unbroken}
use Rattle.frame.proofs.Theorems.{not_true, no_gap}
use Rattle.receiver.specs.declared.Receiver.{Receiver}
use Rattle.receiver.specs.Started.{started, kept_of}
use Rattle.receiver.specs.Heads.{event_heard, listened, loses_in}
use Rattle.receiver_slot.specs.Slot.{corrected_all, overfull, due_symbols, waiting_before}
use Rattle.receiver.specs.Symbol.{Input, Lent, next_of, slot_past, rotated, synced, window, sync_left, heads, slot, enough, left, lost, receiver_after, past, full}
use Rattle.receiver_range.specs.Coherent.{CountFits, NcoFits, PhaseFits, Untouched, Adjoins, BackFits, CoherentReceiver}
use Rattle.receiver_range.specs.Calls.{SymbolFits}
use Rattle.receiver_range.proofs.InRange.{held_low}
use Rattle.receiver_range.proofs.Starts.{started_coherent}
use Rattle.receiver_range.proofs.Push.{SoundEq}
use Rattle.receiver_range.proofs.Slots.{Trains, slot-adjoins, slot-sound, slot-unbroken, slot-opened, slot-first, slot-later}
use Rattle.receiver_range.proofs.Events.{late_result}
use Rattle.receiver_range.proofs.Heads.{DueFits, Follows, heard_by, before, taken_hears}

-- ---- slot sync and its events
-- what the heads of a step leave, from carrier n and slot phase s on, and what a sync that runs on has of it
record Stepped (r : Run) (s : Option Held) (b : Both) (n : Nco) (x : Step) : Type 0 where
  pub nco : NcoFits (listened 9296 (before n s) x.events).nco
  pub due : DueFits s (r.base + r.t - 23) (listened 9296 (before n s) x.events).due
  pub goes : loses_in x.events ≡ false → Bounded (corr_most Bounds.rotated) b.f → Bounded (corr_most Bounds.rotated) b.s → slot_in_range x.run.course.slot ≡ true →
      let l = listened 9296 (before n s) x.events in
      let t = when leb 23 r.t then pushed_in 9296 l.phase else l.phase in
      PhaseFits x.run t × Follows s l.due t

-- no head is held before 24 symbols have come
no_head : (r : Run) (s : Option Held) → PhaseFits r s → r.t < 23 → s ≡ None
no_head r None f l = refl
no_head r (Some x) f l = absurd (none f.counted f.place)
  where
    none : x.head.at + x.count + 23 ≡ r.base + r.t → x.head.at ≡ r.base + f.period * 9296 + f.offset → ⊥
    none e d = omega arith

early_stepped : (r : Run) (s : Option Held) (b : Both) (n : Nco) → NcoFits n → PhaseFits r s → r.t < 23 → Stepped r s b n (early_of r)
unfolding early_of no_events listened event_heard
early_stepped r s b n c f l =
    let e = no_head r s f l in
    subst (λ (z : Option Held). Stepped r z b n (early_of r)) (sym e)
    (record { nco = c; due = tt; goes = λ z hf hs k. rw (if_no (leb 23 r.t) (pushed_in 9296 None) None (lt-leb 23 r.t l)) (tt, tt) })

late_stepped : (r : Run) (h a : ℕ) (s : Option Held) (b : Both) (n : Nco) → NcoFits n → Bounds.LockFits r.t h r.lock → Bounds.StageFits Bounds.rotated h r.stage → 23 ≤ r.t →
    PhaseFits r s → Stepped r s b n (late_of 9296 r b a)
late_stepped r h a s b n c l g u f =
    let k = taken_of 9296 r (place_of 9296 r.t) b in
    let y = taken_hears r h s b n c l g u f in
    let z = late_result r b a y.quiet in
    let m = heard_by (before n s) k.first k.second in
    let e : listened 9296 (before n s) (late_of 9296 r b a).events ≡ m = z.heard 9296 (before n s) in
    record {
      nco = rw e y.nco;
      due = rw e y.due;
      goes = λ t hf hs i.
          let v = z.kept t in
          let w = y.goes v.0 hf hs (subst (λ x. slot_in_range x.slot ≡ true) v.1.course i) (late_of 9296 r b a).run v.1 in
          rw (e, if_yes (leb 23 r.t) (pushed_in 9296 m.phase) m.phase (le-leb 23 r.t u)) (w.phase, w.follows);
    }

stepped : (r : Run) (h a : ℕ) (s : Option Held) (b : Both) (n : Nco) → NcoFits n → Bounds.LockFits r.t h r.lock → Bounds.StageFits Bounds.rotated h r.stage → PhaseFits r s →
    Stepped r s b n (step_of 9296 r b a)
unfolding step_of
stepped r h a s b n c l g f =
    if_either (Stepped r s b n) (ltb r.t 23) _ _
    (λ t. early_stepped r s b n c f (ltb-true r.t 23 t))
    (λ t. late_stepped r h a s b n c l g (ltb-false r.t 23 t) f)

-- ---- a symbol of a receiver
slot_fits : (h misses : ℕ) (k : Option SlotNumber) → SlotFits h misses k → slot_in_range k ≡ true
unfolding slot_in_range
slot_fits h misses None g = refl
slot_fits h misses (Some s) g = le-leb s.number 119 g.within

-- what is known of a symbol that is accepted, but for full sums
pub record Takes (r : Receiver) (x : Input) (l : Lent) : Type 0 where
  pub fits : SymbolFits x l
  pub long : length l.acc ≡ 9296
  pub first : ones_of x.f ≡ true
  pub second : ones_of x.s ≡ true
  pub below : next_of r < 2 ^ 62

module _ (r : Receiver) (x : Input) (l : Lent) (c : CoherentReceiver r) where
  abbrev run : Run
  run = r.front.sync.run

  abbrev both : Both
  both = both_of (window 9296 r x l) x.f x.s

  -- the carrier "uses its phase, then advances it"
  advanced : NcoFits (advanced_nco r.front.nco)
  unfolding advanced_nco
  advanced = record { coherent = record { trail = c.nco.coherent.trail }; even = c.nco.even }

  steps : Stepped run r.front.phase both (advanced_nco r.front.nco) (synced 9296 r x l)
  unfolding synced window symbol_of
  steps = stepped run c.sync.heads _ r.front.phase _ (advanced_nco r.front.nco) advanced c.sync.lock c.sync.stage c.phase

  -- ---- THE SLOT THAT IS DUE is that of the head held before, and the next head stands 9,296 symbols later
  pub due_fits : DueFits r.front.phase (run.base + run.t - 23) (heads 9296 r x l).due
  unfolding heads
  due_fits = steps.due

  -- ---- 7 IS FOR THE SYMBOL'S OWN POSITION ALONE
  slot-below : (s : Option Held) (d : Option WholeSlot) → DueFits s (run.base + run.t - 23) d → next_of r < 2 ^ 62 → slot_past 9296 d ≡ false
  unfolding slot_past next_of
  slot-below s None f u = refl
  slot-below None (Some w) f u = absurd f
  slot-below (Some h) (Some w) f u = le-ltb (2 ^ 62) (w.head.at + 9296) (rw f.head (omega (arith, f.spans)))

  pub past_is : past 9296 r x l ≡ leb (2 ^ 62) (next_of r)
  unfolding past
  past_is =
      by_test (leb (2 ^ 62) (next_of r)) (λ t. rw t)
      (λ t. rw (t, slot-below r.front.phase (heads 9296 r x l).due due_fits (leb-false (2 ^ 62) (next_of r) t)))

  -- ---- slot sync
  pub turned : SymbolFits x l → PushFits Bounds.rotated (rotated 9296 r x l).i (rotated 9296 r x l).q l.acc
  unfolding rotated
  turned f =
      let z = rotated_small x.table r.front.nco.phase x.xi x.xq (λ j k. (arg (f.table j k)).size) (arg f.xi).size (arg f.xq).size in
      record { first = z.0; second = z.1; both = z.2; lent = f.acc }

  sync-coherent : Takes r x l → CoherentSync Bounds.rotated (sync_left 9296 r x l)
  unfolding sync_left synced window accepted_push next_of
  sync-coherent a =
      push_coherent Bounds.rotated r.front.sync (rotated 9296 r x l).i (rotated 9296 r x l).q x.f x.s l.acc c.sync (turned a.fits) a.first a.second a.long
      a.below

  both_small : Takes r x l → (Bounded (corr_most Bounds.rotated) both.f) × (Bounded (corr_most Bounds.rotated) both.s)
  unfolding window
  both_small a =
      let p = turned a.fits in
      let w = window_after r.front.sync.win (rotated 9296 r x l).i (rotated 9296 r x l).q in
      let b = both_fits Bounds.rotated w x.f x.s
      (window_after_fits Bounds.rotated r.front.sync.win (rotated 9296 r x l).i (rotated 9296 r x l).q c.sync.window p.first p.second p.both) a.first a.second in
      (b.f, b.s)

  -- where nothing is lost
  phase-goes : Takes r x l → lost 9296 r x l ≡ false →
      let t = (left 9296 r x l).front.phase in
      PhaseFits (sync_left 9296 r x l).run t × Follows r.front.phase (heads 9296 r x l).due t
  unfolding lost left heads enough sync_left
  phase-goes a e =
      let s = sync-coherent a in
      let b = both_small a in
      steps.goes e b.0 b.1 (slot_fits s.heads (synced 9296 r x l).run.course.misses (synced 9296 r x l).run.course.slot s.course.slot)

-- ---- the alignment behind the slot that is due
due_back : (q : Run) (s t : Option Held) (d : Option WholeSlot) (b : Back) (table store f g : List ℤ) → ones_of f ≡ true → ones_of g ≡ true → PhaseFits q s → BackFits s b → Follows s d t →
    BackFits t (after_all b (due_symbols 9296 d table store) f g)
unfolding due_symbols after_all
due_back q None None None b table store f g hf hg p u z = u
due_back q None (Some y) None b table store f g hf hg p u z = inl u
due_back q None t (Some w) b table store f g hf hg p u z = absurd z
due_back q (Some x) None None b table store f g hf hg p u z = absurd z
due_back q (Some x) (Some y) None b table store f g hf hg p u z = subst (λ h. Untouched b ⊎ Adjoins h.at b) (sym z) u
due_back q (Some x) None (Some w) b table store f g hf hg p u z = absurd z
due_back q (Some x) (Some y) (Some w) b table store f g hf hg p u z =
    let h = z.0 in
    let v : Untouched b ⊎ Adjoins w.head.at b = subst (λ k. Untouched b ⊎ Adjoins k.at b) (sym h) u in
    let k : slot_in_range w.head.slot ≡ true = rw h p.head.slot in
    let low : 46480 ≤ w.head.at = rw h (held_low q x p) in
    let at : w.head.at + 9296 ≡ y.head.at = rw h (sym z.1) in
    inr (subst (λ (n : ℕ). Adjoins n (after_all b (corrected_all 9296 w table store) f g)) at (slot-adjoins w table store f g hf hg k b low v))

due_sound : (q : Run) (s : Option Held) (n : ℕ) (d : Option WholeSlot) (b : Back) (table store f g : List ℤ) → ones_of f ≡ true → ones_of g ≡ true → PhaseFits q s → BackFits s b → DueFits s n d →
    SoundEq b.eq → overfull b (due_symbols 9296 d table store) f g ≡ false → SoundEq (after_all b (due_symbols 9296 d table store) f g).eq
unfolding due_symbols
due_sound q s n None b table store f g hf hg p u z k e = unfold after_all in k
due_sound q None n (Some w) b table store f g hf hg p u z k e = absurd z
due_sound q (Some x) n (Some w) b table store f g hf hg p u z k e =
    let v : Untouched b ⊎ Adjoins w.head.at b = subst (λ i. Untouched b ⊎ Adjoins i.at b) (sym z.head) u in
    slot-sound w table store f g hf hg (rw z.head p.head.slot) b v k e

-- the count of open sums goes up by the slot's trainings
due_count : (q : Run) (s : Option Held) (n : ℕ) (d : Option WholeSlot) (b : Back) (table store f g : List ℤ) → ones_of f ≡ true → ones_of g ≡ true → PhaseFits q s → BackFits s b → DueFits s n d →
    (b.eq.opened ≡ true → CountFits b) → (after_all b (due_symbols 9296 d table store) f g).eq.opened ≡ true → CountFits (after_all b (due_symbols 9296 d table store) f g)
unfolding due_symbols
due_count q s n None b table store f g hf hg p u z k o = unfold after_all in k (unfold after_all in o)
due_count q None n (Some w) b table store f g hf hg p u z k o = absurd z
due_count q (Some x) n (Some w) b table store f g hf hg p u z k o =
    let v : Untouched b ⊎ Adjoins w.head.at b = subst (λ i. Untouched b ⊎ Adjoins i.at b) (sym z.head) u in
    let i : slot_in_range w.head.slot ≡ true = rw z.head p.head.slot in
    let before : b.eq.opened ≡ true = sym (slot-opened w table store f g hf hg i b v) ∙ o in
    let low : 46480 ≤ w.head.at = rw z.head (held_low q x p) in
    let line = (slot-adjoins w table store f g hf hg i b low v).full in
    go i line (k before) before v
  where
    c : Back
    c = after_all b (corrected_all 9296 w table store) f g

    not_0 : {X : Type 0} → c.eq.filled ≡ 11 → c.eq.filled ≡ 0 → X
    not_0 h e = absurd (omega (arith, h, e))

    later : (m : ℕ) → c.eq.sums.count ≡ b.eq.sums.count + 24 → (b.eq.sums.count ≡ 24 * m) ⊎ (b.eq.sums.count ≡ 24 * m + 19) →
        (c.eq.sums.count ≡ 24 * suc m) ⊎ (c.eq.sums.count ≡ 24 * suc m + 19)
    later m h (inl e) = inl (omega (arith, h, e))
    later m h (inr e) = inr (omega (arith, h, e))

    go : slot_in_range w.head.slot ≡ true → c.eq.filled ≡ 11 → CountFits b → b.eq.opened ≡ true → Untouched b ⊎ Adjoins w.head.at b → CountFits c
    go i line k o (inl v) =
        let t = (slot-first w table store f g hf hg i b v).counted o in
        record { slots = 0; count = inr (omega (arith, t, k.none v.empty)); none = not_0 line }
    go i line k o (inr v) =
        let t = (slot-later w table store f g hf hg i b v).counted o in
        record { slots = suc k.slots; count = later k.slots t k.count; none = not_0 line }

module _ (r : Receiver) (x : Input) (l : Lent) (c : CoherentReceiver r) (a : Takes r x l) where
  -- nothing lost: what is left
  left-coherent : full 9296 r x l ≡ false → lost 9296 r x l ≡ false → CoherentReceiver (left 9296 r x l)
  unfolding left heads full slot
  left-coherent e z =
      let y = phase-goes r x l c a z in
      let b = due_sound r.front.sync.run r.front.phase _ (heads 9296 r x l).due r.back x.table l.store x.f x.s a.first a.second c.phase c.back
      (due_fits r x l c) (record { coherent = c.eq; right = c.right }) e in
      record {
        nco = (steps r x l c).nco;
        sync = sync-coherent r x l c a;
        phase = y.0;
        eq = b.coherent;
        right = b.right;
        count = due_count r.front.sync.run r.front.phase _ (heads 9296 r x l).due r.back x.table l.store x.f x.s a.first a.second c.phase c.back
            (due_fits r x l c) c.count;
        back = due_back r.front.sync.run r.front.phase _ (heads 9296 r x l).due r.back x.table l.store x.f x.s a.first a.second c.phase c.back y.1;
        points = c.points;
      }

  -- lost: a start with the kept values
  lost-coherent : CoherentReceiver (started (next_of r + 1) (kept_of (left 9296 r x l)))
  unfolding kept_of left
  lost-coherent = started_coherent (next_of r + 1) (kept_of (left 9296 r x l)) (sync-coherent r x l c a).course.last c.points

  -- ---- AN ACCEPTED SYMBOL keeps a receiver coherent
  pub coherent-symbol : full 9296 r x l ≡ false → CoherentReceiver (receiver_after 9296 r x l)
  unfolding receiver_after
  coherent-symbol e = if_either CoherentReceiver (lost 9296 r x l) _ _ (λ z. lost-coherent) (λ z. left-coherent e z)

-- ---- THE SLOT THAT A CALL COMPLETES is the held head's; the alignment is untouched, or the slot adjoins: there is no gap
pub record Due-is (r : Receiver) (w : WholeSlot) : Type 0 where
  pub held : Held
  pub holds : r.front.phase ≡ Some held
  pub head : w.head ≡ held.head
  pub whole : held.count ≡ 9296
  pub slot : slot_in_range w.head.slot ≡ true
  pub low : 46480 ≤ w.head.at
  -- the next head stands 9,296 symbols later, 23 before the symbol of the call
  pub spans : w.head.at + 9296 ≡ r.front.sync.run.base + r.front.sync.run.t - 23
  pub next : w.next.at ≡ w.head.at + 9296
  pub back : Untouched r.back ⊎ Adjoins w.head.at r.back

due_of_lem : (r : Receiver) (s : Option Held) (w : WholeSlot) → r.front.phase ≡ s → PhaseFits r.front.sync.run s → BackFits s r.back →
    DueFits s (r.front.sync.run.base + r.front.sync.run.t - 23) (Some w) → Due-is r w
due_of_lem r None w e p b d = absurd d
due_of_lem r (Some x) w e p b d =
    let h = d.head in
    record {
      held = x;
      holds = e;
      head = h;
      whole = omega (arith, d.spans, p.counted);
      slot = rw h p.head.slot;
      low = rw h (held_low r.front.sync.run x p);
      spans = rw h d.spans;
      next = rw h (d.next ∙ sym d.spans);
      back = subst (λ i. Untouched r.back ⊎ Adjoins i.at r.back) (sym h) b;
    }

-- a symbol that is no gap joins those that wait
waits-unbroken : (b : Back) (cs : List Corrected) → unbroken b.last cs ≡ true → 0 < length cs → waiting_before b cs ≡ b.metas.count
unfolding unbroken waiting_before
waits-unbroken b [] u h = absurd (not-suc-le-zero h)
waits-unbroken b (d ∷ cs) u h =
    let k = and_both (not (gap_at b.last d.at)) (unbroken (Some d.at) cs) u in
    ap (λ (y : Back). y.metas.count) (no_gap b d.at (not_true (gap_at b.last d.at) k.0))

module _ (r : Receiver) (x : Input) (l : Lent) (c : CoherentReceiver r) where
  pub due_is : (w : WholeSlot) → (heads 9296 r x l).due ≡ Some w → Due-is r w
  due_is w e =
      due_of_lem r r.front.phase w refl c.phase c.back
      (subst (DueFits r.front.phase (r.front.sync.run.base + r.front.sync.run.t - 23)) e (due_fits r x l c))

  pub slot_is : (w : WholeSlot) → (heads 9296 r x l).due ≡ Some w → slot 9296 r x l ≡ corrected_all 9296 w x.table l.store
  unfolding slot due_symbols
  slot_is w e = rw e

  -- no slot is completed: nothing is aligned, and 8 is not answered
  pub none-due : (heads 9296 r x l).due ≡ None → (slot 9296 r x l ≡ []) × (full 9296 r x l ≡ false)
  unfolding full slot due_symbols overfull
  none-due e = rw e (refl, refl)

  -- ---- TRAININGS: a call that completes a slot makes 19 on an untouched line and 24 after
  pub symbol-trains : ones_of x.f ≡ true → ones_of x.s ≡ true → (w : WholeSlot) → (heads 9296 r x l).due ≡ Some w →
      (Untouched r.back × Trains 19 r.back (slot 9296 r x l) x.f x.s) ⊎ (Adjoins w.head.at r.back × Trains 24 r.back (slot 9296 r x l) x.f x.s)
  symbol-trains hf hs w e = go d.back
    where
      d : Due-is r w
      d = due_is w e

      go : Untouched r.back ⊎ Adjoins w.head.at r.back →
          (Untouched r.back × Trains 19 r.back (slot 9296 r x l) x.f x.s) ⊎ (Adjoins w.head.at r.back × Trains 24 r.back (slot 9296 r x l) x.f x.s)
      go (inl u) = inl (u, rw (slot_is w e) (slot-first w x.table l.store x.f x.s hf hs d.slot r.back u))
      go (inr u) = inr (u, rw (slot_is w e) (slot-later w x.table l.store x.f x.s hf hs d.slot r.back u))

  -- the next slot adjoins, and sums that are open stay open
  pub symbol-adjoins : ones_of x.f ≡ true → ones_of x.s ≡ true → (w : WholeSlot) → (heads 9296 r x l).due ≡ Some w →
      Adjoins (w.head.at + 9296) (after_all r.back (slot 9296 r x l) x.f x.s) × ((after_all r.back (slot 9296 r x l) x.f x.s).eq.opened ≡ r.back.eq.opened)
  symbol-adjoins hf hs w e =
      let d = due_is w e in
      rw (slot_is w e) (
        slot-adjoins w x.table l.store x.f x.s hf hs d.slot r.back d.low d.back,
        slot-opened w x.table l.store x.f x.s hf hs d.slot r.back d.back,
      )

  -- no position is left out
  pub symbol-unbroken : ones_of x.f ≡ true → ones_of x.s ≡ true → unbroken r.back.last (slot 9296 r x l) ≡ true
  symbol-unbroken hf hs = go (heads 9296 r x l).due refl
    where
      go : (d : Option WholeSlot) → (heads 9296 r x l).due ≡ d → unbroken r.back.last (slot 9296 r x l) ≡ true
      go None e = rw (none-due e).0 (unfold unbroken in refl)
      go (Some w) e =
          let d = due_is w e in
          rw (slot_is w e) (slot-unbroken w x.table l.store x.f x.s hf hs d.slot r.back d.back)

  -- those that wait before it: the alignment's
  pub symbol-waiting : ones_of x.f ≡ true → ones_of x.s ≡ true → (w : WholeSlot) → (heads 9296 r x l).due ≡ Some w →
      waiting_before r.back (slot 9296 r x l) ≡ r.back.metas.count
  unfolding corrected_all
  symbol-waiting hf hs w e =
      waits-unbroken r.back (slot 9296 r x l) (symbol-unbroken hf hs) (rw (slot_is w e, length-firsts (corrected_of w x.table l.store) 9296) (omega arith))
