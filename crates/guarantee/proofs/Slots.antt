-- Slots and trainings of one symbol: k symbols of the stretch have told a head before it. Assumes nothing.
use Rattle.std.specs.Prelude.{Option, None, Some}
use Prim.Native.Nat.{ℕ, ◌+◌, ◌-◌, ◌%◌, ◌≤◌}
use Rattle.frame.specs.declared.Back.{Back}
use Rattle.frame.specs.Stretch.{after_all}
use Rattle.guarantee.proofs.Heads.{head-heard, none-heard}
use Rattle.laws.proofs.Tests.{by_test, never}
use Rattle.laws.specs.Choice.{if_yes, when◌then◌else◌}
use Rattle.phase.specs.declared.Held.{Held}
use Rattle.phase.specs.declared.WholeSlot.{WholeSlot}
use Rattle.phase.specs.Phase.{begun_of, due_in, pushed_in, whole_of}
use Rattle.receiver.specs.declared.Listened.{Listened}
use Rattle.receiver.specs.declared.Receiver.{Receiver}
use Rattle.receiver_slot.specs.Slot.{corrected_all}
use Rattle.sync_corr.specs.Correlate.{ones_of}
use Rattle.receiver.specs.Symbol.{Input, Lent, enough, full, heads, left, next_of, slot, synced}
use Rattle.receiver_laws.proofs.Heads.{Begun}
use Rattle.receiver_range.proofs.Slots.{Trains, slot-adjoins, slot-opened}
use Rattle.receiver_range.proofs.Symbols.{due_is, none-due, slot_is, symbol-trains}
use Rattle.receiver_range.specs.Coherent.{Adjoins, CoherentReceiver, HeldFits, PhaseFits, Untouched}
use Rattle.sync_lock.specs.declared.Lock.{Lock}
use Rattle.sync_lock.specs.Rule.{locked_at}
use Rattle.sync_range.specs.Coherent.{LockFits, LockedFits}
use Rattle.sync_step.specs.declared.Run.{Run}
use Rattle.sync_step.specs.declared.Events.{Events}
use Rattle.sync_tie.specs.Claims.{any_head}
use borrow.Author.Tests.{eq-eqb, eqb-false, eqb-true, le-ltb, ne_eqb}
use lib.Dec.{eqb, lit≤, ltb}
use mathlib.Core.Bool.{Bool, false, true}
use mathlib.Core.List.{[]}
use mathlib.Core.Logic.{◌⊎◌, inl, inr}
use mathlib.Core.Path.{◌∙◌, ◌≡◌, ap, refl, subst, sym}
use native.Mathlib.Omega.{arith}

-- ---- a slot is held
unfoldable pub is_held : Option Held → Bool
is_held None = false
is_held (Some x) = true

-- what k symbols that told a head have made of slot phase and alignment: from the first on a slot is held, from the second on slots are aligned
pub record Slots (k : ℕ) (p : Option Held) (b : Back) : Type 0 where
  pub idle : k ≡ 0 → is_held p ≡ false
  pub held : 1 ≤ k → is_held p ≡ true
  pub empty : k ≤ 1 → b.eq.filled ≡ 0
  pub full_line : 2 ≤ k → b.eq.filled ≡ 11

-- the trainings of one that tells a head, or does not
unfoldable pub trainings_by : ℕ → Bool → ℕ
trainings_by k a = when a then when eqb k 0 then 0 else when eqb k 1 then 19 else 24 else 0

-- what they come to: refused (8) exactly if there is no room for all
pub record Sums (r : Receiver) (x : Input) (l : Lent) (n : ℕ) : Type 0 where
  pub opened : (left 9296 r x l).back.eq.opened ≡ r.back.eq.opened
  pub counted : r.back.eq.opened ≡ true → (left 9296 r x l).back.eq.sums.count ≡ r.back.eq.sums.count + n
  pub full_is : r.back.eq.opened ≡ true → full 9296 r x l ≡ ltb 4194304 (r.back.eq.sums.count + n)
  pub closed : r.back.eq.opened ≡ false → full 9296 r x l ≡ false

-- ---- the phase after the symbol
pushed_held : (p : Option Held) (t : Bool) → is_held (when t then pushed_in 9296 p else p) ≡ is_held p
unfolding pushed_in when◌then◌else◌ is_held
pushed_held None true = refl
pushed_held None false = refl
pushed_held (Some x) true = refl
pushed_held (Some x) false = refl

held_is : (p : Option Held) → is_held p ≡ true → (x : Held) × (p ≡ Some x)
unfolding is_held
held_is None e = absurd (never (sym e))
held_is (Some x) e = (x, refl)

idle_is : (p : Option Held) → is_held p ≡ false → p ≡ None
unfolding is_held
idle_is None e = refl
idle_is (Some x) e = absurd (never e)

-- a head at the locked place finds the slot whole
whole_now : (r : Run) (x : Held) (h : ℕ) → HeldFits r x → LockFits r.t h r.lock → locked_at r.lock ((r.t - 23) % 9296) ≡ true → x.count ≡ 9296
unfolding locked_at
whole_now r x h f k e =
    let g : LockedFits r.t h f.offset f.misses = subst (LockFits r.t h) f.locked k in
    let d : eqb ((r.t - 23) % 9296) f.offset ≡ true = subst (λ (y : Lock). locked_at y ((r.t - 23) % 9296) ≡ true) f.locked e in
    omega (arith, eqb-true ((r.t - 23) % 9296) f.offset d, g.place, f.place, f.counted, f.some, f.few)

-- ---- no slot is completed
module _ (r : Receiver) (x : Input) (l : Lent) (c : CoherentReceiver r) where
  abbrev es : Events
  es = (synced 9296 r x l).events

  -- open sums hold what they can
  room : r.back.eq.opened ≡ true → r.back.eq.sums.count ≤ 4194304
  room o = (c.eq.open_sums o).count

  same_back : slot 9296 r x l ≡ [] → (left 9296 r x l).back ≡ r.back
  unfolding left after_all
  same_back e = rw e

  no_sums : (heads 9296 r x l).due ≡ None → Sums r x l 0
  no_sums e =
      let d = none-due r x l c e in
      let b = same_back d.0 in
      record {
        opened = ap (λ (u : Back). u.eq.opened) b;
        counted = λ o. ap (λ (u : Back). u.eq.sums.count) b ∙ omega arith;
        full_is = λ o. d.1 ∙ sym (le-ltb 4194304 (r.back.eq.sums.count + 0) (omega (arith, room o)));
        closed = λ o. d.1;
      }

  -- the phase that is left holds a slot exactly if that of the heads does
  left-held : is_held (left 9296 r x l).front.phase ≡ is_held (heads 9296 r x l).phase
  unfolding left
  left-held = pushed_held (heads 9296 r x l).phase (enough 9296 r x l)

  -- ---- no head
  pub none-heads : any_head es ≡ false → ((heads 9296 r x l).phase ≡ r.front.phase) × ((heads 9296 r x l).due ≡ None)
  unfolding heads
  none-heads e =
      let k = none-heard 9296 _ es e in
      (ap (λ (u : Listened). u.phase) k, ap (λ (u : Listened). u.due) k)

  quiet-sums : (k : ℕ) → any_head es ≡ false → Sums r x l (trainings_by k (any_head es))
  unfolding trainings_by when◌then◌else◌
  quiet-sums k e = rw e (no_sums (none-heads e).1)

  quiet-slots : (k : ℕ) → any_head es ≡ false → Slots k r.front.phase r.back → Slots (k + (when any_head es then 1 else 0)) (left 9296 r x l).front.phase (left 9296 r x l).back
  unfolding when◌then◌else◌
  quiet-slots k e s =
      let n = none-heads e in
      let b = same_back (none-due r x l c n.1).0 in
      let p = left-held ∙ ap is_held n.0 in
      let z : k + 0 ≡ k = omega arith in
      rw (e, z, b) (record { idle = λ i. p ∙ s.idle i; held = λ i. p ∙ s.held i; empty = s.empty; full_line = s.full_line })

  -- ---- a head
  some-heads : any_head es ≡ true → Begun 9296 r.front.phase (heads 9296 r x l)
  unfolding heads
  some-heads e = head-heard 9296 _ es (lit≤ tt) refl e

  begun-held : any_head es ≡ true → is_held (left 9296 r x l).front.phase ≡ true
  unfolding is_held begun_of
  begun-held e = left-held ∙ ap is_held (some-heads e).phase

  -- the first of the stretch: no slot was held
  pub first-due : any_head es ≡ true → is_held r.front.phase ≡ false → (heads 9296 r x l).due ≡ None
  unfolding due_in
  first-due e i = let b = some-heads e in b.due ∙ ap (λ (p : Option Held). due_in 9296 p b.first) (idle_is r.front.phase i)

  -- a later one: the slot held is whole, and began 9,296 before the window that the symbol completes
  pub later-due : any_head es ≡ true → locked_at r.front.sync.run.lock ((r.front.sync.run.t - 23) % 9296) ≡ true → is_held r.front.phase ≡ true →
      (w : WholeSlot) × ((heads 9296 r x l).due ≡ Some w) × (w.head.at + 9296 + 23 ≡ next_of r)
  unfolding due_in next_of whole_of
  later-due e k i =
      let b = some-heads e in
      let h = held_is r.front.phase i in
      let y = h.0 in
      let f : HeldFits r.front.sync.run y = subst (PhaseFits r.front.sync.run) h.1 c.phase in
      let n = whole_now r.front.sync.run y c.sync.heads f c.sync.lock k in
      let w = whole_of y.head b.first in (
        w,
        b.due ∙ ap (λ (p : Option Held). due_in 9296 p b.first) h.1 ∙ if_yes (eqb y.count 9296) (Some w) None (eq-eqb y.count 9296 n),
        omega (arith, f.counted, n),
      )

  module _ (hf : ones_of x.f ≡ true) (hs : ones_of x.s ≡ true) (w : WholeSlot) (e : (heads 9296 r x l).due ≡ Some w) where
    after_is : (left 9296 r x l).back ≡ after_all r.back (corrected_all 9296 w x.table l.store) x.f x.s
    unfolding left
    after_is = rw (slot_is r x l c w e)

    slot-sums : (n : ℕ) → Trains n r.back (slot 9296 r x l) x.f x.s → Sums r x l n
    unfolding left full
    slot-sums n t =
        let d = due_is r x l c w e in
        record {
          opened = ap (λ (u : Back). u.eq.opened) after_is ∙ slot-opened w x.table l.store x.f x.s hf hs d.slot r.back d.back;
          counted = t.counted;
          full_is = λ o. t.full o (room o);
          closed = t.closed;
        }

    slot-filled : (left 9296 r x l).back.eq.filled ≡ 11
    slot-filled =
        let d = due_is r x l c w e in
        ap (λ (u : Back). u.eq.filled) after_is ∙ (slot-adjoins w x.table l.store x.f x.s hf hs d.slot r.back d.low d.back).full

  -- ---- together: k is 0, 1 or more
  abbrev Locked : Type 0
  Locked = locked_at r.front.sync.run.lock ((r.front.sync.run.t - 23) % 9296) ≡ true

  module _ (hf : ones_of x.f ≡ true) (hs : ones_of x.s ≡ true) (k : ℕ) (s : Slots k r.front.phase r.back) (a : any_head es ≡ true) (t : Locked) where
    trains-now : (w : WholeSlot) → 1 ≤ k →
        (Untouched r.back × Trains 19 r.back (slot 9296 r x l) x.f x.s) ⊎ (Adjoins w.head.at r.back × Trains 24 r.back (slot 9296 r x l) x.f x.s) →
        Trains (when eqb k 0 then 0 else when eqb k 1 then 19 else 24) r.back (slot 9296 r x l) x.f x.s
    unfolding when◌then◌else◌
    trains-now w z (inl (u, v)) =
        by_test (eqb k 1) (λ i. let e : k ≡ 1 = eqb-true k 1 i in rw e v)
        (λ i. absurd (omega (arith, s.full_line (omega (arith, z, eqb-false k 1 i)), u.empty)))
    trains-now w z (inr (u, v)) =
        by_test (eqb k 1) (λ i. absurd (omega (arith, s.empty (omega (arith, eqb-true k 1 i)), u.full)))
        (λ i. rw (ne_eqb k 0 (λ e. omega (arith, e, z)), i) v)

    head-sums : Sums r x l (trainings_by k (any_head es))
    unfolding trainings_by when◌then◌else◌
    head-sums =
        by_test (eqb k 0)
        (λ i. rw (a, i) (no_sums (first-due a (s.idle (eqb-true k 0 i)))))
        (λ i.
        let z : 1 ≤ k = omega (arith, eqb-false k 0 i) in
        let d = later-due a t (s.held z) in
        rw a (slot-sums hf hs d.0 d.1 (when eqb k 0 then 0 else when eqb k 1 then 19 else 24) (trains-now d.0 z (symbol-trains r x l c hf hs d.0 d.1))))

    head-slots : Slots (k + (when any_head es then 1 else 0)) (left 9296 r x l).front.phase (left 9296 r x l).back
    unfolding when◌then◌else◌
    head-slots =
        rw a
        (record {
          idle = λ i. absurd (omega (arith, i));
          held = λ i. begun-held a;
          empty =
              λ i.
              let z : k ≡ 0 = omega (arith, i) in
              ap (λ (u : Back). u.eq.filled) (same_back (none-due r x l c (first-due a (s.idle z))).0) ∙ s.empty (omega (arith, z));
          full_line = λ i. let d = later-due a t (s.held (omega (arith, i))) in slot-filled hf hs d.0 d.1;
        })

  -- ---- A SYMBOL: its trainings, and the slots after it
  module _ (hf : ones_of x.f ≡ true) (hs : ones_of x.s ≡ true) (k : ℕ) (s : Slots k r.front.phase r.back) (t : any_head es ≡ true → Locked) where
    pub symbol-sums : Sums r x l (trainings_by k (any_head es))
    symbol-sums = by_test (any_head es) (λ a. head-sums hf hs k s a (t a)) (λ a. quiet-sums k a)

    pub symbol-slots : Slots (k + (when any_head es then 1 else 0)) (left 9296 r x l).front.phase (left 9296 r x l).back
    symbol-slots = by_test (any_head es) (λ a. head-slots hf hs k s a (t a)) (λ a. quiet-slots k a s)
