-- A receiver with its stores stands as the history of its calls says. Assumes nothing.
use Prim.Native.Nat.{ℕ, ◌-◌, ◌%◌, ◌^◌, ◌≤◌, ◌<◌}
use Rattle.guarantee.proofs.Heads.{nco_heard_lem}
use Rattle.guarantee.proofs.Lost.{tells-loses}
use Rattle.guarantee.proofs.Slots.{Slots}
use Rattle.guarantee.proofs.Stretch.{kept-before, lock-now, step-events, where-now}
use Rattle.guarantee.specs.Calls.{System}
use Rattle.guarantee.specs.History.{History, Training, carrier_with, events_with, heard_events, loses_with, next_in, push_of, told_to, with_symbol}
use Rattle.guarantee.specs.History.{none, since}
use Rattle.receiver.specs.Heads.{loses_in}
use Rattle.receiver.specs.Symbol.{Input, Lent, acc_after, heads, lost, next_of, rotated, sync_left, synced, window}
use Rattle.receiver.specs.declared.Receiver.{Receiver}
use Rattle.eq.specs.declared.Equaliser.{Equaliser}
use Rattle.receiver_range.specs.Coherent.{CoherentReceiver}
use Rattle.sync_tie.specs.Pushes.{Push, no_push}
use Rattle.sync_tie.specs.Tie.{Held, Kept, begun, push_on, pushes, step_on}
use Rattle.carrier.specs.declared.Nco.{Nco}
use Rattle.carrier.specs.Carrier.{advanced_nco, rotated_of}
use Rattle.sync_step.specs.declared.Step.{Step}
use lib.IntN.{ℤ}
use Rattle.laws.proofs.Tests.{and_both, by_test, never}
use Rattle.laws.specs.Choice.{when◌then◌else◌}
use Rattle.sync_step.specs.declared.Events.{Events}
use Rattle.sync_tie.specs.Claims.{any_head}
use Rattle.sync_tie.proofs.Story as fold
use Rattle.sync_tie.proofs.Heads.{tells-late, tells_none, told_none}
use Rattle.sync_tie.proofs.Theorems.{tells-same}
use Rattle.sync_tie.specs.Stretch.{loses_at}
use Rattle.sync_lock.specs.Rule.{locked_at}
use borrow.Author.Tests.{le-leb, leb-true, lt-leb, ltb-false, ltb-true}
use lib.Dec.{leb, lit≤, ltb}
use lib.ListN.{get_or, length}
use mathlib.Core.Bool.{Bool, false, true, ◌&&◌}
use mathlib.Core.List.{List}
use mathlib.Core.Path.{◌∙◌, ◌≡◌, ap, ap₂, refl, sym}

-- ---- sums as the history has them
abbrev pub SumsTied : Training → Equaliser → Type 0
SumsTied none e = e.opened ≡ false
SumsTied (since frame m) e = (e.opened ≡ true) × (e.sums.count ≡ m) × (e.sums.frame ≡ frame)

-- how many symbols of the stretch told a head
abbrev pub told_in : History → ℕ
told_in h = told_to h.base h.last h.pushes (length h.pushes)

pub record Tied (s : System) (h : History) : Type 0 where
  -- slot sync and accumulators are those of the stretch's symbols, none of which has lost
  pub held : record { sync = s.receiver.front.sync; acc = s.acc } ≡ pushes 9296 (begun 9296 h.base h.last) h.pushes (length h.pushes)
  pub kept : Kept 9296 h.base h.last h.pushes (length h.pushes)
  pub nco : s.receiver.front.nco ≡ h.carrier
  pub taps : s.receiver.back.eq.taps ≡ h.taps
  pub from : s.receiver.back.eq.from ≡ h.from
  pub points : s.receiver.points ≡ h.points
  pub sums : SumsTied h.sums s.receiver.back.eq
  pub slots : Slots (told_in h) s.receiver.front.phase s.receiver.back
  pub coherent : CoherentReceiver s.receiver
  -- the stores' types and lengths
  pub short : (k : ℕ) → k < length s.acc → get_or s.acc k 0 < 2 ^ 32
  pub store : length s.store ≡ 18592

-- ---- where it stands
module _ (s : System) (h : History) (t : Tied s h) where
  pub next-is : next_of s.receiver ≡ next_in h
  unfolding next_of next_in
  next-is =
      let w = where-now h.base h.last h.pushes no_push t.kept in
      let b = ap (λ (x : Held). x.sync.run.base) t.held ∙ w.0 in
      let n = ap (λ (x : Held). x.sync.run.t) t.held ∙ w.1 in
      rw (b, n)

  pub acc-long : length s.acc ≡ 9296
  acc-long = ap (λ (x : Held). length x.acc) t.held ∙ (where-now h.base h.last h.pushes no_push t.kept).2

pub late_test : (m : ℕ) (b : Bool) → (when ltb m 23 then false else b) ≡ (leb 23 m && b)
unfolding when◌then◌else◌
late_test m b = by_test (ltb m 23) (λ t. rw (t, lt-leb 23 m (ltb-true m 23 t))) (λ t. rw (t, le-leb 23 m (ltb-false m 23 t)))

-- ---- AN ACCEPTED SYMBOL
module _ (s : System) (h : History) (t : Tied s h) (x : Input) (soft : List ℤ) where
  abbrev r : Receiver
  r = s.receiver

  abbrev l : Lent
  l = record { acc = s.acc; store = s.store; soft = soft }

  abbrev m : ℕ
  m = length h.pushes

  -- the symbol as the receiver rotates it is the history's
  abbrev turned : Push
  turned = record { i = (rotated 9296 r x l).i; q = (rotated 9296 r x l).q; f = x.f; w = x.s }

  same-push : turned ≡ push_of h x
  unfolding rotated push_of
  same-push = ap (λ (c : Nco). let y = rotated_of x.table c.phase x.xi x.xq in record { i = y.i; q = y.q; f = x.f; w = x.s }) t.nco

  abbrev now : Held
  now = record { sync = r.front.sync; acc = s.acc }

  step-turned : synced 9296 r x l ≡ step_on 9296 now turned
  unfolding synced
  step-turned = refl

  held-turned : record { sync = sync_left 9296 r x l; acc = acc_after 9296 r x l } ≡ push_on 9296 now turned
  unfolding synced sync_left acc_after push_on window
  held-turned = refl

  step_is : synced 9296 r x l ≡ step_on 9296 (pushes 9296 (begun 9296 h.base h.last) h.pushes m) (push_of h x)
  step_is = step-turned ∙ ap (step_on 9296 now) same-push ∙ ap (λ (y : Held). step_on 9296 y (push_of h x)) t.held

  pub events-are : (synced 9296 r x l).events ≡ events_with h x
  unfolding events_with with_symbol
  events-are = ap (λ (k : Step). k.events) step_is ∙ step-events h.base h.last h.pushes (push_of h x) t.kept

  pub next-held : record { sync = sync_left 9296 r x l; acc = acc_after 9296 r x l } ≡ push_on 9296 (pushes 9296 (begun 9296 h.base h.last) h.pushes m) (push_of h x)
  next-held = held-turned ∙ ap (push_on 9296 now) same-push ∙ ap (λ (y : Held). push_on 9296 y (push_of h x)) t.held

  -- ---- lost or not
  pub lost-is : lost 9296 r x l ≡ loses_with h x
  unfolding lost loses_with events_with
  lost-is = ap loses_in events-are ∙ tells-loses 9296 h.base h.last (with_symbol h x) m ∙ late_test m (loses_at 9296 h.base h.last (with_symbol h x) (m - 23))

  -- it does not lose: what stands of the stretch with it
  pub not_lost : loses_with h x ≡ false → 23 ≤ m → loses_at 9296 h.base h.last (with_symbol h x) (m - 23) ≡ false
  unfolding loses_with
  not_lost e k = rw (le-leb 23 m k) at e

  pub is_lost_lem : loses_with h x ≡ true → (23 ≤ m) × (loses_at 9296 h.base h.last (with_symbol h x) (m - 23) ≡ true)
  unfolding loses_with
  is_lost_lem e = let b = and_both (leb 23 m) (loses_at 9296 h.base h.last (with_symbol h x) (m - 23)) e in (leb-true 23 m b.0, b.1)

  -- ---- the carrier
  pub nco-is : (heads 9296 r x l).nco ≡ carrier_with h x
  unfolding heads carrier_with
  nco-is = nco_heard_lem 9296 _ (synced 9296 r x l).events ∙ ap₂ (λ (c : Nco) (es : Events). heard_events (advanced_nco c) es) t.nco events-are

  -- ---- a head is told at the locked place alone
  lock-grown : (pushes 9296 (begun 9296 h.base h.last) h.pushes m).sync.run.lock ≡ fold.lock_at 9296 h.base h.last (with_symbol h x) (m - 23)
  unfolding with_symbol
  lock-grown = lock-now h.base h.last h.pushes (push_of h x) t.kept

  kept-grown : Kept 9296 h.base h.last (with_symbol h x) m
  unfolding with_symbol
  kept-grown = kept-before h.base h.last h.pushes (push_of h x) t.kept

  late-reads : any_head (events_with h x) ≡ true → locked_at (fold.lock_at 9296 h.base h.last (with_symbol h x) (m - 23)) ((m - 23) % 9296) ≡ true
  unfolding events_with fold.reads_at
  late-reads e =
      let g = with_symbol h x in
      let a = ap any_head (tells-same 9296 h.base h.last g m (lit≤ tt) kept-grown) ∙ e in
      by_test (ltb m 23)
      (λ u. absurd (never (sym a ∙ tells_none 9296 h.base h.last g m (ltb-true m 23 u))))
      (λ u.
      by_test (fold.reads_at 9296 h.base h.last g (m - 23)) (λ v. v)
      (λ v. absurd (never (sym a ∙ ap any_head (tells-late 9296 h.base h.last g m (ltb-false m 23 u)) ∙ told_none 9296 h.base h.last g (m - 23) v))))

  pub head-locked : any_head (synced 9296 r x l).events ≡ true → locked_at r.front.sync.run.lock ((r.front.sync.run.t - 23) % 9296) ≡ true
  head-locked a =
      let b = h.base in
      let g = with_symbol h x in
      let w = where-now b h.last h.pushes no_push t.kept in
      let time : r.front.sync.run.t ≡ m = ap (λ (y : Held). y.sync.run.t) t.held ∙ w.1 in
      let lock : r.front.sync.run.lock ≡ fold.lock_at 9296 b h.last g (m - 23) = ap (λ (y : Held). y.sync.run.lock) t.held ∙ lock-grown in
      let told = sym (ap any_head events-are) ∙ a in
      rw (lock, time) (late-reads told)
