-- An accepted symbol keeps the tie: the one that goes on, and the one that loses. Assumes nothing.
use Rattle.sync_heads.specs.declared.FrameHead.{FrameHead}
use Rattle.std.specs.Prelude.{Option}
use Prim.Native.Nat.{ℕ, suc, ◌+◌, ◌-◌, ◌^◌, ◌<◌}
use Rattle.carrier.specs.declared.Nco.{Nco}
use Rattle.eq.specs.Eq.{started_eq}
use Rattle.frame.specs.Align.{started_back}
use Rattle.receiver_slot.specs.declared.Points.{Points}
use Rattle.guarantee.proofs.Accs.{acc-short}
use Rattle.guarantee.proofs.Prefix.{told_prefix}
use Rattle.guarantee.proofs.Slots.{Slots, Sums, is_held, symbol-slots, symbol-sums, trainings_by}
use Rattle.guarantee.proofs.Stretch.{grown-length, step_kept, step-lost, step-next}
use Rattle.guarantee.proofs.Taps.{SameTaps, after_taps}
use Rattle.guarantee.proofs.Tied.{SumsTied, Tied, events-are, head-locked, is_lost_lem, lost-is, nco-is, next-held, next-is, not_lost, told_in}
use Rattle.guarantee.specs.Calls.{System, begins}
use Rattle.guarantee.specs.History.{History, Training, begins_with, events_with, goes_on, kept_over, loses_with, next_in, push_of, takes, told_to, trained_by, trainings_with, with_symbol}
use Rattle.guarantee.specs.History.{none, since}
use Rattle.laws.proofs.Tests.{by_test, if_both}
use Rattle.laws.specs.Choice.{if_no, if_yes, when◌then◌else◌}
use Rattle.phase_range.proofs.Theorems.{length_stored}
use Rattle.receiver.specs.declared.Kept.{Kept as KeptValues}
use Rattle.receiver.specs.declared.Receiver.{Receiver}
use Rattle.receiver.specs.Started.{kept_of, started}
use Rattle.receiver.specs.Symbol.{Input, Lent, acc_after, back23, enough, full, heads, left, lost, next_of, receiver_after, slot, store_after, sync_left, synced}
use Rattle.receiver_range.proofs.Symbols.{Takes, coherent-symbol}
use Rattle.receiver_range.specs.Coherent.{CoherentReceiver}
use Rattle.sync.specs.Sync.{started_sync}
use Rattle.sync_step.specs.Step.{started_of}
use Rattle.sync_step.specs.declared.Events.{Events}
use Rattle.sync_tie.specs.Claims.{any_head}
use Rattle.sync_tie.specs.Stretch.{record_at}
use Rattle.sync_tie.specs.Tie.{Held, Kept, begun, pushes}
use lib.IntN.{ℤ}
use lib.ListN.{get_or, get_or-replicate, length, length-replicate, replicate}
use mathlib.Core.Bool.{false, true}
use mathlib.Core.List.{List}
use mathlib.Core.Path.{◌∙◌, ◌≡◌, ap, ap₂, refl, subst, sym}
use native.Mathlib.Omega.{arith}

-- trainings added to sums
sums_on : (u : Training) (r : Receiver) (x : Input) (l : Lent) (n : ℕ) → SumsTied u r.back.eq → Sums r x l n → SameTaps (left 9296 r x l).back.eq r.back.eq →
    SumsTied (trained_by u n) (left 9296 r x l).back.eq
unfolding trained_by
sums_on none r x l n t k f = k.opened ∙ t
sums_on (since frame m) r x l n t k f = (k.opened ∙ t.0, k.counted t.0 ∙ ap (λ (v : ℕ). v + n) t.1, (f.sums (k.opened ∙ t.0)).1 ∙ t.2)

-- ---- a start
pub kept_eq : {n k : Nco} {a b : List ℤ} {c d : Option ℕ} {p q : Points} {u v : Option FrameHead} → n ≡ k → a ≡ b → c ≡ d → p ≡ q → u ≡ v →
    ◌≡◌ {A = KeptValues} (record { phase = n.phase; freq = n.freq; taps = a; from = c; points = p; last = u })
    (record { phase = k.phase; freq = k.freq; taps = b; from = d; points = q; last = v })
kept_eq {n} {k} {a} {b} {c} {d} {p} {q} {u} {v} en ea ec ep eu =
    ap (λ (y : Nco). record { phase = y.phase; freq = y.freq; taps = a; from = c; points = p; last = u }) en
    ∙ ap (λ (y : List ℤ). record { phase = k.phase; freq = k.freq; taps = y; from = c; points = p; last = u }) ea
    ∙ ap (λ (y : Option ℕ). record { phase = k.phase; freq = k.freq; taps = b; from = y; points = p; last = u }) ec
    ∙ ap (λ (y : Points). record { phase = k.phase; freq = k.freq; taps = b; from = d; points = y; last = u }) ep
    ∙ ap (λ (y : Option FrameHead). record { phase = k.phase; freq = k.freq; taps = b; from = d; points = q; last = y }) eu

abbrev zeros : ℕ → List ℕ
zeros n = replicate n 0

zeros_short : (n k : ℕ) → k < length (zeros n) → get_or (zeros n) k 0 < 2 ^ 32
zeros_short n k l = let z : ℕ = 0 in let b : k < n = rw (length-replicate n z) at l in rw (get_or-replicate n k z z b) (omega arith)

pub begins_tied : (at : ℕ) (k : KeptValues) (store : List ℤ) → length store ≡ 18592 → CoherentReceiver (started at k) → Tied (begins at k store) (begins_with at k)
unfolding begins begins_with started pushes started_back started_eq told_to is_held
begins_tied at k store e c =
    record {
      held = refl;
      kept = λ i d. absurd (omega (arith, d));
      nco = refl;
      taps = refl;
      from = refl;
      points = refl;
      sums = refl;
      slots = record { idle = λ z. refl; held = λ z. absurd (omega (arith, z)); empty = λ z. refl; full_line = λ z. absurd (omega (arith, z)) };
      coherent = c;
      short = zeros_short 9296;
      store = e;
    }

module _ (s : System) (h : History) (t : Tied s h) (x : Input) (soft : List ℤ) where
  abbrev r : Receiver
  r = s.receiver

  abbrev l : Lent
  l = record { acc = s.acc; store = s.store; soft = soft }

  abbrev m : ℕ
  m = length h.pushes

  -- the trainings are the history's
  pub trainings-are : trainings_by (told_in h) (any_head (synced 9296 r x l).events) ≡ trainings_with h x
  unfolding trainings_by trainings_with
  trainings-are = ap (λ (es : Events). trainings_by (told_in h) (any_head es)) (events-are s h t x soft)

  module _ (a : Takes r x l) (room : full 9296 r x l ≡ false) where
    pub store_long : length (store_after 9296 r x l) ≡ 18592
    unfolding store_after
    store_long =
        let y = back23 9296 r x l in
        if_both (λ (u : List ℤ). length u ≡ 18592) (lost 9296 r x l) _ _ t.store
        (if_both (λ (u : List ℤ). length u ≡ 18592) (enough 9296 r x l) _ _ (length_stored (heads 9296 r x l).phase y s.store ∙ t.store) t.store)

    -- ---- it goes on
    module _ (e : loses_with h x ≡ false) where
      not-now : lost 9296 r x l ≡ false
      not-now = lost-is s h t x soft ∙ e

      long-now : length (with_symbol h x) ≡ suc m
      unfolding with_symbol
      long-now = grown-length h.base h.last h.pushes (push_of h x)

      held-now : record { sync = sync_left 9296 r x l; acc = acc_after 9296 r x l } ≡ pushes 9296 (begun 9296 h.base h.last) (with_symbol h x) (length (with_symbol h x))
      unfolding with_symbol
      held-now =
          next-held s h t x soft
          ∙ step-next h.base h.last h.pushes (push_of h x) t.kept
          ∙ ap (pushes 9296 (begun 9296 h.base h.last) (with_symbol h x)) (sym long-now)

      kept-now : Kept 9296 h.base h.last (with_symbol h x) (length (with_symbol h x))
      unfolding with_symbol
      kept-now =
          subst (Kept 9296 h.base h.last (with_symbol h x)) (sym long-now) (step_kept h.base h.last h.pushes (push_of h x) t.kept (not_lost s h t x soft e))

      -- one more told a head, or not
      told-now : told_to h.base h.last (with_symbol h x) (length (with_symbol h x)) ≡ told_in h + (when any_head (synced 9296 r x l).events then 1 else 0)
      unfolding with_symbol told_to events_with
      told-now =
          ap (told_to h.base h.last (with_symbol h x)) long-now
          ∙ ap (λ (v : ℕ). v + (when any_head (events_with h x) then 1 else 0)) (told_prefix h.base h.last h.pushes _ m (omega arith) t.kept)
          ∙ ap (λ (es : Events). told_in h + (when any_head es then 1 else 0)) (sym (events-are s h t x soft))

      slots-now : Slots (told_to h.base h.last (with_symbol h x) (length (with_symbol h x))) (left 9296 r x l).front.phase (left 9296 r x l).back
      slots-now =
          subst (λ (k : ℕ). Slots k (left 9296 r x l).front.phase (left 9296 r x l).back) (sym told-now)
          (symbol-slots r x l t.coherent a.first a.second (told_in h) t.slots (head-locked s h t x soft))

      taps-now : SameTaps (left 9296 r x l).back.eq r.back.eq
      unfolding left
      taps-now = after_taps r.back (slot 9296 r x l) x.f x.s

      sums-now : SumsTied (trained_by h.sums (trainings_with h x)) (left 9296 r x l).back.eq
      sums-now =
          subst (λ (n : ℕ). SumsTied (trained_by h.sums n) (left 9296 r x l).back.eq) trainings-are
          (sums_on h.sums r x l (trainings_by (told_in h) (any_head (synced 9296 r x l).events)) t.sums
          (symbol-sums r x l t.coherent a.first a.second (told_in h) t.slots (head-locked s h t x soft)) taps-now)

      coherent-now : CoherentReceiver (left 9296 r x l)
      unfolding receiver_after
      coherent-now = subst CoherentReceiver (if_no (lost 9296 r x l) (started (next_of r + 1) (kept_of (left 9296 r x l))) (left 9296 r x l) not-now) (coherent-symbol r x l t.coherent a room)

      pub goes-tied : Tied (record { receiver = left 9296 r x l; acc = acc_after 9296 r x l; store = store_after 9296 r x l }) (goes_on h x)
      unfolding left goes_on
      goes-tied =
          record {
            held = held-now;
            kept = kept-now;
            nco = nco-is s h t x soft;
            taps = taps-now.taps ∙ t.taps;
            from = taps-now.from ∙ t.from;
            points = t.points;
            sums = sums-now;
            slots = slots-now;
            coherent = coherent-now;
            short = acc-short r x l t.coherent a;
            store = store_long;
          }

    -- ---- it loses
    module _ (e : loses_with h x ≡ true) where
      lost-held : record { sync = sync_left 9296 r x l; acc = acc_after 9296 r x l } ≡ begun 9296 (h.base + suc m) (record_at 9296 h.base h.last (with_symbol h x) (m - 23))
      unfolding with_symbol
      lost-held =
          let q = is_lost_lem s h t x soft e in
          next-held s h t x soft ∙ step-lost h.base h.last h.pushes (push_of h x) t.kept q.0 q.1

      -- the kept values "as the losing call leaves them"
      pub kept-are : kept_of (left 9296 r x l) ≡ kept_over h x
      unfolding kept_of kept_over left started_sync started_of
      kept-are =
          let w = after_taps r.back (slot 9296 r x l) x.f x.s in
          let n = nco-is s h t x soft in
          let last : (sync_left 9296 r x l).run.course.last ≡ record_at 9296 h.base h.last (with_symbol h x) (m - 23) = ap (λ (y : Held). y.sync.run.course.last) lost-held in
          kept_eq n (w.taps ∙ t.taps) (w.from ∙ t.from) t.points last

      pub zeros-are : acc_after 9296 r x l ≡ replicate 9296 0
      zeros-are = ap (λ (y : Held). y.acc) lost-held

      pub lost-system : record { receiver = receiver_after 9296 r x l; acc = acc_after 9296 r x l; store = store_after 9296 r x l } ≡ begins (next_in h + 1) (kept_over h x) (store_after 9296 r x l)
      unfolding begins receiver_after
      lost-system =
          let q = lost 9296 r x l in
          let k = kept_of (left 9296 r x l) in
          let y = started (next_of r + 1) k in
          let i : (when q then y else left 9296 r x l) ≡ started (next_in h + 1) (kept_over h x) =
          if_yes q y (left 9296 r x l) (lost-is s h t x soft ∙ e) ∙ ap₂ (λ (n : ℕ) (v : KeptValues). started (n + 1) v) (next-is s h t) kept-are in
          ap₂ (λ (v : Receiver) (u : List ℕ). record { receiver = v; acc = u; store = store_after 9296 r x l }) i zeros-are

      pub lost-tied : Tied (record { receiver = receiver_after 9296 r x l; acc = acc_after 9296 r x l; store = store_after 9296 r x l }) (begins_with (next_in h + 1) (kept_over h x))
      unfolding begins
      lost-tied =
          subst (λ (y : System). Tied y (begins_with (next_in h + 1) (kept_over h x))) (sym lost-system)
          (begins_tied (next_in h + 1) (kept_over h x) (store_after 9296 r x l) store_long
          (subst CoherentReceiver (ap (λ (y : System). y.receiver) lost-system) (coherent-symbol r x l t.coherent a room)))

    -- ---- either way
    pub symbol-tied : Tied (record { receiver = receiver_after 9296 r x l; acc = acc_after 9296 r x l; store = store_after 9296 r x l }) (takes h x)
    unfolding takes receiver_after
    symbol-tied =
        by_test (loses_with h x)
        (λ e. rw (if_yes (loses_with h x) (begins_with (next_in h + 1) (kept_over h x)) (goes_on h x) e) (lost-tied e))
        (λ e.
        let y = started (next_of r + 1) (kept_of (left 9296 r x l)) in
        rw (if_no (loses_with h x) (begins_with (next_in h + 1) (kept_over h x)) (goes_on h x) e, if_no (lost 9296 r x l) y (left 9296 r x l) (lost-is s h t x soft ∙ e)) (goes-tied e))
