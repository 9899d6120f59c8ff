-- The lock, as the receiver has it and as a period's end tells it; relocking. Assumes nothing.
use Rattle.sync_heads.specs.declared.FrameHead.{FrameHead}
use Rattle.std.specs.Prelude.{Option, None, Some}
use Rattle.sync_heads.specs.declared.Head.{Head}
use Prim.Native.Nat.{ℕ, suc, ◌+◌, ◌-◌, ◌*◌, ◌≤◌, ◌<◌}
use Rattle.guarantee.proofs.Early.{lost_locked}
use Rattle.guarantee.proofs.Lists.{call_steps}
use Rattle.guarantee.proofs.Stretch.{grown-length, kept-before}
use Rattle.guarantee.proofs.Tied.{Tied, not_lost}
use Rattle.guarantee.specs.Calls.{Call, CallFits, System, after_call, told_by}
use Rattle.guarantee.specs.Calls.{symbol, points, taps, opens, ends, restarts}
use Rattle.guarantee.specs.Demand.{Among, IsPeriod, LockTold, Relocks, stretch_with}
use Rattle.guarantee.specs.Demand.{in-first, in-second, in-third}
use Rattle.guarantee.specs.History.{History, accepts, begins_with, ends_stretch, events_in, events_with, goes_on, happens, kept_in, kept_over, loses_by, loses_with, next_in, push_of, refusal_in, takes, with_symbol}
use Rattle.laws.proofs.Tests.{and_both, by_test, if_both, neither, never}
use Rattle.laws.specs.Choice.{if_no, if_yes, when◌then◌else◌}
use Rattle.sync_heads.specs.declared.Taken.{Taken}
use Rattle.receiver.specs.Symbol.{Input}
use Rattle.sync_history.proofs.Theorems.{lock_theorem, no_lock_before}
use Rattle.sync_history.specs.History.{LockBy, LockIn, LockOn, Premise, end_of}
use Rattle.sync_lock.specs.declared.Lock.{Lock}
use Rattle.sync_step.specs.declared.Event.{Event}
use Rattle.sync_step.specs.declared.Event.TheVariants.{Nothing, Period}
use Rattle.sync_step.specs.declared.Events.{Events}
use Rattle.sync_step.specs.declared.Run.{Run}
use Rattle.sync_step.specs.declared.SyncStats.{SyncStats}
use Rattle.sync_step.specs.Events.{event_of, heads_of, is_nothing, no_events, then_of}
use Rattle.sync_step.specs.Step.{is_locked, offset_of, locked_offset}
use Rattle.sync_tie.proofs.Claims.{lock_told, readings_tell}
use Rattle.sync_tie.proofs.Follow.{follows}
use Rattle.sync_tie.proofs.Heads.{tells-late}
use Rattle.sync_tie.proofs.Places.{next_end}
use Rattle.sync_tie.proofs.Step.{ends-place}
use Rattle.sync_tie.specs.Claims.{HeadAt}
use Rattle.sync_tie.specs.Claims as Sync
use Rattle.sync_tie.specs.Pushes.{Push, size_at}
use Rattle.sync_tie.proofs.Story.{ends_at, lock_at, loses_at, period_loses, stats_at, taken_at, tells, told_at}
use Rattle.sync_tie.proofs.Theorems.{kept-fold, ruled-at, tells-same}
use Rattle.sync_tie.specs.Stretch as rule
use Rattle.sync_tie.specs.Tie.{Held, Kept}
use borrow.Author.Tests.{ltb-false}
use lib.Dec.{eqb, lit≤, ltb}
use lib.IntN.{ℤ}
use lib.ListN.{length}
use mathlib.Core.Bool.{false, true, ◌&&◌}
use mathlib.Core.List.{List, []}
use mathlib.Core.Logic.{◌⊎◌, inl, inr}
use mathlib.Core.Path.{◌∙◌, ◌≡◌, ap, refl, subst, sym}
use native.Mathlib.Omega.{arith}

-- ---- a call that does not end the stretch: the history goes on with it
record InStretch (h g : History) (ps : List Push) : Type 0 where
  pub base : g.base ≡ h.base
  pub last : g.last ≡ h.last
  pub is : g.pushes ≡ ps

same : (h : History) → InStretch h h h.pushes
same h = record { base = refl; last = refl; is = refl }

goes : (h : History) (x : Input) → loses_with h x ≡ false → InStretch h (takes h x) (with_symbol h x)
unfolding takes goes_on
goes h x e = rw (if_no (loses_with h x) (begins_with (next_in h + 1) (kept_over h x)) (goes_on h x) e) (record { base = refl; last = refl; is = refl })

in_stretch : (h : History) (c : Call) → ends_stretch h c ≡ false → InStretch h (happens h c) (stretch_with h c)
unfolding ends_stretch loses_by happens stretch_with accepts
in_stretch h (symbol x a b soft) e =
    let q = eqb (refusal_in h (symbol x a b soft)) 0 in
    by_test q
    (λ z.
    rw (if_yes q (takes h x) h z, if_yes q (with_symbol h x) h.pushes z) (goes h x (rw z at e)))
    (λ z. rw (if_no q (takes h x) h z, if_no q (with_symbol h x) h.pushes z) (same h))
in_stretch h (points bits ps k) e = if_both (λ (g : History). InStretch h g h.pushes) (eqb (refusal_in h (points bits ps k)) 0) _ h (record { base = refl; last = refl; is = refl }) (same h)
in_stretch h (taps ts frame) e = if_both (λ (g : History). InStretch h g h.pushes) (eqb (refusal_in h (taps ts frame)) 0) _ h (record { base = refl; last = refl; is = refl }) (same h)
in_stretch h (opens frame) e = if_both (λ (g : History). InStretch h g h.pushes) (eqb (refusal_in h (opens frame)) 0) _ h (record { base = refl; last = refl; is = refl }) (same h)
in_stretch h ends e = if_both (λ (g : History). InStretch h g h.pushes) (eqb (refusal_in h ends) 0) _ h (record { base = refl; last = refl; is = refl }) (same h)
in_stretch h (restarts at a) e = rw (if_no (eqb (refusal_in h (restarts at a)) 0) _ h e) (same h)

-- .. and one that does: it begins anew
anew : (h : History) (x : Input) → loses_with h x ≡ true → (takes h x).pushes ≡ []
unfolding takes begins_with
anew h x e = ap (λ (g : History). g.pushes) (if_yes (loses_with h x) (begins_with (next_in h + 1) (kept_over h x)) (goes_on h x) e)

pub begun-none : (h : History) (c : Call) → ends_stretch h c ≡ true → (happens h c).pushes ≡ []
unfolding ends_stretch loses_by happens accepts
begun-none h (symbol x a b soft) e =
    let q = eqb (refusal_in h (symbol x a b soft)) 0 in
    let w = and_both q (loses_with h x) e in
    ap (λ (g : History). g.pushes) (if_yes q (takes h x) h w.0) ∙ anew h x w.1
begun-none h (points bits ps k) e = absurd (never (sym e))
begun-none h (taps ts frame) e = absurd (never (sym e))
begun-none h (opens frame) e = absurd (never (sym e))
begun-none h ends e = absurd (never (sym e))
begun-none h (restarts at a) e = unfold begins_with in ap (λ (g : History). g.pushes) (if_yes (eqb (refusal_in h (restarts at a)) 0) (begins_with at (kept_in h)) h e)

-- ---- the lock of a receiver that stands as a history says
abbrev lock_of : System → Lock
lock_of s = s.receiver.front.sync.run.lock

pub record LockIs (ps : List Push) (k : Lock) : Type 0 where
  pub locked : (p : ℕ) → LockBy 9296 (size_at ps) p (length ps) → (is_locked k ≡ true) × (offset_of k ≡ p)
  pub locked_only : is_locked k ≡ true → LockBy 9296 (size_at ps) (offset_of k) (length ps)

tied_lock : (s : System) (h : History) → Tied s h → LockIs h.pushes (lock_of s)
tied_lock s h t =
    let n = length h.pushes in
    let w = lock_told 9296 h.base h.last h.pushes n (lit≤ tt) (omega arith) t.kept in
    subst (LockIs h.pushes) (sym (ap (λ (y : Held). y.sync.run.lock) t.held)) (record { locked = w.locked; locked_only = w.locked_only })

-- ---- a period's end among the events
head-none : (k : Option Head) (q : SyncStats) → IsPeriod q (event_of k) → ⊥
unfolding event_of
head-none None q p = p
head-none (Some g) q p = p

among_heads : (k : Taken) (q : SyncStats) → Among (IsPeriod q) (heads_of k) → ⊥
unfolding heads_of
among_heads k q (in-first p) = head-none k.first q p
among_heads k q (in-second p) = head-none k.second q p
among_heads k q (in-third p) = p

-- of two that are none and one more
only_third : (a b : Event) (q : SyncStats) (e : Event) → (IsPeriod q a → ⊥) → (IsPeriod q b → ⊥) → (u : Events) → u.first ≡ a → u.second ≡ b → u.third ≡ e → Among (IsPeriod q) u → IsPeriod q e
only_third a b q e fa fb u ea eb ec (in-first p) = absurd (fa (subst (IsPeriod q) ea p))
only_third a b q e fa fb u ea eb ec (in-second p) = absurd (fb (subst (IsPeriod q) eb p))
only_third a b q e fa fb u ea eb ec (in-third p) = subst (IsPeriod q) ec p

only_second : (a : Event) (q : SyncStats) (e : Event) → (IsPeriod q a → ⊥) → (u : Events) → u.first ≡ a → u.second ≡ e → u.third ≡ Nothing → Among (IsPeriod q) u → IsPeriod q e
only_second a q e fa u ea eb ec (in-first p) = absurd (fa (subst (IsPeriod q) ea p))
only_second a q e fa u ea eb ec (in-second p) = subst (IsPeriod q) eb p
only_second a q e fa u ea eb ec (in-third p) = absurd (subst (IsPeriod q) ec p)

only_first : (b : Event) (q : SyncStats) (e : Event) → (IsPeriod q b → ⊥) → (u : Events) → u.first ≡ e → u.second ≡ b → u.third ≡ Nothing → Among (IsPeriod q) u → IsPeriod q e
only_first b q e fb u ea eb ec (in-first p) = subst (IsPeriod q) ea p
only_first b q e fb u ea eb ec (in-second p) = absurd (fb (subst (IsPeriod q) eb p))
only_first b q e fb u ea eb ec (in-third p) = absurd (subst (IsPeriod q) ec p)

then_only : (k : Taken) (q : SyncStats) (e : Event) → Among (IsPeriod q) (then_of (heads_of k) e) → IsPeriod q e
unfolding then_of heads_of
then_only k q e =
    let es : Events = heads_of k in
    let a : Events = record { first = e; second = es.second; third = Nothing } in
    let b : Events = record { first = es.first; second = e; third = Nothing } in
    let d : Events = record { first = es.first; second = es.second; third = e } in
    let fa = head-none k.first q in
    let fb = head-none k.second q in
    if_both (λ (u : Events). Among (IsPeriod q) u → IsPeriod q e) (is_nothing es.first) a (when is_nothing es.second then b else d)
    (only_first es.second q e fb a refl refl refl)
    (if_both (λ (u : Events). Among (IsPeriod q) u → IsPeriod q e) (is_nothing es.second) b d (only_second es.first q e fa b refl refl refl)
    (only_third es.first es.second q e fa fb d refl refl refl))

module _ (base : ℕ) (last : Option FrameHead) (h : List Push) where
  abbrev taken : ℕ → Taken
  taken c = taken_at 9296 base last h c

  -- where nothing is lost, it is that of the period that ends
  told-end : (c : ℕ) → (taken c).lost ≡ false → ends_at 9296 base last h c ≡ true → period_loses 9296 base last h c ≡ false → told_at 9296 base last h c ≡ then_of (heads_of (taken c)) (Period (stats_at 9296 base last h c))
  unfolding told_at when◌then◌else◌ taken_at
  told-end c t d p = rw (t, d, p)

  told-inside : (c : ℕ) → (taken c).lost ≡ false → ends_at 9296 base last h c ≡ false → told_at 9296 base last h c ≡ heads_of (taken c)
  unfolding told_at when◌then◌else◌ taken_at
  told-inside c t d = rw (t, d)

  taken-kept : (c : ℕ) → loses_at 9296 base last h c ≡ false → (taken c).lost ≡ false
  unfolding loses_at when◌then◌else◌ taken_at
  taken-kept c e = by_test (taken c).lost (λ t. absurd (never (sym (rw t) ∙ e))) (λ t. t)

  ends-kept : (c : ℕ) → loses_at 9296 base last h c ≡ false → ends_at 9296 base last h c ≡ true → period_loses 9296 base last h c ≡ false
  unfolding loses_at when◌then◌else◌ taken_at
  ends-kept c e d =
      by_test (period_loses 9296 base last h c) (λ p. absurd (never (sym (rw (taken-kept c e, d, p)) ∙ e))) (λ p. p)

  period-told : (c : ℕ) (q : SyncStats) → loses_at 9296 base last h c ≡ false → Among (IsPeriod q) (told_at 9296 base last h c) → (ends_at 9296 base last h c ≡ true) × (stats_at 9296 base last h c ≡ q)
  period-told c q e w =
      let t = taken-kept c e in
      by_test (ends_at 9296 base last h c)
      (λ d. (d, then_only (taken c) q (Period (stats_at 9296 base last h c)) (subst (Among (IsPeriod q)) (told-end c t d (ends-kept c e d)) w)))
      (λ d. absurd (among_heads (taken c) q (subst (Among (IsPeriod q)) (told-inside c t d) w)))

  -- its flag and offset are those of the lock after it
  stats-lock : (c : ℕ) → ends_at 9296 base last h c ≡ true →
      (stats_at 9296 base last h c).offset ≡ locked_offset (lock_at 9296 base last h (suc c))
  unfolding stats_at lock_at
  stats-lock c d =
      let n = next_end 9296 c (lit≤ tt) (ends-place 9296 base last h c d) in
      rw n.0

-- ---- the lock after a symbol that goes on
lock_after : (s : System) (h : History) → Tied s h → 24 ≤ length h.pushes → lock_of s ≡ lock_at 9296 h.base h.last h.pushes (length h.pushes - 23)
lock_after s h t l =
    let f = follows 9296 h.base h.last h.pushes (length h.pushes) (lit≤ tt) (omega arith) (kept-fold 9296 h.base h.last h.pushes (length h.pushes) (lit≤ tt) t.kept) in
    ap (λ (y : Held). y.sync.run.lock) t.held ∙ ap (λ (u : Run). u.lock) f.run

no_period : (q : SyncStats) → Among (IsPeriod q) no_events → ⊥
unfolding no_events
no_period q (in-first p) = p
no_period q (in-second p) = p
no_period q (in-third p) = p

tells_early : (base : ℕ) (last : Option FrameHead) (g : List Push) (m : ℕ) → ltb m 23 ≡ true → tells 9296 base last g m ≡ no_events
unfolding tells
tells_early base last g m u = if_yes (ltb m 23) no_events (told_at 9296 base last g (m - 23)) u

none_more : {n : ℕ} → n ≡ suc n → ⊥
none_more e = omega (arith, e)

either : (at : ℕ) (es : Events) → HeadAt at es.first ⊎ HeadAt at es.second → Among (HeadAt at) es
either at es (inl p) = in-first p
either at es (inr p) = in-second p

markers_kept : (base : ℕ) (last : Option FrameHead) (g : List Push) (c : ℕ) → rule.loses_at 9296 base last g c ≡ false → rule.markers_lose_at 9296 base last g c ≡ false
unfolding rule.loses_at
markers_kept base last g c e = (neither (rule.markers_lose_at 9296 base last g c) (rule.ends_at 9296 base last g c && rule.eighth_ends 9296 base last g c) e).0

module _ (s : System) (h : History) (t : Tied s h) where
  -- the history with the symbol has its lock
  grown-lock : (x : Input) → loses_with h x ≡ false → (s' : System) → Tied s' (takes h x) → 23 ≤ length h.pushes →
      lock_of s' ≡ lock_at 9296 h.base h.last (with_symbol h x) (suc (length h.pushes - 23))
  unfolding takes goes_on
  grown-lock x e s' t' l =
      let m = length h.pushes in
      let g = if_no (loses_with h x) (begins_with (next_in h + 1) (kept_over h x)) (goes_on h x) e in
      let u : Tied s' (goes_on h x) = subst (Tied s') g t' in
      let n : length (with_symbol h x) ≡ suc m = long-with x in
      let k : length (with_symbol h x) - 23 ≡ suc (m - 23) = omega (arith, n) in
      lock_after s' (goes_on h x) u (omega (arith, n)) ∙ ap (lock_at 9296 h.base h.last (with_symbol h x)) k
    where
      long-with : (x : Input) → length (with_symbol h x) ≡ suc (length h.pushes)
      long-with x = unfold with_symbol in grown-length h.base h.last h.pushes (push_of h x)

  kept-grown : (x : Input) → Kept 9296 h.base h.last (with_symbol h x) (length h.pushes)
  unfolding with_symbol
  kept-grown x = kept-before h.base h.last h.pushes (push_of h x) t.kept

  period-with : (x : Input) (soft : List ℤ) → loses_with h x ≡ false → (s' : System) → Tied s' (takes h x) → (q : SyncStats) → Among (IsPeriod q) (events_with h x) →
      q.offset ≡ locked_offset (lock_of s')
  unfolding events_with
  period-with x soft e s' t' q w' =
      let m = length h.pushes in
      let g = with_symbol h x in
      let kept = kept-grown x in
      let w = subst (Among (IsPeriod q)) (sym (tells-same 9296 h.base h.last g m (lit≤ tt) kept)) w' in
      by_test (ltb m 23)
      (λ u. absurd (no_period q (subst (Among (IsPeriod q)) (tells_early h.base h.last g m u) w)))
      (λ u.
      let l = ltb-false m 23 u in
      let stays = (ruled-at 9296 h.base h.last g m (lit≤ tt) kept).loses ∙ not_lost s h t x soft e l in
      let v = period-told h.base h.last g (m - 23) q stays (subst (Among (IsPeriod q)) (tells-late 9296 h.base h.last g m l) w) in
      let k = stats-lock h.base h.last g (m - 23) v.0 in
      let n = grown-lock x e s' t' l in
      ap (λ (y : SyncStats). y.offset) (sym v.1) ∙ k ∙ ap locked_offset (sym n))

  period-by : (c : Call) → CallFits c → ends_stretch h c ≡ false → (q : SyncStats) → Among (IsPeriod q) (events_in h c) →
      q.offset ≡ locked_offset (lock_of (after_call s c))
  unfolding events_in ends_stretch loses_by happens accepts
  period-by (symbol x a b soft) f e q w =
      let c = symbol x a b soft in
      let z = eqb (refusal_in h c) 0 in
      by_test z
      (λ k.
      let u : Tied (after_call s c) (takes h x) = subst (Tied (after_call s c)) (if_yes z (takes h x) h k) (call_steps s h c t f).tied in
      period-with x soft (rw k at e) (after_call s c) u q (subst (Among (IsPeriod q)) (if_yes z (events_with h x) no_events k) w))
      (λ k. absurd (no_period q (subst (Among (IsPeriod q)) (if_no z (events_with h x) no_events k) w)))
  period-by (points bits ps k) f e q w = absurd (no_period q w)
  period-by (taps ts frame) f e q w = absurd (no_period q w)
  period-by (opens frame) f e q w = absurd (no_period q w)
  period-by ends f e q w = absurd (no_period q w)
  period-by (restarts at a) f e q w = absurd (no_period q w)

  lock-is : (c : Call) → CallFits c → ends_stretch h c ≡ false → LockIs (stretch_with h c) (lock_of (after_call s c))
  lock-is c f e = subst (λ (ps : List Push). LockIs ps (lock_of (after_call s c))) (in_stretch h c e).is (tied_lock (after_call s c) (happens h c) (call_steps s h c t f).tied)

  pub lock-now-told : (c : Call) → CallFits c → (rest : List Call) → LockTold h s c (told_by s c) rest
  lock-now-told c f rest =
      let k = call_steps s h c t f in
      record { locked = λ e. (lock-is c f e).locked; locked_only = λ e. (lock-is c f e).locked_only; period = λ e q w. period-by c f e q (subst (Among (IsPeriod q)) k.events w) }

  -- ---- the 37,207th symbol of a stretch
  -- the stretch that runs after a call has no more symbols than the call's
  runs_on : (c : Call) → length (happens h c).pushes ≤ length (stretch_with h c)
  runs_on c = by_test (ends_stretch h c) (λ e. subst (λ (ps : List Push). length ps ≤ length (stretch_with h c)) (sym (begun-none h c e)) (omega arith)) (λ e. rw (in_stretch h c e).is (omega arith))

  none_before : (c : Call) → CallFits c → length (stretch_with h c) < 37207 → is_locked (lock_of (after_call s c)) ≡ false
  none_before c f l =
      let g = happens h c in
      let k = tied_lock (after_call s c) g (call_steps s h c t f).tied in
      by_test (is_locked (lock_of (after_call s c)))
      (λ e. absurd (no_lock_before (size_at g.pushes) (offset_of (lock_of (after_call s c))) (length g.pushes) (omega (arith, l, runs_on c)) (k.locked_only e)))
      (λ e. e)

  -- the 37,207th itself does not lose, since nothing loses before a lock
  no-loss : (c : Call) → length h.pushes ≡ 37206 → loses_by h c ≡ false
  no-loss c n =
      by_test (loses_by h c)
      (λ e. let w = lost_locked s h t c e in absurd (no_lock_before (size_at (stretch_with h c)) w.0 (length h.pushes) (omega (arith, n)) w.1))
      (λ e. e)

  goes_on_lem : (c : Call) → length h.pushes ≡ 37206 → length (stretch_with h c) ≡ 37207 → ends_stretch h c ≡ false
  unfolding ends_stretch stretch_with
  goes_on_lem (symbol x a b soft) n k = no-loss (symbol x a b soft) n
  goes_on_lem (points bits ps q) n k = refl
  goes_on_lem (taps ts frame) n k = refl
  goes_on_lem (opens frame) n k = refl
  goes_on_lem ends n k = refl
  goes_on_lem (restarts at a) n k = absurd (omega (arith, n, k))

  -- ---- under the premise
  lock-in : (place : ℕ) (ps : List Push) → LockOn 9296 (size_at ps) place 37207 → LockIn 9296 (size_at ps) place 3
  unfolding end_of
  lock-in place ps o = let e : o.period ≡ 3 = omega (arith, o.ends) in subst (LockIn 9296 (size_at ps) place) e o.falls

  reading-head : (x : Input) (soft : List ℤ) (place P Q j : ℕ) → loses_with h x ≡ false → Premise 9296 place P Q (size_at (with_symbol h x)) (length (with_symbol h x) - 23) →
      length h.pushes ≡ (5 + j) * 9296 + place + 23 → Among (HeadAt (h.base + ((5 + j) * 9296 + place))) (events_with h x)
  unfolding events_with
  reading-head x soft place P Q j e pr n =
      let g = with_symbol h x in
      let m = length h.pushes in
      let b = h.base in
      let last = h.last in
      let long : length g ≡ suc m = unfold with_symbol in grown-length b last h.pushes (push_of h x) in
      let c = (5 + j) * 9296 + place in
      let r = Sync.reading 9296 b last g 3 place (suc j) in
      let er : r ≡ c = omega arith in
      let em : m ≡ r + 23 = omega (arith, n) in
      let back : m - 23 ≡ r = omega (arith, em) in
      let l : 23 ≤ m = omega (arith, em) in
      let w = lock_theorem place P Q (size_at g) (length g) pr in
      let k = lock-in place g (w.falls (omega (arith, long, n))) in
      let kept : Kept 9296 b last g (r + 23) = subst (Kept 9296 b last g) em (unfold with_symbol in kept-before b last h.pushes (push_of h x) t.kept) in
      let tell = readings_tell 9296 b last g 3 place j (lit≤ tt) pr.within k (omega (arith, long, em)) kept in
      let stays : rule.markers_lose_at 9296 b last g r ≡ false = markers_kept b last g r (subst (λ (i : ℕ). rule.loses_at 9296 b last g i ≡ false) back (not_lost s h t x soft e l)) in
      subst (λ (i : ℕ). Among (HeadAt (b + i)) (rule.tells 9296 b last g m)) er
      (subst (λ (i : ℕ). Among (HeadAt (b + r)) (rule.tells 9296 b last g i)) (sym em) (either (b + r) (rule.tells 9296 b last g (r + 23)) (tell.head stays)))

  -- an accepted symbol is the one more
  relock-heads : (c : Call) (place P Q : ℕ) → Premise 9296 place P Q (size_at (stretch_with h c)) (length (stretch_with h c) - 23) → loses_by h c ≡ false →
      length (stretch_with h c) ≡ suc (length h.pushes) → (j : ℕ) → length h.pushes ≡ (5 + j) * 9296 + place + 23 →
      Among (HeadAt (h.base + ((5 + j) * 9296 + place))) (events_in h c)
  unfolding stretch_with events_in loses_by
  relock-heads (symbol x a b soft) place P Q pr e n j k =
      let c = symbol x a b soft in
      let z = eqb (refusal_in h c) 0 in
      by_test z
      (λ u.
      let s₁ = if_yes z (with_symbol h x) h.pushes u in
      subst (Among (HeadAt (h.base + ((5 + j) * 9296 + place)))) (sym (if_yes z (events_with h x) no_events u))
      (reading-head x soft place P Q j (rw u at e) (subst (λ (ps : List Push). Premise 9296 place P Q (size_at ps) (length ps - 23)) s₁ pr) k))
      (λ u. absurd (none_more (ap length (sym (if_no z (with_symbol h x) h.pushes u)) ∙ n)))
  relock-heads (points bits ps q) place P Q pr e n j k = absurd (none_more n)
  relock-heads (taps ts frame) place P Q pr e n j k = absurd (none_more n)
  relock-heads (opens frame) place P Q pr e n j k = absurd (none_more n)
  relock-heads ends place P Q pr e n j k = absurd (none_more n)
  relock-heads (restarts at a) place P Q pr e n j k = absurd (none_more n)

  pub relocks : (c : Call) → CallFits c → (rest : List Call) (place P Q : ℕ) → Premise 9296 place P Q (size_at (stretch_with h c)) (length (stretch_with h c) - 23) →
      Relocks h s c (told_by s c) rest place
  relocks c f rest place P Q pr =
      let w = lock_theorem place P Q (size_at (stretch_with h c)) (length (stretch_with h c)) pr in
      record {
        falls = w.falls;
        locked = λ n k. (lock-is c f (goes_on_lem c n k)).locked place (record { on = 37207; by = omega (arith, k); falls = w.falls (omega (arith, k)) });
        not_before = none_before c f;
        lasts = w.lasts;
        heads =
            λ e n j k.
            subst (Among (HeadAt (h.base + ((5 + j) * 9296 + place)))) (sym (call_steps s h c t f).events) (relock-heads c place P Q pr e n j k);
      }
