-- A loss is told exactly where the pushes have one, with the position of the next symbol. Assumes nothing.
use Rattle.sync_heads.specs.declared.FrameHead.{FrameHead}
use Rattle.std.specs.Prelude.{Option, None, Some}
use Rattle.sync_heads.specs.declared.Head.{Head as HeadTold}
use Prim.Native.Nat.{ℕ, ◌+◌, ◌-◌}
use Rattle.laws.proofs.Tests.{by_test, if_both, never}
use Rattle.laws.specs.Choice.{when◌then◌else◌}
use Rattle.sync_step.specs.Events.{event_of, is_nothing, no_events, then_of}
use Rattle.sync_step.specs.declared.Event.{Event}
use Rattle.sync_step.specs.declared.Event.TheVariants.{Nothing, Head, Period, Lost}
use Rattle.sync_step.specs.declared.Events.{Events}
use Rattle.sync_step.specs.declared.SyncStats.{SyncStats}
use Rattle.sync_tie.specs.Pushes.{Push}
use Rattle.sync_tie.proofs.Says.{heads-two, lost-alone}
use Rattle.sync_tie.specs.Stretch.{eighth_ends, ends_at, heads_at, loses_at, markers_lose_at, stats_at, tells, told_at, zeros}
use Rattle.receiver.specs.Heads.{is_lost, loses_in}
use Rattle.guarantee.specs.Demand.{LostAt, Among, in-first, in-second, in-third}
use lib.Dec.{ltb}
use mathlib.Core.Bool.{false, true}
use mathlib.Core.List.{List}
use mathlib.Core.Path.{◌≡◌, refl, subst, sym}

-- ---- events that hold no loss, and one more
pub record Quiet (es : Events) : Type 0 where
  pub first : is_lost es.first ≡ false
  pub second : is_lost es.second ≡ false
  pub third : es.third ≡ Nothing

head-quiet : (k : Option HeadTold) → is_lost (event_of k) ≡ false
unfolding is_lost event_of
head-quiet None = refl
head-quiet (Some g) = refl

heads_quiet : (a b : Option HeadTold) → Quiet (record { first = event_of a; second = event_of b; third = Nothing })
heads_quiet a b = record { first = head-quiet a; second = head-quiet b; third = refl }

quiet_none : (es : Events) → Quiet es → loses_in es ≡ false
unfolding loses_in is_lost
quiet_none es q = rw (q.first, q.second, q.third)

then_quiet : (es : Events) (e : Event) → is_lost e ≡ false → Quiet es → loses_in (then_of es e) ≡ false
unfolding then_of loses_in is_lost
then_quiet es e k q =
    let a : Events = record { first = e; second = es.second; third = Nothing } in
    let b : Events = record { first = es.first; second = e; third = Nothing } in
    let d : Events = record { first = es.first; second = es.second; third = e } in
    if_both (λ (u : Events). loses_in u ≡ false) (is_nothing es.first) a (when is_nothing es.second then b else d)
    (rw (k, q.second))
    (if_both (λ (u : Events). loses_in u ≡ false) (is_nothing es.second) b d (rw (q.first, k)) (rw (q.first, q.second, k)))

-- a loss behind them
pub record Tells (at : ℕ) (es : Events) : Type 0 where
  pub loses : loses_in es ≡ true
  pub there : Among (LostAt at) es
  pub only : (to : ℕ) → Among (LostAt to) es → to ≡ at

quiet_at : (to : ℕ) (e : Event) → is_lost e ≡ false → LostAt to e → ⊥
unfolding is_lost
quiet_at to Nothing k p = p
quiet_at to (Head g) k p = p
quiet_at to (Period q) k p = p
quiet_at to (Lost at) k p = never k

-- .. in the first place, the second or the third, with no other
only_first : (at to : ℕ) (e g : Event) → is_lost e ≡ false → is_lost g ≡ false → Among (LostAt to) (record { first = Lost at; second = e; third = g }) → to ≡ at
only_first at to e g k q (in-first p) = sym p
only_first at to e g k q (in-second p) = absurd (quiet_at to e k p)
only_first at to e g k q (in-third p) = absurd (quiet_at to g q p)

only_second : (at to : ℕ) (e g : Event) → is_lost e ≡ false → is_lost g ≡ false → Among (LostAt to) (record { first = e; second = Lost at; third = g }) → to ≡ at
only_second at to e g k q (in-first p) = absurd (quiet_at to e k p)
only_second at to e g k q (in-second p) = sym p
only_second at to e g k q (in-third p) = absurd (quiet_at to g q p)

only_third : (at to : ℕ) (e g : Event) → is_lost e ≡ false → is_lost g ≡ false → Among (LostAt to) (record { first = e; second = g; third = Lost at }) → to ≡ at
only_third at to e g k q (in-first p) = absurd (quiet_at to e k p)
only_third at to e g k q (in-second p) = absurd (quiet_at to g q p)
only_third at to e g k q (in-third p) = sym p

lost_first : (at : ℕ) (e g : Event) → is_lost e ≡ false → is_lost g ≡ false → Tells at (record { first = Lost at; second = e; third = g })
unfolding loses_in is_lost
lost_first at e g k q = record { loses = refl; there = in-first refl; only = λ to w. only_first at to e g k q w }

lost_second : (at : ℕ) (e g : Event) → is_lost e ≡ false → is_lost g ≡ false → Tells at (record { first = e; second = Lost at; third = g })
unfolding loses_in is_lost
lost_second at e g k q = record { loses = rw k; there = in-second refl; only = λ to w. only_second at to e g k q w }

lost_third : (at : ℕ) (e g : Event) → is_lost e ≡ false → is_lost g ≡ false → Tells at (record { first = e; second = g; third = Lost at })
unfolding loses_in is_lost
lost_third at e g k q = record { loses = rw (k, q); there = in-third refl; only = λ to w. only_third at to e g k q w }

pub then_tells : (at : ℕ) (es : Events) → Quiet es → Tells at (then_of es (Lost at))
unfolding then_of is_lost
then_tells at es q =
    let a : Events = record { first = Lost at; second = es.second; third = Nothing } in
    let b : Events = record { first = es.first; second = Lost at; third = Nothing } in
    let d : Events = record { first = es.first; second = es.second; third = Lost at } in
    if_both (Tells at) (is_nothing es.first) a (when is_nothing es.second then b else d)
    (lost_first at es.second Nothing q.second refl)
    (if_both (Tells at) (is_nothing es.second) b d (lost_second at es.first Nothing q.first refl) (lost_third at es.first es.second q.first q.second))

-- a period of zeros behind the loss: there is room, as no second head was told
pub period_tells : (at : ℕ) (es : Events) (p : SyncStats) → Quiet es → es.second ≡ Nothing → Tells at (then_of (then_of es (Lost at)) (Period p))
unfolding then_of is_nothing is_lost when◌then◌else◌
period_tells at es p q e =
    by_test (is_nothing es.first)
    (λ t. rw (t, e) (lost_first at (Period p) Nothing refl refl))
    (λ t. rw (t, e, t) (lost_second at es.first (Period p) q.first refl))

not_lost : (p : SyncStats) → is_lost (Period p) ≡ false
unfolding is_lost
not_lost p = refl

module _ (n base : ℕ) (last : Option FrameHead) (h : List Push) where
  quiet-at-heads : (c : ℕ) → Quiet (heads_at n base last h c)
  quiet-at-heads c = let w = heads-two n base last h c in subst Quiet (sym w.2) (heads_quiet w.0 w.1)

  abbrev At : ℕ → Events → Type 0
  At c es = (loses_in es ≡ loses_at n base last h c) × (loses_at n base last h c ≡ true → Tells (base + c + 24) es)

  -- ---- what the symbol that completes position c tells of a loss
  pub lost-told : (c : ℕ) → At c (told_at n base last h c)
  unfolding told_at loses_at when◌then◌else◌
  lost-told c =
      let hs = heads_at n base last h c in
      let q = quiet-at-heads c in
      let next = base + c + 24 in
      by_test (markers_lose_at n base last h c)
      (λ t.
      by_test (ends_at n base last h c)
      (λ e. rw (t, e) (let w = period_tells next hs zeros q (lost-alone n base last h c t) in (w.loses, λ x. w)))
      (λ e. rw (t, e) (let w = then_tells next hs q in (w.loses, λ x. w))))
      (λ t.
      by_test (ends_at n base last h c)
      (λ e.
      by_test (eighth_ends n base last h c)
      (λ p. rw (t, e, p) (let w = then_tells next hs q in (w.loses, λ x. w)))
      (λ p. rw (t, e, p) (then_quiet hs (Period (stats_at n base last h c)) (not_lost (stats_at n base last h c)) q, λ x. absurd (never (sym x)))))
      (λ e. rw (t, e) (quiet_none hs q, λ x. absurd (never (sym x)))))

  -- .. and the symbol after m others, the first 23 of which complete no position
  early-none : loses_in no_events ≡ false
  unfolding loses_in is_lost no_events
  early-none = refl

  pub tells-loses : (m : ℕ) → loses_in (tells n base last h m) ≡ (when ltb m 23 then false else loses_at n base last h (m - 23))
  unfolding tells when◌then◌else◌
  tells-loses m = by_test (ltb m 23) (λ t. rw t early-none) (λ t. rw t (lost-told (m - 23)).0)
