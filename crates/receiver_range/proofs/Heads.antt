-- What the heads of an accepted symbol leave of carrier and slot phase: the head that is held is the last reading's, and a reading completes
-- the slot of the one before. Assumes nothing.
use Rattle.std.specs.Prelude.{Option, None, Some}
use Prim.Native.Nat.{ℕ, ◌+◌, ◌-◌, ◌*◌, ◌/◌, ◌%◌, ◌≤◌, ◌<◌}
use mathlib.Core.Bool.{true, false}
use mathlib.Core.Path.{◌≡◌, refl, sym, ap, subst, ◌∙◌}
use native.Mathlib.Omega.{arith}
use borrow.Author.Tests.{eq-eqb, eqb-true, eqb-false, lt-ltb}
use lib.Dec.{eqb, ltb}
use Rattle.laws.specs.Choice.{when◌then◌else◌, if_yes}
use Rattle.laws.proofs.Tests.{if_either, never}
use Rattle.carrier.specs.declared.Nco.{Nco}
use Rattle.carrier.specs.Carrier.{heard_of}
use Rattle.sync_corr.specs.Rows.{Bounded}
use Rattle.sync_corr.specs.declared.Both.{Both}
use Rattle.sync_lock.specs.declared.Lock.{Lock}
use Rattle.sync_lock.specs.declared.Lock.TheVariants.{Search, Locked}
use Rattle.sync_lock.specs.Rule.{locked_at}
use Rattle.sync_heads.specs.declared.Head.{Head}
use Rattle.sync_heads.specs.declared.Parity.{Parity}
use Rattle.sync_heads.specs.declared.Reading.{Reading}
use Rattle.sync_heads.specs.declared.Stage.{Stage}
use Rattle.sync_heads.specs.declared.Stage.TheVariants.{Before, First, Known}
use Rattle.sync_heads.specs.declared.Taken.{Taken}
use Rattle.sync_heads.specs.Ranges.{slot_in_range}
use Rattle.sync_heads.specs.Heads.{read_of}
use Rattle.sync_step.specs.declared.Run.{Run}
use Rattle.sync_step.specs.Events.{event_of}
use Rattle.sync_step.specs.Step.{place_of, reading_of, taken_of}
use Rattle.sync_range.specs.Coherent.{rotated, corr_most, LockedFits, LockFits, StageFits}
use Rattle.phase.specs.declared.Held.{Held}
use Rattle.phase.specs.declared.WholeSlot.{WholeSlot}
use Rattle.phase.specs.Phase.{begun_of, counted_in, pushed_in, whole_of, due_in}
use Rattle.receiver.specs.declared.Listened.{Listened}
use Rattle.receiver.specs.Heads.{or_due, event_heard}
use Rattle.receiver_range.specs.Coherent.{HeadFits, HeldFits, NcoFits, PhaseFits}
use Rattle.receiver_range.proofs.Even.{heard_fits}
use Rattle.receiver_range.proofs.Tells.{HeadOf, head_fits, TellsOne, mute, sole, TellsTwo, missed, alone, pair, known_tells, first_tells, Knows, known_knows, first-knows}
use Rattle.receiver_range.proofs.Events.{still_locked, After}

-- ---- the slot that a head at a position completes: that of the head held before, 9,296 symbols earlier
pub record Completes (x : Held) (at : ℕ) (w : WholeSlot) : Type 0 where
  pub head : w.head ≡ x.head
  pub next : w.next.at ≡ at
  pub spans : x.head.at + 9296 ≡ at

abbrev pub DueFits : Option Held → ℕ → Option WholeSlot → Type 0
DueFits s at None = Unit {0}
DueFits None at (Some w) = ⊥
DueFits (Some x) at (Some w) = Completes x at w

-- the head that is held after it: the same where no slot is completed, else the next
abbrev pub Follows : Option Held → Option WholeSlot → Option Held → Type 0
Follows None None t = Unit {0}
Follows None (Some w) t = ⊥
Follows (Some x) None None = ⊥
Follows (Some x) None (Some y) = y.head ≡ x.head
Follows (Some x) (Some w) None = ⊥
Follows (Some x) (Some w) (Some y) = (w.head ≡ x.head) × (y.head.at ≡ x.head.at + 9296)

-- what is heard of k, from s on
pub record Goes (s : Option Held) (q : Run) (l : Listened) : Type 0 where
  pub phase : PhaseFits q (pushed_in 9296 l.phase)
  pub follows : Follows s l.due (pushed_in 9296 l.phase)

pub record Hears (r : Run) (s : Option Held) (b : Both) (k : Taken) (l : Listened) : Type 0 where
  pub nco : NcoFits l.nco
  pub due : DueFits s (r.base + r.t - 23) l.due
  -- a head that loses is not told
  pub quiet : k.lost ≡ true → k.second ≡ None
  pub goes : k.lost ≡ false → Bounded (corr_most rotated) b.f → Bounded (corr_most rotated) b.s → slot_in_range k.course.slot ≡ true → (q : Run) →
      After r k q → Goes s q l

-- ---- stages apart
abbrev knows : Stage → ℕ
knows Before = 0
knows (First z) = 0
knows (Known p) = 1

not_before : (k : Stage) (p : Parity) → k ≡ Before → k ≡ Known p → ⊥
not_before k p e h = omega (arith, ap knows (sym e ∙ h))

not_first : (k : Stage) (z : Reading) (p : Parity) → k ≡ First z → k ≡ Known p → ⊥
not_first k z p e h = omega (arith, ap knows (sym e ∙ h))

-- ---- the head that was held is held on
on-held : (r q : Run) (k : Taken) (h : ℕ) (x : Held) → HeldFits r x → LockFits r.t h r.lock → locked_at r.lock (place_of 9296 r.t) ≡ false →
    k.stage ≡ r.stage → After r k q → HeldFits q (counted_in 9296 x) × ((counted_in 9296 x).head ≡ x.head)
unfolding locked_at place_of counted_in
on-held r q k h x f l e z a =
    let g : LockedFits r.t h f.offset f.misses = subst (LockFits r.t h) f.locked l in
    let d : eqb ((r.t - 23) % 9296) f.offset ≡ false = subst (λ (y : Lock). locked_at y ((r.t - 23) % 9296) ≡ false) f.locked e in
    let few : x.count < 9296 = room (eqb-false ((r.t - 23) % 9296) f.offset d) g.place in
    let m = still_locked r.lock q.lock f.offset f.misses a.lock f.locked in
    rw (if_yes (ltb x.count 9296) (record { head = x.head; count = x.count + 1 }) x (lt-ltb x.count 9296 few)) (
      record {
        head = f.head;
        period = f.period;
        enough = f.enough;
        offset = f.offset;
        misses = m.misses;
        locked = m.is;
        parity = f.parity;
        known = a.stage ∙ z ∙ f.known;
        place = rw a.base f.place;
        counted = omega (arith, f.counted, a.base, a.t);
        some = omega arith;
        few = omega (arith, few);
      },
      refl,
    )
  where
    room : ((r.t - 23) % 9296 ≡ f.offset → ⊥) → f.offset ≤ 9295 → x.count < 9296
    room d l = omega (arith, f.counted, f.place, f.few, d)

-- ---- a new head is held
record Read (r : Run) (h : ℕ) : Type 0 where
  pub offset : ℕ
  pub misses : ℕ
  pub locked : r.lock ≡ Locked offset misses
  pub place : (r.t - 23) % 9296 ≡ offset
  pub past : (3 + h) * 9296 + offset < r.t - 23

read : (r : Run) (h : ℕ) → LockFits r.t h r.lock → locked_at r.lock (place_of 9296 r.t) ≡ true → Read r h
unfolding locked_at place_of
read r h l e = go r.lock refl l e
  where
    go : (k : Lock) → r.lock ≡ k → LockFits r.t h k → locked_at k ((r.t - 23) % 9296) ≡ true → Read r h
    go (Search cand count) z l e = absurd (never (sym e))
    go (Locked offset misses) z l e = record { offset = offset; misses = misses; locked = z; place = eqb-true ((r.t - 23) % 9296) offset e; past = l.past }

new_held : (r q : Run) (k : Taken) (h : ℕ) (x : Head) → Read r h → 1 ≤ h → 23 ≤ r.t → Knows k → HeadFits x → x.at ≡ r.base + r.t - 23 → After r k q →
    HeldFits q (record { head = x; count = 1 })
new_held r q k h x d n u y f e a =
    let m = still_locked r.lock q.lock d.offset d.misses a.lock d.locked in
    record {
      head = f;
      period = (r.t - 23) / 9296;
      enough = omega (arith, d.past, d.place, n);
      offset = d.offset;
      misses = m.misses;
      locked = m.is;
      parity = y.parity;
      known = a.stage ∙ y.known;
      place = rw a.base (omega (arith, e, d.place, u));
      counted = omega (arith, e, a.base, a.t, u);
      some = omega arith;
      few = omega arith;
    }

begun_pushed : (h : Head) → pushed_in 9296 (begun_of h) ≡ Some (record { head = h; count = 1 })
unfolding pushed_in begun_of counted_in when◌then◌else◌
begun_pushed h = refl

-- ---- what is heard
abbrev pub heard_by : Listened → Option Head → Option Head → Listened
heard_by l a c = event_heard 9296 (event_heard 9296 l (event_of a)) (event_of c)

abbrev pub before : Nco → Option Held → Listened
before n s = record { nco = n; phase = s; due = None }

hear_nothing : (n : Nco) (s : Option Held) → heard_by (before n s) None None ≡ before n s
unfolding event_heard event_of
hear_nothing n s = refl

hear_one : (n : Nco) (s : Option Held) (h : Head) → heard_by (before n s) (Some h) None ≡ record { nco = (heard_of n h).nco; phase = begun_of h; due = due_in 9296 s h }
unfolding event_heard event_of or_due
hear_one n s h = refl

hear_two : (n : Nco) (g h : Head) → heard_by (before n None) (Some g) (Some h) ≡ record { nco = (heard_of (heard_of n g).nco h).nco; phase = begun_of h; due = None }
unfolding event_heard event_of or_due due_in begun_of when◌then◌else◌
hear_two n g h = refl

idle_due : (h : Head) → due_in 9296 None h ≡ None
unfolding due_in
idle_due h = refl

held_due : (x : Held) (h : Head) → x.count ≡ 9296 → due_in 9296 (Some x) h ≡ Some (whole_of x.head h)
unfolding due_in
held_due x h e = if_yes (eqb x.count 9296) _ _ (eq-eqb x.count 9296 e)

-- what is true of the heads that k names is true of k's
of_heads : (r : Run) (s : Option Held) (b : Both) (k : Taken) (l : Listened) (a c : Option Head) (m : Listened) → k.first ≡ a → k.second ≡ c → heard_by l a c ≡ m →
    Hears r s b k m → Hears r s b k (heard_by l k.first k.second)
of_heads r s b k l a c m e f g y =
    let z : heard_by l k.first k.second ≡ m = ap (λ (x : Option Head). heard_by l x k.second) e ∙ ap (λ (x : Option Head). heard_by l a x) f ∙ g in
    subst (Hears r s b k) (sym z) y

-- ---- nothing is told
silent_hears : (r : Run) (s : Option Held) (b : Both) (k : Taken) (n : Nco) → NcoFits n → k.second ≡ None →
    (k.lost ≡ false → (q : Run) → After r k q → Goes s q (before n s)) → Hears r s b k (before n s)
silent_hears r s b k n c e g = record { nco = c; due = tt; quiet = λ z. e; goes = λ z hf hs l q a. g z q a }

idle_goes : (q : Run) (n : Nco) → Goes None q (before n None)
unfolding pushed_in
idle_goes q n = record { phase = tt; follows = tt }

-- no reading
off_goes : (r : Run) (h : ℕ) (s : Option Held) (k : Taken) (n : Nco) (q : Run) → PhaseFits r s → LockFits r.t h r.lock →
    locked_at r.lock (place_of 9296 r.t) ≡ false → k.stage ≡ r.stage → After r k q → Goes s q (before n s)
unfolding pushed_in
off_goes r h None k n q f l e z a = idle_goes q n
off_goes r h (Some x) k n q f l e z a = let y = on-held r q k h x f l e z a in record { phase = y.0; follows = y.1 }

-- ---- head one or a later one is told
one_goes : (r : Run) (h : ℕ) (b : Both) (k : Taken) (n : Nco) (x : Head) (q : Run) → Read r h → 1 ≤ h → 23 ≤ r.t → Knows k → HeadOf (reading_of r b) k.course x →
    Bounded (corr_most rotated) b.f → Bounded (corr_most rotated) b.s → slot_in_range k.course.slot ≡ true → After r k q → HeldFits q (record { head = x; count = 1 })
unfolding reading_of
one_goes r h b k n x q d m u y o hf hs l a = new_held r q k h x d m u y (head_fits (record { at = r.base + r.t - 23; both = b }) k.course x hf hs l o) o.at_is a

-- where none was held
first_hears : (r : Run) (h : ℕ) (b : Both) (k : Taken) (n : Nco) (x : Head) → NcoFits n → Read r h → 1 ≤ h → 23 ≤ r.t → Knows k → (k.lost ≡ true → k.second ≡ None) →
    HeadOf (reading_of r b) k.course x → Hears r None b k (record { nco = n; phase = begun_of x; due = None })
first_hears r h b k n x c d m u y e o =
    record {
      nco = c;
      due = tt;
      quiet = e;
      goes = λ z hf hs l q a. record { phase = rw (begun_pushed x) (one_goes r h b k n x q d m u y o hf hs l a); follows = tt };
    }

-- behind another: its slot is whole
whole_count : (r : Run) (h : ℕ) (x : Held) → HeldFits r x → LockFits r.t h r.lock → Read r h → x.count ≡ 9296
whole_count r h x f l d =
    let g : LockedFits r.t h f.offset f.misses = subst (LockFits r.t h) f.locked l in
    let o : f.offset ≡ d.offset = ap offset_of (sym f.locked ∙ d.locked) in
    omega (arith, f.counted, f.place, f.some, f.few, d.place, o, g.place)
  where
    offset_of : Lock → ℕ
    offset_of (Search cand count) = 0
    offset_of (Locked offset misses) = offset

next_hears : (r : Run) (h : ℕ) (s : Held) (b : Both) (k : Taken) (n : Nco) (x : Head) → NcoFits n → HeldFits r s → LockFits r.t h r.lock → Read r h → 1 ≤ h → 23 ≤ r.t →
    Knows k → k.second ≡ None → k.lost ≡ false → HeadOf (reading_of r b) k.course x →
    Hears r (Some s) b k (record { nco = n; phase = begun_of x; due = Some (whole_of s.head x) })
unfolding whole_of reading_of
next_hears r h s b k n x c f g d m u y e z o =
    let w = whole_count r h s f g d in
    let at : s.head.at + 9296 ≡ r.base + r.t - 23 = omega (arith, f.counted, w) in
    record {
      nco = c;
      due = record { head = refl; next = o.at_is; spans = at };
      quiet = λ t. absurd (never (sym t ∙ z));
      goes = λ t hf hs l q a.
          record { phase = rw (begun_pushed x) (one_goes r h b k n x q d m u y o hf hs l a); follows = rw (begun_pushed x) (refl, o.at_is ∙ sym at) };
    }

-- ---- a reading, by its stage
module _ (r : Run) (h : ℕ) (b : Both) (n : Nco) (c : NcoFits n) (l : LockFits r.t h r.lock) (u : 23 ≤ r.t) (d : Read r h) where
  abbrev taken : Stage → Taken
  taken k = read_of 9296 k r.course (reading_of r b)

  abbrev Heard : Option Held → Stage → Type 0
  Heard s k = Hears r s b (taken k) (heard_by (before n s) (taken k).first (taken k).second)

  -- the carrier has heard a head, and its slot begins
  abbrev told : Head → Option WholeSlot → Listened
  told x e = record { nco = (heard_of n x).nco; phase = begun_of x; due = e }

  before-hears : (s : Option Held) → PhaseFits r s → r.stage ≡ Before → Heard s Before
  unfolding read_of
  before-hears None f e =
      of_heads r None b (taken Before) (before n None) None None (before n None) refl refl (hear_nothing n None)
      (silent_hears r None b (taken Before) n c refl (λ z q a. idle_goes q n))
  before-hears (Some x) f e = absurd (not_before r.stage f.parity e f.known)

  one-hears : (s : Option Held) (x : Head) (k : Stage) → 1 ≤ h → PhaseFits r s → Knows (taken k) → (taken k).second ≡ None → (taken k).lost ≡ false → (taken k).first ≡ Some x →
      HeadOf (reading_of r b) (taken k).course x → Heard s k
  one-hears None x k m f y e z g o =
      of_heads r None b (taken k) (before n None) (Some x) None (record { nco = (heard_of n x).nco; phase = begun_of x; due = None }) g e
      (hear_one n None x ∙ ap (told x) (idle_due x)) (first_hears r h b (taken k) (heard_of n x).nco x (heard_fits n x o.even c) d m u y (λ t. e) o)
  one-hears (Some s) x k m f y e z g o =
      of_heads r (Some s) b (taken k) (before n (Some s)) (Some x) None (record { nco = (heard_of n x).nco; phase = begun_of x; due = Some (whole_of s.head x) }) g e
      (hear_one n (Some s) x ∙ ap (told x) (held_due s x (whole_count r h s f l d)))
      (next_hears r h s b (taken k) (heard_of n x).nco x (heard_fits n x o.even c) f l d m u y e z o)

  -- head one tells head zero too, or loses
  pair-hears : (z : Reading) (s : Option Held) → 1 ≤ h → PhaseFits r s → r.stage ≡ First z → Heard s (First z)
  pair-hears z (Some x) m f e = absurd (not_first r.stage z f.parity e f.known)
  pair-hears z None m f e = go (first_tells 9296 z r.course (reading_of r b))
    where
      k : Taken
      k = read_of 9296 (First z) r.course (reading_of r b)

      go : TellsTwo (reading_of r b) k → Heard None (First z)
      go (missed g v t e₁ e₂) =
          of_heads r None b k (before n None) (Some g) None (told g None) e₁ e₂ (hear_one n None g ∙ ap (told g) (idle_due g))
          (record { nco = heard_fits n g v c; due = tt; quiet = λ i. e₂; goes = λ i. absurd (never (sym t ∙ i)) })
      go (alone x t e₁ e₂ o) = one-hears None x (First z) m f (first-knows 9296 z r.course (reading_of r b)) e₂ t e₁ o
      go (pair g x v t e₁ e₂ o) =
          of_heads r None b k (before n None) (Some g) (Some x) (record { nco = (heard_of (heard_of n g).nco x).nco; phase = begun_of x; due = None }) e₁ e₂ (hear_two n g x)
          (first_hears r h b k (heard_of (heard_of n g).nco x).nco x (heard_fits (heard_of n g).nco x o.even (heard_fits n g v c)) d m u
          (first-knows 9296 z r.course (reading_of r b)) (λ i. absurd (never (sym i ∙ t))) o)

  later_hears : (p : Parity) (s : Option Held) → 1 ≤ h → PhaseFits r s → Heard s (Known p)
  later_hears p s m f = go (known_tells 9296 p r.course (reading_of r b))
    where
      k : Taken
      k = read_of 9296 (Known p) r.course (reading_of r b)

      go : TellsOne (reading_of r b) k → Heard s (Known p)
      go (mute t e₁ e₂) =
          of_heads r s b k (before n s) None None (before n s) e₁ e₂ (hear_nothing n s) (silent_hears r s b k n c e₂ (λ i. absurd (never (sym t ∙ i))))
      go (sole x t e₁ e₂ o) = one-hears s x (Known p) m f (known_knows 9296 p r.course (reading_of r b)) e₂ t e₁ o

  reading-hears : (s : Option Held) → PhaseFits r s → StageFits rotated h r.stage → Heard s r.stage
  reading-hears s f g = go r.stage refl g
    where
      go : (k : Stage) → r.stage ≡ k → StageFits rotated h k → Heard s k
      go Before e i = before-hears s f e
      go (First z) e i = pair-hears z s (omega (arith, i.0)) f e
      go (Known p) e i = later_hears p s (omega (arith, i.heads)) f

-- ---- a symbol that completes a window: a reading or none
pub taken_hears : (r : Run) (h : ℕ) (s : Option Held) (b : Both) (n : Nco) → NcoFits n → LockFits r.t h r.lock → StageFits rotated h r.stage → 23 ≤ r.t → PhaseFits r s →
    let k = taken_of 9296 r (place_of 9296 r.t) b in
    Hears r s b k (heard_by (before n s) k.first k.second)
unfolding taken_of
taken_hears r h s b n c l g u f =
    if_either (λ (k : Taken). Hears r s b k (heard_by (before n s) k.first k.second)) (locked_at r.lock (place_of 9296 r.t)) _ _
    (λ e. reading-hears r h b n c l u (read r h l e) s f g)
    (λ e.
    let k : Taken = record { lost = false; stage = r.stage; course = r.course; first = None; second = None } in
    of_heads r s b k (before n s) None None (before n s) refl refl (hear_nothing n s)
    (silent_hears r s b k n c refl (λ z q a. off_goes r h s k n q f l e refl a)))
