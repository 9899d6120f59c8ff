-- The heads that a step tells: each of a size that the slot phase takes, and at most one, the first, an Ssync head. Assumes nothing.
use Rattle.sync_heads.specs.declared.FrameHead.{FrameHead}
use Rattle.sync_heads.specs.declared.SlotNumber.{SlotNumber}
use Rattle.std.specs.Prelude.{Option, None, Some}
use Rattle.sync_heads.specs.declared.Head.{Head}
use Prim.Native.Nat.{ℕ, ◌≤◌, ◌^◌}
use mathlib.Core.Bool.{Bool, true, false}
use mathlib.Core.Path.{refl, subst, sym}
use native.Mathlib.Omega.{arith}
use lib.IntN.{ℤ, nat_abs, pos}
use lib.Signed.{lt_z}
use Rattle.laws.specs.Choice.{if_no}
use Rattle.laws.proofs.Tests.{if_both}
use Rattle.fx.specs.Cordic.{cordic_of}
use Rattle.fx.proofs.Theorems.{cordic_theorem}
use Rattle.sync_corr.specs.declared.Both.{Both}
use Rattle.sync_corr.specs.declared.Corr.{Corr}
use Rattle.sync_heads.specs.declared.Course.{Course}
use Rattle.sync_heads.specs.declared.Reading.{Reading}
use Rattle.sync_heads.specs.declared.Said.{Said}
use Rattle.sync_heads.specs.declared.Stage.{Stage}
use Rattle.sync_heads.specs.declared.Stage.TheVariants.{Before, First, Known}
use Rattle.sync_heads.specs.declared.Taken.{Taken}
use Rattle.sync_heads.specs.declared.Told.{Told}
use Rattle.sync_heads.specs.declared.Word.TheVariants.{Fsync, NotFsync}
use Rattle.sync_heads.specs.Heads.{head_of, ssync_of, fsync_of, ssync_taken, fsync_taken, known_of, both_heads, first_of, read_of}
use Rattle.sync_heads.specs.Ready.{Small, Smalls, StageOk}
use Rattle.sync_heads.specs.Words.{negated, said_of, side_of}
use Rattle.sync_heads.proofs.Laws.{said_small}
use Rattle.sync_step.specs.declared.Event.{Event}
use Rattle.sync_step.specs.declared.Event.TheVariants.{Period, Lost}
use Rattle.sync_step.specs.declared.Events.{Events}
use Rattle.sync_step.specs.declared.LastCorr.{LastCorr}
use Rattle.sync_step.specs.declared.Run.{Run}
use Rattle.sync_step.specs.declared.Step.{Step}
use Rattle.sync_step.specs.Events.{event_of, heads_of, no_events, then_of}
use Rattle.sync_step.specs.Ranges.{RunOk}
use Rattle.sync_step.specs.Step.{early_of, ended_of, kept_of, late_of, lost_at_end, lost_of, reading_of, step_of, taken_of}
use Rattle.phase.specs.Ranges.{HeadOk}
use Rattle.receiver_symbol.specs.Parts.{EventOk, EventsOk, LaterOk, Quiet}

-- ---- a head as told
amp_small : (re im : ℤ) → nat_abs re ≤ 1572864 → nat_abs im ≤ 1572864 → nat_abs (cordic_of re im).size ≤ 2 ^ 60
amp_small re im hr hi = let s = cordic_theorem re im 1572864 hr hi in rw s.is (omega (arith, s.most))

head_ok : (w : Said) (at : ℕ) (slot : Option SlotNumber) → Small w.corr → HeadOk (head_of w at slot)
unfolding head_of
head_ok w at slot h = record { amp = amp_small w.corr.re w.corr.im h.re h.im }

said-quiet : (b : Both) (last : Corr) → Quiet (said_of false b last).word
unfolding said_of
said-quiet b last =
    subst (λ (w : Said). Quiet w.word) (sym (if_no false _ _ refl))
    (if_both (λ (w : Said). Quiet w.word) (lt_z (side_of b.f last) (pos 0)) (record { word = NotFsync; corr = negated b.f }) (record { word = Fsync; corr = b.f }) tt tt)

-- ---- the heads of a reading
abbrev FirstHead : Option Head → Type 0
FirstHead None = Unit {0}
FirstHead (Some h) = HeadOk h

abbrev LaterHead : Option Head → Type 0
LaterHead None = Unit {0}
LaterHead (Some h) = (HeadOk h) × (Quiet h.word)

record TakenOk (k : Taken) : Type 0 where
  first : FirstHead k.first
  second : LaterHead k.second

sooner : (h : Option Head) → LaterHead h → FirstHead h
sooner None o = tt
sooner (Some h) o = o.0

ssync_ok : (c : Course) (r : Reading) → Smalls r.both → FirstHead (ssync_of c r).head
unfolding ssync_of
ssync_ok c r h = head_ok _ _ _ (said_small true r.both r.both.s h)

fsync_ok : (n : ℕ) (c : Course) (r : Reading) (last : Corr) → Smalls r.both → LaterHead (fsync_of n c r last).head
unfolding fsync_of head_of
fsync_ok n c r last h =
    if_both (λ (t : Told). LaterHead t.head) _ _ _ tt (head_ok _ _ _ (said_small false r.both last h), said-quiet r.both last)

ssync_taken_lem : (odd : Bool) (c : Course) (r : Reading) → Smalls r.both → TakenOk (ssync_taken odd c r)
unfolding ssync_taken
ssync_taken_lem odd c r h = record { first = ssync_ok c r h; second = tt }

fsync_taken_lem : (n : ℕ) (odd : Bool) (last : Corr) (c : Course) (r : Reading) → Smalls r.both → TakenOk (fsync_taken n odd last c r)
unfolding fsync_taken
fsync_taken_lem n odd last c r h = record { first = sooner (fsync_of n c r last).head (fsync_ok n c r last h); second = tt }

both_taken : (n : ℕ) (z : Reading) (c : Course) (r : Reading) → Smalls z.both → Smalls r.both → TakenOk (both_heads n z c r)
unfolding both_heads fsync_taken
both_taken n z c r g h = record { first = ssync_ok c z g; second = fsync_ok n _ r z.both.s h }

read_taken : (n : ℕ) (k : Stage) (c : Course) (r : Reading) → StageOk k → Smalls r.both → TakenOk (read_of n k c r)
unfolding read_of first_of known_of
read_taken n Before c r s h = record { first = tt; second = tt }
read_taken n (First z) c r s h = if_both TakenOk _ _ _ (ssync_taken_lem true c r h) (both_taken n z c r s.small h)
read_taken n (Known p) c r s h = if_both TakenOk _ _ _ (ssync_taken_lem p.odd c r h) (fsync_taken_lem n p.odd p.last c r h)

taken_ok : (n : ℕ) (r : Run) (p : ℕ) (b : Both) → RunOk r → Smalls b → TakenOk (taken_of n r p b)
unfolding taken_of reading_of
taken_ok n r p b o h = if_both TakenOk _ _ _ (read_taken n r.stage r.course (reading_of r b) o.stage h) (record { first = tt; second = tt })

-- ---- the events of a step
first_event : (h : Option Head) → FirstHead h → EventOk (event_of h)
unfolding event_of
first_event None o = tt
first_event (Some h) o = o

later_event : (h : Option Head) → LaterHead h → LaterOk (event_of h)
unfolding event_of
later_event None o = tt
later_event (Some h) o = o

heads_ok : (k : Taken) → TakenOk k → EventsOk (heads_of k)
unfolding heads_of
heads_ok k o = record { first = first_event k.first o.first; second = later_event k.second o.second; third = tt }

then_ok : (es : Events) (e : Event) → EventOk e → LaterOk e → EventsOk es → EventsOk (then_of es e)
unfolding then_of
then_ok es e f l o =
    if_both EventsOk _ _ _ (record { first = f; second = o.second; third = tt })
    (if_both EventsOk _ _ _ (record { first = o.first; second = l; third = tt }) (record { first = o.first; second = o.second; third = l }))

abbrev Tells : Step → Type 0
Tells s = EventsOk s.events

lost_ok : (at : ℕ) (last : Option FrameHead) (es : Events) → EventsOk es → Tells (lost_of at last es)
unfolding lost_of
lost_ok at last es o = then_ok es (Lost at) tt tt o

end_ok : (at : ℕ) (last : Option FrameHead) (es : Events) → EventsOk es → Tells (lost_at_end at last es)
unfolding lost_at_end
end_ok at last es o = then_ok _ (Period _) tt tt (lost_ok at last es o)

ended_ok : (n : ℕ) (r : Run) (last : LastCorr) (es : Events) → EventsOk es → Tells (ended_of n r last es)
unfolding ended_of kept_of
ended_ok n r last es o = if_both Tells _ _ _ (lost_ok _ _ es o) (then_ok es (Period _) tt tt o)

late_ok : (n : ℕ) (r : Run) (b : Both) (a : ℕ) → RunOk r → Smalls b → Tells (late_of n r b a)
unfolding late_of kept_of
late_ok n r b a o h =
    let es = heads_ok _ (taken_ok n r _ b o h) in
    if_both Tells _ _ _ (if_both Tells _ _ _ (end_ok _ _ _ es) (lost_ok _ _ _ es)) (if_both Tells _ _ _ (ended_ok n _ _ _ es) es)

pub step_ok : (n : ℕ) (r : Run) (b : Both) (a : ℕ) → RunOk r → Smalls b → EventsOk (step_of n r b a).events
unfolding step_of early_of no_events
step_ok n r b a o h = if_both Tells _ _ _ (record { first = tt; second = tt; third = tt }) (late_ok n r b a o h)
