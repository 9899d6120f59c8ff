-- How often whole slots train. Assumes nothing.
use Rattle.std.specs.Prelude.{Option, None, Some, is_some}
use Prim.Native.Nat.{ℕ, zero, suc, ◌+◌, ◌*◌, ◌/◌, ◌%◌, ◌^◌, ◌≤◌, ◌<◌, min}
use native.Mathlib.Omega.{arith}
use mathlib.Core.Bool.{true, false, not}
use mathlib.Core.List.{List, [], ◌∷◌, ◌++◌, append-nil, append_assoc}
use mathlib.Core.Path.{◌≡◌, refl, sym, ap, ◌∙◌}
use borrow.Author.Tests.{lt-ltb, ltb-true, ltb-false, lt-leb}
use lib.Dec.{ltb}
use lib.IntN.{ℤ}
use lib.ListN.{length, get_or, take, drop, length-append, take-append-drop, get_or-append, length-take, length-drop}
use lib.Seq.{take-suc, take-take}
use Rattle.laws.specs.Choice.{when◌then◌else◌}
use Rattle.laws.proofs.Tests.{by_test, if_both, and_both, never}
use Rattle.phase.specs.declared.Corrected.{Corrected}
use Rattle.sums.specs.declared.Sums.{Sums}
use Rattle.sync_corr.specs.Correlate.{ones_of}
use Rattle.frame_line.specs.Line.{gap_at}
use Rattle.frame.specs.Stretch.{unbroken}
use Rattle.frame_map.specs.Map.{part_of}
use Rattle.frame.specs.Align.{is_sync}
use Rattle.frame.proofs.Laws.{sync_places}
use Rattle.frame.proofs.Theorems.{not_true}
use Rattle.frame_calls.specs.Calls.{Call, pushes, restarts, opens, CallsFit}
use Rattle.frame_calls.specs.Received.{Opening, none, since, Received, nothing, dropped, is_open, frame_of, aligned_by, ignored_to, syncs_in, trained_by, trained_since, last_of, joining, joined_by, full_for, push_refused, heard, heard_all, received}
use Rattle.frame_calls.specs.Slots.{Runs, SlotsTrain, push_all, Fine, AllFine, SlotsEnd, SlotsClaim}
use Rattle.frame_calls.proofs.Stretches.{last_snoc, length_snoc, syncs_append, five_behind, counted}
use Rattle.frame_calls.proofs.Theorems.{calls_told}

-- the sync symbols among the first m of a stretch that runs
syncs_to : ℕ → ℕ
syncs_to m = m / 9296 * 24 + min (m % 9296) 24

one_place : (m : ℕ) → syncs_to (suc m) ≡ syncs_to m + (when ltb (m % 9296) 24 then 1 else 0)
unfolding syncs_to when◌then◌else◌
one_place m = by_test (ltb (m % 9296) 24) (λ t. rw t (omega (arith, ltb-true (m % 9296) 24 t))) (λ t. rw t (omega (arith, ltb-false (m % 9296) 24 t)))

no_syncs : syncs_to 0 ≡ 0
unfolding syncs_to
no_syncs = omega arith

one_sync : (c : Corrected) → syncs_in (c ∷ []) ≡ (when ltb c.j 24 then 1 else 0)
unfolding syncs_in
one_sync c = rw (sync_places c.j) (omega arith)

syncs_to_lem : (xs : List Corrected) (c : Corrected) (m : ℕ) → Runs xs → m ≤ length xs → syncs_in (take m xs) ≡ syncs_to m
syncs_to_lem xs c zero r h = unfold syncs_in syncs_to in refl
syncs_to_lem xs c (suc m) r h =
    ap syncs_in (take-suc xs m c (omega arith)) ∙ syncs_append (take m xs) (get_or xs m c ∷ [])
    ∙ omega (arith, syncs_to_lem xs c m r (omega arith), one_place m, one_sync (get_or xs m c), ap {B = ℕ} (λ (k : ℕ). when ltb k 24 then 1 else 0) (r m c (omega arith)))

-- .. and among those from a on
syncs_between : (xs : List Corrected) (c : Corrected) (a m : ℕ) → Runs xs → a ≤ m → m ≤ length xs → syncs_in (drop a (take m xs)) + syncs_to a ≡ syncs_to m
syncs_between xs c a m r l h =
    let t = take m xs in
    let e : syncs_in (take a t) + syncs_in (drop a t) ≡ syncs_in t = sym (syncs_append (take a t) (drop a t)) ∙ ap syncs_in (take-append-drop a t) in
    let k : syncs_in (take a t) ≡ syncs_to a = ap syncs_in (take-take a m xs l) ∙ syncs_to_lem xs c a r (omega arith) in
    omega (arith, e, k, syncs_to_lem xs c m r h)

trained_runs : (frame n : ℕ) (xs : List Corrected) (c : Corrected) → Runs xs → n ≤ length xs → 10 ≤ length xs
    → trained_by (since frame n) xs + syncs_to (ignored_to n) ≡ syncs_to (aligned_by (length xs))
unfolding trained_by
trained_runs frame n xs c r h l = syncs_between xs c (ignored_to n) (aligned_by (length xs)) r (counted n (length xs) h l) (omega (arith, five_behind (length xs)))

-- ---- THE FIRST SLOT TRAINS 19 TIMES, EACH LATER ONE 24
first_slot : (frame n : ℕ) (xs : List Corrected) → Runs xs → n ≤ 10 → length xs ≡ 9296 → trained_by (since frame n) xs ≡ 19
unfolding syncs_to aligned_by ignored_to
first_slot frame n [] r h l = absurd (omega (arith, l))
first_slot frame n (x ∷ xs) r h l =
    let e = trained_runs frame n (x ∷ xs) x r (omega arith) (omega arith) in
    omega (arith, e, l)

runs_front : (xs ys : List Corrected) → Runs (xs ++ ys) → Runs xs
runs_front xs ys r i c h = sym (ap (λ (x : Corrected). x.j) (get_or-append xs ys c i h)) ∙ r i c (omega (arith, length-append xs ys))

slot_on : (m : ℕ) → syncs_to (m + 9296) ≡ syncs_to m + 24
unfolding syncs_to
slot_on m = omega arith

later_slot : (frame n : ℕ) (xs ys : List Corrected) → Runs (xs ++ ys) → n ≤ length xs → 10 ≤ length xs → length ys ≡ 9296
    → trained_by (since frame n) (xs ++ ys) ≡ trained_by (since frame n) xs + 24
later_slot frame n [] ys r h l m = absurd (omega (arith, l))
later_slot frame n (x ∷ xs) ys r h l m =
    let q = length-append (x ∷ xs) ys in
    let a = trained_runs frame n (x ∷ xs) x (runs_front (x ∷ xs) ys r) h l in
    let b = trained_runs frame n ((x ∷ xs) ++ ys) x r (omega (arith, q)) (omega (arith, q)) in
    let e : aligned_by (length ((x ∷ xs) ++ ys)) ≡ aligned_by (length (x ∷ xs)) + 9296 =
    omega (arith, q, m, l, five_behind (length (x ∷ xs)), five_behind (length ((x ∷ xs) ++ ys))) in
    omega (arith, a, b, ap syncs_to e, slot_on (aligned_by (length (x ∷ xs))))

all_slots : (frame k : ℕ) (xs : List Corrected) → Runs xs → length xs ≡ suc k * 9296 → trained_by (since frame 0) xs ≡ 19 + 24 * k
unfolding syncs_to aligned_by ignored_to
all_slots frame k [] r l = absurd (omega (arith, l))
all_slots frame k (x ∷ xs) r l =
    let e = trained_runs frame 0 (x ∷ xs) x r (omega arith) (omega arith) in
    omega (arith, e, l)

pub slots_train : SlotsTrain
slots_train = record { first = first_slot; later = later_slot; all = all_slots }

-- ---- SLOTS BY CALLS
heard_append : (h : Received) (cs ds : List Call) → heard_all h (cs ++ ds) ≡ heard_all (heard_all h cs) ds
unfolding heard_all
heard_append h [] ds = refl
heard_append h (c ∷ cs) ds = heard_append (heard h c) cs ds

fit_append : (cs ds : List Call) → CallsFit cs → CallsFit ds → CallsFit (cs ++ ds)
fit_append [] ds p q = q
fit_append (c ∷ cs) ds p q = (p.0, fit_append cs ds p.1 q)

fit_pushes : (xs : List Corrected) (f s : List ℤ) → AllFine xs → CallsFit (push_all xs f s)
unfolding push_all
fit_pushes [] f s p = tt
fit_pushes (x ∷ xs) f s p = (p.0.short, fit_pushes xs f s p.1)

-- no more trainings than symbols
syncs_few : (xs : List Corrected) → syncs_in xs ≤ length xs
unfolding syncs_in
syncs_few [] = omega arith
syncs_few (x ∷ xs) = omega (arith, syncs_few xs, if_both (λ (n : ℕ). n ≤ 1) (is_sync (part_of x.j)) 1 0 (omega arith) (omega arith))

trained_few : (o : Opening) (xs : List Corrected) → trained_by o xs ≤ length xs
unfolding trained_by
trained_few none xs = omega arith
trained_few (since frame n) xs =
    let k = aligned_by (length xs) in
    omega (arith, syncs_few (drop (ignored_to n) (take k xs)), length-drop (ignored_to n) (take k xs), length-take k xs)

-- room for one more
room : (h : Received) (c : Corrected) → length h.stretch < 4194304 → full_for h c ≡ false
unfolding full_for trained_since
room h c l =
    let n = trained_by h.sums h.stretch in
    rw (lt-leb 4194304 n (omega (arith, trained_few h.sums h.stretch, l))) (by_test (ltb n (trained_since (joined_by h c))) (λ t. rw t) (λ t. rw t))

-- a symbol that follows, with arguments that are not refused and room for its training, is taken
one-heard : (h : Received) (c : Corrected) (f s : List ℤ) → ones_of f ≡ true → ones_of s ≡ true → Fine c → gap_at (last_of h.stretch) c.at ≡ false
    → length h.stretch < 4194304 → heard h (pushes c f s) ≡ joined_by h c
unfolding heard push_refused joining when◌then◌else◌
one-heard h c f s hf hs k g l = rw (hf, hs, lt-ltb c.j 9296 k.place, k.gain, lt-leb (2 ^ 62) c.at k.before, g, room h c l)

-- .. and so do all
all-heard : (h : Received) (xs : List Corrected) (f s : List ℤ) → ones_of f ≡ true → ones_of s ≡ true → AllFine xs → unbroken (last_of h.stretch) xs ≡ true
    → length h.stretch + length xs ≤ 4194304 → heard_all h (push_all xs f s) ≡ record { stretch = h.stretch ++ xs; sums = h.sums }
unfolding heard_all push_all unbroken joined_by
all-heard h [] f s hf hs k u l = ap (λ (ys : List Corrected). record { stretch = ys; sums = h.sums }) (sym (append-nil h.stretch))
all-heard h (x ∷ xs) f s hf hs k u l =
    let w = and_both (not (gap_at (last_of h.stretch) x.at)) (unbroken (Some x.at) xs) u in
    let n : Received = record { stretch = h.stretch ++ x ∷ []; sums = h.sums } in
    let e : unbroken (last_of n.stretch) xs ≡ true = ap (λ (y : Option ℕ). unbroken y xs) (last_snoc h.stretch x) ∙ w.1 in
    ap (λ (y : Received). heard_all y (push_all xs f s)) (one-heard h x f s hf hs k.0 (not_true _ w.0) (omega (arith, l)))
    ∙ all-heard n xs f s hf hs k.1 e (omega (arith, l, length_snoc h.stretch x))
    ∙ ap (λ (ys : List Corrected). record { stretch = ys; sums = h.sums }) (append_assoc h.stretch (x ∷ []) xs)

slots_heard : (cs : List Call) (frame : ℕ) (xs : List Corrected) (f s : List ℤ) → ones_of f ≡ true → ones_of s ≡ true → AllFine xs → unbroken None xs ≡ true → length xs ≤ 4194304
    → received (cs ++ restarts ∷ opens frame ∷ push_all xs f s) ≡ record { stretch = xs; sums = since frame 0 }
unfolding received heard_all heard dropped last_of
slots_heard cs frame xs f s hf hs k u l =
    heard_append nothing cs (restarts ∷ opens frame ∷ push_all xs f s) ∙ all-heard (record { stretch = []; sums = since frame 0 }) xs f s hf hs k u (omega (arith, l))

-- sums that are ended, and what is true of them
ends : (x : Option Sums) (frame k : ℕ) → is_some x ≡ true → ((s : Sums) → x ≡ Some s → s.frame ≡ frame) → ((s : Sums) → x ≡ Some s → s.count ≡ 19 + 24 * k)
    → SlotsEnd x frame k
ends (Some s) frame k e f c = record { sums = s; ended = refl; of = f s refl; count = c s refl }
ends None frame k e f c = absurd (never (sym e))

-- ---- RESTARTED, OPENED AND GIVEN k + 1 SLOTS, IT ENDS WITH 19 + 24 k TRAININGS
pub slots_end : SlotsClaim
unfolding is_open frame_of trained_since
slots_end cs frame k xs f s fit hf hs fine u r l m =
    let t = calls_told (cs ++ restarts ∷ opens frame ∷ push_all xs f s) (fit_append cs (restarts ∷ opens frame ∷ push_all xs f s) fit (tt, (tt, fit_pushes xs f s fine))) in
    let e = slots_heard cs frame xs f s hf hs fine u (omega (arith, l, m)) in
    ends _ frame k (t.ended ∙ ap (λ (h : Received). is_open h.sums) e) (λ x y. t.frame x y ∙ ap (λ (h : Received). frame_of h.sums) e)
    (λ x y. t.count x y ∙ ap trained_since e ∙ all_slots frame k xs r l)
