-- What the alignment does over a stretch. Each statement stands above its proof. Assumes nothing.
use Rattle.std.specs.Prelude.{None, Some}
use Prim.Native.Nat.{ℕ, ◌+◌, ◌≤◌, min}
use native.Mathlib.Omega.{arith}
use mathlib.Core.Bool.{◌&&◌, Bool, true, false, not}
use mathlib.Core.List.{List, [], ◌∷◌, ◌++◌, append_assoc, append-nil}
use mathlib.Core.Path.{◌≡◌, refl, sym, ap, ◌∙◌}
use borrow.Author.Tests.{le-leb, lt-leb, leb-true, leb-false, ltb-true, ltb-false}
use lib.Dec.{leb, ltb}
use lib.IntN.{ℤ}
use lib.ListN.{length}
use Rattle.laws.specs.Choice.{when◌then◌else◌, if_no}
use Rattle.laws.proofs.Tests.{by_test, and_both}
use Rattle.phase.specs.declared.Corrected.{Corrected}
use Rattle.eq_train.specs.Train.{trained_sums}
use Rattle.eq.specs.declared.Equaliser.{Equaliser}
use Rattle.eq.specs.Eq.{new_eq, started_eq, pushed_eq, trains_eq, trained_eq, with_sums}
use Rattle.frame_map.specs.Map.{part_of}
use Rattle.frame_map.proofs.Laws.{part_sync}
use Rattle.frame_line.specs.declared.Meta.{Meta}
use Rattle.frame_line.specs.Line.{no_metas, meta_of, joined, moved, gap_at}
use Rattle.frame_line.specs.Waiting.{waiting_of}
use Rattle.frame_line.proofs.Theorems.{joined_theorem, moved_theorem}
use Rattle.frame.specs.declared.Back.{Back}
use Rattle.frame.specs.Align.{started_back, new_back, restarted_back, joined_to, is_sync, trained_part, trained_at, taken_by, pushed_back}
use Rattle.frame.specs.Answers.{trains_back}
use Rattle.frame.proofs.Laws.{sync_places, untrained}
use Rattle.frame.specs.Stretch.{trained_in, after_all, given_by, given_all, unbroken, metas_of}

pub not_true : (t : Bool) → not t ≡ true → t ≡ false
not_true true e = sym e
not_true false e = refl

-- ---- ONE SYMBOL WITHOUT A GAP: what came out, then those that wait, are those that waited, then the symbol
record Step (b : Back) (c : Corrected) (f s : List ℤ) : Type 0 where
  pub order : given_by (pushed_back b c f s).out ++ waiting_of (pushed_back b c f s).back.metas ≡ waiting_of b.metas ++ meta_of c ∷ []
  pub last : (pushed_back b c f s).back.last ≡ Some c.at
  pub count : (pushed_back b c f s).back.metas.count ≡ min (b.metas.count + 1) 5

pub no_gap : (b : Back) (at : ℕ) → gap_at b.last at ≡ false → joined_to b at ≡ b
unfolding joined_to
no_gap b at h = if_no (gap_at b.last at) (restarted_back b) b h

taken_step : (b : Back) (c : Corrected) (f s : List ℤ) → b.metas.count ≤ 5 → gap_at b.last c.at ≡ false → Step b c f s
unfolding pushed_back taken_by given_by joined moved when◌then◌else◌
taken_step b c f s h g =
    by_test (ltb b.metas.count 5)
    (λ t.
    record {
      order = rw (no_gap b c.at g, t) (joined_theorem b.metas (meta_of c) (ltb-true b.metas.count 5 t));
      last = rw (no_gap b c.at g, t);
      count = rw (no_gap b c.at g, t) (omega (arith, ltb-true b.metas.count 5 t));
    })
    (λ t.
    let five : b.metas.count ≡ 5 = omega (arith, h, ltb-false b.metas.count 5 t) in
    record {
      order = rw (no_gap b c.at g, t) (moved_theorem b.metas (meta_of c) five);
      last = rw (no_gap b c.at g, t);
      count = rw (no_gap b c.at g, t) (omega (arith, five));
    })

-- ---- ALIGNED SYMBOLS ARE THE CORRECTED ONES: none is lost, doubled or out of turn in a stretch without a gap
pub aligned_theorem : (b : Back) (cs : List Corrected) (f s : List ℤ) → b.metas.count ≤ 5 → unbroken b.last cs ≡ true
    → given_all b cs f s ++ waiting_of (after_all b cs f s).metas ≡ waiting_of b.metas ++ metas_of cs
unfolding given_all after_all unbroken metas_of
aligned_theorem b [] f s h u = sym (append-nil (waiting_of b.metas))
aligned_theorem b (c ∷ cs) f s h u =
    let p = pushed_back b c f s in
    let k = and_both (not (gap_at b.last c.at)) (unbroken (Some c.at) cs) u in
    let t = taken_step b c f s h (not_true (gap_at b.last c.at) k.0) in
    let left = waiting_of (after_all p.back cs f s).metas in
    let ih = aligned_theorem p.back cs f s (omega (arith, t.count)) (rw t.last k.1) in
    append_assoc (given_by p.out) (given_all p.back cs f s) left ∙ ap (λ l. given_by p.out ++ l) ih
    ∙ sym (append_assoc (given_by p.out) (waiting_of p.back.metas) (metas_of cs))
    ∙ ap (λ l. l ++ metas_of cs) t.order
    ∙ append_assoc (waiting_of b.metas) (meta_of c ∷ []) (metas_of cs)

-- ---- FIVE WAIT, OR ALL THAT CAME
pub waiting_theorem : (b : Back) (cs : List Corrected) (f s : List ℤ) → b.metas.count ≤ 5 → unbroken b.last cs ≡ true
    → (after_all b cs f s).metas.count ≡ min (b.metas.count + length cs) 5
unfolding after_all unbroken
waiting_theorem b [] f s h u = omega (arith, h)
waiting_theorem b (c ∷ cs) f s h u =
    let p = pushed_back b c f s in
    let k = and_both (not (gap_at b.last c.at)) (unbroken (Some c.at) cs) u in
    let t = taken_step b c f s h (not_true (gap_at b.last c.at) k.0) in
    let ih = waiting_theorem p.back cs f s (omega (arith, t.count)) (rw t.last k.1) in
    omega (arith, ih, t.count)

-- ---- FROM NEW ON, or from a restart: what came out and the last five, or fewer, are the symbols that came
pub five_late : (b : Back) (cs : List Corrected) (f s : List ℤ) → unbroken None cs ≡ true
    → (given_all (restarted_back b) cs f s ++ waiting_of (after_all (restarted_back b) cs f s).metas ≡ metas_of cs)
    × ((after_all (restarted_back b) cs f s).metas.count ≡ min (length cs) 5)
unfolding restarted_back started_back no_metas waiting_of
five_late b cs f s u = (aligned_theorem (restarted_back b) cs f s (omega arith) u, omega (arith, waiting_theorem (restarted_back b) cs f s (omega arith) u))

-- a new back is a restarted one
pub new_restarted : restarted_back new_back ≡ new_back
unfolding restarted_back new_back started_back new_eq started_eq
new_restarted = refl

-- ---- A GAP RESTARTS: the symbol is the first of a new stretch
pub gap_theorem : (b : Back) (c : Corrected) (f s : List ℤ) → gap_at b.last c.at ≡ true → pushed_back b c f s ≡ pushed_back (restarted_back b) c f s
unfolding pushed_back joined_to restarted_back started_back gap_at when◌then◌else◌
gap_theorem b c f s h = rw h

-- ---- THE COUNT OF OPEN SUMS is that of the sync symbols aligned on a full line
trained_count : (e : Equaliser) (m : Meta) (f s : List ℤ) → (trained_at e m f s).sums.count ≡ e.sums.count + (when is_sync (part_of m.j) && trains_eq e then 1 else 0)
unfolding trained_at trained_part is_sync trained_eq with_sums trained_sums when◌then◌else◌
trained_count e m f s =
    by_test (ltb m.j 24) (λ t. rw (part_sync m.j (ltb-true m.j 24 t)) (by_test (trains_eq e) (λ u. rw u) (λ u. rw u (omega arith))))
    (λ t. rw (untrained e m f s (ltb-false m.j 24 t), sync_places m.j, t) (omega arith))

full_line : (n : ℕ) → leb 11 (min n 11) ≡ leb 11 n
full_line n =
    by_test (leb 11 n) (λ t. le-leb 11 (min n 11) (omega (arith, leb-true 11 n t)) ∙ sym t)
    (λ t. lt-leb 11 (min n 11) (omega (arith, leb-false 11 n t)) ∙ sym t)

and_assoc : (a b c : Bool) → (a && b && c) ≡ (a && (b && c))
and_assoc true b c = refl
and_assoc false b c = refl

counted : (b : Back) (c : Corrected) (f s : List ℤ) → gap_at b.last c.at ≡ false
    → (pushed_back b c f s).back.eq.sums.count ≡ b.eq.sums.count + (when trains_back b then 1 else 0)
unfolding pushed_back taken_by trains_back trains_eq pushed_eq when◌then◌else◌
counted b c f s g =
    let n = b.metas.count in
    let e = b.eq in
    let p = is_sync (part_of b.metas.first.j) in
    by_test (ltb n 5) (λ t. rw (no_gap b c.at g, t, lt-leb 5 n (ltb-true n 5 t)) (omega arith))
    (λ t.
    rw (no_gap b c.at g, t, le-leb 5 n (ltb-false n 5 t), and_assoc p e.opened (leb 11 (e.filled + 1)), ← (full_line (e.filled + 1)))
    (trained_count (pushed_eq e c.y.i c.y.q) b.metas.first f s))

pub count_theorem : (b : Back) (cs : List Corrected) (f s : List ℤ) → b.metas.count ≤ 5 → unbroken b.last cs ≡ true
    → (after_all b cs f s).eq.sums.count ≡ b.eq.sums.count + trained_in b cs f s
unfolding after_all unbroken trained_in
count_theorem b [] f s h u = omega arith
count_theorem b (c ∷ cs) f s h u =
    let p = pushed_back b c f s in
    let k = and_both (not (gap_at b.last c.at)) (unbroken (Some c.at) cs) u in
    let g = not_true (gap_at b.last c.at) k.0 in
    let t = taken_step b c f s h g in
    omega (arith, count_theorem p.back cs f s (omega (arith, t.count)) (rw t.last k.1), counted b c f s g)
