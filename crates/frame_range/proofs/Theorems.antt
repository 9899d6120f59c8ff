-- Calls keep what is true of an alignment from new on. Each statement stands above its proof. Assumes nothing.
use Rattle.std.specs.Prelude.{Option, None, Some, Ok}
use Prim.Native.Nat.{ℕ, ◌+◌, ◌*◌, ◌^◌, ◌≤◌, ◌<◌}
use native.Mathlib.Omega.{arith}
use mathlib.Core.Bool.{Bool, true, false, not, ◌&&◌, ◌||◌}
use mathlib.Core.List.{List, [], ◌∷◌}
use mathlib.Core.Path.{◌≡◌, refl, sym}
use borrow.Author.Tests.{le-leb, lt-leb, leb-true, leb-false, eqb-true, eqb-false, lt-ltb, ltb-true, ltb-false}
use lib.Dec.{eqb, leb, ltb}
use lib.IntN.{ℤ, pos, neg_ℤ, nat_abs, ◌*ℤ◌, +ℤ_idl}
use lib.ListN.{get_or}
use mir.Syntax.{w16}
use mir.Val.{SFits}
use Rattle.laws.specs.Choice.{when◌then◌else◌}
use Rattle.laws.proofs.Tests.{by_test, and_both, if_both, if_either}
use Rattle.laws.proofs.Size.{Num, times, less, lit, fits}
use Rattle.refusal.proofs.Answered.{answered_either}
use Rattle.sync_corr.specs.Correlate.{ones_of}
use Rattle.sync_heads.specs.declared.Word.{Word}
use Rattle.sync_heads.specs.declared.Word.TheVariants.{Ssync, Fsync, NotFsync}
use Rattle.phase.specs.declared.Corrected.{Corrected}
use Rattle.eq.specs.declared.Equaliser.{Equaliser}
use Rattle.eq.specs.Eq.{started_eq, new_eq, pushed_eq, trains_eq, trained_eq, with_sums}
use Rattle.eq_range.specs.Coherent.{Coherent}
use Rattle.eq_range.proofs.Kept.{started_coherent, pushed_coherent, trained_coherent, coherent_in_range, no_refusal}
use Rattle.frame_map.specs.Reference.{scaled_of, reference_of}
use Rattle.frame_map.proofs.Laws.{part_sync, entry-one}
use Rattle.frame_line.specs.declared.Meta.{Meta}
use Rattle.frame_line.specs.declared.Metas.{Metas}
use Rattle.frame_line.specs.Line.{blank, no_metas, meta_of, placed_at, joined, moved, gap_at}
use Rattle.frame_line.specs.Ranges.{meta_in_range, place_in_range, metas_in_range, last_in_range}
use Rattle.frame.specs.declared.Back.{Back}
use Rattle.frame.specs.Align.{started_back, new_back, restarted_back, joined_to, trained_part, trained_at, taken_by, pushed_back}
use Rattle.frame.specs.Ranges.{back_in_range, MetaOk, TakeOk}
use Rattle.frame.specs.Answers.{push_refusal, push_answer, back_of}
use Rattle.frame.proofs.Laws.{untrained, accepted, push_ok}
use Rattle.frame_range.specs.Coherent.{is_there, up_to, CoherentBack, Short, AllShort, none, also, back_after}

not_false : (t : Bool) → not t ≡ false → t ≡ true
not_false true e = refl
not_false false e = sym e

-- ---- waiting symbols stay in range
or_true : (t : Bool) → (t || true) ≡ true
or_true true = refl
or_true false = refl

place_kept : (n k : ℕ) (m old : Meta) → meta_in_range n m ≡ true → place_in_range n k old ≡ true → place_in_range (n + 1) k (placed_at n k m old) ≡ true
unfolding place_in_range placed_at when◌then◌else◌
place_kept n k m old hm h =
    by_test (eqb n k) (λ t. rw (t, rw (eqb-true n k t) at hm) (or_true (leb (n + 1) k)))
    (λ t.
    by_test (leb (n + 1) k) (λ u. rw (t, u))
    (λ u. rw (t, u) (rw (lt-leb n k (omega (arith, leb-false (n + 1) k u, eqb-false n k t))) at h)))

-- a place that is looked at, and any place
looked : (n k : ℕ) (m : Meta) → k < n → place_in_range n k m ≡ true → meta_in_range k m ≡ true
unfolding place_in_range
looked n k m l h = rw (lt-leb n k l) at h

-- a symbol of one place stands well at the place before
earlier : (k : ℕ) (m : Meta) → meta_in_range (k + 1) m ≡ true → meta_in_range k m ≡ true
unfolding meta_in_range
earlier k m h =
    let a = and_both (leb (k + 1) m.at && ltb m.at (2 ^ 62)) (leb m.j 9295) h in
    let b = and_both (leb (k + 1) m.at) (ltb m.at (2 ^ 62)) a.0 in
    rw (le-leb k m.at (omega (arith, leb-true (k + 1) m.at b.0)), b.1, a.1)

holds : (n k : ℕ) (m : Meta) → meta_in_range k m ≡ true → place_in_range n k m ≡ true
unfolding place_in_range
holds n k m h = rw h (or_true (leb n k))

record Places (w : Metas) : Type 0 where
  pub count : w.count ≤ 5
  pub first : place_in_range w.count 0 w.first ≡ true
  pub second : place_in_range w.count 1 w.second ≡ true
  pub third : place_in_range w.count 2 w.third ≡ true
  pub fourth : place_in_range w.count 3 w.fourth ≡ true
  pub fifth : place_in_range w.count 4 w.fifth ≡ true

places : (w : Metas) → metas_in_range w ≡ true → Places w
unfolding metas_in_range
places w h =
    let n = w.count in
    let a = leb n 5 in
    let b = place_in_range n 0 w.first in
    let c = place_in_range n 1 w.second in
    let d = place_in_range n 2 w.third in
    let e = place_in_range n 3 w.fourth in
    let g = place_in_range n 4 w.fifth in
    let k5 = and_both (a && b && c && d && e) g h in
    let k4 = and_both (a && b && c && d) e k5.0 in
    let k3 = and_both (a && b && c) d k4.0 in
    let k2 = and_both (a && b) c k3.0 in
    let k1 = and_both a b k2.0 in
    record { count = leb-true n 5 k1.0; first = k1.1; second = k2.1; third = k3.1; fourth = k4.1; fifth = k5.1 }

placed : (w : Metas) → Places w → metas_in_range w ≡ true
unfolding metas_in_range
placed w p = rw (le-leb w.count 5 p.count, p.first, p.second, p.third, p.fourth, p.fifth)

joined-kept : (w : Metas) (m : Meta) → meta_in_range w.count m ≡ true → metas_in_range w ≡ true → w.count < 5 → metas_in_range (joined w m) ≡ true
unfolding joined
joined-kept w m hm h l =
    let p = places w h in
    let n = w.count in
    placed (joined w m)
    (record {
      count = omega (arith, l);
      first = place_kept n 0 m w.first hm p.first;
      second = place_kept n 1 m w.second hm p.second;
      third = place_kept n 2 m w.third hm p.third;
      fourth = place_kept n 3 m w.fourth hm p.fourth;
      fifth = place_kept n 4 m w.fifth hm p.fifth;
    })

moved-kept : (w : Metas) (m : Meta) → meta_in_range 4 m ≡ true → metas_in_range w ≡ true → 5 ≤ w.count → metas_in_range (moved w m) ≡ true
unfolding moved
moved-kept w m hm h l =
    let p = places w h in
    let n = w.count in
    placed (moved w m)
    (record {
      count = p.count;
      first = holds n 0 w.second (earlier 0 w.second (looked n 1 w.second (omega (arith, l)) p.second));
      second = holds n 1 w.third (earlier 1 w.third (looked n 2 w.third (omega (arith, l)) p.third));
      third = holds n 2 w.fourth (earlier 2 w.fourth (looked n 3 w.fourth (omega (arith, l)) p.fourth));
      fourth = holds n 3 w.fifth (earlier 3 w.fifth (looked n 4 w.fifth (omega (arith, l)) p.fifth));
      fifth = holds n 4 m hm;
    })

-- ---- a reference is of 16 bits
scaled_fits : (word : Word) (x y : ℤ) → nat_abs x ≤ 1 → nat_abs y ≤ 1 → SFits w16 (scaled_of word x y)
unfolding scaled_of
scaled_fits Ssync x y hx hy = let n : Num y y 1 = record { is = refl; size = hy } in fits w16 (times n (lit 724)) tt
scaled_fits Fsync x y hx hy = let n : Num x x 1 = record { is = refl; size = hx } in fits w16 (times n (lit 724)) tt
scaled_fits NotFsync x y hx hy =
    let n : Num x x 1 = record { is = refl; size = hx } in
    rw (← (+ℤ_idl (neg_ℤ (x *ℤ pos 724)))) (fits w16 (less (lit 0) (times n (lit 724))) tt)

one : (w : List ℤ) → ones_of w ≡ true → (j : ℕ) → j < 48 → nat_abs (get_or w j (pos 0)) ≤ 1
one w h j l = omega (arith, entry-one w h j l)

-- ---- an aligned symbol leaves a coherent equaliser, and the line as full
trained_kept : (e : Equaliser) (m : Meta) (f s : List ℤ) → Coherent e → MetaOk e m f s → Coherent (trained_at e m f s)
unfolding trained_at trained_part reference_of
trained_kept e m f s c ok =
    by_test (ltb m.j 24)
    (λ t.
    let l = ltb-true m.j 24 t in
    let a = m.j in
    let free : (trains_eq e && leb 4194304 e.sums.count) ≡ false = by_test (trains_eq e) (λ u. rw (u, lt-leb 4194304 e.sums.count ((ok.train t).sums u).count)) (λ u. rw u) in
    rw (part_sync a l)
    (trained_coherent e _ _ c
    (scaled_fits m.word _ _ (one f ok.first (2 * a) (omega (arith, l))) (one s ok.second (2 * a) (omega (arith, l))))
    (scaled_fits m.word _ _ (one f ok.first (2 * a + 1) (omega (arith, l))) (one s ok.second (2 * a + 1) (omega (arith, l))))
    (no_refusal e (coherent_in_range e c) free)))
    (λ t. rw (untrained e m f s (ltb-false m.j 24 t)) c)

pub trained_filled : (e : Equaliser) (m : Meta) (f s : List ℤ) → (trained_at e m f s).filled ≡ e.filled
unfolding trained_at trained_part trained_eq with_sums
trained_filled e m f s =
    by_test (ltb m.j 24)
    (λ t. rw (part_sync m.j (ltb-true m.j 24 t)) (if_both (λ (x : Equaliser). x.filled ≡ e.filled) (trains_eq e) _ e refl refl))
    (λ t. rw (untrained e m f s (ltb-false m.j 24 t)))

-- ---- starts
pub restarted_coherent : (b : Back) → CoherentBack (restarted_back b)
unfolding restarted_back started_back started_eq no_metas blank metas_in_range place_in_range meta_in_range last_in_range is_there up_to
restarted_coherent b = record { eq = started_coherent b.eq.taps b.eq.from; metas = refl; last = refl; fill = omega arith; there = refl; adjoin = omega arith }

joined_coherent : (b : Back) (at : ℕ) → CoherentBack b → CoherentBack (joined_to b at)
unfolding joined_to
joined_coherent b at c = if_both CoherentBack (gap_at b.last at) (restarted_back b) b (restarted_coherent b) c

-- ---- one symbol
waits : (k : ℕ) (c : Corrected) → k ≤ c.at → leb c.j 9295 ≡ true → last_in_range (Some c.at) ≡ true → meta_in_range k (meta_of c) ≡ true
unfolding meta_in_range meta_of last_in_range
waits k c a j l = rw (le-leb k c.at a, j, l)

-- a symbol that adjoins has all that wait before it
joined-before : (b : Back) (at : ℕ) → CoherentBack b → (joined_to b at).metas.count ≤ at
unfolding joined_to restarted_back started_back no_metas up_to gap_at
joined-before b at k = if_either (λ (x : Back). x.metas.count ≤ at) (gap_at b.last at) _ b (λ t. omega arith) (λ t. before b.last k.adjoin t)
  where
    before : (l : Option ℕ) → b.metas.count ≤ up_to l → gap_at l at ≡ false → b.metas.count ≤ at
    before None h t = omega (arith, h)
    before (Some a) h t = omega (arith, h, eqb-true (a + 1) at (not_false (eqb (a + 1) at) t))

taken_coherent : (b : Back) (c : Corrected) (f s : List ℤ) → CoherentBack b → Short c → b.metas.count ≤ c.at → leb c.j 9295 ≡ true → last_in_range (Some c.at) ≡ true → TakeOk b c f s → CoherentBack (taken_by b c f s).back
unfolding taken_by joined moved pushed_eq when◌then◌else◌ is_there up_to
taken_coherent b c f s k y ha hj hl ok =
    let e = pushed_eq b.eq c.y.i c.y.q in
    let ce : Coherent e = pushed_coherent b.eq c.y.i c.y.q k.eq y.i y.q in
    by_test (ltb b.metas.count 5)
    (λ t.
    let l = ltb-true b.metas.count 5 t in
    rw t
    (record {
      eq = ce;
      metas = joined-kept b.metas (meta_of c) (waits b.metas.count c ha hj hl) k.metas l;
      last = hl;
      fill = omega (arith, l, k.fill);
      there = sym (lt-ltb _ (b.metas.count + 1) (omega arith));
      adjoin = omega (arith, ha);
    }))
    (λ t.
    let l = ltb-false b.metas.count 5 t in
    rw t
    (record {
      eq = trained_kept e b.metas.first f s ce (ok.aligned l);
      metas = moved-kept b.metas (meta_of c) (waits 4 c (omega (arith, ha, l)) hj hl) k.metas l;
      last = hl;
      fill = rw (trained_filled e b.metas.first f s) (omega (arith, k.fill, (places b.metas k.metas).count));
      there = sym (lt-ltb 0 b.metas.count (omega (arith, l)));
      adjoin = omega (arith, ha);
    }))

below : (n m : ℕ) → leb m n ≡ false → ltb n m ≡ true
below n m h = lt-ltb n m (leb-false m n h)

pushed_coherent_back : (b : Back) (c : Corrected) (f s : List ℤ) → CoherentBack b → Short c → push_refusal b c f s ≡ Ok tt → CoherentBack (pushed_back b c f s).back
unfolding pushed_back last_in_range
pushed_coherent_back b c f s k y h =
    let a = accepted b c f s h in
    let t : ltb c.at (2 ^ 62) ≡ true = below c.at (2 ^ 62) a.before in
    let j : leb c.j 9295 ≡ true = le-leb c.j 9295 (omega (arith, ltb-true c.j 9296 a.place)) in
    taken_coherent (joined_to b c.at) c f s (joined_coherent b c.at k) y (joined-before b c.at k) j t (push_ok b c f s h).taken

-- ---- EVERY PUSH KEEPS IT, a refused one too; over any list of pushes with the same words
pub push_keeps : (b : Back) (c : Corrected) (f s : List ℤ) → CoherentBack b → Short c → CoherentBack (back_of (push_answer b c f s))
unfolding push_answer
push_keeps b c f s k y =
    answered_either (λ r. CoherentBack (back_of r)) (push_refusal b c f s) b (pushed_back b c f s) (λ t. pushed_coherent_back b c f s k y t) (λ why t. k)

pub calls_keep : (b : Back) (cs : List Corrected) (f s : List ℤ) → CoherentBack b → AllShort cs → CoherentBack (back_after b cs f s)
unfolding back_after
calls_keep b [] f s k none = k
calls_keep b (c ∷ cs) f s k (also y ys) = calls_keep (back_of (push_answer b c f s)) cs f s (push_keeps b c f s k y) ys

pub new_coherent : CoherentBack new_back
unfolding new_back restarted_back started_back new_eq started_eq
new_coherent = restarted_coherent new_back

-- ---- IT IS NEVER REFUSED FOR ITS NUMBERS
pub coherent_back : (b : Back) → CoherentBack b → back_in_range b ≡ true
unfolding back_in_range
coherent_back b k = rw (coherent_in_range b.eq k.eq, k.metas, k.last)

-- ---- WHAT COMES OUT IS THE EQUALISER'S: where five wait, the line gives an output
pub output_there : (b : Back) (i q : ℤ) → CoherentBack b → 5 ≤ b.metas.count → 5 < (pushed_eq b.eq i q).filled
unfolding pushed_eq
output_there b i q k h = omega (arith, k.fill, h)
