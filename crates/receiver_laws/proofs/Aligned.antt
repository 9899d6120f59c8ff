-- What a corrected slot comes out as: specs/Aligned. Each statement stands above its proof. Assumes nothing.
use Rattle.std.specs.Prelude.{Option, None, Some, Result, Ok, Err}
use Prim.Native.Nat.{ℕ, zero, suc, ◌+◌, ◌≤◌, ◌<◌, min}
use Rattle.angles.specs.declared.Symbol.{Symbol}
use Rattle.eq.specs.declared.Equaliser.{Equaliser}
use Rattle.eq.specs.Eq.{output_at, pushed_eq, started_eq, trained_eq, trains_eq, with_sums}
use Rattle.eq_fir.specs.Fir.{line_after, no_line, output_of}
use Rattle.frame.specs.Align.{equalised_by, joined_to, pushed_back, restarted_back, started_back, taken_by, trained_at, trained_part}
use Rattle.frame.specs.declared.AlignedSymbol.{AlignedSymbol}
use Rattle.frame.specs.declared.Back.{Back}
use Rattle.frame.specs.declared.Pushed.{Pushed}
use Rattle.frame.specs.Stretch.{after_all}
use Rattle.frame_line.proofs.Theorems.{waiting_length}
use Rattle.frame_line.specs.declared.Meta.{Meta}
use Rattle.frame_line.specs.Line.{gap_at, joined, meta_of, moved, no_metas}
use Rattle.frame_line.specs.Waiting.{waiting_of}
use Rattle.refusal.specs.declared.Refusal.{Refusal}
use Rattle.frame_map.specs.declared.SlotPart.{SlotPart}
use Rattle.frame_map.specs.declared.SlotPart.TheVariants.{Sync, Pilot, Main, Tmcc}
use Rattle.frame_map.specs.Map.{part_of}
use Rattle.laws.proofs.Lists.{length-firsts}
use Rattle.laws.proofs.Tests.{by_test, if_both, if_either, never}
use Rattle.laws.specs.Choice.{if_no, if_yes}
use Rattle.laws.specs.Ranges.{firsts}
use Rattle.phase.specs.declared.Corrected.{Corrected}
use Rattle.phase.specs.declared.WholeSlot.{WholeSlot}
use Rattle.phase.specs.Phase.{corrected_of}
use Rattle.receiver_slot.specs.declared.Points.{Points}
use Rattle.receiver_slot.specs.Slot.{aligned_all, aligned_by, corrected_all, no_run, runs_of, taps_for, waiting_before}
use Rattle.receiver_slot.specs.Aligned.{run_by}
use Rattle.receiver_slot.proofs.Rest.{line_after_lem}
use Rattle.receiver_slot.proofs.Aligned.{body_is, firsts_cons, joined_few, run_count, tail-is}
use Rattle.receiver_laws.specs.Aligned.{BeginsWith, EqualisedAt, Filled, In, RunsAre}
use Rattle.receiver_laws.specs.Aligned.In.{here, there}
use borrow.Author.Tests.{lt-ltb, ltb-false, ltb-true}
use lib.Dec.{ltb}
use lib.IntN.{ℤ}
use lib.ListN.{take}
use mathlib.Core.Bool.{Bool, false, true}
use mathlib.Core.List.{List, [], ◌∷◌, ◌++◌}
use mathlib.Core.Logic.{◌⊎◌, inl, inr, ⊎_elim}
use mathlib.Core.Path.{◌∙◌, ◌≡◌, ap, refl, sym}
use native.Mathlib.Omega.{arith}

some_begin : (p : Points) (m : Meta) (ms : List Meta) (n : ℕ) → 0 < n → BeginsWith p m (run_by p (take n (m ∷ ms)))
unfolding run_by
some_begin p m ms zero h = absurd (omega (arith, h))
some_begin p m ms (suc n) h = record { at_is = refl; j_is = refl; bits_are = refl }

waits-first : (p : Points) (b : Back) (at : ℕ) → 0 < (joined_to b at).metas.count → BeginsWith p b.metas.first (run_by p (waiting_of (joined_to b at).metas))
unfolding joined_to waiting_of restarted_back started_back no_metas
waits-first p b at =
    let w = b.metas in
    if_both (λ (x : Back). 0 < x.metas.count → BeginsWith p w.first (run_by p (waiting_of x.metas))) (gap_at b.last at) (restarted_back b) b
    (λ h. absurd (omega (arith, h)))
    (λ h. some_begin p w.first (w.second ∷ w.third ∷ w.fourth ∷ w.fifth ∷ []) w.count h)

first-begins : (p : Points) (g : ℕ → Meta) (n : ℕ) → BeginsWith p (g 0) (run_by p (firsts g (suc n)))
unfolding run_by
first-begins p g n = rw (firsts_cons g n) (record { at_is = refl; j_is = refl; bits_are = refl })

-- a run of none
run_none : (p : Points) (l : List Meta) → (run_by p l).count ≡ 0 → run_by p l ≡ no_run
unfolding run_by
run_none p [] e = refl
run_none p (m ∷ ms) e = absurd (omega (arith, e))

pub runs_are : (p : Points) (b : Back) (w : WholeSlot) (table store f s : List ℤ) → b.metas.count ≤ 5 →
    let cs = corrected_all 9296 w table store in
    RunsAre p b w table store (runs_of p (waiting_before b cs) (aligned_all b cs f s))
runs_are p b w table store f s h =
    let from = joined_to b w.head.at in
    let g : ℕ → Meta = λ (j : ℕ). meta_of (corrected_of w table store j) in
    let l = waiting_length from.metas (joined_few b w.head.at h) in
    let t = tail-is p b w table store f s h in
    let d = body_is p b w table store f s h in
    let k = run_count p (waiting_of from.metas) ∙ l in
    let z = first-begins p g 9290 in
    record {
      tail_count = rw t k;
      tail_none = rw t (run_none p (waiting_of from.metas));
      tail_begins = rw t (λ q. waits-first p b w.head.at (omega (arith, q, k)));
      body_count = rw d (run_count p (firsts g 9291) ∙ length-firsts g 9291);
      body_begins = rw d z;
      body_at = rw d (z.at_is ∙ first-at w table store);
      body_j = rw d (z.j_is ∙ first-j w table store);
    }
  where
    first-at : (w : WholeSlot) (table store : List ℤ) → (meta_of (corrected_of w table store 0)).at ≡ w.head.at
    first-at w table store = unfold meta_of corrected_of in omega arith

    first-j : (w : WholeSlot) (table store : List ℤ) → (meta_of (corrected_of w table store 0)).j ≡ 0
    first-j w table store = unfold meta_of corrected_of in refl

-- ---- WITH WHICH TAPS: a push trains or not, and keeps taps and line
record Keeps (e d : Equaliser) : Type 0 where
  pub line : d.line ≡ e.line
  pub filled : d.filled ≡ e.filled
  pub taps : d.taps ≡ e.taps

same : (e : Equaliser) → Keeps e e
same e = record { line = refl; filled = refl; taps = refl }

trained_keeps : (part : Result SlotPart Refusal) (e : Equaliser) (m : Meta) (f s : List ℤ) → Keeps e (trained_part part e m f s)
unfolding trained_part trained_eq with_sums
trained_keeps (Ok (Sync k)) e m f s = if_both (Keeps e) (trains_eq e) _ e (record { line = refl; filled = refl; taps = refl }) (same e)
trained_keeps (Ok (Pilot k)) e m f s = same e
trained_keeps (Ok (Main k)) e m f s = same e
trained_keeps (Ok (Tmcc k)) e m f s = same e
trained_keeps (Err n) e m f s = same e

joined_taps : (b : Back) (at : ℕ) → (joined_to b at).eq.taps ≡ b.eq.taps
unfolding joined_to restarted_back started_back started_eq
joined_taps b at = if_both (λ (x : Back). x.eq.taps ≡ b.eq.taps) (gap_at b.last at) (restarted_back b) b refl refl

joined_filled : (b : Back) (at : ℕ) → Filled b → Filled (joined_to b at)
unfolding joined_to restarted_back started_back started_eq no_line no_metas
joined_filled b at k = if_both Filled (gap_at b.last at) (restarted_back b) b (record { eleven = refl; few = omega arith; held = omega arith }) k

is_given : Option AlignedSymbol → Bool
is_given None = false
is_given (Some a) = true

value_of : Symbol → Option AlignedSymbol → Symbol
value_of y None = y
value_of y (Some a) = a.z

-- a symbol that is taken
module _ (b : Back) (c : Corrected) (f s : List ℤ) where
  abbrev with : Equaliser
  with = pushed_eq b.eq c.y.i c.y.q

  taken_taps : (taken_by b c f s).back.eq.taps ≡ b.eq.taps
  unfolding taken_by trained_at pushed_eq
  taken_taps =
      by_test (ltb b.metas.count 5) (λ t. rw (if_yes _ _ _ t)) (λ t. rw (if_no _ _ _ t) (trained_keeps (part_of b.metas.first.j) with b.metas.first f s).taps)

  taken-filled : Filled b → Filled (taken_by b c f s).back
  unfolding taken_by trained_at pushed_eq joined moved
  taken-filled k =
      let long = line_after_lem b.eq.line c.y.i c.y.q k.eleven in
      let t = trained_keeps (part_of b.metas.first.j) with b.metas.first f s in
      if_either (λ (x : Pushed). Filled x.back) (ltb b.metas.count 5) _ _
      (λ l. record { eleven = long; few = omega (arith, ltb-true b.metas.count 5 l); held = omega (arith, k.held, ltb-true b.metas.count 5 l) })
      (λ l. record { eleven = rw t.line long; few = k.few; held = omega (arith, k.held, k.few, t.filled) })

  taken_out : Filled b → (a : AlignedSymbol) → (taken_by b c f s).out ≡ Some a → a.z ≡ output_of b.eq.taps (line_after b.eq.line c.y.i c.y.q)
  unfolding taken_by output_at pushed_eq equalised_by is_given value_of
  taken_out k a =
      let o = output_of b.eq.taps (line_after b.eq.line c.y.i c.y.q) in
      if_either (λ (x : Pushed). x.out ≡ Some a → a.z ≡ o) (ltb b.metas.count 5) _ _
      (λ l e. absurd (never (sym (ap is_given e))))
      (λ l e.
      let six = lt-ltb 5 (min (b.eq.filled + 1) 11) (omega (arith, ltb-false b.metas.count 5 l, k.held)) in
      sym (ap (value_of c.y) e) ∙ ap (λ (u : Option Symbol). equalised_by u c.y) (if_yes _ (Some o) None six))

pushed_taps : (b : Back) (c : Corrected) (f s : List ℤ) (m : Meta) → taps_for (pushed_back b c f s).back m ≡ taps_for b m
unfolding taps_for pushed_back
pushed_taps b c f s m = taken_taps (joined_to b c.at) c f s ∙ joined_taps b c.at

pushed_filled : (b : Back) (c : Corrected) (f s : List ℤ) → Filled b → Filled (pushed_back b c f s).back
unfolding pushed_back
pushed_filled b c f s k = taken-filled (joined_to b c.at) c f s (joined_filled b c.at k)

pushed_out : (b : Back) (c : Corrected) (f s : List ℤ) → Filled b → (a : AlignedSymbol) → (pushed_back b c f s).out ≡ Some a
    → a.z ≡ output_of (taps_for b a.meta) (line_after (joined_to b c.at).eq.line c.y.i c.y.q)
unfolding taps_for pushed_back
pushed_out b c f s k a e =
    taken_out (joined_to b c.at) c f s (joined_filled b c.at k) a e
    ∙ ap (λ (t : List ℤ). output_of t (line_after (joined_to b c.at).eq.line c.y.i c.y.q)) (joined_taps b c.at)

-- an aligned symbol comes out of the first push, or of a later one
first_or : (o : Option AlignedSymbol) (rest : List AlignedSymbol) (a : AlignedSymbol) → In a (aligned_by o ++ rest) → (o ≡ Some a) ⊎ In a rest
unfolding aligned_by
first_or None rest a i = inr i
first_or (Some x) rest a here = inl refl
first_or (Some x) rest a (there i) = inr i

taps_first : (b : Back) (c : Corrected) (cs : List Corrected) (f s : List ℤ) → Filled b → (a : AlignedSymbol) → (pushed_back b c f s).out ≡ Some a → EqualisedAt b (c ∷ cs) f s a
unfolding after_all
taps_first b c cs f s k a e =
    let from = (joined_to b c.at).eq.line in
    record {
      before = [];
      c = c;
      after = cs;
      in_turn = refl;
      out = e;
      line = line_after from c.y.i c.y.q;
      line_is = refl;
      eleven = line_after_lem from c.y.i c.y.q (joined_filled b c.at k).eleven;
      is = pushed_out b c f s k a e;
    }

taps_later : (b : Back) (c : Corrected) (cs : List Corrected) (f s : List ℤ) (a : AlignedSymbol) → EqualisedAt (pushed_back b c f s).back cs f s a → EqualisedAt b (c ∷ cs) f s a
unfolding after_all
taps_later b c cs f s a t =
    record {
      before = c ∷ t.before;
      c = t.c;
      after = t.after;
      in_turn = ap (λ (l : List Corrected). c ∷ l) t.in_turn;
      out = t.out;
      line = t.line;
      line_is = t.line_is;
      eleven = t.eleven;
      is = t.is ∙ ap (λ (u : List ℤ). output_of u t.line) (pushed_taps b c f s a.meta);
    }

pub taps_for_lem : (b : Back) (cs : List Corrected) (f s : List ℤ) → Filled b → (a : AlignedSymbol) → In a (aligned_all b cs f s) → EqualisedAt b cs f s a
unfolding aligned_all
taps_for_lem b [] f s k a i = elim i [ ]
taps_for_lem b (c ∷ cs) f s k a i =
    let p = pushed_back b c f s in
    ⊎_elim (taps_first b c cs f s k a) (λ (t : In a (aligned_all p.back cs f s)). taps_later b c cs f s a (taps_for_lem p.back cs f s (pushed_filled b c f s k) a t))
    (first_or p.out (aligned_all p.back cs f s) a i)
