-- From the 30th symbol of a slot on nothing trains: each shifts the line and lets out the one five before it. Assumes nothing.
use Rattle.std.specs.Prelude.{Some}
use Prim.Native.Nat.{ℕ, zero, suc, ◌+◌, ◌-◌, ◌≤◌, ◌<◌, min}
use mathlib.Core.Bool.{false}
use mathlib.Core.List.{List, ◌∷◌, ◌++◌, append_assoc, append-nil}
use mathlib.Core.Path.{◌≡◌, refl, sym, ap, ap₂, subst, ◌∙◌}
use native.Mathlib.Omega.{arith}
use borrow.Author.Tests.{leb-true, leb-false, le-ltb, lt-ltb}
use lib.Dec.{leb, lit≤}
use lib.IntN.{ℤ}
use lib.ListN.{length, length-append}
use Rattle.laws.specs.Choice.{when◌then◌else◌}
use Rattle.laws.specs.Ranges.{firsts}
use Rattle.laws.proofs.Tests.{by_test, if_either}
use Rattle.phase.specs.declared.Corrected.{Corrected}
use Rattle.phase.specs.declared.WholeSlot.{WholeSlot}
use Rattle.phase.specs.Phase.{corrected_of}
use Rattle.eq_fir.specs.Fir.{line_after, output_of}
use Rattle.eq_fir.specs.Rows.{output_by, rows_of}
use Rattle.eq_fir.proofs.Filter.{rows_output}
use Rattle.eq.specs.declared.Equaliser.{Equaliser}
use Rattle.eq.specs.Eq.{output_at, pushed_eq, started_eq}
use Rattle.frame_map.specs.Map.{part_of}
use Rattle.frame_line.specs.declared.Metas.{Metas}
use Rattle.frame_line.specs.Line.{gap_at, meta_of, moved, no_metas}
use Rattle.frame.specs.declared.AlignedSymbol.{AlignedSymbol}
use Rattle.frame.specs.declared.Back.{Back}
use Rattle.frame.specs.Align.{equalised_by, joined_to, pushed_back, restarted_back, started_back, taken_by}
use Rattle.frame.specs.Stretch.{after_all}
use Rattle.frame.proofs.Laws.{untrained}
use Rattle.frame.proofs.Theorems.{no_gap}
use Rattle.receiver_slot.specs.declared.Points.{Points}
use Rattle.receiver_slot.specs.Aligned.Between.{none}
use Rattle.receiver_slot.specs.Ranges.{BackOk}
use Rattle.receiver_slot.specs.Slot.{aligned_by, corrected_all, soft_all, soft_of, written_on}
use Rattle.receiver_slot.specs.Steps.{back_at, ended_of, line_on, meta_at, pushed_at, put_at, soft_on, soft_to}
use Rattle.receiver_slot.proofs.Aligned.{firsts_cons, joined_last}
use Rattle.receiver_slot.proofs.Filling.{Filling, filling_step, five_pushed}
use Rattle.receiver_slot.proofs.Full.{begins, corrected_at, corrected_j, line_few}
use Rattle.receiver_slot.proofs.Steps.{back_none, back_step, soft_given, soft-step, written_more}

-- ---- a gap before the first symbol has been seen to
after-joined : (b : Back) (c : Corrected) (rest : List Corrected) (f s : List ℤ) → after_all b (c ∷ rest) f s ≡ after_all (joined_to b c.at) (c ∷ rest) f s
unfolding after_all pushed_back
after-joined b c rest f s = rw (no_gap (joined_to b c.at) c.at (joined_last b c.at))

back_joined : (b : Back) (w : WholeSlot) (table store f s : List ℤ) (n : ℕ) →
    back_at (suc n) b w table store f s ≡ back_at (suc n) (joined_to b w.head.at) w table store f s
unfolding back_at corrected_all
back_joined b w table store f s n =
    let g = corrected_of w table store in
    let e : (g 0).at ≡ w.head.at = corrected_at w table store 0 ∙ omega arith in
    rw (firsts_cons g n)
    (after-joined b (g 0) _ f s ∙ ap (λ (at : ℕ). after_all (joined_to b at) (g 0 ∷ firsts (λ (j : ℕ). g (suc j)) n) f s) e)

restarted-begins : (at : ℕ) (b : Back) → Filling at (restarted_back b).metas.count (restarted_back b).eq.filled 0 (restarted_back b)
unfolding restarted_back started_back started_eq no_metas gap_at
restarted-begins at b = begins at (restarted_back b) (none refl) (omega arith) refl

joined-begins : (at : ℕ) (b : Back) → BackOk b → Filling at (joined_to b at).metas.count (joined_to b at).eq.filled 0 (joined_to b at)
unfolding joined_to
joined-begins at b h =
    if_either (λ (x : Back). Filling at x.metas.count x.eq.filled 0 x) (gap_at b.last at) (restarted_back b) b
    (λ t. restarted-begins at b)
    (λ t. begins at b h.metas (line_few b h.filled) t)

-- ---- a back that nothing trains any more
pub record Settled (at n : ℕ) (b : Back) : Type 0 where
  pub five : b.metas.count ≡ 5
  pub full : b.eq.filled ≡ 11
  pub follows : gap_at b.last (at + n) ≡ false
  pub first : b.metas.first.j ≡ n - 5

settles : (at c l n : ℕ) (b : Back) → 29 ≤ n → n ≤ 9296 → Filling at c l n b → Settled at n b
settles at c l n b h k p =
    let five : b.metas.count ≡ 5 = omega (arith, p.count, h) in
    record { five = five; full = omega (arith, p.filled, h); follows = p.follows; first = omega (arith, p.first (omega (arith, five)), five, h, k) }

settled_back : (at n : ℕ) (b : Back) (c : Corrected) (f s : List ℤ) → 29 ≤ n → c.at ≡ at + n → Settled at n b →
    (pushed_back b c f s).back ≡ record { eq = pushed_eq b.eq c.y.i c.y.q; metas = moved b.metas (meta_of c); last = Some c.at }
settled_back at n b c f s h e p =
    let g : gap_at b.last c.at ≡ false = rw e p.follows in
    five_pushed b c f s g (omega (arith, p.five))
    ∙ ap (λ (d : Equaliser). record { eq = d; metas = moved b.metas (meta_of c); last = Some c.at })
    (untrained (pushed_eq b.eq c.y.i c.y.q) b.metas.first f s (omega (arith, p.first, h)))

settled_out : (at n : ℕ) (b : Back) (c : Corrected) (f s : List ℤ) → 29 ≤ n → c.at ≡ at + n → Settled at n b →
    (pushed_back b c f s).out ≡ Some (record { meta = b.metas.first; z = output_of b.eq.taps (line_after b.eq.line c.y.i c.y.q) })
unfolding pushed_back taken_by equalised_by output_at pushed_eq when◌then◌else◌
settled_out at n b c f s h e p =
    let g : gap_at b.last c.at ≡ false = rw e p.follows in
    rw (no_gap b c.at g, le-ltb b.metas.count 5 (omega (arith, p.five)), lt-ltb 5 (min (b.eq.filled + 1) 11) (omega (arith, p.full)))

-- ---- along a slot
record Held (e d : Equaliser) : Type 0 where
  pub taps : d.taps ≡ e.taps
  pub from : d.from ≡ e.from
  pub opened : d.opened ≡ e.opened
  pub sums : d.sums ≡ e.sums

held_on : (e d : Equaliser) (i q : ℤ) → Held e d → Held e (pushed_eq d i q)
unfolding pushed_eq
held_on e d i q h = record { taps = h.taps; from = h.from; opened = h.opened; sums = h.sums }

eq_held : (e d : Equaliser) → d.filled ≡ 11 → Held e d →
    d ≡ record { line = d.line; filled = 11; taps = e.taps; from = e.from; opened = e.opened; sums = e.sums }
eq_held e d p h = λ i. record { line = d.line; filled = p i; taps = h.taps i; from = h.from i; opened = h.opened i; sums = h.sums i }

module _ (b : Back) (w : WholeSlot) (table store f s : List ℤ) (ok : BackOk b) where
  abbrev gone : ℕ → Back
  gone n = back_at n b w table store f s

  abbrev cs : ℕ → Corrected
  cs n = corrected_of w table store n

  abbrev from : Back
  from = joined_to b w.head.at

  abbrev begun : ℕ → Back
  begun n = back_at n from w table store f s

  fills : (n : ℕ) → n ≤ 9296 → Filling w.head.at from.metas.count from.eq.filled n (begun n)
  fills zero h =
      subst (Filling w.head.at from.metas.count from.eq.filled 0) (sym (back_none from w table store f s)) (joined-begins w.head.at b ok)
  fills (suc n) h =
      subst (Filling w.head.at from.metas.count from.eq.filled (suc n)) (sym (begun-step n))
      (filling_step w.head.at from.metas.count from.eq.filled n (begun n) (cs n) f s h (corrected_at w table store n) (corrected_j w table store n)
      (fills n (omega arith)))
    where
      begun-step : (n : ℕ) → begun (suc n) ≡ (pushed_back (begun n) (cs n) f s).back
      begun-step n = unfold pushed_at in back_step from w table store f s n

  pub settled_at : (n : ℕ) → 29 ≤ n → n ≤ 9296 → Settled w.head.at n (gone n)
  settled_at zero h k = absurd (omega (arith, h))
  settled_at (suc n) h k =
      subst (Settled w.head.at (suc n)) (sym (back_joined b w table store f s n))
      (settles w.head.at from.metas.count from.eq.filled (suc n) (begun (suc n)) h k (fills (suc n) k))

  pub back_on : (n : ℕ) → 29 ≤ n → n < 9296 →
      gone (suc n) ≡ record { eq = pushed_eq (gone n).eq (cs n).y.i (cs n).y.q; metas = moved (gone n).metas (meta_of (cs n)); last = Some (cs n).at }
  unfolding pushed_at
  back_on n h k =
      back_step b w table store f s n
      ∙ settled_back w.head.at n (gone n) (cs n) f s h (corrected_at w table store n) (settled_at n h (omega (arith, k)))

  pub line_on_lem : (n : ℕ) → 29 ≤ n → n < 9296 → (gone (suc n)).eq.line ≡ line_after (gone n).eq.line (cs n).y.i (cs n).y.q
  unfolding pushed_eq
  line_on_lem n h k = ap (λ (x : Back). x.eq.line) (back_on n h k)

  -- the soft bits of what comes out
  pub soft-on : (p : Points) (n : ℕ) → 29 ≤ n → n < 9296 →
      soft_all p (aligned_by (pushed_at n b w table store f s).out) ≡ soft_of (part_of (n - 5)) p (output_of (gone n).eq.taps (line_after (gone n).eq.line (cs n).y.i (cs n).y.q))
  unfolding pushed_at
  soft-on p n h k =
      let q = settled_at n h (omega (arith, k)) in
      let a : AlignedSymbol = record { meta = (gone n).metas.first; z = output_of (gone n).eq.taps (line_after (gone n).eq.line (cs n).y.i (cs n).y.q) } in
      rw (settled_out w.head.at n (gone n) (cs n) f s h (corrected_at w table store n) q)
      (soft_given p a ∙ ap (λ (j : ℕ). soft_of (part_of j) p a.z) q.first)

  held_at : (n : ℕ) → 29 ≤ n → n ≤ 9296 → Held (gone 29).eq (gone n).eq
  held_at zero h k = absurd (omega (arith, h))
  held_at (suc n) h k =
      by_test (leb 29 n)
      (λ t.
      let l = leb-true 29 n t in
      subst (λ (x : Back). Held (gone 29).eq x.eq) (sym (back_on n l k))
      (held_on (gone 29).eq (gone n).eq (cs n).y.i (cs n).y.q (held_at n l (omega (arith, k)))))
      (λ t.
      let e : 29 ≡ suc n = omega (arith, h, leb-false 29 n t) in
      subst (λ (i : ℕ). Held (gone 29).eq (gone i).eq) e (record { taps = refl; from = refl; opened = refl; sums = refl }))

  pub taps-at : (n : ℕ) → 29 ≤ n → n ≤ 9296 → (gone n).eq.taps ≡ (gone 29).eq.taps
  taps-at n h k = (held_at n h k).taps

  meta-is : (j : ℕ) → meta_of (cs j) ≡ meta_at w.head j
  unfolding meta_of meta_at corrected_of
  meta-is j = refl

  -- ---- the last five wait
  metas-on : (n : ℕ) → 29 ≤ n → n < 9296 → (gone (suc n)).metas ≡ moved (gone n).metas (meta_at w.head n)
  metas-on n h k = ap (λ (x : Back). x.metas) (back_on n h k) ∙ ap (moved (gone n).metas) (meta-is n)

  abbrev next : ℕ → Metas → Metas
  next n x = moved x (meta_at w.head n)

  metas-end : (gone 9296).metas ≡ next 9295 (next 9294 (next 9293 (next 9292 (next 9291 (gone 9291).metas))))
  metas-end =
      metas-on 9295 (lit≤ tt) (lit≤ tt)
      ∙ ap (next 9295)
      (metas-on 9294 (lit≤ tt) (lit≤ tt)
      ∙ ap (next 9294)
      (metas-on 9293 (lit≤ tt) (lit≤ tt) ∙ ap (next 9293) (metas-on 9292 (lit≤ tt) (lit≤ tt) ∙ ap (next 9292) (metas-on 9291 (lit≤ tt) (lit≤ tt)))))

  metas-five : (gone 9296).metas ≡ (ended_of (gone 29) (gone 9296).eq.line w.head).metas
  unfolding ended_of moved
  metas-five =
      metas-end
      ∙ ap (λ (n : ℕ). record { count = n; first = meta_at w.head 9291; second = meta_at w.head 9292; third = meta_at w.head 9293; fourth = meta_at w.head 9294; fifth = meta_at w.head 9295 })
      (settled_at 9291 (lit≤ tt) (lit≤ tt)).five

  last-is : (gone 9296).last ≡ Some (w.head.at + 9295)
  last-is = ap (λ (x : Back). x.last) (back_on 9295 (lit≤ tt) (lit≤ tt)) ∙ ap Some (corrected_at w table store 9295)

  pub ended_is : gone 9296 ≡ ended_of (gone 29) (gone 9296).eq.line w.head
  unfolding ended_of
  ended_is =
      let e = eq_held (gone 29).eq (gone 9296).eq (settled_at 9296 (lit≤ tt) (lit≤ tt)).full (held_at 9296 (lit≤ tt) (lit≤ tt)) in
      λ i. record { eq = e i; metas = metas-five i; last = last-is i }

  -- ---- lines and soft bits by the line alone
  pub line-tie : (k : ℕ) → 29 + k ≤ 9296 → line_on k (gone 29).eq.line w table store ≡ (gone (29 + k)).eq.line
  unfolding line_on
  line-tie zero h = ap (λ (n : ℕ). (gone n).eq.line) {x = 29} (omega arith)
  line-tie (suc k) h =
      let e : suc (29 + k) ≡ 29 + suc k = omega arith in
      rw (line-tie k (omega (arith, h))) (sym (line_on_lem (29 + k) (omega arith) (omega (arith, h)))) ∙ ap (λ (n : ℕ). (gone n).eq.line) e

  module _ (p : Points) (long : length (gone 29).eq.taps ≡ 22) where
    abbrev rows : List ℤ
    rows = rows_of (gone 29).eq.taps

    abbrev more : ℕ → List ℤ
    more k = soft_on k p rows (gone 29).eq.line w table store

    soft-more : (k : ℕ) → 29 + suc k ≤ 9296 → soft_all p (aligned_by (pushed_at (29 + k) b w table store f s).out) ≡
        soft_of (part_of (24 + k)) p (output_by rows (line_on (suc k) (gone 29).eq.line w table store))
    unfolding line_on
    soft-more k h =
        let e : 29 + k - 5 ≡ 24 + k = omega arith in
        soft-on p (29 + k) (omega arith) (omega (arith, h))
        ∙ rw (e, taps-at (29 + k) (omega arith) (omega (arith, h)), line-tie k (omega (arith, h)))
        (ap (soft_of (part_of (24 + k)) p) (sym (rows_output (gone 29).eq.taps (line_after (gone (29 + k)).eq.line (cs (29 + k)).y.i (cs (29 + k)).y.q) long)))

    pub soft-tie : (k : ℕ) → 29 + k ≤ 9296 → soft_to (29 + k) p b w table store f s ≡ soft_to 29 p b w table store f s ++ more k
    unfolding soft_on
    soft-tie zero h = ap (λ (n : ℕ). soft_to n p b w table store f s) {x = 29 + 0} (omega arith) ∙ sym (append-nil (soft_to 29 p b w table store f s))
    soft-tie (suc k) h =
        let e : 29 + suc k ≡ suc (29 + k) = omega arith in
        let v = soft_of (part_of (24 + k)) p (output_by rows (line_on (suc k) (gone 29).eq.line w table store)) in
        ap (λ (n : ℕ). soft_to n p b w table store f s) e
        ∙ soft-step b w table store f s p (29 + k)
        ∙ ap₂ (λ (x y : List ℤ). x ++ y) (soft-tie k (omega (arith, h))) (soft-more k h)
        ∙ append_assoc (soft_to 29 p b w table store f s) (more k) v

  -- ---- the whole slot, by the back x after 29 symbols
  pub end_back : (x : Back) → x ≡ gone 29 → ended_of x (line_on 9267 x.eq.line w table store) w.head ≡ gone 9296
  end_back x e = rw (e, line-tie 9267 (lit≤ tt)) (sym ended_is)

  module _ (p : Points) (x : Back) (e : x ≡ gone 29) (long : length x.eq.taps ≡ 22) (rows : List ℤ) (r : rows ≡ rows_of x.eq.taps) (o : ℕ)
      (h : o ≡ length (soft_to 29 p b w table store f s)) where
    all-softs : soft_to 9296 p b w table store f s ≡ soft_to 29 p b w table store f s ++ soft_on 9267 p (rows_of (gone 29).eq.taps) (gone 29).eq.line w table store
    all-softs = soft-tie p (subst (λ (y : Back). length y.eq.taps ≡ 22) e long) 9267 (lit≤ tt)

    pub end-room : o + length (soft_on 9267 p rows x.eq.line w table store) ≡ length (soft_to 9296 p b w table store f s)
    end-room =
        rw (r, e, h)
        (sym (ap (λ (l : List ℤ). length l) all-softs ∙ length-append (soft_to 29 p b w table store f s) (soft_on 9267 p (rows_of (gone 29).eq.taps) (gone 29).eq.line w table store)))

    pub end-soft : (soft old : List ℤ) → soft ≡ written_on (soft_to 29 p b w table store f s) old →
        put_at o (soft_on 9267 p rows x.eq.line w table store) soft ≡ written_on (soft_to 9296 p b w table store f s) old
    end-soft soft old g =
        rw (r, e, h, g)
        (written_more (soft_to 29 p b w table store f s) (soft_on 9267 p (rows_of (gone 29).eq.taps) (gone 29).eq.line w table store) old
        ∙ ap (λ (l : List ℤ). written_on l old) (sym all-softs))
