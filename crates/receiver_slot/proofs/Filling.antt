-- What one symbol of a slot makes of the alignment, where no gap is before it: who waits, how full the line is, whether it trains. Assumes nothing.
use Rattle.std.specs.Prelude.{Some}
use Prim.Native.Nat.{ℕ, suc, ◌+◌, ◌-◌, ◌%◌, ◌≤◌, ◌<◌, min}
use mathlib.Core.Bool.{Bool, true, false, not, ◌&&◌}
use mathlib.Core.List.{List, [], ◌∷◌}
use mathlib.Core.Logic.{◌⊎◌, inl, inr}
use mathlib.Core.Path.{◌≡◌, refl, sym, ap, subst, ◌∙◌}
use native.Mathlib.Omega.{arith}
use borrow.Author.Tests.{eq-eqb, eqb-true, eqb-false, le-leb, lt-leb, lt-ltb, le-ltb, ltb-true, ltb-false}
use lib.Dec.{eqb, leb, ltb}
use lib.IntN.{ℤ}
use Rattle.laws.specs.Choice.{when◌then◌else◌}
use Rattle.laws.proofs.Tests.{and_both, by_test, if_either}
use Rattle.phase.specs.declared.Corrected.{Corrected}
use Rattle.eq.specs.declared.Equaliser.{Equaliser}
use Rattle.eq.specs.Eq.{pushed_eq, trains_eq, trained_eq, with_sums}
use Rattle.eq_train.proofs.Tested.{and_true}
use Rattle.frame_map.specs.Map.{part_of}
use Rattle.frame_map.proofs.Laws.{part_sync}
use Rattle.frame_line.specs.declared.Meta.{Meta}
use Rattle.frame_line.specs.Line.{meta_of, placed_at, joined, moved, gap_at}
use Rattle.frame.specs.declared.Back.{Back}
use Rattle.frame.specs.Align.{is_sync, trained_part, trained_at, taken_by, pushed_back}
use Rattle.frame.specs.Answers.{trains_back}
use Rattle.frame.specs.Stretch.{after_all, unbroken, trained_in}
use Rattle.frame.proofs.Laws.{sync_places, untrained}
use Rattle.frame.proofs.Theorems.{no_gap, count_theorem}

-- number u from the five symbols before a slot's head on: the slot's own begin with 5
abbrev pub Place : ℕ → Meta → Type 0
Place u m = m.j ≡ (9291 + u) % 9296

-- after n symbols of the slot at a position: c waited and l were in the line before
pub record Filling (at c l n : ℕ) (b : Back) : Type 0 where
  pub count : b.metas.count ≡ min (c + n) 5
  pub filled : b.eq.filled ≡ min (l + n) 11
  pub follows : gap_at b.last (at + n) ≡ false
  pub first : 0 < b.metas.count → Place (n + 5 - b.metas.count + 0) b.metas.first
  pub second : 1 < b.metas.count → Place (n + 5 - b.metas.count + 1) b.metas.second
  pub third : 2 < b.metas.count → Place (n + 5 - b.metas.count + 2) b.metas.third
  pub fourth : 3 < b.metas.count → Place (n + 5 - b.metas.count + 3) b.metas.fourth
  pub fifth : 4 < b.metas.count → Place (n + 5 - b.metas.count + 4) b.metas.fifth

place_is : (u v : ℕ) (m : Meta) → u ≡ v → Place u m → Place v m
place_is u v m e p = subst (λ (x : ℕ). Place x m) e p

own_place : (n : ℕ) (c : Corrected) → n < 9296 → c.j ≡ n → Place (n + 5) (meta_of c)
unfolding meta_of
own_place n c l e = e ∙ omega arith

joined-place : (n c i : ℕ) (m old : Meta) → c < 5 → Place (n + 5) m → (i < c → Place (n + 5 - c + i) old) → i < c + 1 →
    Place (suc n + 5 - (c + 1) + i) (placed_at c i m old)
unfolding placed_at
joined-place n c i m old h p q l =
    if_either (Place (suc n + 5 - (c + 1) + i)) (eqb c i) m old
    (λ t. place_is (n + 5) (suc n + 5 - (c + 1) + i) m (own (eqb-true c i t)) p)
    (λ t. place_is (n + 5 - c + i) (suc n + 5 - (c + 1) + i) old (omega arith) (q (below (eqb-false c i t))))
  where
    own : c ≡ i → n + 5 ≡ suc n + 5 - (c + 1) + i
    own e = omega arith

    below : (c ≡ i → ⊥) → i < c
    below e = omega arith

moved-place : (n c i : ℕ) (m : Meta) → (suc i < c → Place (n + 5 - c + suc i) m) → c ≡ 5 → i < 4 → Place (suc n + 5 - c + i) m
moved-place n c i m q e l = place_is (n + 5 - c + suc i) (suc n + 5 - c + i) m (omega arith) (q (omega arith))

-- ---- a symbol without a gap before it
pub few_pushed : (b : Back) (c : Corrected) (f s : List ℤ) → gap_at b.last c.at ≡ false → b.metas.count < 5 →
    (pushed_back b c f s).back ≡ record { eq = pushed_eq b.eq c.y.i c.y.q; metas = joined b.metas (meta_of c); last = Some c.at }
unfolding pushed_back taken_by when◌then◌else◌
few_pushed b c f s g l = rw (no_gap b c.at g, lt-ltb b.metas.count 5 l)

pub five_pushed : (b : Back) (c : Corrected) (f s : List ℤ) → gap_at b.last c.at ≡ false → 5 ≤ b.metas.count →
    (pushed_back b c f s).back ≡ record {
      eq = trained_at (pushed_eq b.eq c.y.i c.y.q) b.metas.first f s;
      metas = moved b.metas (meta_of c);
      last = Some c.at;
    }
unfolding pushed_back taken_by when◌then◌else◌
five_pushed b c f s g l = rw (no_gap b c.at g, le-ltb b.metas.count 5 l)

-- a training leaves the line as full, and sums open or closed
record Keeps (e d : Equaliser) : Type 0 where
  pub filled : d.filled ≡ e.filled
  pub opened : d.opened ≡ e.opened

same : (e : Equaliser) → Keeps e e
same e = record { filled = refl; opened = refl }

trained_keeps : (e : Equaliser) (m : Meta) (f s : List ℤ) → Keeps e (trained_at e m f s)
unfolding trained_at trained_part trained_eq with_sums trains_eq
trained_keeps e m f s =
    by_test (ltb m.j 24)
    (λ t.
    rw (part_sync m.j (ltb-true m.j 24 t))
    (if_either (Keeps e) (trains_eq e) _ e (λ u. record { filled = refl; opened = sym (and_both e.opened (leb 11 e.filled) u).0 }) (λ u. same e)))
    (λ t. subst (Keeps e) (sym (untrained e m f s (ltb-false m.j 24 t))) (same e))

-- ---- one symbol more
pub filling_step : (at k l n : ℕ) (b : Back) (c : Corrected) (f s : List ℤ) → n < 9296 → c.at ≡ at + n → c.j ≡ n → Filling at k l n b →
    Filling at k l (suc n) (pushed_back b c f s).back
unfolding joined moved pushed_eq gap_at
filling_step at k l n b c f s h ea ej p =
    let w = b.metas in
    let k = w.count in
    let m = meta_of c in
    let g : gap_at b.last c.at ≡ false = rw ea p.follows in
    let o = own_place n c h ej in
    let e : c.at + 1 ≡ at + suc n = omega (arith, ea) in
    let after : not (eqb (c.at + 1) (at + suc n)) ≡ false = rw (eq-eqb (c.at + 1) (at + suc n) e) in
    by_test (ltb k 5)
    (λ t.
    let i = ltb-true k 5 t in
    rw (few_pushed b c f s g i)
    (record {
      count = omega (arith, p.count, i);
      filled = omega (arith, p.filled);
      follows = after;
      first = joined-place n k 0 m w.first i o p.first;
      second = joined-place n k 1 m w.second i o p.second;
      third = joined-place n k 2 m w.third i o p.third;
      fourth = joined-place n k 3 m w.fourth i o p.fourth;
      fifth = joined-place n k 4 m w.fifth i o p.fifth;
    }))
    (λ t.
    let i = ltb-false k 5 t in
    let five : k ≡ 5 = omega (arith, p.count, i) in
    rw (five_pushed b c f s g i)
    (record {
      count = omega (arith, p.count, i);
      filled = (trained_keeps (pushed_eq b.eq c.y.i c.y.q) w.first f s).filled ∙ omega (arith, p.filled);
      follows = after;
      first = λ x. moved-place n k 0 w.second p.second five (omega arith);
      second = λ x. moved-place n k 1 w.third p.third five (omega arith);
      third = λ x. moved-place n k 2 w.fourth p.fourth five (omega arith);
      fourth = λ x. moved-place n k 3 w.fifth p.fifth five (omega arith);
      fifth = λ x. place_is (n + 5) (suc n + 5 - k + 4) m (omega (arith, five)) o;
    }))

pub opened_step : (b : Back) (c : Corrected) (f s : List ℤ) → gap_at b.last c.at ≡ false → (pushed_back b c f s).back.eq.opened ≡ b.eq.opened
unfolding pushed_eq
opened_step b c f s g =
    by_test (ltb b.metas.count 5)
    (λ t. ap (λ (x : Back). x.eq.opened) (few_pushed b c f s g (ltb-true b.metas.count 5 t)))
    (λ t.
    ap (λ (x : Back). x.eq.opened) (five_pushed b c f s g (ltb-false b.metas.count 5 t))
    ∙ (trained_keeps (pushed_eq b.eq c.y.i c.y.q) b.metas.first f s).opened)

pub count_step : (b : Back) (c : Corrected) (f s : List ℤ) → b.metas.count ≤ 5 → gap_at b.last c.at ≡ false →
    (pushed_back b c f s).back.eq.sums.count ≡ b.eq.sums.count + (when trains_back b then 1 else 0)
unfolding after_all unbroken trained_in
count_step b c f s h g = omega (arith, count_theorem b (c ∷ []) f s h (rw g))

-- ---- which symbols train: numbers 10 to 28 of those that come to an empty line, 5 to 28 with a full one
abbrev pub From : ℕ → ℕ → Type 0
From l lo = ((l ≡ 0) × (lo ≡ 10)) ⊎ ((l ≡ 11) × (lo ≡ 5))

pub no_sync : (a p o l : Bool) → p ≡ false → (a && p && o && l) ≡ false
no_sync true p o l e = rw e
no_sync false p o l e = refl

pub no_line_lem : (a p o l : Bool) → l ≡ false → (a && p && o && l) ≡ false
no_line_lem true true true l e = e
no_line_lem true true false l e = refl
no_line_lem true false o l e = refl
no_line_lem false p o l e = refl

no_five : (a p o l : Bool) → a ≡ false → (a && p && o && l) ≡ false
no_five a p o l e = rw e

pub trains_in : (at c l lo n : ℕ) (b : Back) → From l lo → Filling at c l n b → lo ≤ n → n < 29 → trains_back b ≡ b.eq.opened
unfolding trains_back
trains_in at c l lo n b z p h u =
    let k = enough z in
    let q = p.first (omega (arith, p.count, k)) in
    let j : b.metas.first.j < 24 = omega (arith, q, p.count, k) in
    rw (
      le-leb 5 b.metas.count (omega (arith, p.count, k)),
      sync_places b.metas.first.j,
      lt-ltb b.metas.first.j 24 j,
      le-leb 11 (b.eq.filled + 1) (omega (arith, p.filled, k)),
    )
    (and_true b.eq.opened)
  where
    enough : From l lo → (10 ≤ l + n) × (5 ≤ n)
    enough (inl e) = (omega (arith, e.0, e.1), omega (arith, e.0, e.1))
    enough (inr e) = (omega (arith, e.0, e.1), omega (arith, e.0, e.1))

pub not_sync : (j : ℕ) → 24 ≤ j → is_sync (part_of j) ≡ false
not_sync j h = sync_places j ∙ le-ltb j 24 h

-- none or five waited before
pub trains_out : (at c l lo n : ℕ) (b : Back) → (c ≡ 0) ⊎ (c ≡ 5) → From l lo → Filling at c l n b → n < 9296 → (n < lo) ⊎ (29 ≤ n) → trains_back b ≡ false
unfolding trains_back
trains_out at c l lo n b w (inl e) p h (inl u) =
    no_line_lem (leb 5 b.metas.count) (is_sync (part_of b.metas.first.j)) b.eq.opened _ (lt-leb 11 (b.eq.filled + 1) (omega (arith, p.filled, e.0, e.1)))
trains_out at c l lo n b (inl v) (inr e) p h (inl u) =
    no_five (leb 5 b.metas.count) (is_sync (part_of b.metas.first.j)) b.eq.opened (leb 11 (b.eq.filled + 1))
    (lt-leb 5 b.metas.count (omega (arith, p.count, v, e.1)))
trains_out at c l lo n b (inr v) (inr e) p h (inl u) =
    let q = p.first (omega (arith, p.count, v)) in
    no_sync (leb 5 b.metas.count) _ b.eq.opened (leb 11 (b.eq.filled + 1)) (not_sync b.metas.first.j (omega (arith, q, p.count, v, e.1)))
trains_out at c l lo n b w z p h (inr u) =
    let q = p.first (omega (arith, p.count)) in
    no_sync (leb 5 b.metas.count) _ b.eq.opened (leb 11 (b.eq.filled + 1)) (not_sync b.metas.first.j (omega (arith, q, p.count)))
