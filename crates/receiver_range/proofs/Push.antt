-- What one corrected symbol of a slot makes of the alignment: who waits, how full the line is, whether it trains, and what stays true of the
-- equaliser. Assumes nothing.
use Rattle.std.specs.Prelude.{Some}
use Prim.Native.Nat.{ℕ, suc, ◌+◌, ◌-◌, ◌*◌, ◌/◌, ◌%◌, ◌≤◌, ◌<◌, min}
use mathlib.Core.Bool.{true, false, not}
use mathlib.Core.List.{List}
use mathlib.Core.Logic.{◌⊎◌, inl, inr}
use mathlib.Core.Path.{◌≡◌, refl, sym, ap, subst, ◌∙◌}
use native.Mathlib.Nat.{mul-le-mul}
use native.Mathlib.Omega.{arith}
use borrow.Author.Tests.{eq-eqb, eqb-true, eqb-false, le-leb, lt-leb, leb-true, leb-false, lt-ltb, ltb-true, ltb-false}
use lib.Dec.{eqb, leb, ltb}
use lib.IntN.{ℤ, pos, nat_abs, ◌*ℤ◌}
use mir.Syntax.{w16}
use mir.Val.{SFits}
use Rattle.laws.proofs.Tests.{by_test, and_both, if_either}
use Rattle.laws.proofs.Size.{abs_add, abs_sub, abs_mul, abs_neg, arg, sfits_abs}
use Rattle.sync_corr.specs.Correlate.{ones_of}
use Rattle.sync_heads.specs.declared.Word.{Word}
use Rattle.sync_heads.specs.declared.Word.TheVariants.{Ssync, Fsync, NotFsync}
use Rattle.sync_heads.specs.Ranges.{slot_in_range}
use Rattle.phase.specs.declared.Corrected.{Corrected}
use Rattle.sums.specs.declared.Sums.{Sums}
use Rattle.eq_train.specs.Train.{nth, conj_product, right_product, trained_sums}
use Rattle.eq_train.proofs.Laws.{trained-right-re, trained-right-im, trained-long, trained_count}
use Rattle.eq_train.proofs.Theorems.{train_sound}
use Rattle.eq.specs.declared.Equaliser.{Equaliser}
use Rattle.eq.specs.Eq.{pushed_eq, trains_eq, trained_eq, with_sums}
use Rattle.eq_train.proofs.Tested.{and_true}
use Rattle.eq_range.specs.Coherent.{Coherent as CoherentEq}
use Rattle.eq_range.proofs.Kept.{pushed_coherent, open_coherent, trains_open}
use Rattle.frame_map.specs.Map.{part_of}
use Rattle.frame_map.specs.Reference.{scaled_of, reference_of}
use Rattle.frame_map.proofs.Laws.{part_sync, entry-one}
use Rattle.frame_line.specs.declared.Meta.{Meta}
use Rattle.frame_line.specs.Line.{meta_of, placed_at, joined, moved, gap_at}
use Rattle.frame.specs.declared.Back.{Back}
use Rattle.frame.specs.Align.{is_sync, trained_part, trained_at, pushed_back}
use Rattle.frame.specs.Answers.{trains_back, full_back}
use Rattle.frame.proofs.Laws.{sync_places, untrained}
use Rattle.receiver_slot.proofs.Filling.{few_pushed, five_pushed, no_line_lem, no_sync, not_sync}
use Rattle.frame_range.specs.Coherent.{Short}
use Rattle.frame_range.proofs.Theorems.{trained_filled}
use Rattle.receiver_range.specs.Coherent.{Untouched, Waits, Adjoins, right_most, RightFits}

-- ---- who waits
-- number u from the five symbols before a slot's head on: the slot's own begin with 5
pub record Place (at u : ℕ) (m : Meta) : Type 0 where
  pub at_is : m.at + 5 ≡ at + u
  pub j : m.j ≡ (9291 + u) % 9296
  pub slot : slot_in_range m.slot ≡ true

-- symbol n of a slot whose head stands at a position
pub record Symbol (at n : ℕ) (c : Corrected) : Type 0 where
  pub at_is : c.at ≡ at + n
  pub j : c.j ≡ n
  pub slot : slot_in_range c.slot ≡ true
  pub short : Short c

-- after n symbols of the slot: c₀ waited and f₀ were in the line before
pub record Filling (at c₀ f₀ n : ℕ) (b : Back) : Type 0 where
  pub count : b.metas.count ≡ min (c₀ + n) 5
  pub filled : b.eq.filled ≡ min (f₀ + n) 11
  pub follows : gap_at b.last (at + n) ≡ false
  pub last : (k : ℕ) → n ≡ suc k → b.last ≡ Some (at + k)
  pub first : 0 < b.metas.count → Place at (n + 5 - b.metas.count + 0) b.metas.first
  pub second : 1 < b.metas.count → Place at (n + 5 - b.metas.count + 1) b.metas.second
  pub third : 2 < b.metas.count → Place at (n + 5 - b.metas.count + 2) b.metas.third
  pub fourth : 3 < b.metas.count → Place at (n + 5 - b.metas.count + 3) b.metas.fourth
  pub fifth : 4 < b.metas.count → Place at (n + 5 - b.metas.count + 4) b.metas.fifth

place_is : (at u v : ℕ) (m : Meta) → u ≡ v → Place at u m → Place at v m
place_is at u v m e p = subst (λ (x : ℕ). Place at x m) e p

own_place : (at n : ℕ) (c : Corrected) → n < 9296 → Symbol at n c → Place at (n + 5) (meta_of c)
unfolding meta_of
own_place at n c l s = record { at_is = omega (arith, s.at_is); j = s.j ∙ omega arith; slot = s.slot }

joined-place : (at n c i : ℕ) (m old : Meta) → c < 5 → Place at (n + 5) m → (i < c → Place at (n + 5 - c + i) old) → i < c + 1 →
    Place at (suc n + 5 - (c + 1) + i) (placed_at c i m old)
unfolding placed_at
joined-place at n c i m old h p q l =
    if_either (Place at (suc n + 5 - (c + 1) + i)) (eqb c i) m old
    (λ t. place_is at (n + 5) (suc n + 5 - (c + 1) + i) m (own (eqb-true c i t)) p)
    (λ t. place_is at (n + 5 - c + i) (suc n + 5 - (c + 1) + i) old (omega arith) (q (below (eqb-false c i t))))
  where
    own : c ≡ i → n + 5 ≡ suc n + 5 - (c + 1) + i
    own e = omega arith

    below : (c ≡ i → ⊥) → i < c
    below e = omega arith

moved-place : (at n c i : ℕ) (m : Meta) → (suc i < c → Place at (n + 5 - c + suc i) m) → c ≡ 5 → i < 4 → Place at (suc n + 5 - c + i) m
moved-place at n c i m q e l = place_is at (n + 5 - c + suc i) (suc n + 5 - c + i) m (omega arith) (q (omega arith))

-- ---- an aligned symbol
scaled_size : (word : Word) (x y : ℤ) → nat_abs x ≡ 1 → nat_abs y ≡ 1 → nat_abs (scaled_of word x y) ≤ 724
unfolding scaled_of
scaled_size Ssync x y hx hy = omega (arith, abs_mul y (pos 724))
scaled_size Fsync x y hx hy = omega (arith, abs_mul x (pos 724))
scaled_size NotFsync x y hx hy = omega (arith, abs_neg (x *ℤ pos 724), abs_mul x (pos 724))

-- it leaves the equaliser, or trains it against a reference of size 724
trained_either : (P : Equaliser → Type 0) (e : Equaliser) (m : Meta) (f s : List ℤ) → ones_of f ≡ true → ones_of s ≡ true → P e →
    ((di dq : ℤ) → m.j < 24 → trains_eq e ≡ true → nat_abs di ≤ 724 → nat_abs dq ≤ 724 → P (with_sums e true (trained_sums e.sums e.line di dq))) →
    P (trained_at e m f s)
unfolding trained_at trained_part trained_eq reference_of
trained_either P e m f s hf hs p q =
    by_test (ltb m.j 24)
    (λ t.
    let l = ltb-true m.j 24 t in
    let j = m.j in
    rw (part_sync j l)
    (if_either P (trains_eq e) _ e
    (λ u.
    q _ _ l u
    (scaled_size m.word _ _ (entry-one f hf (2 * j) (omega (arith, l))) (entry-one s hs (2 * j) (omega (arith, l))))
    (scaled_size m.word _ _ (entry-one f hf (2 * j + 1) (omega (arith, l))) (entry-one s hs (2 * j + 1) (omega (arith, l)))))
    (λ u. p)))
    (λ t. subst P (sym (untrained e m f s (ltb-false m.j 24 t))) p)

-- ---- one symbol more
pub filling_step : (at c₀ f₀ n : ℕ) (b : Back) (c : Corrected) (f s : List ℤ) → ones_of f ≡ true → ones_of s ≡ true → n < 9296 → Symbol at n c →
    Filling at c₀ f₀ n b → Filling at c₀ f₀ (suc n) (pushed_back b c f s).back
unfolding joined moved pushed_eq gap_at
filling_step at c₀ f₀ n b c f s hf hs l y p =
    let w = b.metas in
    let k = w.count in
    let m = meta_of c in
    let g : gap_at b.last c.at ≡ false = rw y.at_is p.follows in
    let o = own_place at n c l y in
    let e : c.at + 1 ≡ at + suc n = omega (arith, y.at_is) in
    let after : not (eqb (c.at + 1) (at + suc n)) ≡ false = rw (eq-eqb (c.at + 1) (at + suc n) e) in
    by_test (ltb k 5)
    (λ t.
    let h = ltb-true k 5 t in
    rw (few_pushed b c f s g h)
    (record {
      count = omega (arith, p.count, h);
      filled = omega (arith, p.filled);
      follows = after;
      last = λ i z. ap Some (omega (arith, y.at_is, z));
      first = joined-place at n k 0 m w.first h o p.first;
      second = joined-place at n k 1 m w.second h o p.second;
      third = joined-place at n k 2 m w.third h o p.third;
      fourth = joined-place at n k 3 m w.fourth h o p.fourth;
      fifth = joined-place at n k 4 m w.fifth h o p.fifth;
    }))
    (λ t.
    let h = ltb-false k 5 t in
    let five : k ≡ 5 = omega (arith, p.count, h) in
    rw (five_pushed b c f s g h)
    (record {
      count = omega (arith, p.count, h);
      filled = trained_filled (pushed_eq b.eq c.y.i c.y.q) w.first f s ∙ omega (arith, p.filled);
      follows = after;
      last = λ i z. ap Some (omega (arith, y.at_is, z));
      first = λ i. moved-place at n k 0 w.second p.second five (omega arith);
      second = λ i. moved-place at n k 1 w.third p.third five (omega arith);
      third = λ i. moved-place at n k 2 w.fourth p.fourth five (omega arith);
      fourth = λ i. moved-place at n k 3 w.fifth p.fifth five (omega arith);
      fifth = λ i. place_is at (n + 5) (suc n + 5 - k + 4) m (omega (arith, five)) o;
    }))

-- ---- which symbols train: with the first slot numbers 10 to 28 of those that come, later 5 to 28
abbrev pub Begins : ℕ → ℕ → ℕ → Type 0
Begins c₀ f₀ lo = ((c₀ ≡ 0) × (f₀ ≡ 0) × (lo ≡ 10)) ⊎ ((c₀ ≡ 5) × (f₀ ≡ 11) × (lo ≡ 5))

pub trains_in : (at c₀ f₀ lo n : ℕ) (b : Back) → Begins c₀ f₀ lo → Filling at c₀ f₀ n b → lo ≤ n → n < 29 → trains_back b ≡ b.eq.opened
unfolding trains_back
trains_in at c₀ f₀ lo n b z p h l =
    let k = five z in
    let q = p.first (omega (arith, p.count, k)) in
    let j : b.metas.first.j < 24 = omega (arith, q.j, p.count, k) in
    rw (
      le-leb 5 b.metas.count (omega (arith, p.count, k)),
      sync_places b.metas.first.j,
      lt-ltb b.metas.first.j 24 j,
      le-leb 11 (b.eq.filled + 1) (omega (arith, p.filled, k)),
    )
    (and_true b.eq.opened)
  where
    five : Begins c₀ f₀ lo → (5 ≤ c₀ + n) × (10 ≤ f₀ + n) × (5 ≤ n)
    five (inl e) = (omega (arith, e.0, e.1, e.2), omega (arith, e.0, e.1, e.2), omega (arith, e.0, e.1, e.2))
    five (inr e) = (omega (arith, e.0, e.1, e.2), omega (arith, e.0, e.1, e.2), omega (arith, e.0, e.1, e.2))

pub trains_out : (at c₀ f₀ lo n : ℕ) (b : Back) → Begins c₀ f₀ lo → Filling at c₀ f₀ n b → n < 9296 → (n < lo) ⊎ (29 ≤ n) → trains_back b ≡ false
unfolding trains_back
trains_out at c₀ f₀ lo n b (inl e) p l (inl h) =
    no_line_lem (leb 5 b.metas.count) (is_sync (part_of b.metas.first.j)) b.eq.opened _ (lt-leb 11 (b.eq.filled + 1) (omega (arith, p.filled, e.0, e.1, e.2)))
trains_out at c₀ f₀ lo n b (inr e) p l (inl h) =
    let q = p.first (omega (arith, p.count, e.0)) in
    no_sync (leb 5 b.metas.count) _ b.eq.opened (leb 11 (b.eq.filled + 1)) (not_sync b.metas.first.j (omega (arith, q.j, p.count, e.0, e.2)))
trains_out at c₀ f₀ lo n b z p l (inr h) =
    let q = p.first (omega (arith, p.count)) in
    no_sync (leb 5 b.metas.count) _ b.eq.opened (leb 11 (b.eq.filled + 1)) (not_sync b.metas.first.j (omega (arith, q.j, p.count)))

-- ---- what stays true of the equaliser
-- a product with a reference of size 724
product_size : (a b c d : ℤ) → SFits w16 a → SFits w16 b → nat_abs c ≤ 724 → nat_abs d ≤ 724 →
    (nat_abs (conj_product a b c d).re ≤ right_most) × (nat_abs (conj_product a b c d).im ≤ right_most)
unfolding conj_product
product_size a b c d ha hb hc hd =
    let ka : nat_abs a ≤ 32768 = (arg ha).size in
    let kb : nat_abs b ≤ 32768 = (arg hb).size in (
      omega (arith, abs_add (a *ℤ c) (b *ℤ d), abs_mul a c, abs_mul b d, mul-le-mul ka hc, mul-le-mul kb hd),
      omega (arith, abs_sub (a *ℤ d) (b *ℤ c), abs_mul a d, abs_mul b c, mul-le-mul ka hd, mul-le-mul kb hc),
    )

even_or_odd : (k : ℕ) → (k ≡ 2 * (k / 2)) ⊎ (k ≡ 2 * (k / 2) + 1)
even_or_odd k = by_test (eqb (k % 2) 0) (λ t. inl (even (eqb-true (k % 2) 0 t))) (λ t. inr (odd (eqb-false (k % 2) 0 t)))
  where
    even : k % 2 ≡ 0 → k ≡ 2 * (k / 2)
    even e = omega arith

    odd : (k % 2 ≡ 0 → ⊥) → k ≡ 2 * (k / 2) + 1
    odd e = omega arith

right_trained : (s : Sums) (line : List ℤ) (di dq : ℤ) → ((k : ℕ) → k < 22 → SFits w16 (nth line k)) → nat_abs di ≤ 724 → nat_abs dq ≤ 724 → RightFits s →
    RightFits (trained_sums s line di dq)
unfolding right_product
right_trained s line di dq short hi hq m = record { long = (trained-long s line di dq).1; small = λ k h. rw (trained_count s line di dq) (at_place k h (even_or_odd k)) }
  where
    sizes : (i : ℕ) → i < 11 → (nat_abs (right_product line di dq i).re ≤ right_most) × (nat_abs (right_product line di dq i).im ≤ right_most)
    sizes i h = product_size (nth line (2 * i)) (nth line (2 * i + 1)) di dq (short (2 * i) (omega arith)) (short (2 * i + 1) (omega arith)) hi hq

    re-place : (i : ℕ) → i < 11 → nat_abs (nth (trained_sums s line di dq).p (2 * i)) ≤ (s.count + 1) * right_most
    re-place i h =
        rw (trained-right-re s line di dq i h)
        (omega (arith, abs_add (nth s.p (2 * i)) (right_product line di dq i).re, m.small (2 * i) (omega arith), (sizes i h).0))

    im-place : (i : ℕ) → i < 11 → nat_abs (nth (trained_sums s line di dq).p (2 * i + 1)) ≤ (s.count + 1) * right_most
    im-place i h =
        rw (trained-right-im s line di dq i h)
        (omega (arith, abs_add (nth s.p (2 * i + 1)) (right_product line di dq i).im, m.small (2 * i + 1) (omega arith), (sizes i h).1))

    at_place : (k : ℕ) → k < 22 → (k ≡ 2 * (k / 2)) ⊎ (k ≡ 2 * (k / 2) + 1) → nat_abs (nth (trained_sums s line di dq).p k) ≤ (s.count + 1) * right_most
    at_place k h (inl e) = subst (λ (x : ℕ). nat_abs (nth (trained_sums s line di dq).p x) ≤ (s.count + 1) * right_most) (sym e) (re-place (k / 2) (omega arith))
    at_place k h (inr e) = subst (λ (x : ℕ). nat_abs (nth (trained_sums s line di dq).p x) ≤ (s.count + 1) * right_most) (sym e) (im-place (k / 2) (omega arith))

pub record SoundEq (e : Equaliser) : Type 0 where
  pub coherent : CoherentEq e
  pub right : e.opened ≡ true → RightFits e.sums

trained_sound : (e : Equaliser) (m : Meta) (f s : List ℤ) → ones_of f ≡ true → ones_of s ≡ true → (m.j < 24 → trains_eq e ≡ true → e.sums.count < 4194304) →
    SoundEq e → SoundEq (trained_at e m f s)
unfolding with_sums
trained_sound e m f s hf hs room k =
    trained_either SoundEq e m f s hf hs k
    (λ di dq l t hi hq.
    let o = trains_open e t in
    let c = k.coherent in
    record {
      coherent = open_coherent e _ c (train_sound e.sums e.line di dq (c.open_sums o) c.short (sfits_abs w16 di (omega arith)) (sfits_abs w16 dq (omega arith)) (room l t));
      right = λ u. right_trained e.sums e.line di dq c.short hi hq (k.right o);
    })

pushed_sound : (e : Equaliser) (i q : ℤ) → SFits w16 i → SFits w16 q → SoundEq e → SoundEq (pushed_eq e i q)
unfolding pushed_eq
pushed_sound e i q hi hq k = record { coherent = pushed_coherent e i q k.coherent hi hq; right = k.right }

-- the sums are full only if the symbol trains
has_room : (b : Back) (i q : ℤ) → 5 ≤ b.metas.count → full_back b ≡ false → b.metas.first.j < 24 → trains_eq (pushed_eq b.eq i q) ≡ true →
    b.eq.sums.count < 4194304
unfolding full_back trains_back trains_eq pushed_eq
has_room b i q five h l t =
    let e = b.eq in
    let o = and_both e.opened (leb 11 (min (e.filled + 1) 11)) t in
    let k : leb 11 (e.filled + 1) ≡ true = le-leb 11 (e.filled + 1) (omega (arith, leb-true 11 (min (e.filled + 1) 11) o.1)) in
    leb-false 4194304 e.sums.count
    (rw (le-leb 5 b.metas.count five, sync_places b.metas.first.j, lt-ltb b.metas.first.j 24 l, o.0, k) at h)

pub sound_step : (b : Back) (c : Corrected) (f s : List ℤ) → ones_of f ≡ true → ones_of s ≡ true → Short c → gap_at b.last c.at ≡ false →
    full_back b ≡ false → SoundEq b.eq → SoundEq (pushed_back b c f s).back.eq
unfolding pushed_eq
sound_step b c f s hf hs y g h k =
    let e = pushed_sound b.eq c.y.i c.y.q y.i y.q k in
    by_test (ltb b.metas.count 5)
    (λ t. subst (λ (x : Back). SoundEq x.eq) (sym (few_pushed b c f s g (ltb-true b.metas.count 5 t))) e)
    (λ t.
    let five = ltb-false b.metas.count 5 t in
    subst (λ (x : Back). SoundEq x.eq) (sym (five_pushed b c f s g five))
    (trained_sound (pushed_eq b.eq c.y.i c.y.q) b.metas.first f s hf hs (has_room b c.y.i c.y.q five h) e))

-- ---- a slot's beginning and its end
pub untouched_filling : (at : ℕ) (b : Back) → Untouched b → Filling at 0 0 0 b
unfolding gap_at
untouched_filling at b u =
    record {
      count = omega (arith, u.none);
      filled = omega (arith, u.empty);
      follows = rw u.last;
      last = λ k e. absurd (none k e);
      first = λ l. absurd (few 0 l);
      second = λ l. absurd (few 1 l);
      third = λ l. absurd (few 2 l);
      fourth = λ l. absurd (few 3 l);
      fifth = λ l. absurd (few 4 l);
    }
  where
    none : (k : ℕ) → 0 ≡ suc k → ⊥
    none k e = omega arith

    few : (k : ℕ) → k < b.metas.count → ⊥
    few k l = omega (arith, u.none)

pub adjoins_filling : (at : ℕ) (b : Back) → Adjoins at b → Filling at 5 11 0 b
unfolding gap_at
adjoins_filling at b a =
    record {
      count = omega (arith, a.five);
      filled = omega (arith, a.full);
      follows = rw (a.last, eq-eqb (a.before + 1) (at + 0) (omega (arith, a.next)));
      last = λ k e. absurd (none k e);
      first = λ l. waited 0 b.metas.first (omega arith) a.first;
      second = λ l. waited 1 b.metas.second (omega arith) a.second;
      third = λ l. waited 2 b.metas.third (omega arith) a.third;
      fourth = λ l. waited 3 b.metas.fourth (omega arith) a.fourth;
      fifth = λ l. waited 4 b.metas.fifth (omega arith) a.fifth;
    }
  where
    none : (k : ℕ) → 0 ≡ suc k → ⊥
    none k e = omega arith

    waited : (k : ℕ) (m : Meta) → k < 5 → Waits k at m → Place at (0 + 5 - b.metas.count + k) m
    waited k m l w = record { at_is = omega (arith, w.at_is, a.five); j = w.j ∙ omega (arith, a.five); slot = w.slot }

pub filled_adjoins : (at c₀ f₀ : ℕ) (b : Back) → 46480 ≤ at → Filling at c₀ f₀ 9296 b → Adjoins (at + 9296) b
filled_adjoins at c₀ f₀ b low p =
    record {
      five = five;
      full = omega (arith, p.filled);
      before = at + 9295;
      next = omega arith;
      last = p.last 9295 refl;
      low = omega arith;
      first = waits 0 b.metas.first (omega arith) (p.first (omega (arith, five)));
      second = waits 1 b.metas.second (omega arith) (p.second (omega (arith, five)));
      third = waits 2 b.metas.third (omega arith) (p.third (omega (arith, five)));
      fourth = waits 3 b.metas.fourth (omega arith) (p.fourth (omega (arith, five)));
      fifth = waits 4 b.metas.fifth (omega arith) (p.fifth (omega (arith, five)));
    }
  where
    five : b.metas.count ≡ 5
    five = omega (arith, p.count)

    waits : (k : ℕ) (m : Meta) → k < 5 → Place at (9296 + 5 - b.metas.count + k) m → Waits k (at + 9296) m
    waits k m l w = record { j = w.j ∙ omega (arith, five); at_is = omega (arith, w.at_is, five); slot = w.slot }
