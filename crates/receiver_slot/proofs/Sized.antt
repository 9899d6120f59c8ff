-- Sizes of an equaliser's numbers along a slot: each training adds products of 16-bit numbers to open sums. Assumes nothing.
use Prim.Native.Nat.{ℕ, zero, suc, ◌+◌, ◌*◌, ◌^◌, ◌≤◌, ◌<◌, min}
use mathlib.Core.Bool.{true, false}
use mathlib.Core.List.{List, [], ◌∷◌, ◌++◌, append-nil}
use mathlib.Core.Path.{◌≡◌, refl, sym, subst}
use native.Mathlib.Nat.{mul-le-mul}
use native.Mathlib.Omega.{arith}
use borrow.Author.Tests.{le-leb, leb-true, leb-false, lt-ltb, ltb-true, ltb-false}
use lib.Dec.{leb, ltb}
use lib.IntN.{ℤ, pos, negsuc, nat_abs, ◌+ℤ◌, ◌*ℤ◌}
use lib.ListN.{replicate, take}
use lib.Signed.{◌≤ℤ◌}
use Rattle.laws.specs.Choice.{minus}
use Rattle.laws.proofs.Linear.{ud_le}
use Rattle.laws.proofs.Lists.{getD-firsts}
use Rattle.laws.proofs.Size.{abs_add, abs_sub, abs_mul, abs_neg}
use Rattle.laws.proofs.Tests.{and_both, by_test, if_both, if_either, never}
use Rattle.laws.specs.Ranges.{firsts}
use Rattle.fx.specs.Fx.{sat16_of}
use Rattle.fx.proofs.Theorems.{sat16_theorem}
use Rattle.sync_corr.specs.Correlate.{ones_of}
use Rattle.sync_heads.specs.declared.Word.{Word}
use Rattle.sync_heads.specs.declared.Word.TheVariants.{Ssync, Fsync, NotFsync}
use Rattle.phase.specs.declared.Corrected.{Corrected}
use Rattle.phase.specs.declared.WholeSlot.{WholeSlot}
use Rattle.phase.specs.Phase.{corrected_of, scaled_of as scaled_by}
use Rattle.eq_fir.specs.Fir.{line_after, no_line}
use Rattle.eq_train.specs.Train.{nth, added, conj_product, line_product, right_product, row_products, upper_products, right_products, trained_sums}
use Rattle.eq.specs.declared.Equaliser.{Equaliser}
use Rattle.eq.specs.Eq.{pushed_eq, started_eq, trains_eq, trained_eq, with_sums}
use Rattle.frame_map.proofs.Laws.{part_sync, entry-one}
use Rattle.frame_map.specs.Reference.{scaled_of, reference_of}
use Rattle.frame_line.specs.declared.Meta.{Meta}
use Rattle.frame_line.specs.Line.{gap_at}
use Rattle.frame_line.specs.Ranges.{last_in_range}
use Rattle.frame.specs.declared.Back.{Back}
use Rattle.frame.specs.declared.Pushed.{Pushed}
use Rattle.frame.specs.Align.{joined_to, restarted_back, started_back, trained_at, trained_part, taken_by, pushed_back}
use Rattle.frame.specs.Answers.{full_back, trains_back}
use Rattle.frame.specs.Ranges.{PushOk, TakeOk}
use Rattle.frame.proofs.Laws.{sync_places, untrained}
use Rattle.receiver_slot.specs.Ranges.{SumsFit}
use Rattle.receiver_slot.specs.Slot.{corrected_all, overfull}
use Rattle.receiver_slot.specs.Steps.{back_at, pushed_at}
use Rattle.receiver_slot.proofs.Steps.{back_none, back_step, pushed_last, room_at}

-- ---- lists of numbers up to a size; what stands behind a list is 0
abbrev pub AllTo : ℕ → List ℤ → Type 0
AllTo b l = (k : ℕ) → nat_abs (nth l k) ≤ b

all_none : (b : ℕ) → AllTo b []
all_none b k = omega arith

all_cons : (b : ℕ) (v : ℤ) (l : List ℤ) → nat_abs v ≤ b → AllTo b l → AllTo b (v ∷ l)
all_cons b v l h a zero = h
all_cons b v l h a (suc k) = a k

all_append : (b : ℕ) (xs ys : List ℤ) → AllTo b xs → AllTo b ys → AllTo b (xs ++ ys)
all_append b [] ys h k = k
all_append b (x ∷ xs) ys h k = all_cons b x (xs ++ ys) (h 0) (all_append b xs ys (λ i. h (suc i)) k)

all_take : (b n : ℕ) (l : List ℤ) → AllTo b l → AllTo b (take n l)
all_take b zero l h = all_none b
all_take b (suc n) [] h = all_none b
all_take b (suc n) (v ∷ l) h = all_cons b v (take n l) (h 0) (all_take b n l (λ i. h (suc i)))

-- ---- products of numbers of 16 bits
product_size : (a b c d : ℤ) → nat_abs a ≤ 32768 → nat_abs b ≤ 32768 → nat_abs c ≤ 32768 → nat_abs d ≤ 32768 →
    (nat_abs (conj_product a b c d).re ≤ 2147483648) × (nat_abs (conj_product a b c d).im ≤ 2147483648)
unfolding conj_product
product_size a b c d ha hb hc hd = (
  omega (arith, abs_add (a *ℤ c) (b *ℤ d), abs_mul a c, abs_mul b d, mul-le-mul ha hc, mul-le-mul hb hd),
  omega (arith, abs_sub (a *ℤ d) (b *ℤ c), abs_mul a d, abs_mul b c, mul-le-mul ha hd, mul-le-mul hb hc),
)

module _ (line : List ℤ) (h : AllTo 32768 line) where
  row-to : (r c n : ℕ) → AllTo 2147483648 (row_products line r c n)
  unfolding row_products line_product
  row-to r c zero = all_none 2147483648
  row-to r c (suc n) =
      let p = product_size (nth line (2 * r)) (nth line (2 * r + 1)) (nth line (2 * c)) (nth line (2 * c + 1)) (h (2 * r)) (h (2 * r + 1)) (h (2 * c)) (h (2 * c + 1)) in
      all_cons 2147483648 (line_product line r c).re ((line_product line r c).im ∷ row_products line r (suc c) n) p.0
      (all_cons 2147483648 (line_product line r c).im (row_products line r (suc c) n) p.1 (row-to r (suc c) n))

  upper-to : (r n : ℕ) → AllTo 2147483648 (upper_products line r n)
  unfolding upper_products
  upper-to r zero = all_none 2147483648
  upper-to r (suc n) = all_append 2147483648 (row_products line r r (suc n)) (upper_products line (suc r) n) (row-to r r (suc n)) (upper-to (suc r) n)

  right-to : (di dq : ℤ) → nat_abs di ≤ 32768 → nat_abs dq ≤ 32768 → (r n : ℕ) → AllTo 2147483648 (right_products line di dq r n)
  unfolding right_products right_product
  right-to di dq hi hq r zero = all_none 2147483648
  right-to di dq hi hq r (suc n) =
      let p = product_size (nth line (2 * r)) (nth line (2 * r + 1)) di dq (h (2 * r)) (h (2 * r + 1)) hi hq in
      all_cons 2147483648 (right_product line di dq r).re ((right_product line di dq r).im ∷ right_products line di dq (suc r) n) p.0
      (all_cons 2147483648 (right_product line di dq r).im (right_products line di dq (suc r) n) p.1 (right-to di dq hi hq (suc r) n))

added_to : (s p : List ℤ) (n b d k : ℕ) → k < n → nat_abs (nth s k) ≤ b → AllTo d p → nat_abs (nth (added s p n) k) ≤ b + d
unfolding added
added_to s p n b d k l h a =
    let g : ℕ → ℤ = λ k. nth s k +ℤ nth p k in
    rw (← (append-nil (firsts g n)), getD-firsts g (pos 0) n [] k l) (omega (arith, abs_add (nth s k) (nth p k), h, a k))

-- ---- an equaliser: a line of 16 bits, and open sums up to a size
pub record Sized (n : ℕ) (e : Equaliser) : Type 0 where
  pub line : AllTo 32768 e.line
  pub upper : e.opened ≡ true → (k : ℕ) → k < 132 → nat_abs (nth e.sums.r k) ≤ n
  pub right : e.opened ≡ true → (k : ℕ) → k < 22 → nat_abs (nth e.sums.p k) ≤ n

more : (n m : ℕ) (e : Equaliser) → n ≤ m → Sized n e → Sized m e
more n m e l z = record { line = z.line; upper = λ o k h. omega (arith, z.upper o k h); right = λ o k h. omega (arith, z.right o k h) }

all-zeros : (b n : ℕ) → AllTo b (replicate n (pos 0))
all-zeros b zero = all_none b
all-zeros b (suc n) = all_cons b (pos 0) (replicate n (pos 0)) (omega arith) (all-zeros b n)

no_line_lem : AllTo 32768 no_line
unfolding no_line
no_line_lem = all-zeros 32768 22

joined_sized : (n : ℕ) (b : Back) (at : ℕ) → Sized n b.eq → Sized n (joined_to b at).eq
unfolding joined_to restarted_back started_back started_eq
joined_sized n b at z =
    if_both (λ (x : Back). Sized n x.eq) (gap_at b.last at) (restarted_back b) b
    (record { line = no_line_lem; upper = λ o. absurd (never (sym o)); right = λ o. absurd (never (sym o)) }) z

pushed_sized : (n : ℕ) (e : Equaliser) (i q : ℤ) → nat_abs i ≤ 32768 → nat_abs q ≤ 32768 → Sized n e → Sized n (pushed_eq e i q)
unfolding pushed_eq line_after
pushed_sized n e i q hi hq z =
    record {
      line = all_cons 32768 i (q ∷ take 20 e.line) hi (all_cons 32768 q (take 20 e.line) hq (all_take 32768 20 e.line z.line));
      upper = z.upper;
      right = z.right;
    }

scaled_size : (word : Word) (x y : ℤ) → nat_abs x ≡ 1 → nat_abs y ≡ 1 → nat_abs (scaled_of word x y) ≤ 32768
unfolding scaled_of
scaled_size Ssync x y hx hy = omega (arith, abs_mul y (pos 724))
scaled_size Fsync x y hx hy = omega (arith, abs_mul x (pos 724))
scaled_size NotFsync x y hx hy = omega (arith, abs_neg (x *ℤ pos 724), abs_mul x (pos 724))

once : (n : ℕ) (e : Equaliser) (di dq : ℤ) → nat_abs di ≤ 32768 → nat_abs dq ≤ 32768 → trains_eq e ≡ true → Sized n e →
    Sized (n + 2147483648) (with_sums e true (trained_sums e.sums e.line di dq))
unfolding with_sums trained_sums trains_eq
once n e di dq hi hq t z =
    let o = (and_both e.opened (leb 11 e.filled) t).0 in
    record {
      line = z.line;
      upper = λ u k h. added_to e.sums.r (upper_products e.line 0 11) 132 n 2147483648 k h (z.upper o k h) (upper-to e.line z.line 0 11);
      right = λ u k h. added_to e.sums.p (right_products e.line di dq 0 11) 22 n 2147483648 k h (z.right o k h) (right-to e.line z.line di dq hi hq 0 11);
    }

trained_sized : (n : ℕ) (e : Equaliser) (m : Meta) (f s : List ℤ) → ones_of f ≡ true → ones_of s ≡ true → Sized n e → Sized (n + 2147483648) (trained_at e m f s)
unfolding trained_at trained_part trained_eq reference_of
trained_sized n e m f s hf hs z =
    let same = more n (n + 2147483648) e (omega arith) z in
    by_test (ltb m.j 24)
    (λ t.
    let l = ltb-true m.j 24 t in
    let j = m.j in
    rw (part_sync j l)
    (if_either (Sized (n + 2147483648)) (trains_eq e) _ e
    (λ u.
    once n e _ _
    (scaled_size m.word _ _ (entry-one f hf (2 * j) (omega (arith, l))) (entry-one s hs (2 * j) (omega (arith, l))))
    (scaled_size m.word _ _ (entry-one f hf (2 * j + 1) (omega (arith, l))) (entry-one s hs (2 * j + 1) (omega (arith, l)))) u z)
    (λ u. same)))
    (λ t. subst (Sized (n + 2147483648)) (sym (untrained e m f s (ltb-false m.j 24 t))) same)

-- ---- one symbol
back_sized : (n : ℕ) (b : Back) (c : Corrected) (f s : List ℤ) → ones_of f ≡ true → ones_of s ≡ true → nat_abs c.y.i ≤ 32768 → nat_abs c.y.q ≤ 32768 →
    Sized n b.eq → Sized (n + 2147483648) (pushed_back b c f s).back.eq
unfolding pushed_back taken_by
back_sized n b c f s hf hs hi hq z =
    let d = joined_to b c.at in
    let p = pushed_sized n d.eq c.y.i c.y.q hi hq (joined_sized n b c.at z) in
    if_both (λ (x : Pushed). Sized (n + 2147483648) x.back.eq) (ltb d.metas.count 5) _ _
    (more n (n + 2147483648) (pushed_eq d.eq c.y.i c.y.q) (omega arith) p)
    (trained_sized n (pushed_eq d.eq c.y.i c.y.q) d.metas.first f s hf hs p)

-- it can be taken, where the sums are not full
take_sized : (n : ℕ) (b : Back) (c : Corrected) (f s : List ℤ) → ones_of f ≡ true → ones_of s ≡ true → n ≤ 2 ^ 54 → full_back b ≡ false → Sized n b.eq → TakeOk b c f s
unfolding full_back trains_back trains_eq pushed_eq
take_sized n b c f s hf hs l h z =
    let e = b.eq in
    record {
      aligned = λ five. record {
        first = hf;
        second = hs;
        train = λ j. record {
          sums = λ t.
              let o = and_both e.opened (leb 11 (min (e.filled + 1) 11)) t in
              let full : leb 11 (e.filled + 1) ≡ true = le-leb 11 (e.filled + 1) (omega (arith, leb-true 11 (min (e.filled + 1) 11) o.1)) in
              record {
                count = leb-false 4194304 e.sums.count (rw (le-leb 5 b.metas.count five, sync_places b.metas.first.j, j, o.0, full) at h);
                upper = λ k q. omega (arith, z.upper o.0 k q, l);
                right = λ k q. omega (arith, z.right o.0 k q, l);
              };
        };
      };
    }

-- ---- the symbols of a slot
saturated : (v : ℤ) → nat_abs (sat16_of v) ≤ 32768
saturated v = let t = sat16_theorem v in sizes (sat16_of v) t.low t.high
  where
    sizes : (z : ℤ) → minus 32768 ≤ℤ z → z ≤ℤ pos 32767 → nat_abs z ≤ 32768
    sizes (pos a) l h = omega (arith, ud_le h)
    sizes (negsuc a) l h = omega (arith, ud_le l)

corrected_size : (w : WholeSlot) (table store : List ℤ) (j : ℕ) → (nat_abs (corrected_of w table store j).y.i ≤ 32768) × (nat_abs (corrected_of w table store j).y.q ≤ 32768)
unfolding corrected_of scaled_by
corrected_size w table store j = (saturated _, saturated _)

corrected_at : (w : WholeSlot) (table store : List ℤ) (j : ℕ) → (corrected_of w table store j).at ≡ w.head.at + j
unfolding corrected_of
corrected_at w table store j = refl

module _ (b : Back) (w : WholeSlot) (table store f s : List ℤ) (hf : ones_of f ≡ true) (hs : ones_of s ≡ true) (line : AllTo 32768 b.eq.line)
    (fit : b.eq.opened ≡ true → SumsFit b.eq.sums) (last : last_in_range b.last ≡ true) (accepted : w.head.at + 9296 ≤ 2 ^ 62)
    (room : overfull b (corrected_all 9296 w table store) f s ≡ false) where
  next : (n m : ℕ) → Sized m (back_at n b w table store f s).eq → Sized (m + 2147483648) (pushed_at n b w table store f s).back.eq
  unfolding pushed_at
  next n m z =
      let y = corrected_size w table store n in
      back_sized m (back_at n b w table store f s) (corrected_of w table store n) f s hf hs y.0 y.1 z

  sized : (n : ℕ) → Sized (9007199254740992 + n * 2147483648) (back_at n b w table store f s).eq
  sized zero =
      subst (λ (x : Back). Sized 9007199254740992 x.eq) (sym (back_none b w table store f s))
      (record { line = line; upper = λ o. (fit o).upper; right = λ o. (fit o).right })
  sized (suc n) =
      let m = 9007199254740992 + n * 2147483648 in
      subst (λ (x : Back). Sized (9007199254740992 + suc n * 2147483648) x.eq) (sym (back_step b w table store f s n))
      (more (m + 2147483648) (9007199254740992 + suc n * 2147483648) (pushed_at n b w table store f s).back.eq (omega arith) (next n m (sized n)))

  last-at : (n : ℕ) → n ≤ 9296 → last_in_range (back_at n b w table store f s).last ≡ true
  last-at zero h = rw (back_none b w table store f s) last
  last-at (suc n) h =
      rw (back_step b w table store f s n)
      (unfold pushed_at last_in_range in
      rw (pushed_last (back_at n b w table store f s) (corrected_of w table store n) f s) (lt-ltb (corrected_of w table store n).at (2 ^ 62) (omega (arith, corrected_at w table store n, accepted, h))))

  pub push-ok-at : (n : ℕ) → n < 9296 → PushOk (back_at n b w table store f s) (corrected_of w table store n) f s
  push-ok-at n l =
      let c = corrected_of w table store n in
      record {
        last = last-at n (omega (arith, l));
        taken = take_sized (9007199254740992 + n * 2147483648) (joined_to (back_at n b w table store f s) c.at) c f s hf hs (omega (arith, l))
            (room_at b w table store f s room n l) (joined_sized _ (back_at n b w table store f s) c.at (sized n));
      }
