-- A set's part among the numbers of a slice: what another part for it changes, and what it does not. Assumes nothing.
use mathlib.Core.List.{List, [], ◌++◌, append-nil}
use mathlib.Core.Bool.{true, false}
use mathlib.Core.Logic.{◌⊎◌, inl, inr, ⊎_elim}
use mathlib.Core.Path.{◌≡◌, refl, sym, ap, ◌∙◌}
use Prim.Native.Nat.{ℕ, zero, suc, ◌+◌, ◌-◌, ◌^◌, ◌≤◌, ◌<◌}
use native.Mathlib.Nat.{pow-suc, le_refl, le_of_suc-le-suc, eq-or-lt_of_le}
use native.Mathlib.Omega.{arith}
use lib.IntN.{ℤ, pos}
use lib.ListN.{length, get_or, take, drop, length-append, length-drop, get_or-append}
use lib.Pow.{pow_mono}
use lib.Seq.{length-take-le, get_or-append-add, get_or-take, get_or-drop, take_at, drop_at, ext_get_or}
use Rattle.demap.proofs.Blocks.{part_long}
use Rattle.laws.proofs.Lists.{length-firsts, getD-firsts}
use Rattle.laws.proofs.Tests.{if_both}
use Rattle.laws.specs.Choice.{if_yes, if_no}
use Rattle.laws.specs.Ranges.{firsts}
use Rattle.learn.proofs.Laws.{labels_few}
use Rattle.learn.specs.Learning.{mean_at, set_learned, set_means, learned_slice}
use Rattle.learn.specs.Sets.{Bits, set_start, set_size, with_set}
use Rattle.learn.specs.declared.Learn.{Learn}
use Rattle.in_force.specs.InForce.{slices_learned}

-- n numbers from s on of a long enough list are put in
module _ (s n : ℕ) (xs part : List ℤ) (long : s + n ≤ length xs) (whole : length part ≡ n) where
  front : length (take s xs) ≡ s
  front = length-take-le s xs (omega arith)

  pub put-long : length (take s xs ++ (part ++ drop (s + n) xs)) ≡ length xs
  put-long = rw (length-append (take s xs) (part ++ drop (s + n) xs), length-append part (drop (s + n) xs), length-drop (s + n) xs, front) (omega arith)

  -- after the front
  behind : (i : ℕ) → get_or (take s xs ++ (part ++ drop (s + n) xs)) (s + i) (pos 0) ≡ get_or (part ++ drop (s + n) xs) i (pos 0)
  behind i = ap (λ (k : ℕ). get_or (take s xs ++ (part ++ drop (s + n) xs)) (k + i) (pos 0)) (sym front) ∙ get_or-append-add (take s xs) (part ++ drop (s + n) xs) i (pos 0)

  pub put-inside : (i : ℕ) → i < n → get_or (take s xs ++ (part ++ drop (s + n) xs)) (s + i) (pos 0) ≡ get_or part i (pos 0)
  put-inside i h = behind i ∙ get_or-append part (drop (s + n) xs) (pos 0) i (omega arith)

  pub put-below : (j : ℕ) → j < s → get_or (take s xs ++ (part ++ drop (s + n) xs)) j (pos 0) ≡ get_or xs j (pos 0)
  put-below j h = get_or-append (take s xs) (part ++ drop (s + n) xs) (pos 0) j (omega (arith, front)) ∙ get_or-take s xs j (pos 0) h

  pub put-above : (j : ℕ) → s + n ≤ j → get_or (take s xs ++ (part ++ drop (s + n) xs)) j (pos 0) ≡ get_or xs j (pos 0)
  put-above j h = rw (← whole-way (s + n) j h) (after (j - (s + n)))
    where
      regroup : (s n k : ℕ) → s + n + k ≡ s + (n + k)
      regroup s n k = omega arith

      whole-way : (a j : ℕ) → a ≤ j → a + (j - a) ≡ j
      whole-way a j h = omega arith

      after : (k : ℕ) → get_or (take s xs ++ (part ++ drop (s + n) xs)) (s + n + k) (pos 0) ≡ get_or xs (s + n + k) (pos 0)
      after k =
          ap (λ (m : ℕ). get_or (take s xs ++ (part ++ drop (s + n) xs)) m (pos 0)) (regroup s n k)
          ∙ behind (n + k)
          ∙ ap (λ (m : ℕ). get_or (part ++ drop (s + n) xs) (m + k) (pos 0)) (sym whole)
          ∙ get_or-append-add part (drop (s + n) xs) k (pos 0)
          ∙ get_or-drop (s + n) xs k (pos 0)

  -- the part itself, read back
  pub put_part : take n (drop s (take s xs ++ (part ++ drop (s + n) xs))) ≡ part
  put_part = rw (drop_at (take s xs) (part ++ drop (s + n) xs) s front) (take_at part (drop (s + n) xs) n whole)

firsts_at : (g : ℕ → ℤ) (n i : ℕ) → i < n → get_or (firsts g n) i (pos 0) ≡ g i
firsts_at g n i h = ap (λ (xs : List ℤ). get_or xs i (pos 0)) (sym (append-nil (firsts g n))) ∙ getD-firsts g (pos 0) n [] i h

-- ---- parts that agree number by number
part_at : (s n : ℕ) (xs : List ℤ) (i : ℕ) → i < n → get_or (take n (drop s xs)) i (pos 0) ≡ get_or xs (s + i) (pos 0)
part_at s n xs i h = get_or-take n (drop s xs) i (pos 0) h ∙ get_or-drop s xs i (pos 0)

pub part_ext : (s n : ℕ) (xs ys : List ℤ) → s + n ≤ length xs → s + n ≤ length ys →
    ((i : ℕ) → i < n → get_or xs (s + i) (pos 0) ≡ get_or ys (s + i) (pos 0)) → take n (drop s xs) ≡ take n (drop s ys)
part_ext s n xs ys h k e =
    ext_get_or (pos 0) (take n (drop s xs)) (take n (drop s ys)) (part_long s n xs h ∙ sym (part_long s n ys k))
    (λ i l. let m : i < n = rw (part_long s n xs h) at l in part_at s n xs i m ∙ e i m ∙ sym (part_at s n ys i m))

pub part_firsts : (s n : ℕ) (xs : List ℤ) (f : ℕ → ℤ) → s + n ≤ length xs → ((i : ℕ) → i < n → get_or xs (s + i) (pos 0) ≡ f (s + i)) →
    take n (drop s xs) ≡ firsts (λ (i : ℕ). f (s + i)) n
part_firsts s n xs f h e =
    ext_get_or (pos 0) (take n (drop s xs)) (firsts (λ (i : ℕ). f (s + i)) n) (part_long s n xs h ∙ sym (length-firsts (λ (i : ℕ). f (s + i)) n))
    (λ i l. let m : i < n = rw (part_long s n xs h) at l in part_at s n xs i m ∙ e i m ∙ sym (firsts_at (λ (i : ℕ). f (s + i)) n i m))

-- ---- one set
pub set_long : (l : Learn) (bits : ℕ) → length (set_means l bits) ≡ set_size bits
unfolding set_means
set_long l bits = length-firsts (λ (i : ℕ). mean_at l.sum l.count (set_start bits + i)) (set_size bits)

-- a set lies within the 124 numbers, and before the sets of more bits
pub set_fits : (bits : ℕ) → Bits bits → set_start bits + set_size bits ≤ 124
set_fits bits b = omega (arith, labels_few bits b)

pub set_before : (bits n : ℕ) → Bits bits → bits ≤ n → set_start bits + set_size bits ≤ set_start (suc n)
set_before bits n b h =
    let p : 2 ^ bits ≤ 2 ^ n = pow_mono h in
    omega (arith, labels_few bits b, pow-suc 2 n)

-- ---- the sets of 1 to n bits, one after another
module _ (l : Learn) where
  pub learned-long : (bits : ℕ) (xs : List ℤ) → Bits bits → length xs ≡ 124 → length (learned_slice l bits xs) ≡ 124
  unfolding learned_slice with_set
  learned-long bits xs b h =
      if_both (λ (ys : List ℤ). length ys ≡ 124) (set_learned l bits) _ xs
      (put-long (set_start bits) (set_size bits) xs (set_means l bits) (rw h (set_fits bits b)) (set_long l bits) ∙ h) h

  -- number j, where it stands before or after the set
  pub learned-else : (bits : ℕ) (xs : List ℤ) → Bits bits → length xs ≡ 124 → (j : ℕ) → (j < set_start bits) ⊎ (set_start bits + set_size bits ≤ j) →
      get_or (learned_slice l bits xs) j (pos 0) ≡ get_or xs j (pos 0)
  unfolding learned_slice with_set
  learned-else bits xs b h j side =
      let p : set_start bits + set_size bits ≤ length xs = rw h (set_fits bits b) in
      if_both (λ (ys : List ℤ). get_or ys j (pos 0) ≡ get_or xs j (pos 0)) (set_learned l bits) _ xs
      (⊎_elim (λ k. put-below (set_start bits) (set_size bits) xs (set_means l bits) p (set_long l bits) j k)
      (λ k. put-above (set_start bits) (set_size bits) xs (set_means l bits) p (set_long l bits) j k) side) refl

  -- number i of the set, where it is learned
  pub learned-here : (bits : ℕ) (xs : List ℤ) → Bits bits → length xs ≡ 124 → set_learned l bits ≡ true → (i : ℕ) → i < set_size bits →
      get_or (learned_slice l bits xs) (set_start bits + i) (pos 0) ≡ mean_at l.sum l.count (set_start bits + i)
  unfolding learned_slice with_set set_means
  learned-here bits xs b h t i k =
      let f : ℕ → ℤ = λ (i : ℕ). mean_at l.sum l.count (set_start bits + i) in
      let p : set_start bits + set_size bits ≤ length xs = rw h (set_fits bits b) in
      ap (λ (ys : List ℤ). get_or ys (set_start bits + i) (pos 0)) (if_yes (set_learned l bits) _ xs t)
      ∙ put-inside (set_start bits) (set_size bits) xs (set_means l bits) p (set_long l bits) i k
      ∙ firsts_at f (set_size bits) i k

  pub slices-long : (n : ℕ) (xs : List ℤ) → n ≤ 5 → length xs ≡ 124 → length (slices_learned l n xs) ≡ 124
  unfolding slices_learned
  slices-long zero xs h e = e
  slices-long (suc n) xs h e = learned-long (suc n) (slices_learned l n xs) (record { some = omega arith; few = h }) (slices-long n xs (omega arith) e)

  -- number j, where it stands after the sets of 1 to n bits
  slices-after : (n : ℕ) (xs : List ℤ) → n ≤ 5 → length xs ≡ 124 → (j : ℕ) → set_start (suc n) ≤ j → get_or (slices_learned l n xs) j (pos 0) ≡ get_or xs j (pos 0)
  unfolding slices_learned
  slices-after zero xs h e j k = refl
  slices-after (suc n) xs h e j k =
      let b : Bits (suc n) = record { some = omega arith; few = h } in
      let q = set_before (suc n) (suc n) b (le_refl (suc n)) in
      learned-else (suc n) (slices_learned l n xs) b (slices-long n xs (omega arith) e) j (inr (omega arith))
      ∙ slices-after n xs (omega arith) e j (omega arith)

  -- number i of the set of so many bits
  pub slices-here : (n : ℕ) (xs : List ℤ) → n ≤ 5 → length xs ≡ 124 → (bits : ℕ) → Bits bits → bits ≤ n → set_learned l bits ≡ true → (i : ℕ) →
      i < set_size bits → get_or (slices_learned l n xs) (set_start bits + i) (pos 0) ≡ mean_at l.sum l.count (set_start bits + i)
  unfolding slices_learned
  slices-here zero xs h e bits b m t i k = absurd (none b.some m)
    where
      none : {b : ℕ} → 1 ≤ b → b ≤ 0 → ⊥
      none h k = omega arith
  slices-here (suc n) xs h e bits b m t i k =
      let c : Bits (suc n) = record { some = omega arith; few = h } in
      let w = slices-long n xs (omega arith) e in
      ⊎_elim
      (λ (q : bits ≡ suc n). rw q (learned-here (suc n) (slices_learned l n xs) c w (rw q at t) i (rw q at k)))
      (λ (q : bits < suc n).
      let s = set_before bits n b (le_of_suc-le-suc q) in
      learned-else (suc n) (slices_learned l n xs) c w (set_start bits + i) (inl (omega arith)) ∙ slices-here n xs (omega arith) e bits b (le_of_suc-le-suc q) t i k)
      (eq-or-lt_of_le m)

  -- .. and where it is not learned
  pub slices-kept : (n : ℕ) (xs : List ℤ) → n ≤ 5 → length xs ≡ 124 → (bits : ℕ) → Bits bits → bits ≤ n → set_learned l bits ≡ false → (i : ℕ) →
      i < set_size bits → get_or (slices_learned l n xs) (set_start bits + i) (pos 0) ≡ get_or xs (set_start bits + i) (pos 0)
  unfolding slices_learned learned_slice
  slices-kept zero xs h e bits b m t i k = refl
  slices-kept (suc n) xs h e bits b m t i k =
      let c : Bits (suc n) = record { some = omega arith; few = h } in
      ⊎_elim
      (λ (q : bits ≡ suc n).
      rw q
      (ap (λ (ys : List ℤ). get_or ys (set_start (suc n) + i) (pos 0)) (if_no (set_learned l (suc n)) _ (slices_learned l n xs) (rw q at t))
      ∙ slices-after n xs (omega arith) e (set_start (suc n) + i) (omega arith)))
      (λ (q : bits < suc n).
      let s = set_before bits n b (le_of_suc-le-suc q) in
      learned-else (suc n) (slices_learned l n xs) c (slices-long n xs (omega arith) e) (set_start bits + i) (inl (omega arith))
      ∙ slices-kept n xs (omega arith) e bits b (le_of_suc-le-suc q) t i k)
      (eq-or-lt_of_le m)
