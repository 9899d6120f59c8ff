-- Each call keeps a `Learn` coherent, and a coherent one is in range. Assumes nothing.
use mathlib.Core.Bool.{Bool, true, false}
use mathlib.Core.Path.{◌≡◌, refl, ◌∙◌}
use Prim.Native.Nat.{ℕ, suc, ◌+◌, ◌-◌, ◌*◌, ◌/◌, ◌^◌, ◌≤◌, ◌<◌}
use native.Mathlib.Nat.{mul-le-mul}
use native.Mathlib.Omega.{arith}
use borrow.Author.Tests.{eqb-true, eqb-false, le-leb}
use lib.Dec.{T, eqb, leb}
use lib.IntN.{ℤ, pos, negsuc, nat_abs, ◌+ℤ◌, ◌*ℤ◌}
use lib.ListN.{length, set, length-set, length-replicate, get_or-replicate}
use lib.Seq.{get_or-set_same, get_or-set_other}
use lib.Signed.{le_z}
use Rattle.laws.proofs.Linear.{up, dn, sum_ud, neg_ud, ud_le, le_ud, size_ud}
use Rattle.laws.proofs.Tests.{by_test}
use Rattle.laws.specs.Choice.{minus}
use Rattle.learn.proofs.Laws.{all_of}
use Rattle.learn.specs.Learning.{sum_at, count_at, new_learn, piloted_at, sample_of, sampled_by}
use Rattle.learn.specs.Ranges.{sum_in_range, sums_in_range, counts_in_range, learn_in_range}
use Rattle.learn.specs.declared.Learn.{Learn}
use Rattle.learn_range.specs.Coherent.{From, Part, Coherent}

-- ---- a new one
nought : From 0 0 (pos 0)
nought = record { low = record { le = tt }; high = record { le = tt } }

pub new_coherent : Coherent new_learn
unfolding new_learn
new_coherent =
    record {
      numbers = length-replicate {A = ℤ} 124 (pos 0);
      labels = length-replicate {A = ℕ} 62 0;
      few = λ a h. rw (get_or-replicate {A = ℕ} 62 a 0 0 h) (omega arith);
      sums = λ i h. rw (get_or-replicate {A = ℕ} 62 (i / 2) 0 0 (omega arith), get_or-replicate 124 i (pos 0) (pos 0) h) nought;
      samples = omega arith;
      noise = nought;
    }

-- ---- one more number
more : (c p q : ℕ) (z w : ℤ) → From (c * p) (c * q) z → From p q w → From ((c + 1) * p) ((c + 1) * q) (z +ℤ w)
more c p q z w h k =
    record {
      low = le_ud (minus ((c + 1) * p)) (z +ℤ w)
          (omega (arith, ud_le h.low, ud_le k.low, neg_ud (pos (c * p)), neg_ud (pos p), neg_ud (pos ((c + 1) * p)), sum_ud z w));
      high = le_ud (z +ℤ w) (pos ((c + 1) * q)) (omega (arith, ud_le h.high, ud_le k.high, sum_ud z w));
    }

-- ---- a pilot: its label's two sums and its count, and nothing else
module _ (l : Learn) (a : ℕ) (zi zq : ℤ) (c : Coherent l) (h : a < 62) where
  pub sum_first : sum_at (piloted_at l a zi zq).sum (2 * a) ≡ sum_at l.sum (2 * a) +ℤ zi
  unfolding piloted_at
  sum_first =
      get_or-set_other (set l.sum (2 * a) _) (2 * a + 1) (2 * a) _ (pos 0) (λ e. omega arith)
      ∙ get_or-set_same l.sum (2 * a) _ (pos 0) (omega (arith, c.numbers))

  pub sum-second : sum_at (piloted_at l a zi zq).sum (2 * a + 1) ≡ sum_at l.sum (2 * a + 1) +ℤ zq
  unfolding piloted_at
  sum-second =
      get_or-set_same (set l.sum (2 * a) _) (2 * a + 1) _ (pos 0) (rw (length-set l.sum (2 * a) (sum_at l.sum (2 * a) +ℤ zi)) (omega (arith, c.numbers)))

  pub sum-other : (i : ℕ) → (i / 2 ≡ a → ⊥) → sum_at (piloted_at l a zi zq).sum i ≡ sum_at l.sum i
  unfolding piloted_at
  sum-other i n =
      get_or-set_other (set l.sum (2 * a) _) (2 * a + 1) i _ (pos 0) (λ e. n (omega arith))
      ∙ get_or-set_other l.sum (2 * a) i _ (pos 0) (λ e. n (omega arith))

  pub count-here : count_at (piloted_at l a zi zq).count a ≡ count_at l.count a + 1
  unfolding piloted_at
  count-here = get_or-set_same l.count a _ 0 (omega (arith, c.labels))

  pub count-other : (b : ℕ) → (b ≡ a → ⊥) → count_at (piloted_at l a zi zq).count b ≡ count_at l.count b
  unfolding piloted_at
  count-other b n = get_or-set_other l.count a b _ 0 n

  here : (i : ℕ) → i / 2 ≡ a → i < 124 → Part zi → Part zq → let n = count_at l.count a + 1 in From (n * 2 ^ 15) (n * (2 ^ 15 - 1)) (sum_at (piloted_at l a zi zq).sum i)
  here i e k pi pq =
      by_test (eqb i (2 * a))
      (λ t. rw (eqb-true i (2 * a) t, sum_first) (more (count_at l.count a) (2 ^ 15) (2 ^ 15 - 1) (sum_at l.sum (2 * a)) zi (old (2 * a) (omega arith)) pi))
      (λ t.
      let o : i ≡ 2 * a + 1 = odd i a e (eqb-false i (2 * a) t) in
      rw (o, sum-second) (more (count_at l.count a) (2 ^ 15) (2 ^ 15 - 1) (sum_at l.sum (2 * a + 1)) zq (old (2 * a + 1) (omega arith)) pq))
    where
      odd : (i a : ℕ) → i / 2 ≡ a → (i ≡ 2 * a → ⊥) → i ≡ 2 * a + 1
      odd i a e n = omega arith

      old : (i : ℕ) → i / 2 ≡ a → From (count_at l.count a * 2 ^ 15) (count_at l.count a * (2 ^ 15 - 1)) (sum_at l.sum i)
      old i e = rw e at (c.sums i (omega arith))

  pub piloted-coherent : count_at l.count a < 67108864 → Part zi → Part zq → Coherent (piloted_at l a zi zq)
  piloted-coherent r pi pq =
      record {
        numbers = sums-long ∙ c.numbers;
        labels = counts-long ∙ c.labels;
        few = λ b k.
            by_test (eqb b a)
            (λ t. rw (eqb-true b a t, count-here) (omega arith))
            (λ t. rw (count-other b (eqb-false b a t)) (c.few b k));
        sums = λ i k.
            by_test (eqb (i / 2) a)
            (λ t. let e = eqb-true (i / 2) a t in rw (e, count-here) (here i e k pi pq))
            (λ t. let n = eqb-false (i / 2) a t in rw (count-other (i / 2) n, sum-other i n) (c.sums i k));
        samples = samples-kept;
        noise = noise-kept;
      }
    where
      sums-long : length (piloted_at l a zi zq).sum ≡ length l.sum
      sums-long = unfold piloted_at in length-set (set l.sum (2 * a) _) (2 * a + 1) _ ∙ length-set l.sum (2 * a) _

      counts-long : length (piloted_at l a zi zq).count ≡ length l.count
      counts-long = unfold piloted_at in length-set l.count a _

      samples-kept : (piloted_at l a zi zq).samples ≤ 67108864
      samples-kept = unfold piloted_at in c.samples

      noise-kept : let m = piloted_at l a zi zq in From (m.samples * 2 ^ 33) (m.samples * (2 ^ 33 + 2 ^ 31)) m.noise
      noise-kept = unfold piloted_at in c.noise

-- ---- a noise sample: from -2^33 to 2^33 + 2^31
squared : (z : ℤ) → Part z → (dn (z *ℤ z) ≡ 0) × (up (z *ℤ z) ≤ 2 ^ 30)
squared (pos x) p = let h : x ≤ 2 ^ 15 = omega (arith, ud_le p.high) in (refl, mul-le-mul h h)
squared (negsuc x) p = let h : suc x ≤ 2 ^ 15 = omega (arith, ud_le p.low) in (refl, mul-le-mul h h)

sample_from : (yi yq best : ℤ) → Part yi → Part yq → nat_abs best ≤ 2 ^ 33 → From (2 ^ 33) (2 ^ 33 + 2 ^ 31) (sample_of yi yq best)
unfolding sample_of
sample_from yi yq best pi pq h =
    let i = yi *ℤ yi in
    let q = yq *ℤ yq in
    let si = squared yi pi in
    let sq = squared yq pq in
    record {
      low = le_ud (minus (2 ^ 33)) (i +ℤ q +ℤ best) (omega (arith, si, sq, sum_ud i q, sum_ud (i +ℤ q) best, size_ud best));
      high = le_ud (i +ℤ q +ℤ best) (pos (2 ^ 33 + 2 ^ 31)) (omega (arith, si, sq, sum_ud i q, sum_ud (i +ℤ q) best, size_ud best));
    }

pub sampled_coherent : (l : Learn) (yi yq best : ℤ) → Coherent l → l.samples < 67108864 → Part yi → Part yq → nat_abs best ≤ 2 ^ 33 →
    Coherent (sampled_by l yi yq best)
unfolding sampled_by
sampled_coherent l yi yq best c r pi pq h =
    record {
      numbers = c.numbers;
      labels = c.labels;
      few = c.few;
      sums = c.sums;
      samples = omega arith;
      noise = more l.samples (2 ^ 33) (2 ^ 33 + 2 ^ 31) l.noise (sample_of yi yq best) c.noise (sample_from yi yq best pi pq h);
    }

-- ---- the ranges
pub passes : (t : Bool) → T t → t ≡ true
passes true h = refl
passes false h = absurd h

within : (z : ℤ) (m n m2 n2 : ℕ) → From m n z → m ≤ m2 → n ≤ n2 → (le_z (minus m2) z ≡ true) × (le_z z (pos n2) ≡ true)
within z m n m2 n2 f h k = (
  passes (le_z (minus m2) z) (le_ud (minus m2) z (omega (arith, ud_le f.low, neg_ud (pos m), neg_ud (pos m2)))).le,
  passes (le_z z (pos n2)) (le_ud z (pos n2) (omega (arith, ud_le f.high))).le,
)

sum_within : (l : Learn) → Coherent l → (i : ℕ) → i < 124 → sum_in_range (sum_at l.sum i) ≡ true
unfolding sum_in_range
sum_within l c i h =
    let n = count_at l.count (i / 2) in
    let f = c.few (i / 2) (omega arith) in
    let w = within (sum_at l.sum i) (n * 2 ^ 15) (n * (2 ^ 15 - 1)) (2 ^ 41) (2 ^ 41 - 2 ^ 26) (c.sums i h) (omega arith) (omega arith) in
    rw (w.0, w.1)

pub coherent_in_range : (l : Learn) → Coherent l → learn_in_range l ≡ true
unfolding learn_in_range sums_in_range counts_in_range
coherent_in_range l c =
    let s = all_of (λ (i : ℕ). sum_in_range (sum_at l.sum i)) 124 (sum_within l c) in
    let n = all_of (λ (i : ℕ). leb (count_at l.count i) 67108864) 62 (λ a h. le-leb (count_at l.count a) 67108864 (c.few a h)) in
    let w = within l.noise (l.samples * 2 ^ 33) (l.samples * (2 ^ 33 + 2 ^ 31)) (2 ^ 59) (2 ^ 59 + 2 ^ 57) c.noise (omega (arith, c.samples)) (omega (arith, c.samples)) in
    rw (s, n, w.0, w.1, le-leb l.samples 67108864 c.samples)
