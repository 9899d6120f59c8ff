-- What the definitions of demap mean. Each statement stands above its proof; the parts that are long are in Distances, Softs and Labels. The
-- number of bits is left open throughout. Assumes nothing.
use Rattle.std.specs.Prelude.{Ok}
use mathlib.Core.Bool.{false}
use mathlib.Core.List.{List}
use mathlib.Core.Path.{◌≡◌, refl}
use Prim.Native.Nat.{ℕ, ◌+◌, ◌-◌, ◌*◌, ◌/◌, ◌^◌, ◌≤◌, ◌<◌, zero-le}
use native.Mathlib.Nat.{le_refl, le_of_suc-le-suc, div-lt_iff_lt-mul}
use native.Mathlib.Omega.{arith}
use borrow.Author.Tests.{ltb-false}
use lib.IntN.{ℤ, pos, negsuc, nat_abs, ◌+ℤ◌, ◌-ℤ◌, ◌*ℤ◌}
use lib.ListN.{length, get_or, drop}
use lib.Pow.{pow_pos}
use lib.Signed.{lt_z, ◌≤ℤ◌, ◌<ℤ◌}
use Rattle.fx.proofs.Theorems.{sat127_theorem}
use Rattle.fx.specs.Fx.{round_shift, div_round}
use Rattle.laws.proofs.Least.{least_le, least_hit}
use Rattle.laws.proofs.Linear.{dif_ud, ud_le, le_ud, size_le, test_le}
use Rattle.laws.proofs.Lists.{getD-firsts}
use Rattle.laws.proofs.Tests.{never, if_either}
use Rattle.laws.specs.Choice.{minus}
use Rattle.demap.proofs.Accepted.{accepted, block_accepted}
use Rattle.demap.proofs.Blocks.{block_at}
use Rattle.demap.proofs.Distances.{metric_parts, metric_low, metric_high}
use Rattle.demap.proofs.Labels.{bit_is_zero, bit_is_one, lowest_is}
use Rattle.demap.proofs.Softs.{soft_up, gap_above, gap_below}
use Rattle.demap.specs.Answers.{demap_refusal, demap_buffer, block_refusal, block_buffer}
use Rattle.demap.specs.Demap.{squared_size, squared_distance, metric_of, label_metric, label_distance, Nearest, every, least_metric, lowest_label, bit_of, gap_of, soft_of, soft_at, soft_bits, symbol_metric, scale_of}

-- ---- THE METRIC is the squared distance less |y|², and |p|² less twice y · p
pub metric_theorem : (yi yq pi pq : ℤ) →
    (metric_of yi yq pi pq ≡ squared_distance yi yq pi pq -ℤ squared_size yi yq)
    × (metric_of yi yq pi pq ≡ squared_size pi pq -ℤ pos 2 *ℤ (yi *ℤ pi +ℤ yq *ℤ pq))
unfolding metric_of
metric_theorem yi yq pi pq = (refl, metric_parts yi yq pi pq)

-- .. and of 16-bit numbers it lies in -2^31 .. 3 · 2^31
pub range_theorem : (yi yq pi pq : ℤ) → nat_abs yi ≤ 2 ^ 15 → nat_abs yq ≤ 2 ^ 15 → nat_abs pi ≤ 2 ^ 15 → nat_abs pq ≤ 2 ^ 15 →
    (minus (2 ^ 31) ≤ℤ metric_of yi yq pi pq) × (metric_of yi yq pi pq ≤ℤ pos (3 * 2 ^ 31))
range_theorem yi yq pi pq h k m n = (metric_low yi yq pi pq h k, metric_high yi yq pi pq h k m n)

-- ---- THE LEAST METRIC is that of a point, and no point's is less
pub record IsLeast (f : ℕ → ℤ) (n : ℕ) (v : ℤ) : Type 0 where
  pub label : ℕ
  pub below : label < n
  pub is : v ≡ f label
  pub least : (m : ℕ) → m < n → v ≤ℤ f m

pub least_theorem : (yi yq : ℤ) (points : List ℤ) (bits : ℕ) →
    IsLeast (label_metric yi yq points) (2 ^ bits) (least_metric (label_metric yi yq points) (2 ^ bits))
unfolding least_metric
least_theorem yi yq points bits =
    let f = label_metric yi yq points in
    let n = 2 ^ bits in
    let hit = least_hit every f (f 0) n n (le_refl n) (0, pow_pos bits, refl, refl) in
    record { label = hit.0; below = hit.1; is = hit.3; least = λ m h. least_le every f (f 0) n m h refl }

-- ---- THE LOWEST LABEL that has the least metric
pub lowest_theorem : (yi yq : ℤ) (points : List ℤ) (bits : ℕ) →
    let f = label_metric yi yq points in
    let v = least_metric f (2 ^ bits) in
    let l = lowest_label f (2 ^ bits) v in
    (l < 2 ^ bits) × (f l ≡ v) × ((m : ℕ) → m < l → v <ℤ f m)
lowest_theorem yi yq points bits = lowest_is (label_metric yi yq points) (2 ^ bits) (pow_pos bits)

-- ---- A SOFT VALUE lies within ±127 and does not fall as the gap grows
pub within_theorem : (gap k : ℤ) → nat_abs (soft_of gap k) ≤ 127
unfolding soft_of
within_theorem gap k =
    let v = round_shift (gap *ℤ k) 32 in
    let s = sat127_theorem v in
    size_le (soft_of gap k) 127 (omega (arith, ud_le s.high)) (omega (arith, ud_le s.low))

pub monotone_theorem : (gap gap2 k : ℤ) → gap ≤ℤ gap2 → pos 0 ≤ℤ k → soft_of gap k ≤ℤ soft_of gap2 k
monotone_theorem = soft_up

-- ---- WHAT A SOFT VALUE TELLS of the bit at place j, where the most significant is at place 0: if it is above 0, every nearest point has that
-- bit 0; if it is below 0, every nearest point has that bit 1
pub record Tells (yi yq : ℤ) (points : List ℤ) (bits j : ℕ) (v : ℤ) : Type 0 where
  pub within : nat_abs v ≤ 127
  pub zero_bit : pos 0 <ℤ v → (l : ℕ) → Nearest yi yq points (2 ^ bits) l → bit_of (bits - 1 - j) l ≡ 0
  pub one_bit : v <ℤ pos 0 → (l : ℕ) → Nearest yi yq points (2 ^ bits) l → bit_of (bits - 1 - j) l ≡ 1

-- the nearest point has the least metric
by_metric : (yi yq : ℤ) (points : List ℤ) (n l : ℕ) → Nearest yi yq points n l → (m : ℕ) → m < n → label_metric yi yq points l ≤ℤ label_metric yi yq points m
unfolding label_metric label_distance metric_of
by_metric yi yq points n l h m k =
    let y = squared_size yi yq in
    let a = squared_distance yi yq (get_or points (2 * l) (pos 0)) (get_or points (2 * l + 1) (pos 0)) in
    let b = squared_distance yi yq (get_or points (2 * m) (pos 0)) (get_or points (2 * m + 1) (pos 0)) in
    le_ud (a -ℤ y) (b -ℤ y) (omega (arith, ud_le (h.nearest m k), dif_ud a y, dif_ud b y))

pub bits_theorem : (yi yq : ℤ) (points : List ℤ) (bits : ℕ) (k : ℤ) → pos 0 ≤ℤ k → (j : ℕ) → j < bits →
    Tells yi yq points bits j (soft_at (label_metric yi yq points) bits k j)
unfolding soft_at
bits_theorem yi yq points bits k z j h =
    let f = label_metric yi yq points in
    let b = bits - 1 - j in
    let g = gap_of f (2 ^ bits) b in
    record {
      within = within_theorem g k;
      zero_bit = λ s l near. bit_is_zero f bits b (omega arith) (gap_above g k z s) l near.below (by_metric yi yq points (2 ^ bits) l near);
      one_bit = λ s l near. bit_is_one f bits b (omega arith) (gap_below g k z s) l near.below (by_metric yi yq points (2 ^ bits) l near);
    }

-- ---- OF A SINGLE DEMAP that is taken, each value that it leaves in the buffer
pub demap_theorem : (yi yq : ℤ) (points : List ℤ) (bits : ℕ) (k : ℤ) (out : List ℤ) → demap_refusal bits (length points) k (length out) ≡ Ok tt →
    (j : ℕ) → j < bits → Tells yi yq points bits j (get_or (demap_buffer yi yq points bits k out) j (pos 0))
unfolding demap_buffer soft_bits
demap_theorem yi yq points bits k out e j h =
    let f = label_metric yi yq points in
    let a = accepted bits (length points) k (length out) e in
    let z : pos 0 ≤ℤ k = le_ud (pos 0) k (test_le k (pos 0) a.not_below) in
    rw (e, getD-firsts (soft_at f bits k) (pos 0) bits (drop bits out) j h)
    (bits_theorem yi yq points bits k z j h)

-- ---- OF A BLOCK that is taken, each value of symbol s
pub block_theorem : (sy points : List ℤ) (bits : ℕ) (k : ℤ) (out : List ℤ) →
    block_refusal (length sy / 2) bits (length points) k (length out) ≡ Ok tt → (s j : ℕ) → s < length sy / 2 → j < bits →
    Tells (get_or sy (2 * s) (pos 0)) (get_or sy (2 * s + 1) (pos 0)) points bits j (get_or (block_buffer sy points bits k out) (s * bits + j) (pos 0))
unfolding block_buffer symbol_metric
block_theorem sy points bits k out e s j h q =
    let n = length sy / 2 in
    let a = block_accepted n bits (length points) k (length out) e in
    let z : pos 0 ≤ℤ k = le_ud (pos 0) k (test_le k (pos 0) a.1.not_below) in
    rw (e, block_at sy points bits k n (drop (n * bits) out) s j h q)
    (bits_theorem (get_or sy (2 * s) (pos 0)) (get_or sy (2 * s + 1) (pos 0)) points bits k z j q)

-- ---- THE SCALE lies in 0 .. 2^24, so no answer of `scale_of` is refused as a k
scaled : (b : ℤ) → lt_z b (pos 256) ≡ false → (pos 0 ≤ℤ div_round (pos (2 ^ 32)) b) × (nat_abs (div_round (pos (2 ^ 32)) b) ≤ 2 ^ 24)
unfolding div_round
scaled (pos b) t = (le_ud (pos 0) (pos ((8589934592 + b) / (2 * b))) zero-le, most b (ltb-false b 256 t))
  where
    most : (b : ℕ) → 256 ≤ b → (8589934592 + b) / (2 * b) ≤ 16777216
    most b h = le_of_suc-le-suc ((div-lt_iff_lt-mul {k = 2 * b} {x = 8589934592 + b} {y = 16777217} (omega arith)).1 (omega arith))
scaled (negsuc b) t = absurd (never t)

pub scale_theorem : (n0 : ℤ) → (pos 0 ≤ℤ scale_of n0) × (nat_abs (scale_of n0) ≤ 2 ^ 24)
unfolding scale_of
scale_theorem n0 =
    if_either (λ (b : ℤ). (pos 0 ≤ℤ div_round (pos (2 ^ 32)) b) × (nat_abs (div_round (pos (2 ^ 32)) b) ≤ 2 ^ 24)) (lt_z n0 (pos 256)) (pos 256) n0
    (λ e. scaled (pos 256) refl) (λ e. scaled n0 e)
