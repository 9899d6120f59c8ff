-- Soft bits of a symbol: document 01, "Phase, equaliser, solver, demapper". A symbol is yi, yq; points are pairs in the order of their labels,
-- I before Q.
use Rattle.std.specs.Prelude.{ℕ, zero, suc, ◌+◌, ◌-◌, ◌*◌, ◌/◌, ◌%◌, ◌^◌, ◌<◌, Bool, true, not, List, [], ◌++◌, eqb, ℤ, pos, ◌+ℤ◌, ◌-ℤ◌, ◌*ℤ◌, get_or, ◌≤ℤ◌}
use Rattle.std.specs.Int.Signed.{lt_z}
use Rattle.laws.specs.Choice.{when◌then◌else◌}
use Rattle.laws.specs.Ranges.{least_of, firsts, first_from}
use Rattle.fx.specs.Fx.{round_shift, div_round, sat127_of}

-- |y|²
abbrev pub squared_size : ℤ → ℤ → ℤ
squared_size yi yq = yi *ℤ yi +ℤ yq *ℤ yq

unfoldable pub squared_distance : ℤ → ℤ → ℤ → ℤ → ℤ
squared_distance yi yq pi pq = (yi -ℤ pi) *ℤ (yi -ℤ pi) +ℤ (yq -ℤ pq) *ℤ (yq -ℤ pq)

-- "`metric`, which is squared distance minus |y|²"
unfoldable pub metric_of : ℤ → ℤ → ℤ → ℤ → ℤ
metric_of yi yq pi pq = squared_distance yi yq pi pq -ℤ squared_size yi yq

-- the metric of the point of label l
unfoldable pub label_metric : ℤ → ℤ → List ℤ → ℕ → ℤ
label_metric yi yq points l = metric_of yi yq (get_or points (2 * l) (pos 0)) (get_or points (2 * l + 1) (pos 0))

-- the squared distance of the point of label l
unfoldable pub label_distance : ℤ → ℤ → List ℤ → ℕ → ℤ
label_distance yi yq points l = squared_distance yi yq (get_or points (2 * l) (pos 0)) (get_or points (2 * l + 1) (pos 0))

-- of n points that of label l is "nearest if every other has at least its squared distance to that symbol"
pub record Nearest (yi yq : ℤ) (points : List ℤ) (n l : ℕ) : Type 0 where
  pub below : l < n
  pub nearest : (m : ℕ) → m < n → label_distance yi yq points l ≤ℤ label_distance yi yq points m

-- ---- of a metric f of labels
abbrev pub every : ℕ → Bool
every l = true

-- "the least `metric`" of n labels
unfoldable pub least_metric : (ℕ → ℤ) → ℕ → ℤ
least_metric f n = least_of every f (f 0) n

-- "the lowest label that has it": of n labels, the first whose metric is at most v
unfoldable pub lowest_label : (ℕ → ℤ) → ℕ → ℤ → ℕ
lowest_label f n v = first_from (λ (l : ℕ). not (lt_z v (f l))) n 0

-- bit b of a label, which has the weight 2^b
abbrev pub bit_of : ℕ → ℕ → ℕ
bit_of b l = l / 2 ^ b % 2

-- the least metric of those of n labels whose bit b is v; the first of them is v 2^b
abbrev pub least_with : (ℕ → ℤ) → ℕ → ℕ → ℕ → ℤ
least_with f n b v = least_of (λ (l : ℕ). eqb (bit_of b l) v) f (f (v * 2 ^ b)) n

-- how much farther the nearest label with bit b = 1 is than the nearest with bit b = 0
unfoldable pub gap_of : (ℕ → ℤ) → ℕ → ℕ → ℤ
gap_of f n b = least_with f n b 1 -ℤ least_with f n b 0

-- the soft value of a gap: gap k / 2^32, rounded, within ±127
unfoldable pub soft_of : ℤ → ℤ → ℤ
soft_of gap k = sat127_of (round_shift (gap *ℤ k) 32)

-- "soft bits, most significant first": the one at place j is of bit bits - 1 - j
unfoldable pub soft_at : (ℕ → ℤ) → ℕ → ℤ → ℕ → ℤ
soft_at f bits k j = soft_of (gap_of f (2 ^ bits) (bits - 1 - j)) k

unfoldable pub soft_bits : (ℕ → ℤ) → ℕ → ℤ → List ℤ
soft_bits f bits k = firsts (soft_at f bits k) bits

-- ---- a block: symbols are pairs, I before Q
unfoldable pub symbol_metric : List ℤ → List ℤ → ℕ → ℕ → ℤ
symbol_metric sy points s = label_metric (get_or sy (2 * s) (pos 0)) (get_or sy (2 * s + 1) (pos 0)) points

-- the soft bits of the first n symbols, one symbol behind the other
unfoldable pub block_bits : List ℤ → List ℤ → ℕ → ℤ → ℕ → List ℤ
block_bits sy points bits k zero = []
block_bits sy points bits k (suc n) = block_bits sy points bits k n ++ soft_bits (symbol_metric sy points n) bits k

-- ---- the scale k of a noise figure: 2^32 / max(n0, 256), rounded
unfoldable pub scale_of : ℤ → ℤ
scale_of n0 = div_round (pos (2 ^ 32)) (when lt_z n0 (pos 256) then pos 256 else n0)
