-- What pilots and noise samples add up to, and what that teaches: `Learn` of chain/demap.rs.
use Rattle.std.specs.Prelude.{ℕ, zero, suc, ◌+◌, ◌*◌, ◌/◌, ◌^◌, Bool, true, ◌&&◌, List, ltb, ℤ, pos, ◌+ℤ◌, get_or, set, replicate}
use Rattle.laws.specs.Choice.{when◌then◌else◌}
use Rattle.laws.specs.Ranges.{firsts}
use Rattle.fx.specs.Fx.{div_round, sat16_of}
use Rattle.demap.specs.Demap.{squared_size}
use Rattle.learn.specs.declared.Learn.{Learn}
use Rattle.learn.specs.Sets.{first_place, set_start, set_size, with_set}

-- p holds of each number below n
unfoldable pub all_below : (ℕ → Bool) → ℕ → Bool
all_below p zero = true
all_below p (suc n) = all_below p n && p n

-- number i of the sums, and the count at place a
abbrev pub sum_at : List ℤ → ℕ → ℤ
sum_at sum i = get_or sum i (pos 0)

abbrev pub count_at : List ℕ → ℕ → ℕ
count_at count a = get_or count a 0

-- nothing learned yet
unfoldable pub new_learn : Learn
new_learn = record { sum = replicate 124 (pos 0); count = replicate 62 0; noise = pos 0; samples = 0 }

-- ---- additions
-- one more pilot of the label at place a: its two sums and its count
unfoldable pub piloted_at : Learn → ℕ → ℤ → ℤ → Learn
piloted_at l a zi zq =
    record {
      sum = set (set l.sum (2 * a) (sum_at l.sum (2 * a) +ℤ zi)) (2 * a + 1) (sum_at l.sum (2 * a + 1) +ℤ zq);
      count = set l.count a (count_at l.count a + 1);
      noise = l.noise;
      samples = l.samples;
    }

-- a noise sample: |y|² + best, the squared distance to the nearest point if best is the least metric
unfoldable pub sample_of : ℤ → ℤ → ℤ → ℤ
sample_of yi yq best = squared_size yi yq +ℤ best

unfoldable pub sampled_by : Learn → ℤ → ℤ → ℤ → Learn
sampled_by l yi yq best = record { sum = l.sum; count = l.count; noise = l.noise +ℤ sample_of yi yq best; samples = l.samples + 1 }

-- ---- learned points
-- each of the n labels from place a on has a pilot
unfoldable pub all_piloted : List ℕ → ℕ → ℕ → Bool
all_piloted count a n = all_below (λ (i : ℕ). ltb 0 (count_at count (a + i))) n

-- a set is learned if every label of it has a pilot
unfoldable pub set_learned : Learn → ℕ → Bool
set_learned l bits = all_piloted l.count (first_place bits) (2 ^ bits)

-- a mean, rounded: the floor of sum / count + 1/2, as a 16-bit number
unfoldable pub mean_of : ℤ → ℕ → ℤ
mean_of sum count = sat16_of (div_round sum (pos count))

-- the mean that number i of the sums gives; it belongs to the label at place i / 2
unfoldable pub mean_at : List ℤ → List ℕ → ℕ → ℤ
mean_at sum count i = mean_of (sum_at sum i) (count_at count (i / 2))

-- the points of a set
unfoldable pub set_means : Learn → ℕ → List ℤ
set_means l bits = firsts (λ (i : ℕ). mean_at l.sum l.count (set_start bits + i)) (set_size bits)

-- the slice of learned points after a set was asked for: "no learned points while a label has count 0"
unfoldable pub learned_slice : Learn → ℕ → List ℤ → List ℤ
learned_slice l bits learned = when set_learned l bits then with_set bits (set_means l bits) learned else learned

-- ---- the noise figure: the mean of the samples, rounded
unfoldable pub mean_noise : Learn → ℤ
mean_noise l = div_round l.noise (pos l.samples)
