-- Places of the buffer, and the points that a demap looks at. Assumes nothing.
use Prim.Native.Nat.{ℕ, zero, suc, ◌+◌, ◌*◌, ◌^◌, ◌≤◌}
use mathlib.Core.List.{List, [], ◌++◌, append-nil}
use mathlib.Core.Path.{◌≡◌, refl}
use native.Mathlib.Omega.{arith}
use lib.IntN.{ℤ, pos}
use lib.ListN.{length, get_or, take, drop, length-take, drop_of_length-le}
use lib.Seq.{drop-drop, get_or-take}
use Rattle.demap.specs.Demap.{label_metric, soft_bits, block_bits, symbol_metric}
use Rattle.laws.specs.Ranges.{firsts}
use Rattle.demap.proofs.Stage.{soft_bits_ext}
use Rattle.receiver_slot.specs.Steps.{put_at}

-- only the points of 2^bits labels are looked at
pub bits_of_part : (yi yq : ℤ) (points : List ℤ) (bits n : ℕ) (k : ℤ) → n ≡ 2 * 2 ^ bits →
    soft_bits (label_metric yi yq (take n points)) bits k ≡ soft_bits (label_metric yi yq points) bits k
unfolding label_metric
bits_of_part yi yq points bits n k e =
    soft_bits_ext (label_metric yi yq (take n points)) (label_metric yi yq points) bits k
    (λ l h. rw (get_or-take n points (2 * l) (pos 0) (omega (arith, e, h)), get_or-take n points (2 * l + 1) (pos 0) (omega (arith, e, h))))

-- no bits, no values
pub bits_none : (f : ℕ → ℤ) (bits : ℕ) (k : ℤ) → bits ≡ 0 → soft_bits f bits k ≡ []
unfolding soft_bits firsts
bits_none f bits k e = rw e

-- the same of a block of symbols
pub block_of_part : (sy points : List ℤ) (bits n : ℕ) (k : ℤ) (m : ℕ) → n ≡ 2 * 2 ^ bits → block_bits sy (take n points) bits k m ≡ block_bits sy points bits k m
unfolding block_bits symbol_metric
block_of_part sy points bits n k zero e = refl
block_of_part sy points bits n k (suc m) e =
    rw (block_of_part sy points bits n k m e, bits_of_part (get_or sy (2 * m) (pos 0)) (get_or sy (2 * m + 1) (pos 0)) points bits n k e)

pub block_none : (sy points : List ℤ) (bits : ℕ) (k : ℤ) (m : ℕ) → bits ≡ 0 → block_bits sy points bits k m ≡ []
unfolding block_bits
block_none sy points bits k zero e = refl
block_none sy points bits k (suc m) e = rw (block_none sy points bits k m e, bits_none (symbol_metric sy points m) bits k e)

-- a part of n places from o on that was lent, and came back with n values
pub put_part : (o n : ℕ) (v values old : List ℤ) → o + n ≤ length old → length values ≡ n → v ≡ values ++ drop n (take n (drop o old)) →
    take o old ++ (v ++ drop n (drop o old)) ≡ put_at o values old
unfolding put_at
put_part o n v values old h l e =
    let none : drop n (take n (drop o old)) ≡ [] = drop_of_length-le (take n (drop o old)) {i = n} (omega (arith, length-take n (drop o old))) in
    rw (e, none, append-nil values, drop-drop n o old, l)
