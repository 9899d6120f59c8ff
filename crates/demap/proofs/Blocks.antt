-- A block's buffer: a turn puts one symbol's soft bits behind those that are there. Assumes nothing.
use mathlib.Core.List.{List, ◌++◌, append_assoc, append-nil}
use mathlib.Core.Logic.{⊎_elim}
use mathlib.Core.Path.{◌≡◌, sym, ◌∙◌}
use Prim.Native.Nat.{ℕ, zero, suc, ◌+◌, ◌-◌, ◌*◌, ◌≤◌, ◌<◌}
use native.Mathlib.Nat.{suc-mul, zero-mul, mul-le-mul, le_refl, le_of_suc-le-suc, not-suc-le-zero, eq-or-lt_of_le}
use native.Mathlib.Numerals.{add-one}
use native.Mathlib.Omega.{arith}
use lib.IntN.{ℤ, pos}
use lib.ListN.{length, get_or, take, drop, length-append, length-drop, length-take, drop_of_length-le}
use lib.Seq.{take_at, drop_at, drop-drop, get_or-append-add}
use Rattle.laws.proofs.Lists.{length-firsts, getD-firsts}
use Rattle.demap.specs.Demap.{soft_at, soft_bits, symbol_metric, block_bits}

pub length_bits : (f : ℕ → ℤ) (bits : ℕ) (k : ℤ) → length (soft_bits f bits k) ≡ bits
unfolding soft_bits
length_bits f bits k = length-firsts (soft_at f bits k) bits

pub length_block : (sy points : List ℤ) (bits : ℕ) (k : ℤ) (n : ℕ) → length (block_bits sy points bits k n) ≡ n * bits
unfolding block_bits
length_block sy points bits k zero = sym (zero-mul bits)
length_block sy points bits k (suc n) =
    rw (
      length-append (block_bits sy points bits k n) (soft_bits (symbol_metric sy points n) bits k),
      length_block sy points bits k n,
      length_bits (symbol_metric sy points n) bits k,
    )
    (sym (suc-mul n bits))

-- symbol s of n has its place
pub turn : (s n bits room : ℕ) → s < n → n * bits ≤ room → s * bits + bits ≤ room
turn s n bits room h k =
    let p : suc s * bits ≤ n * bits = mul-le-mul h (le_refl bits) in
    omega (arith, suc-mul s bits)

pub upto : (s n bits room : ℕ) → s ≤ n → n * bits ≤ room → s * bits ≤ room
upto s n bits room h k =
    let p : s * bits ≤ n * bits = mul-le-mul h (le_refl bits) in
    omega arith

pub length_so_far : (sy points : List ℤ) (bits : ℕ) (k : ℤ) (s : ℕ) (old : List ℤ) → s * bits ≤ length old →
    length (block_bits sy points bits k s ++ drop (s * bits) old) ≡ length old
length_so_far sy points bits k s old h =
    rw (length-append (block_bits sy points bits k s) (drop (s * bits) old), length_block sy points bits k s, length-drop (s * bits) old) (omega arith)

pub whole : (o n : ℕ) → o + n - o ≡ n
whole o n = omega arith

pub part_long : (o n : ℕ) (out : List ℤ) → o + n ≤ length out → length (take n (drop o out)) ≡ n
part_long o n out h = simp (length-take, length-drop) (omega arith)

-- a part of n elements is used up by n
used : (o n : ℕ) (out xs : List ℤ) → o + n ≤ length out → xs ++ drop n (take n (drop o out)) ≡ xs
used o n out xs h = rw (drop_of_length-le (take n (drop o out)) {i = n} (rw (part_long o n out h) (le_refl n))) (append-nil xs)

put : (A old v : List ℤ) (o n : ℕ) → length A ≡ o →
    take o (A ++ drop o old) ++ (v ++ drop n (drop o (A ++ drop o old))) ≡ (A ++ v) ++ drop (o + n) old
put A old v o n e =
    rw (take_at A (drop o old) o e, drop_at A (drop o old) o e, drop-drop n o old) (sym (append_assoc A v (drop (o + n) old)))

-- a turn: v is the lent part after the call
pub block_step : (sy points : List ℤ) (bits : ℕ) (k : ℤ) (s : ℕ) (old out v : List ℤ) → s * bits + bits ≤ length old →
    out ≡ block_bits sy points bits k s ++ drop (s * bits) old →
    v ≡ soft_bits (symbol_metric sy points s) bits k ++ drop bits (take bits (drop (s * bits) out)) →
    take (s * bits) out ++ (v ++ drop bits (drop (s * bits) out)) ≡ block_bits sy points bits k (s + 1) ++ drop ((s + 1) * bits) old
unfolding block_bits
block_step sy points bits k s old out v h e ev =
    let A = block_bits sy points bits k s in
    let w = soft_bits (symbol_metric sy points s) bits k in
    let len : length out ≡ length old = rw e (length_so_far sy points bits k s old (less (s * bits) bits (length old) h)) in
    let ew : v ≡ w = ev ∙ used (s * bits) bits out w (rw len h) in
    rw (ew, e, add-one s, suc-mul s bits) (put A old w (s * bits) bits (length_block sy points bits k s))
  where
    less : (a b c : ℕ) → a + b ≤ c → a ≤ c
    less a b c h = omega arith

-- ---- what stands at place j of symbol s
pub block_at : (sy points : List ℤ) (bits : ℕ) (k : ℤ) (n : ℕ) (rest : List ℤ) (s j : ℕ) → s < n → j < bits →
    get_or (block_bits sy points bits k n ++ rest) (s * bits + j) (pos 0) ≡ soft_at (symbol_metric sy points s) bits k j
unfolding block_bits soft_bits
block_at sy points bits k zero rest s j h q = absurd (not-suc-le-zero h)
block_at sy points bits k (suc n) rest s j h q =
    let A = block_bits sy points bits k n in
    let w = soft_bits (symbol_metric sy points n) bits k in
    rw (append_assoc A w rest)
    (⊎_elim
    (λ (e : s ≡ n).
    rw (e, ← (length_block sy points bits k n))
    (get_or-append-add A (w ++ rest) j (pos 0) ∙ getD-firsts (soft_at (symbol_metric sy points n) bits k) (pos 0) bits rest j q))
    (λ (l : s < n). block_at sy points bits k n (w ++ rest) s j l q)
    (eq-or-lt_of_le (le_of_suc-le-suc h)))
