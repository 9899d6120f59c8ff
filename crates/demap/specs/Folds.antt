-- Internal: how the code gets at the soft bits, by a table of metrics that is folded in half for each bit. That this gives the definitions of
-- Demap is proved in proofs/Fold.antt; nobody need believe what stands here.
use Rattle.std.specs.Prelude.{ℕ, zero, suc, ◌+◌, ◌-◌, ◌*◌, ◌^◌, ◌≤◌, ◌<◌, ◌≡◌, List, ℤ, pos, nat_abs, ◌+ℤ◌, ◌-ℤ◌, ◌*ℤ◌, get_or}
use Rattle.laws.specs.Ranges.{min_z, least_of}
use Rattle.demap.specs.Demap.{every}

-- the metric of a point, from twice the symbol's parts
unfoldable pub by_twice : ℤ → ℤ → ℤ → ℤ → ℤ
by_twice ti tq pi pq = pi *ℤ (pi -ℤ ti) +ℤ pq *ℤ (pq -ℤ tq)

unfoldable pub label_by_twice : ℤ → ℤ → List ℤ → ℕ → ℤ
label_by_twice ti tq points l = by_twice ti tq (get_or points (2 * l) (pos 0)) (get_or points (2 * l + 1) (pos 0))

-- the size of a metric is at most 2^33
abbrev pub Small : ℤ → Type 0
Small z = nat_abs z ≤ 2 ^ 33

-- entry l of a table
abbrev pub entry : List ℤ → ℕ → ℤ
entry m l = get_or m l (pos 0)

-- the table holds f at each label below n, and f is small there
abbrev pub Holds : (ℕ → ℤ) → ℕ → List ℤ → Type 0
Holds f n m = (l : ℕ) → l < n → (entry m l ≡ f l) × Small (f l)

-- the bit of weight h dropped: of two labels that differ in it the lesser metric
unfoldable pub fold : (ℕ → ℤ) → ℕ → ℕ → ℤ
fold f h t = min_z (f t) (f (h + t))

-- the least of the second h less the least of the first h
unfoldable pub half_gap : (ℕ → ℤ) → ℕ → ℤ
half_gap f h = least_of every (λ (t : ℕ). f (h + t)) (f h) h -ℤ least_of every f (f 0) h

-- the top d of so many bits dropped
unfoldable pub folded : (ℕ → ℤ) → ℕ → ℕ → ℕ → ℤ
folded f bits zero = f
folded f bits (suc d) = fold (folded f bits d) (2 ^ (bits - suc d))
