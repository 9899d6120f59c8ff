-- What a training symbol adds to the sums: `train` of chain/eq.rs, R[r][c] += conj(x_r) x_c for r up to c, row by row, and p[r] += conj(x_r) d.
-- Symbol k of the line is x_k; the newest comes first.
use Rattle.std.specs.Prelude.{ℕ, zero, suc, ◌+◌, ◌*◌, List, [], ◌∷◌, ◌++◌, ℤ, pos, ◌+ℤ◌, ◌-ℤ◌, ◌*ℤ◌, get_or}
use Rattle.laws.specs.Ranges.{firsts}
use Rattle.fx.specs.declared.Parts.{Parts}
use Rattle.sums.specs.declared.Sums.{Sums}

-- number k of a list
abbrev pub nth : List ℤ → ℕ → ℤ
nth l k = get_or l k (pos 0)

-- conj(a) times b
unfoldable pub conj_product : ℤ → ℤ → ℤ → ℤ → Parts
conj_product ar ai br bi = record { re = ar *ℤ br +ℤ ai *ℤ bi; im = ar *ℤ bi -ℤ ai *ℤ br }

-- conj(x_r) x_c, and conj(x_r) d
unfoldable pub line_product : List ℤ → ℕ → ℕ → Parts
line_product line r c = conj_product (nth line (2 * r)) (nth line (2 * r + 1)) (nth line (2 * c)) (nth line (2 * c + 1))

unfoldable pub right_product : List ℤ → ℤ → ℤ → ℕ → Parts
right_product line di dq r = conj_product (nth line (2 * r)) (nth line (2 * r + 1)) di dq

-- the products of row r from column c on, n of them, each real part before imaginary part
unfoldable pub row_products : List ℤ → ℕ → ℕ → ℕ → List ℤ
row_products line r c zero = []
row_products line r c (suc n) = (line_product line r c).re ∷ (line_product line r c).im ∷ row_products line r (suc c) n

-- those of the n rows from r on, each from its diagonal on
unfoldable pub upper_products : List ℤ → ℕ → ℕ → List ℤ
upper_products line r zero = []
upper_products line r (suc n) = row_products line r r (suc n) ++ upper_products line (suc r) n

-- the right-hand products of the n rows from r on
unfoldable pub right_products : List ℤ → ℤ → ℤ → ℕ → ℕ → List ℤ
right_products line di dq r zero = []
right_products line di dq r (suc n) = (right_product line di dq r).re ∷ (right_product line di dq r).im ∷ right_products line di dq (suc r) n

-- the first n numbers of s, each with its number of p added
unfoldable pub added : List ℤ → List ℤ → ℕ → List ℤ
added s p n = firsts (λ k. nth s k +ℤ nth p k) n

-- the sums after a training symbol
unfoldable pub trained_sums : Sums → List ℤ → ℤ → ℤ → Sums
trained_sums s line di dq =
    record {
      frame = s.frame;
      count = s.count + 1;
      r = added s.r (upper_products line 0 11) 132;
      p = added s.p (right_products line di dq 0 11) 22;
    }
