-- Laws of numbers as text. Assumes nothing.
use mathlib.Core.List.{List, [], ◌∷◌, ◌++◌, append_assoc}
use mathlib.Core.Path.{◌≡◌, refl, sym, ap, ap₂, subst, ◌∙◌}
use Prim.Native.Nat.{ℕ, zero, suc, ◌-◌, ◌/◌, ◌%◌, ◌^◌, ◌≤◌, ◌<◌}
use native.Mathlib.Nat.{not-suc-le-zero, le_of_suc-le-suc, pow-suc, pow-zero}
use native.Mathlib.Omega.{arith}
use borrow.Author.Tests.{lt-ltb, ltb-true, ltb-false}
use lib.Dec.{ltb}
use lib.ListN.{length, take, drop, set, length-drop}
use lib.Seq.{take-length}
use Rattle.laws.proofs.Tests.{by_test}
use Rattle.laws.specs.Choice.{when◌then◌else◌, if_yes, if_no}
use Rattle.lines.specs.Decimal.{digit, decimal_in, decimal_of}

-- what stands before the digits that are written, where `rest` is left of the number and i places are
unfoldable pub front : ℕ → ℕ → List ℕ
front i rest = when ltb 0 rest then decimal_in i rest else []

front_none : (i : ℕ) → front i 0 ≡ []
unfolding front
front_none i = if_no _ _ _ refl

front_some : (i n : ℕ) → 0 < n → front i n ≡ decimal_in i n
unfolding front
front_some i n p = if_yes _ _ _ (lt-ltb 0 n p)

digits_step : (i n : ℕ) → decimal_in (suc i) n ≡ front i (n / 10) ++ (digit (n % 10) ∷ [])
unfolding decimal_in
digits_step i n =
    by_test (ltb n 10)
    (λ t.
    let h : n < 10 = ltb-true n 10 t in
    let z : n / 10 ≡ 0 = omega arith in
    let e : n % 10 ≡ n = omega arith in
    let f : front i (n / 10) ≡ [] = ap (front i) z ∙ front_none i in
    if_yes _ _ _ t ∙ sym (ap₂ (λ (l : List ℕ) (d : ℕ). l ++ (digit d ∷ [])) f e))
    (λ t.
    let h : 10 ≤ n = ltb-false n 10 t in
    let p : 0 < n / 10 = omega arith in
    if_no _ _ _ t ∙ ap (λ (l : List ℕ). l ++ (digit (n % 10) ∷ [])) (sym (front_some i (n / 10) p)))

-- after a store at i, the list from i on begins with what was stored
drop_stored : (t : List ℕ) (i d : ℕ) → i < length t → drop i (set t i d) ≡ d ∷ drop (suc i) t
drop_stored [] i d h = absurd (not-suc-le-zero h)
drop_stored (x ∷ xs) zero d h = refl
drop_stored (x ∷ xs) (suc i) d h = drop_stored xs i d (le_of_suc-le-suc h)

-- the last digit, at the last place
pub digits_begin : (n : ℕ) (l : List ℕ) → length l ≡ 20 → front 19 (n / 10) ++ drop 19 (set l 19 (digit (n % 10))) ≡ decimal_of n
unfolding decimal_of
digits_begin n l h =
    let z : length (drop 20 l) ≡ 0 = omega (arith, length-drop 20 l) in
    ap (λ (m : List ℕ). front 19 (n / 10) ++ m) (drop_stored l 19 (digit (n % 10)) (omega arith) ∙ ap (λ (m : List ℕ). digit (n % 10) ∷ m) (none (drop 20 l) z))
    ∙ sym (digits_step 19 n)
  where
    none : (m : List ℕ) → length m ≡ 0 → m ≡ []
    none [] e = refl
    none (x ∷ xs) e = absurd (omega arith)

-- a turn of the loop that writes digits from the last on
pub digits_turn : (i j rest : ℕ) (l t : List ℕ) → i ≡ suc j → i < length l → 0 < rest → front i rest ++ drop i l ≡ t →
    front j (rest / 10) ++ drop j (set l j (digit (rest % 10))) ≡ t
digits_turn i j rest l t s h p e =
    let a : front (suc j) rest ++ drop (suc j) l ≡ t = subst (λ (k : ℕ). front k rest ++ drop k l ≡ t) s e in
    ap (λ (m : List ℕ). front j (rest / 10) ++ m) (drop_stored l j (digit (rest % 10)) (omega arith))
    ∙ sym (append_assoc (front j (rest / 10)) (digit (rest % 10) ∷ []) (drop (suc j) l))
    ∙ ap (λ (m : List ℕ). m ++ drop (suc j) l) (sym (digits_step j rest) ∙ sym (front_some (suc j) rest p))
    ∙ a

pub digits_end : (i rest : ℕ) (l t : List ℕ) → rest ≤ 0 → front i rest ++ drop i l ≡ t → drop i l ≡ t
digits_end i rest l t z e =
    let y : rest ≡ 0 = omega arith in
    ap (λ (m : List ℕ). m ++ drop i l) (sym (ap (front i) y ∙ front_none i)) ∙ e

-- there is room for what is left
pub places_left : (i rest : ℕ) → 0 < rest → rest < 10 ^ i → 0 < i
places_left zero rest p h = absurd (omega (arith, pow-zero 10))
places_left (suc i) rest p h = omega arith

pub fewer_left : (i j rest : ℕ) → i ≡ suc j → rest < 10 ^ i → rest / 10 < 10 ^ j
fewer_left i j rest s h =
    let e : rest < 10 ^ suc j = subst (λ (k : ℕ). rest < 10 ^ k) s h in
    omega (arith, pow-suc 10 j, e)

-- a list from a place on, taken as a slice
pub sliced : (k : ℕ) (l : List ℕ) → length l ≡ 20 → take (20 - k) (drop k l) ≡ drop k l
sliced k l h =
    let e : 20 - k ≡ length (drop k l) = omega (arith, length-drop k l) in
    ap (λ (n : ℕ). take n (drop k l)) e ∙ take-length (drop k l)
