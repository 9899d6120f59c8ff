-- A loop that writes an array or a lent slice from its start: after i turns it holds `firsts f i ++ drop i ys`. Assumes nothing.
use Rattle.std.proofs.Common.{◌≡◌, ℕ, zero, suc, ◌+◌, ◌<◌, ◌≤◌, List, [], ◌∷◌, ◌++◌, length, get_or, drop, set, sym, refl, ◌∙◌, ⊎_elim, append_assoc, le_refl, le_of_suc-le-suc, not-suc-le-zero, eq-or-lt_of_le, add-one, arith, length-append, length-drop, drop-cons}
use lib.ListN.{get_or-append}
use lib.Seq.{set_at, get_or_at}
use Rattle.laws.specs.Ranges.{firsts}

module _ {A : Type 0} where
  pub length-firsts : (f : ℕ → A) (n : ℕ) → length (firsts f n) ≡ n
  unfolding firsts
  length-firsts f zero = refl
  length-firsts f (suc n) = rw (length-append (firsts f n) (f n ∷ []), length-firsts f n) (add-one n)

  fill_step : (xs ys : List A) (i : ℕ) (v : A) → length xs ≡ i → i < length ys → set (xs ++ drop i ys) i v ≡ (xs ++ (v ∷ [])) ++ drop (suc i) ys
  fill_step xs ys i v e h = rw (drop-cons ys i v h) (set_at xs (get_or ys i v) (drop (suc i) ys) v i e ∙ sym (append_assoc xs (v ∷ []) (drop (suc i) ys)))

  -- a turn of the loop
  pub firsts-step : (f : ℕ → A) (ys : List A) (i : ℕ) (v : A) → v ≡ f i → i < length ys → set (firsts f i ++ drop i ys) i v ≡ firsts f (i + 1) ++ drop (i + 1) ys
  unfolding firsts
  firsts-step f ys i v e h = rw (add-one i, e) (fill_step (firsts f i) ys i (f i) (length-firsts f i) h)

  pub length-fill : (f : ℕ → A) (ys : List A) (i : ℕ) → i ≤ length ys → length (firsts f i ++ drop i ys) ≡ length ys
  length-fill f ys i h = rw (length-append (firsts f i) (drop i ys), length-firsts f i, length-drop i ys) (omega arith)

  -- what stands there
  getD-here : (f : ℕ → A) (d : A) (n l : ℕ) → l < n → get_or (firsts f n) l d ≡ f l
  unfolding firsts
  getD-here f d zero l h = absurd (not-suc-le-zero h)
  getD-here f d (suc n) l h =
      ⊎_elim
      (λ (e : l ≡ n). rw e (get_or_at (firsts f n) (f n) [] d n (length-firsts f n)))
      (λ (k : l < n). get_or-append (firsts f n) (f n ∷ []) d l (omega (arith, length-firsts f n)) ∙ getD-here f d n l k)
      (eq-or-lt_of_le (le_of_suc-le-suc h))

  pub getD-firsts : (f : ℕ → A) (d : A) (n : ℕ) (ys : List A) (l : ℕ) → l < n → get_or (firsts f n ++ ys) l d ≡ f l
  getD-firsts f d n ys l h = get_or-append (firsts f n) ys d l (omega (arith, length-firsts f n)) ∙ getD-here f d n l h

  -- only the values below n matter
  pub firsts-ext : (f g : ℕ → A) (n : ℕ) → ((l : ℕ) → l < n → f l ≡ g l) → firsts f n ≡ firsts g n
  unfolding firsts
  firsts-ext f g zero h = refl
  firsts-ext f g (suc n) h = rw (firsts-ext f g n (λ l k. h l (omega arith)), h n (le_refl (suc n)))
