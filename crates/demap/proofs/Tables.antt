-- A table of metrics that is filled by parts, and what stands behind the part of a list that is written. Assumes nothing.
use mathlib.Core.List.{List, ◌++◌}
use mathlib.Core.Path.{◌≡◌, ◌∙◌}
use Prim.Native.Nat.{ℕ, ◌+◌, ◌-◌, ◌≤◌, ◌<◌}
use native.Mathlib.Omega.{arith}
use borrow.Author.Count.{below_more}
use lib.IntN.{ℤ, pos}
use lib.ListN.{length, set, drop}
use lib.Seq.{get_or-append-add, get_or-drop, get_or-set_same, get_or-set_other}
use Rattle.laws.proofs.Lists.{length-firsts}
use Rattle.laws.specs.Ranges.{firsts}
use Rattle.demap.specs.Folds.{Holds, Small, entry}

-- one label more
pub holds_more : (f : ℕ → ℤ) (i : ℕ) (m : List ℤ) (v : ℤ) → i < length m → v ≡ f i → Small (f i) → Holds f i m → Holds f (i + 1) (set m i v)
holds_more f i m v h e b all =
    below_more (λ l. (entry (set m i v) l ≡ f l) × Small (f l)) i
    (λ l k. (get_or-set_other m i l v (pos 0) (λ q. apart l i k q) ∙ (all l k).0, (all l k).1))
    (get_or-set_same m i v (pos 0) h ∙ e, b)
  where
    apart : (l i : ℕ) → l < i → l ≡ i → ⊥
    apart l i k q = omega arith

pub entry_rest : (f : ℕ → ℤ) (ys : List ℤ) (i l : ℕ) → i ≤ l → entry (firsts f i ++ drop i ys) l ≡ entry ys l
entry_rest f ys i l h =
    let e : length (firsts f i) + (l - i) ≡ l = omega (arith, length-firsts f i) in
    let s : i + (l - i) ≡ l = omega arith in
    (rw e at (get_or-append-add (firsts f i) (drop i ys) (l - i) (pos 0))) ∙ get_or-drop i ys (l - i) (pos 0) ∙ rw s
