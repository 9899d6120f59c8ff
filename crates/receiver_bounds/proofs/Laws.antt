-- A turn of each loop over an array, and its end. Assumes nothing.
use Prim.Native.Nat.{ℕ, ◌+◌, ◌<◌}
use mathlib.Core.Bool.{Bool, ◌&&◌}
use mathlib.Core.List.{List}
use mathlib.Core.Path.{◌≡◌, sym, ap, ◌∙◌}
use native.Mathlib.Numerals.{add-one}
use lib.Dec.{leb}
use lib.IntN.{ℤ, pos, nat_abs}
use lib.ListN.{drop, get_or, length}
use lib.Seq.{drop-cons, drop-length}
use Rattle.eq_train.proofs.Tested.{and_assoc, and_true}
use Rattle.receiver_bounds.specs.Bounds.{all_within}

-- ---- each number of an array within a size
pub all_next : (b : ℕ) (l : List ℤ) (k : ℕ) (all t : Bool) → k < length l → t ≡ leb (nat_abs (get_or l k (pos 0))) b →
    ((all && t) && all_within b (drop (k + 1) l)) ≡ (all && all_within b (drop k l))
unfolding all_within
all_next b l k all t h e =
    and_assoc all t (all_within b (drop (k + 1) l)) ∙ ap (λ (x : Bool). all && x) (rw (e, add-one k) (ap (all_within b) (sym (drop-cons l k (pos 0) h))))

pub all_end : (b : ℕ) (l : List ℤ) (all : Bool) → (all && all_within b (drop (length l) l)) ≡ all
unfolding all_within
all_end b l all = rw (drop-length l) (and_true all)
