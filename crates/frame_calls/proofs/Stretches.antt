-- One more symbol of a stretch: who waits, who was the last, how many trained. Assumes nothing.
use Rattle.std.specs.Prelude.{Some}
use Prim.Native.Nat.{ℕ, zero, suc, ◌+◌, ◌-◌, ◌≤◌, max}
use native.Mathlib.Omega.{arith}
use mathlib.Core.Bool.{Bool, ◌&&◌}
use mathlib.Core.List.{List, [], ◌∷◌, ◌++◌}
use mathlib.Core.Path.{◌≡◌, refl, ap}
use borrow.Author.Tests.{leb-true, leb-false}
use lib.Dec.{leb}
use lib.ListN.{length, get_or, take, drop, length-append, length-take, drop_of_length-le}
use lib.Seq.{take-append-le, drop-append-le, take-suc, length-take-le}
use Rattle.laws.specs.Choice.{when◌then◌else◌}
use Rattle.laws.proofs.Tests.{by_test}
use Rattle.phase.specs.declared.Corrected.{Corrected}
use Rattle.frame_map.specs.Map.{part_of}
use Rattle.frame_line.specs.declared.Meta.{Meta}
use Rattle.frame_line.specs.Line.{meta_of}
use Rattle.frame.specs.Align.{is_sync}
use Rattle.frame.specs.Stretch.{metas_of}
use Rattle.frame_calls.specs.Received.{Opening, none, since, Received, is_open, aligned_by, ignored_to, syncs_in, trained_by, trained_since, last_of, joined_by}

-- ---- the last, and what they come out with
pub last_snoc : (xs : List Corrected) (c : Corrected) → last_of (xs ++ c ∷ []) ≡ Some c.at
unfolding last_of
last_snoc [] c = refl
last_snoc (x ∷ []) c = refl
last_snoc (x ∷ y ∷ ys) c = last_snoc (y ∷ ys) c

pub metas_snoc : (xs : List Corrected) (c : Corrected) → metas_of (xs ++ c ∷ []) ≡ metas_of xs ++ meta_of c ∷ []
unfolding metas_of
metas_snoc [] c = refl
metas_snoc (x ∷ xs) c = ap (λ (l : List Meta). meta_of x ∷ l) (metas_snoc xs c)

pub metas_length : (xs : List Corrected) → length (metas_of xs) ≡ length xs
unfolding metas_of
metas_length [] = refl
metas_length (x ∷ xs) = ap suc (metas_length xs)

pub metas_at : (xs : List Corrected) (k : ℕ) (c : Corrected) → get_or (metas_of xs) k (meta_of c) ≡ meta_of (get_or xs k c)
unfolding metas_of
metas_at [] k c = refl
metas_at (x ∷ xs) zero c = refl
metas_at (x ∷ xs) (suc k) c = metas_at xs k c

pub length_snoc : (xs : List Corrected) (c : Corrected) → length (xs ++ c ∷ []) ≡ length xs + 1
length_snoc xs c = length-append xs (c ∷ [])

-- ---- sync symbols
pub syncs_append : (xs ys : List Corrected) → syncs_in (xs ++ ys) ≡ syncs_in xs + syncs_in ys
unfolding syncs_in
syncs_append [] ys = omega arith
syncs_append (x ∷ xs) ys = omega (arith, syncs_append xs ys)

-- the next symbol makes one more: sums are open, it is the 11th or a later one, and five before it stands a sync symbol
unfoldable pub trains_next : Received → Corrected → Bool
trains_next h c = let n = length h.stretch in is_open h.sums && leb 10 n && is_sync (part_of (get_or h.stretch (n - 5) c).j)

-- ---- how many are aligned, and ignored
pub five_behind : (n : ℕ) → aligned_by n ≡ n - 5
unfolding aligned_by
five_behind n = omega arith

-- the line is short, or sums are not open yet
pub ignored : (n m : ℕ) → m ≤ max n 10 → aligned_by m ≤ ignored_to n
unfolding aligned_by ignored_to
ignored n m h = omega (arith, h)

-- neither
pub counted : (n m : ℕ) → n ≤ m → 10 ≤ m → ignored_to n ≤ aligned_by m
unfolding aligned_by ignored_to
counted n m h l = omega (arith, h, l)

none_counted : (n : ℕ) (xs : List Corrected) → length xs ≤ max n 10 → drop (ignored_to n) (take (aligned_by (length xs)) xs) ≡ []
none_counted n xs h =
    let k = aligned_by (length xs) in
    drop_of_length-le (take k xs) {i = ignored_to n} (omega (arith, length-take k xs, ignored n (length xs) h))

one_more : (n : ℕ) (xs : List Corrected) (c : Corrected) → n ≤ length xs → 10 ≤ length xs
    → drop (ignored_to n) (take (aligned_by (length (xs ++ c ∷ []))) (xs ++ c ∷ []))
    ≡ drop (ignored_to n) (take (aligned_by (length xs)) xs) ++ get_or xs (length xs - 5) c ∷ []
one_more n xs c h l =
    let k = length xs - 5 in
    let e : aligned_by (length xs) ≡ k = five_behind (length xs) in
    let m : aligned_by (length (xs ++ c ∷ [])) ≡ suc k = omega (arith, five_behind (length (xs ++ c ∷ [])), length_snoc xs c, l) in
    rw (m, e, take-append-le (suc k) xs (c ∷ []) (omega (arith, l)), take-suc xs k c (omega (arith, l)))
    (drop-append-le (ignored_to n) (take k xs) (get_or xs k c ∷ []) (omega (arith, length-take-le k xs (omega arith), counted n (length xs) h l, e)))

-- how many of the stretch had come at the opening
unfoldable pub begins : Opening → ℕ
begins none = 0
begins (since frame n) = n

trained_more : (o : Opening) (xs : List Corrected) (c : Corrected) → begins o ≤ length xs
    → trained_by o (xs ++ c ∷ []) ≡ trained_by o xs + (when is_open o && leb 10 (length xs) && is_sync (part_of (get_or xs (length xs - 5) c).j) then 1 else 0)
unfolding trained_by syncs_in is_open begins when◌then◌else◌
trained_more none xs c h = omega arith
trained_more (since frame n) xs c h =
    let old = drop (ignored_to n) (take (aligned_by (length xs)) xs) in
    by_test (leb 10 (length xs))
    (λ t. rw (t, one_more n xs c h (leb-true 10 (length xs) t), syncs_append old (get_or xs (length xs - 5) c ∷ [])) (omega arith))
    (λ t.
    let l = leb-false 10 (length xs) t in
    rw (t, none_counted n xs (omega (arith, l)), none_counted n (xs ++ c ∷ []) (omega (arith, l, length_snoc xs c))) (omega arith))

pub trained_next : (h : Received) (c : Corrected) → begins h.sums ≤ length h.stretch → trained_since (joined_by h c) ≡ trained_since h + (when trains_next h c then 1 else 0)
unfolding trained_since joined_by trains_next
trained_next h c b = trained_more h.sums h.stretch c b

-- at the opening none is counted yet
pub none_yet : (frame n : ℕ) (xs : List Corrected) → length xs ≤ n → trained_by (since frame n) xs ≡ 0
unfolding trained_by syncs_in
none_yet frame n xs h = rw (none_counted n xs (omega (arith, h)))
