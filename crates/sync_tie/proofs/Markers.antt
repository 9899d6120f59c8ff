-- The loss by markers, as a test of a position, is the loss by markers. Assumes nothing.
use Rattle.std.specs.Prelude.{Option, None, Some}
use Rattle.sync_heads.specs.declared.FrameHead.{FrameHead}
use Prim.Native.Nat.{◌%◌, ◌*◌, ◌+◌, ◌/◌, ◌<◌, ℕ}
use Rattle.laws.proofs.Tests.{and_both, never}
use Rattle.sync_history.proofs.Found.{lock-found}
use Rattle.sync_history.proofs.Read.{markers-tell}
use Rattle.sync_history.specs.Heads.{MarkerLoss, markers_lose}
use Rattle.sync_history.specs.History.{LockIn}
use Rattle.sync_tie.proofs.Places.{parts}
use Rattle.sync_tie.proofs.Ruled.{at_place, by-lock, count-front, lock-falls, place_in_lem}
use Rattle.sync_tie.specs.Claims.{MarkersClaim}
use Rattle.sync_tie.specs.Pushes.{Push, both_at, size_at}
use Rattle.sync_tie.specs.Stretch.{LostByMarkers, both_in, count_in, lock_before, markers_in, markers_lose_at, place_in, reads_in}
use borrow.Author.Tests.{eq-eqb}
use mathlib.Core.Bool.{◌&&◌, false, true}
use mathlib.Core.List.{List}
use mathlib.Core.Option.{none, some}
use mathlib.Core.Path.{◌∙◌, ◌≡◌, ap, refl, subst, sym}
use native.Mathlib.Omega.{arith}

module _ (n base : ℕ) (last : Option FrameHead) (h : List Push) (c : ℕ) (z : 0 < n) where
  with-lock : (k : ℕ) → lock_before n base last h c ≡ Some k → markers_lose_at n base last h c ≡ (reads_in n base last h k c && markers_lose (both_in n base last h k) (count_in n base last h k c))
  unfolding markers_lose_at markers_in
  with-lock k e = rw e

  no_lock : lock_before n base last h c ≡ None → markers_lose_at n base last h c ≡ false
  unfolding markers_lose_at markers_in
  no_lock e = rw e

  -- ---- a loss by markers is found
  module _ (x : LostByMarkers n h c) where
    abbrev k : ℕ
    k = x.period

    split : (c / n ≡ k + 1 + x.number) × (c % n ≡ x.place)
    split =
        let d = parts n (k + 1 + x.number) x.place z (place_in_lem n (size_at h) x.place k x.falls) in
        (ap (λ (y : ℕ). y / n) x.reading ∙ d.0, ap (λ (y : ℕ). y % n) x.reading ∙ d.1)

    found : (lock_before n base last h c ≡ Some k) × (place_in n base last h k ≡ x.place)
    unfolding lock_before place_in
    found = (lock-found n (size_at h) (c / n)).found x.place k x.falls (omega (arith, split.0))

    reads : reads_in n base last h k c ≡ true
    unfolding reads_in
    reads = eq-eqb (c % n) (place_in n base last h k) (split.1 ∙ sym found.1)

    count : count_in n base last h k c ≡ x.number
    count = let f = count-front n base last h k c (omega (arith, split.1, found.1)) in omega (arith, f, split.0)

    second : MarkerLoss (both_in n base last h k) x.number
    unfolding both_in
    second = subst (λ (p : ℕ). MarkerLoss (λ (i : ℕ). both_at h ((k + 1 + i) * n + p)) x.number) (sym found.1) x.second

    loses : markers_lose_at n base last h c ≡ true
    loses = with-lock k found.0 ∙ rw (reads, count, (markers-tell (both_in n base last h k) x.number).loses second) refl

  -- ---- and what is found is one
  lost-with : (k : ℕ) → lock_before n base last h c ≡ Some k → markers_lose_at n base last h c ≡ true → LostByMarkers n h c
  unfolding both_in
  lost-with k e m =
      let w = and_both (reads_in n base last h k c) (markers_lose (both_in n base last h k) (count_in n base last h k c)) (sym (with-lock k e) ∙ m) in
      let f = lock-falls n base last h c k e in
      record {
        place = place_in n base last h k;
        period = k;
        falls = lock-in k e;
        number = count_in n base last h k c;
        reading = at_place n base last h k c z f.0 f.1 w.0;
        second = (markers-tell (both_in n base last h k) (count_in n base last h k c)).loses_only w.1;
      }
    where
      lock-in : (k : ℕ) → lock_before n base last h c ≡ Some k → LockIn n (size_at h) (place_in n base last h k) k
      lock-in k e = unfold lock_before place_in in ((lock-found n (size_at h) (c / n)).found_only k e).1

  loses_only : markers_lose_at n base last h c ≡ true → LostByMarkers n h c
  loses_only m = by-lock n base last h c (λ e. absurd (never (sym m ∙ no_lock e))) (λ k e. lost-with k e m)

pub markers_are : MarkersClaim
markers_are n base last h c z = record { loses = loses n base last h c z; loses_only = loses_only n base last h c z }
