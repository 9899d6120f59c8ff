-- The lock stays within its ranges, counts no more than the whole periods, and no head stands earlier than its number allows. Assumes nothing.
use Prim.Native.Nat.{◌%◌, ◌*◌, ◌+◌, ◌-◌, ◌<◌, ◌≤◌, suc, ℕ}
use Rattle.laws.proofs.Tests.{if_both, if_either, never}
use Rattle.sync_lock.specs.Period.{counts_of}
use Rattle.sync_lock.specs.Rule.{held_of, lock_after, locked_at, rule_of, search_of, sought_of}
use Rattle.sync_lock.specs.declared.Lock.TheVariants.{Locked, Search}
use Rattle.sync_lock.specs.declared.Lock.{Lock}
use Rattle.sync_lock.specs.declared.Tally.{Tally}
use Rattle.sync_lock.specs.declared.Verdict.{Verdict}
use Rattle.sync_range.specs.Coherent.{LockFits, LockedFits, SearchFits, whole_of}
use Rattle.sync_step.specs.Step.{loses_of, place_of}
use borrow.Author.Tests.{eqb-true, ltb-false, ltb-true}
use lib.Dec.{eqb, ltb}
use mathlib.Core.Bool.{Bool, false, true}
use mathlib.Core.Path.{◌≡◌, refl, sym}
use native.Mathlib.Omega.{arith}

-- ---- the next symbol
pub later_lock : (t h : ℕ) (k : Lock) → LockFits t h k → LockFits (t + 1) h k
unfolding whole_of
later_lock t h (Search cand count) g = record { place = g.place; few = g.few; whole = omega (arith, g.whole); none = g.none }
later_lock t h (Locked offset misses) g = record { place = g.place; few = g.few; whole = omega (arith, g.whole); past = omega (arith, g.past) }

-- a head: its position in the sync, and one more head
pub head-place : (t h : ℕ) (k : Lock) → LockFits t h k → locked_at k (place_of 9296 t) ≡ true → (4 + h) * 9296 ≤ t - 23
unfolding locked_at place_of
head-place t h (Search cand count) g e = absurd (never (sym e))
head-place t h (Locked offset misses) g e = omega (arith, eqb-true ((t - 23) % 9296) offset e, g.past, g.place)

pub head_lock : (t h : ℕ) (k : Lock) → LockFits t h k → locked_at k (place_of 9296 t) ≡ true → LockFits (t + 1) (suc h) k
unfolding locked_at place_of whole_of
head_lock t h (Search cand count) g e = absurd (never (sym e))
head_lock t h (Locked offset misses) g e =
    record {
      place = g.place;
      few = g.few;
      whole = omega (arith, g.whole);
      past = omega (arith, eqb-true ((t - 23) % 9296) offset e, g.past, g.place);
    }

-- ---- a period's end
sought_few : (counting : Bool) (place cand count : ℕ) → sought_of counting place cand count ≤ count + 1
unfolding sought_of
sought_few counting place cand count = if_both Few counting _ _ (if_both Few (eqb place cand) _ _ (omega arith) (omega arith)) (omega arith)
  where
    Few : ℕ → Type 0
    Few x = x ≤ count + 1

whole_next : (t : ℕ) → 23 ≤ t → place_of 9296 t ≡ 9295 → whole_of (t + 1) ≡ suc (whole_of t)
unfolding place_of whole_of
whole_next t l e = omega arith

whole-places : (t offset : ℕ) → 4 ≤ whole_of t → offset ≤ 9295 → (3 + 0) * 9296 + offset < t - 23
unfolding whole_of
whole-places t offset h k = omega arith

-- what a verdict that does not lose leaves
abbrev Left : ℕ → ℕ → Verdict → Type 0
Left t h v = loses_of v ≡ false → LockFits t h (lock_after v)

search_ended : (t h place cand count : ℕ) (counting : Bool) → 23 ≤ t → place_of 9296 t ≡ 9295 → place ≤ 9295 → h ≡ 0 → SearchFits t 0 cand count →
    Left (t + 1) h (search_of counting place cand count)
unfolding search_of lock_after
search_ended t h place cand count counting l e p z g =
    let n = sought_of counting place cand count in
    let s = sought_few counting place cand count in
    let w = whole_next t l e in
    if_either (Left (t + 1) h) (ltb n 4) _ _
    (λ u _. record { place = p; few = omega (arith, ltb-true n 4 u); whole = omega (arith, s, w, g.whole); none = z })
    (λ u _.
    let f : 4 ≤ whole_of (t + 1) = omega (arith, ltb-false n 4 u, s, w, g.whole) in
    record { place = p; few = omega arith; whole = f; past = rw z (whole-places (t + 1) place f p) })

held_ended : (t h offset misses : ℕ) (good : Bool) → LockedFits t h offset misses → Left t h (held_of good offset misses)
unfolding held_of lock_after loses_of
held_ended t h offset misses good g =
    if_both (Left t h) good _ _
    (λ _. record { place = g.place; few = omega arith; whole = g.whole; past = g.past })
    (if_either (Left t h) (ltb misses 7) _ _
    (λ u _. record { place = g.place; few = omega (arith, ltb-true misses 7 u); whole = g.whole; past = g.past })
    (λ u e. absurd (never e)))

pub ended_lock : (n t h i : ℕ) (k : Lock) (y : Tally) → 23 ≤ t → place_of 9296 t ≡ 9295 → y.place ≤ 9295 → LockFits t h k → LockFits (t + 1) i k →
    loses_of (rule_of n k y) ≡ false → LockFits (t + 1) i (lock_after (rule_of n k y))
unfolding rule_of
ended_lock n t h i (Search cand count) y l e p g f =
    search_ended t i y.place cand count (counts_of n y) l e p f.none (record { place = g.place; few = g.few; whole = g.whole; none = refl })
ended_lock n t h i (Locked offset misses) y l e p g f = held_ended (t + 1) i offset misses _ f
