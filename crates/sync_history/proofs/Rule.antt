-- The lock rule over the periods records what happened: by induction on the periods, as long as none loses. Assumes nothing.
use Prim.Native.Nat.{◌+◌, ◌-◌, ◌<◌, ◌≤◌, suc, zero, ℕ}
use Rattle.laws.proofs.Tests.{and_both, by_test, if_both, if_either, never}
use Rattle.laws.specs.Choice.{if_no, when◌then◌else◌}
use Rattle.sync_history.proofs.Locks.{one_lock}
use Rattle.sync_history.specs.Claims.{LockedBy, LosesIn, RuleTells, lock_to}
use Rattle.sync_history.specs.History.{CountsAt, Eighth, Fourth, LockIn, figures}
use Rattle.sync_lock.specs.Period.{counts_of}
use Rattle.sync_lock.specs.Rule.{held_of, lock_after, rule_of, search_of, sought_of}
use Rattle.sync_lock.specs.declared.Lock.TheVariants.{Locked, Search}
use Rattle.sync_lock.specs.declared.Lock.{Lock}
use Rattle.sync_lock.specs.declared.Verdict.{Verdict}
use borrow.Author.Tests.{eq-eqb, eqb-false, eqb-true, le-ltb, ltb-false, ltb-true}
use lib.Dec.{eqb, ltb}
use mathlib.Core.Bool.{Bool, ◌&&◌, false, true}
use mathlib.Core.Logic.{◌≢◌}
use mathlib.Core.Path.{◌∙◌, ◌≡◌, ap, refl, subst, sym}
use native.Mathlib.Decide.{dec_lt}
use native.Mathlib.Nat.{suc_inj}
use native.Mathlib.Omega.{arith}
use Rattle.sync_lock.specs.declared.Verdict.TheVariants.{Seeks, Locks, Holds, Loses}

module _ (n : ℕ) (s : ℕ → ℕ) where
  -- ---- what counting is
  -- a period counts at its own peak
  counts-here : (k : ℕ) → counts_of n (figures n s k) ≡ true → CountsAt n s (figures n s k).place k
  counts-here k e = record { counts = e; place = refl }

  -- .. or not at all
  counts-nowhere : (k : ℕ) → counts_of n (figures n s k) ≡ false → (q : ℕ) → ¬ CountsAt n s q k
  counts-nowhere k e q c = never (sym c.counts ∙ e)

  -- the test of a period while locked at o
  abbrev good_at : ℕ → ℕ → Bool
  good_at o k = counts_of n (figures n s k) && eqb (figures n s k).place o

  -- what passes it counts there
  good-counts : (k o : ℕ) → good_at o k ≡ true → CountsAt n s o k
  good-counts k o e =
      let both = and_both (counts_of n (figures n s k)) (eqb (figures n s k).place o) e in
      record { counts = both.0; place = eqb-true (figures n s k).place o both.1 }

  -- what fails it does not
  other_counts : (k o : ℕ) → good_at o k ≡ false → ¬ CountsAt n s o k
  other_counts k o e c = never (sym (rw (c.counts, eq-eqb (figures n s k).place o c.place) refl) ∙ e)

  -- what does not count there fails it
  other-good : (k o : ℕ) → ¬ CountsAt n s o k → good_at o k ≡ false
  other-good k o h = by_test (good_at o k) (λ e. absurd (h (good-counts k o e))) (λ e. e)

  -- ---- what a lock after k periods means
  -- the last `count` of the k periods counted at cand, and the one before them did not
  record Row (k cand count : ℕ) : Type 0 where
    within : count ≤ k
    last : (j : ℕ) → k ≡ suc j → (figures n s j).place ≡ cand
    row : (j : ℕ) → j < k → k ≤ j + count → CountsAt n s cand j
    stop : (j : ℕ) → k ≡ j + suc count → ¬ CountsAt n s cand j

  -- no lock has fallen
  record Searching (k cand count : ℕ) : Type 0 where
    rows : Row k cand count
    few : count < 4
    unlocked : (j q : ℕ) → j < k → ¬ Fourth n s q j

  -- the lock has fallen, and since the period `hit` none has counted at o
  record Holding (k o misses : ℕ) : Type 0 where
    lock : ℕ
    falls : LockIn n s o lock
    hit : ℕ
    after : lock ≤ hit
    since : k ≡ hit + suc misses
    hits : CountsAt n s o hit
    others : (j : ℕ) → hit < j → j < k → ¬ CountsAt n s o j
    few : misses < 8

  -- by the kind of lock
  abbrev Means : ℕ → Lock → Type 0
  Means k (Search cand count) = Searching k cand count
  Means k (Locked o misses) = Holding k o misses

  -- ---- a row of counting periods
  -- one more at the same place
  row_more : (k cand count : ℕ) → Row k cand count → CountsAt n s cand k → Row (suc k) cand (count + 1)
  row_more k cand count r c = record {
    within = omega (arith, r.within);
    last = λ j e. rw (suc_inj e) at c.place;
    row = λ j h g. row j h g (dec_lt j k);
    stop = λ j e. r.stop j (omega arith);
  }
    where
      row : (j : ℕ) → j < suc k → suc k ≤ j + (count + 1) → Dec (j < k) → CountsAt n s cand j
      row j h g (yes l) = r.row j l (omega arith)
      row j h g (no l) = rw here at c
        where
          here : k ≡ j
          here = omega arith

  -- one at another place
  row_one : (k cand count : ℕ) → Row k cand count → CountsAt n s (figures n s k).place k → (figures n s k).place ≢ cand → Row (suc k) (figures n s k).place 1
  row_one k cand count r c ne = record {
    within = omega arith;
    last = λ j e. ap (λ (x : ℕ). (figures n s x).place) (suc_inj (sym e));
    row = λ j h g. row j h g;
    stop = λ j e b. ne (sym b.place ∙ r.last j (omega arith));
  }
    where
      row : (j : ℕ) → j < suc k → suc k ≤ j + 1 → CountsAt n s (figures n s k).place j
      row j h g = subst (λ x. CountsAt n s (figures n s k).place x) here c
        where
          here : k ≡ j
          here = omega arith

  -- one that does not count
  row-none : (k : ℕ) → ((q : ℕ) → ¬ CountsAt n s q k) → Row (suc k) (figures n s k).place 0
  row-none k off = record {
    within = omega arith;
    last = λ j e. ap (λ (x : ℕ). (figures n s x).place) (suc_inj (sym e));
    row = λ j h g. absurd (omega arith);
    stop = λ j e b. off (figures n s k).place (stop j e b);
  }
    where
      stop : (j : ℕ) → suc k ≡ j + 1 → CountsAt n s (figures n s k).place j → CountsAt n s (figures n s k).place k
      stop j e b = subst (λ x. CountsAt n s (figures n s k).place x) here b
        where
          here : j ≡ k
          here = omega arith

  -- so the rule's own count is right
  abbrev Counted : ℕ → ℕ → Type 0
  Counted k c = Row (suc k) (figures n s k).place c × (c ≤ 4)

  -- one more at the place before
  row_same : (k cand count : ℕ) → Searching k cand count → CountsAt n s (figures n s k).place k → (figures n s k).place ≡ cand → Counted k (count + 1)
  row_same k cand count i c same =
      (subst (λ x. Row (suc k) x (count + 1)) (sym same) (row_more k cand count i.rows (record { counts = c.counts; place = same })), omega (arith, i.few))

  -- one that counts
  row-counting : (k cand count : ℕ) → Searching k cand count → CountsAt n s (figures n s k).place k → Counted k (when eqb (figures n s k).place cand then count + 1 else 1)
  row-counting k cand count i c =
      if_either (Counted k) (eqb (figures n s k).place cand) (count + 1) 1
      (λ e. row_same k cand count i c (eqb-true (figures n s k).place cand e))
      (λ e. (row_one k cand count i.rows c (eqb-false (figures n s k).place cand e), omega arith))

  -- any
  sought : (k cand count : ℕ) → Searching k cand count → Counted k (sought_of (counts_of n (figures n s k)) (figures n s k).place cand count)
  unfolding sought_of
  sought k cand count i =
      if_either (Counted k) (counts_of n (figures n s k)) (when eqb (figures n s k).place cand then count + 1 else 1) 0
      (λ t. row-counting k cand count i (counts-here k t))
      (λ t. (row-none k (counts-nowhere k t), omega arith))

  -- ---- searching
  -- what holds of no earlier period and not of the last holds of none
  extend : (A : ℕ → ℕ → Type 0) (k : ℕ) → ((j q : ℕ) → j < k → ¬ A q j) → ((q : ℕ) → ¬ A q k) → (j q : ℕ) → j < suc k → ¬ A q j
  extend A k old now j q h a = go (dec_lt j k)
    where
      go : Dec (j < k) → ⊥
      go (yes l) = old j q l a
      go (no l) = now q (rw e at a)
        where
          e : j ≡ k
          e = omega arith

  -- three in a row or fewer: still no lock
  seeks : (k p c : ℕ) → Row (suc k) p c → c < 4 → ((j q : ℕ) → j < k → ¬ Fourth n s q j) → Searching (suc k) p c
  seeks k p c r few unlocked = record { rows = r; few = few; unlocked = extend (Fourth n s) k unlocked now }
    where
      now : (q : ℕ) → ¬ Fourth n s q k
      now q f = r.stop (k - c) (omega (arith, few, f.enough)) (rw same at (f.four (k - c) (omega (arith, few, f.enough)) (omega (arith, few, f.enough))))
        where
          same : q ≡ p
          same = sym (f.four k (omega arith) (omega arith)).place ∙ r.last k refl

  -- four: the lock falls
  falls : (k p : ℕ) → Row (suc k) p 4 → ((j q : ℕ) → j < k → ¬ Fourth n s q j) → Holding (suc k) p 0
  falls k p r unlocked = record {
    lock = k;
    falls = record { fourth = record { enough = omega (arith, r.within); four = λ j h g. r.row j (omega arith) (omega arith) }; first = unlocked };
    hit = k;
    after = omega arith;
    since = omega arith;
    hits = r.row k (omega arith) (omega arith);
    others = λ j h g. absurd (omega arith);
    few = omega arith;
  }

  -- a period while searching
  search-step : (k cand count : ℕ) → Searching k cand count → Means (suc k) (lock_after (rule_of n (Search cand count) (figures n s k)))
  unfolding rule_of search_of lock_after
  search-step k cand count i = go (sought_of (counts_of n (figures n s k)) (figures n s k).place cand count) (sought k cand count i)
    where
      go : (c : ℕ) → Counted k c → Means (suc k) (lock_after (when ltb c 4 then Seeks (figures n s k).place c else Locks (figures n s k).place))
      go c r =
          if_either (λ (v : Verdict). Means (suc k) (lock_after v)) (ltb c 4) (Seeks (figures n s k).place c) (Locks (figures n s k).place)
          (λ e. seeks k (figures n s k).place c r.0 (ltb-true c 4 e) i.unlocked)
          (λ e. falls k (figures n s k).place (subst (Row (suc k) (figures n s k).place) (four c r.1 (ltb-false c 4 e)) r.0) i.unlocked)
        where
          four : (c : ℕ) → c ≤ 4 → 4 ≤ c → c ≡ 4
          four c a b = omega arith

  -- ---- locked
  -- a period that counts there
  holds : (k o m : ℕ) → Holding k o m → CountsAt n s o k → Holding (suc k) o 0
  holds k o m l c = record {
    lock = l.lock;
    falls = l.falls;
    hit = k;
    after = omega (arith, l.after, l.since);
    since = omega arith;
    hits = c;
    others = λ j h g. absurd (omega arith);
    few = omega arith;
  }

  -- an other one, not yet the eighth
  misses : (k o m : ℕ) → Holding k o m → ¬ CountsAt n s o k → m < 7 → Holding (suc k) o (m + 1)
  misses k o m l c few = record {
    lock = l.lock;
    falls = l.falls;
    hit = l.hit;
    after = l.after;
    since = omega (arith, l.since);
    hits = l.hits;
    others = λ j h g. others j h g (dec_lt j k);
    few = omega arith;
  }
    where
      others : (j : ℕ) → l.hit < j → j < suc k → Dec (j < k) → ¬ CountsAt n s o j
      others j h g (yes y) = l.others j h y
      others j h g (no y) = rw here at c
        where
          here : k ≡ j
          here = omega arith

  -- the eighth
  eighth : (k o m : ℕ) → Holding k o m → ¬ CountsAt n s o k → 7 ≤ m → Eighth n s o k
  eighth k o m l c many = record { locked = l.lock; falls = l.falls; after = omega (arith, l.after, l.since); others = λ j h g. others j h (omega arith) (dec_lt j k) }
    where
      others : (j : ℕ) → j ≤ k → k < j + 8 → Dec (j < k) → ¬ CountsAt n s o j
      others j h g (yes y) = l.others j (omega (arith, l.since)) y
      others j h g (no y) = rw here at c
        where
          here : k ≡ j
          here = omega arith

  -- a period that does not lose, while locked
  locked-step : (k o m : ℕ) → Holding k o m → ¬ (rule_of n (Locked o m) (figures n s k) ≡ Loses) → Means (suc k) (lock_after (rule_of n (Locked o m) (figures n s k)))
  unfolding rule_of held_of lock_after
  locked-step k o m l =
      if_either Kept (good_at o k) _ _
      (λ e kept. holds k o m l (good-counts k o e))
      (λ e. if_either Kept (ltb m 7) _ _ (λ t kept. misses k o m l (other_counts k o e) (ltb-true m 7 t)) (λ t kept. absurd (kept refl)))
    where
      Kept : Verdict → Type 0
      Kept v = ¬ (v ≡ Loses) → Means (suc k) (lock_after v)

  -- ---- after any number of periods of which none loses
  means-step : (k : ℕ) (l : Lock) → Means k l → ¬ (rule_of n l (figures n s k) ≡ Loses) → Means (suc k) (lock_after (rule_of n l (figures n s k)))
  means-step k (Search cand count) i kept = search-step k cand count i
  means-step k (Locked o m) l kept = locked-step k o m l kept

  -- no period yet
  means-none : Searching 0 0 0
  means-none = record {
    rows = record { within = omega arith; last = λ j e. absurd (omega arith); row = λ j h g. absurd (omega arith); stop = λ j e. absurd (omega arith) };
    few = omega arith;
    unlocked = λ j q h. absurd (omega arith);
  }

  -- by induction
  means : (k : ℕ) → ((j : ℕ) → j < k → ¬ LosesIn n s j) → Means k (lock_to n s k)
  unfolding lock_to
  means zero kept = means-none
  means (suc k) kept = means-step k (lock_to n s k) (means k (λ j h. kept j (omega arith))) (kept k (omega arith))

  -- ---- so it tells what happened
  -- a search never loses
  search-keeps : (k cand count : ℕ) → ¬ (rule_of n (Search cand count) (figures n s k) ≡ Loses)
  unfolding rule_of search_of
  search-keeps k cand count =
      if_both (λ (v : Verdict). ¬ (v ≡ Loses)) (ltb (sought_of (counts_of n (figures n s k)) (figures n s k).place cand count) 4) _ _ seeks-keeps locks-keeps
    where
      seeks-keeps : {p c : ℕ} → ¬ (Seeks p c ≡ Loses)
      seeks-keeps e = let z : ◌≡◌ {A = ℕ} 0 1 = cc in omega arith

      locks-keeps : {p : ℕ} → ¬ (Locks p ≡ Loses)
      locks-keeps e = let z : ◌≡◌ {A = ℕ} 0 1 = cc in omega arith

  -- a lock loses with the eighth other period in a row
  locked-loses : (k o m : ℕ) → Holding k o m → Eighth n s o k → rule_of n (Locked o m) (figures n s k) ≡ Loses
  unfolding rule_of held_of
  locked-loses k o m l a =
      if_no (good_at o k) _ _ (other-good k o (a.others k (omega arith) (omega arith)))
      ∙ if_no (ltb m 7) _ _ (le-ltb m 7 (omega (arith, not-few, l.since)))
    where
      -- the last hit is not among the eight
      not-few : ¬ (k < l.hit + 8)
      not-few h = a.others l.hit (omega (arith, l.since)) (omega arith) l.hits

  -- and only then
  loses-eighth : (k o m : ℕ) → Holding k o m → rule_of n (Locked o m) (figures n s k) ≡ Loses → Eighth n s o k
  unfolding rule_of held_of
  loses-eighth k o m l =
      if_either Told (good_at o k) _ _
      (λ e d. absurd (holds-keeps d))
      (λ e. if_either Told (ltb m 7) _ _ (λ t d. absurd (holds-keeps d)) (λ t d. eighth k o m l (other_counts k o e) (ltb-false m 7 t)))
    where
      Told : Verdict → Type 0
      Told v = v ≡ Loses → Eighth n s o k

      holds-keeps : {p c : ℕ} → ¬ (Holds p c ≡ Loses)
      holds-keeps e = let z : ◌≡◌ {A = ℕ} 0 1 = cc in omega arith

  -- nothing has locked: nothing is told
  search-tells : (k cand count : ℕ) → lock_to n s k ≡ Search cand count → Searching k cand count → RuleTells n s k
  search-tells k cand count e i = record {
    locked = λ p b. absurd (i.unlocked b.period p b.before b.falls.fourth);
    locked_only = λ p m d. absurd (apart (sym e ∙ d));
    loses = λ p a. absurd (i.unlocked a.locked p (omega (arith, a.after)) a.falls.fourth);
    loses_only = λ d. absurd (search-keeps k cand count (rw e at d));
  }
    where
      apart : {p m : ℕ} → ¬ (Search cand count ≡ Locked p m)
      apart d = let z : ◌≡◌ {A = ℕ} 0 1 = cc in omega arith

  -- locked at o: the lock fell there
  locked-tells : (k o m : ℕ) → lock_to n s k ≡ Locked o m → Holding k o m → RuleTells n s k
  locked-tells k o m e l = record {
    locked = λ p b. (m, e ∙ ap (λ (x : ℕ). Locked x m) (same p b.period b.falls));
    locked_only = λ p c d. subst (λ (x : ℕ). LockedBy n s x k) (place p c (sym e ∙ d)) here;
    loses = λ p a. rw e (locked-loses k o m l (subst (λ (x : ℕ). Eighth n s x k) (sym (same p a.locked a.falls)) a));
    loses_only = λ d. (o, loses-eighth k o m l (rw e at d));
  }
    where
      same : (p j : ℕ) → LockIn n s p j → o ≡ p
      same p j f = ((one_lock n s).one o p l.lock j l.falls f).0

      place : (p c : ℕ) → Locked o m ≡ Locked p c → o ≡ p
      place p c d = cc

      here : LockedBy n s o k
      here = record { period = l.lock; before = omega (arith, l.after, l.since); falls = l.falls }

  -- by the kind of lock
  tells : (k : ℕ) (l : Lock) → lock_to n s k ≡ l → Means k l → RuleTells n s k
  tells k (Search cand count) e i = search-tells k cand count e i
  tells k (Locked o m) e l = locked-tells k o m e l

-- for every n and all sizes
pub rule_tells : (n : ℕ) (s : ℕ → ℕ) (k : ℕ) → ((j : ℕ) → j < k → ¬ LosesIn n s j) → RuleTells n s k
rule_tells n s k kept = tells n s k (lock_to n s k) refl (means n s k kept)
