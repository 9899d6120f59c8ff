-- The lock rule: document 01, "Four counting periods in a row with one peak position lock; eight others in a row, while locked, lose."
use Rattle.std.specs.Prelude.{ℕ, ◌+◌, Bool, false, ◌&&◌, eqb, ltb}
use Rattle.laws.specs.Choice.{when◌then◌else◌}
use Rattle.sync_lock.specs.Period.{counts_of}
use Rattle.sync_lock.specs.declared.Tally.{Tally}
use Rattle.sync_lock.specs.declared.Lock.{Lock}
use Rattle.sync_lock.specs.declared.Lock.TheVariants.{Search, Locked}
use Rattle.sync_lock.specs.declared.Verdict.{Verdict}
use Rattle.sync_lock.specs.declared.Verdict.TheVariants.{Seeks, Locks, Holds, Loses}

-- the counting periods in a row with one peak position: none if this one does not count, one if its peak is elsewhere
unfoldable pub sought_of : Bool → ℕ → ℕ → ℕ → ℕ
sought_of counting place cand count = when counting then when eqb place cand then count + 1 else 1 else 0

unfoldable pub search_of : Bool → ℕ → ℕ → ℕ → Verdict
search_of counting place cand count =
    let n = sought_of counting place cand count in
    when ltb n 4 then Seeks place n else Locks place

-- a good period ends the others in a row; the eighth loses
unfoldable pub held_of : Bool → ℕ → ℕ → Verdict
held_of good offset misses = when good then Holds offset 0 else when ltb misses 7 then Holds offset (misses + 1) else Loses

unfoldable pub rule_of : ℕ → Lock → Tally → Verdict
rule_of n (Search cand count) t = search_of (counts_of n t) t.place cand count
rule_of n (Locked offset misses) t = held_of (counts_of n t && eqb t.place offset) offset misses

unfoldable pub lock_after : Verdict → Lock
lock_after (Seeks cand count) = Search cand count
lock_after (Locks offset) = Locked offset 0
lock_after (Holds offset misses) = Locked offset misses
lock_after Loses = Search 0 0

-- a head stands at position p while locked there
unfoldable pub locked_at : Lock → ℕ → Bool
locked_at (Search cand count) p = false
locked_at (Locked offset misses) p = eqb p offset
