-- The carrier: document 01, "Slot sync and carrier", second paragraph, and `Nco` of chain/sync.rs.
use Rattle.std.specs.Prelude.{ℕ, ◌+◌, true, false, List, ltb, ℤ, pos, ◌+ℤ◌, ◌*ℤ◌, Option, None, Some}
use Rattle.laws.specs.Choice.{when◌then◌else◌, minus}
use Rattle.fx.specs.Fx.{round_shift, clamp, round_index, cos_sin_at}
use Rattle.angles.specs.Angles.{turned_by, turn_from, turned_back}
use Rattle.angles.specs.declared.Symbol.{Symbol}
use Rattle.sync_heads.specs.declared.Head.{Head}
use Rattle.sync_heads.specs.declared.Word.{Word}
use Rattle.sync_heads.specs.declared.Word.TheVariants.{Ssync, Fsync, NotFsync}
use Rattle.carrier.specs.declared.Nco.{Nco}
use Rattle.carrier.specs.declared.Steps.{Steps}
use Rattle.carrier.specs.declared.Heard.{Heard}

-- a carrier that starts with this phase and step; a new one has phase 0, a restarted one the phase and step it had
unfoldable pub started_nco : ℕ → ℤ → Nco
started_nco phase freq = record { phase = phase; freq = freq; trail = None }

-- "`Nco` uses its phase": the symbol times e^-jφ by the table's cosine and sine, rounded by 11 bits
unfoldable pub rotated_of : List ℤ → ℕ → ℤ → ℤ → Symbol
rotated_of table phase xi xq = let p = turned_back (cos_sin_at table (round_index phase)) xi xq 11 in record { i = p.re; q = p.im }

-- "then advances it"
unfoldable pub advanced_nco : Nco → Nco
advanced_nco n = record { phase = turned_by n.phase n.freq; freq = n.freq; trail = n.trail }

-- a setting: half the mean of the 60 differences, over the 18,592 symbols of each, is added to the step: 246,412 is 2^39 / (2 x 60 x 18,592)
-- rounded; "clamp" within 2^19 - 1
unfoldable pub tuned : ℤ → ℤ → ℤ
tuned freq sum = clamp (minus 524287) (pos 524287) (freq +ℤ round_shift (sum *ℤ pos 246412) 39)

-- a trail that begins at an Ssync head of angle theta
unfoldable pub since_head : ℕ → Steps
since_head theta = record { last_ss = theta; sum = pos 0; steps = 0 }

-- an Ssync head of angle theta after others: one more difference; "the 61st Ssync head after a restart makes 60 differences and sets the
-- step; each 60 further Ssync heads do so again"
unfoldable pub ssync_heard : Nco → Steps → ℕ → Heard
ssync_heard n s theta =
    let sum = s.sum +ℤ turn_from s.last_ss theta in
    let steps = s.steps + 1 in
    when ltb steps 60
    then record { nco = record { phase = n.phase; freq = n.freq; trail = Some (record { last_ss = theta; sum = sum; steps = steps }) }; set = false }
    else record { nco = record { phase = n.phase; freq = tuned n.freq sum; trail = Some (since_head theta) }; set = true }

-- an Ssync head: the first after a restart makes no difference
unfoldable pub trail_heard : Nco → Option Steps → ℕ → Heard
trail_heard n None theta = record { nco = record { phase = n.phase; freq = n.freq; trail = Some (since_head theta) }; set = false }
trail_heard n (Some s) theta = ssync_heard n s theta

-- a head of any word
unfoldable pub word_heard : Nco → Word → ℕ → Heard
word_heard n Ssync theta = trail_heard n n.trail theta
word_heard n Fsync theta = record { nco = n; set = false }
word_heard n NotFsync theta = record { nco = n; set = false }

unfoldable pub heard_of : Nco → Head → Heard
heard_of n h = word_heard n h.word h.theta
