-- `feed`: many symbols of a lent byte slice in one call: the symbol call, repeated. It stops after the first symbol that answers anything, before one that
-- would be refused, or at the slice's end, and tells how many it used.
use Rattle.std.specs.Prelude.{ℕ, zero, suc, ◌+◌, ◌*◌, ◌/◌, Bool, not, ◌&&◌, ◌||◌, List, eqb, ℤ, pos, get_or, length, Result, Ok, Err, ⊤}
use Rattle.laws.specs.Choice.{when◌then◌else◌}
use Rattle.refusal.specs.declared.Refusal.{Refusal}
use Rattle.refusal.specs.declared.Refusal.TheVariants.{Stores, Words, Table}
use Rattle.refusal.specs.declared.Refused.{Refused}
use Rattle.refusal.specs.Refusals.{written}
use Rattle.sync_corr.specs.Correlate.{ones_of}
use Rattle.sync_step.specs.declared.Events.{Events}
use Rattle.sync_step.specs.Events.{is_nothing, no_events}
use Rattle.receiver_slot.specs.declared.Runs.{Runs}
use Rattle.receiver.specs.declared.Receiver.{Receiver}
use Rattle.receiver.specs.declared.Answer.{Answer}
use Rattle.receiver.specs.Symbol.{Input, Lent}
use Rattle.receiver.specs.Answers.{no_runs, range_refusal, receiver_left, stores_fit, symbol_answer, symbol_lent, symbol_refusal}

-- the bytes, I before Q, with the words and the table that are lent with all of them
pub record Block : Type 0 where
  pub bytes : List ℤ
  pub f : List ℤ
  pub s : List ℤ
  pub table : List ℤ

-- whole symbols: an odd last byte is none
unfoldable pub symbols_of : Block → ℕ
symbols_of b = length b.bytes / 2

unfoldable pub input_at : Block → ℕ → Input
input_at b i = record { xi = get_or b.bytes (2 * i) (pos 0); xq = get_or b.bytes (2 * i + 1) (pos 0); f = b.f; s = b.s; table = b.table }

-- an answer tells something: an event, or aligned symbols
unfoldable pub any_event : Events → Bool
any_event es = not (is_nothing es.first) || not (is_nothing es.second) || not (is_nothing es.third)

unfoldable pub tells_any : Answer → Bool
tells_any a = any_event a.events || not (eqb a.runs.tail.count 0) || not (eqb a.runs.body.count 0)

-- where a feed stands: the symbols used, what they leave, and what the last of them told
pub record Fed : Type 0 where
  pub used : ℕ
  pub receiver : Receiver
  pub lent : Lent
  pub events : Events
  pub runs : Runs

unfoldable pub quiet_at : ℕ → Receiver → Lent → Fed
quiet_at i r l = record { used = i; receiver = r; lent = l; events = no_events; runs = no_runs }

-- what comes of symbol i by what its call answers and leaves: it stops the feed if it is refused or tells something; what the symbols after it come to, else
unfoldable pub fed_by : ℕ → Receiver → Lent → Result Answer (Refused Receiver) → Lent → Fed → Fed
fed_by i r l (Ok a) m on = when tells_any a then record { used = i + 1; receiver = a.receiver; lent = m; events = a.events; runs = a.runs } else on
fed_by i r l (Err _) m on = quiet_at i r l

-- k symbols from symbol i on
unfoldable pub fed_from : Block → ℕ → ℕ → Receiver → Lent → Fed
fed_from b zero i r l = quiet_at i r l
fed_from b (suc k) i r l =
    let a = symbol_answer r (input_at b i) l in
    let m = symbol_lent r (input_at b i) l in
    fed_by i r l a m (fed_from b k (i + 1) (receiver_left a) m)

-- ---- refusals: 1, 2, 3 and 6 as a symbol's, with no symbol too; 7 and 8 if the first symbol would be refused so. A
-- refusal is answered only where no symbol was used and nothing changed.
unfoldable pub standing_refusal : Receiver → Block → Lent → Result ⊤ Refusal
standing_refusal r b l =
    when stores_fit l
    then when ones_of b.f && ones_of b.s then when eqb (length b.table) 1024 then range_refusal r else Err Table else Err Words
    else Err Stores

unfoldable pub feed_refusal : Receiver → Block → Lent → Result ⊤ Refusal
feed_refusal r b l = when eqb (symbols_of b) 0 then standing_refusal r b l else symbol_refusal r (input_at b 0) l

unfoldable pub feed_of : Receiver → Block → Lent → Fed
feed_of r b l = written (feed_refusal r b l) (quiet_at 0 r l) (fed_from b (symbols_of b) 0 r l)
