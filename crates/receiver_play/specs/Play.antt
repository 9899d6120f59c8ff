-- Symbols one by one, up to the first that tells anything or is refused: the symbol call's, repeated.
use Rattle.std.specs.Prelude.{ℕ, zero, suc, ◌+◌, List, ℤ, Result, Ok, Err}
use Rattle.laws.specs.Choice.{when◌then◌else◌}
use Rattle.refusal.specs.declared.Refused.{Refused}
use Rattle.sync_step.specs.Events.{no_events}
use Rattle.receiver.specs.declared.Receiver.{Receiver}
use Rattle.receiver.specs.declared.Answer.{Answer}
use Rattle.receiver.specs.Symbol.{Lent}
use Rattle.receiver.specs.Answers.{no_runs, receiver_left, symbol_answer, symbol_lent}
use Rattle.receiver.specs.Feed.{Block, input_at, tells_any}
use Rattle.receiver_feed.specs.declared.Fed.{Fed}
use Rattle.receiver_play.specs.declared.Played.{Played}

abbrev pub block : List ℤ → List ℤ → List ℤ → List ℤ → Block
block x f s table = record { bytes = x; f = f; s = s; table = table }

abbrev pub lent_of : List ℕ → List ℤ → List ℤ → Lent
lent_of acc store soft = record { acc = acc; store = store; soft = soft }

-- an accepted answer with which i symbols were taken
unfoldable pub taken_at : ℕ → Answer → Played
taken_at i a = record { used = i; receiver = a.receiver; told = Ok (record { events = a.events; runs = a.runs }) }

-- a refusal after i symbols taken
unfoldable pub refused_at : ℕ → Refused Receiver → Played
refused_at i x = record { used = i; receiver = x.state; told = Err x.why }

-- nothing told in i symbols
unfoldable pub quiet : ℕ → Receiver → Played
quiet i r = record { used = i; receiver = r; told = Ok (record { events = no_events; runs = no_runs }) }

-- what a feed comes to
unfoldable pub played_of : Result Fed (Refused Receiver) → Played
played_of (Ok a) = record { used = a.used; receiver = a.receiver; told = Ok (record { events = a.events; runs = a.runs }) }
played_of (Err x) = refused_at 0 x

pub record Course : Type 0 where
  pub told : Played
  pub lent : Lent

abbrev pub course : Played → Lent → Course
course p l = record { told = p; lent = l }

-- what comes of symbol i by what its call answers and leaves, and by what the symbols after it come to
unfoldable pub play_by : ℕ → Result Answer (Refused Receiver) → Lent → Course → Course
play_by i (Ok a) m on = when tells_any a then course (taken_at (i + 1) a) m else on
play_by i (Err x) m on = course (refused_at i x) m

-- k symbols from symbol i on
unfoldable pub play_from : Block → ℕ → ℕ → Receiver → Lent → Course
play_from b zero i r l = course (quiet i r) l
play_from b (suc k) i r l =
    let a = symbol_answer r (input_at b i) l in
    let m = symbol_lent r (input_at b i) l in
    play_by i a m (play_from b k (i + 1) (receiver_left a) m)
