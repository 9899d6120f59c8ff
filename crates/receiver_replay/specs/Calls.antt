-- What each call answers and leaves, by the definitions of receiver.
use Rattle.std.specs.Prelude.{ℕ, List, ◌++◌, ℤ, take, drop}
use Rattle.receiver.specs.Symbol.{Lent}
use Rattle.receiver.specs.Feed.{feed_of}
use Rattle.receiver_feed.specs.Answers.{feed_answer}
use Rattle.receiver.specs.Answers.{new_answer, new_acc, restart_answer, restart_acc}
use Rattle.digest.specs.Digest.{digest_of, naturals_of}
use Rattle.fields.specs.Fields.{at, signed32, least_of, four_told}
use Rattle.receiver_play.specs.Play.{Course, block, course, lent_of, play_from, played_of}
use Rattle.receiver_calls.specs.declared.kept.Kept.{Kept}
use Rattle.receiver_calls.specs.declared.kept.Turn.{Turn}
use Rattle.receiver_calls.specs.Kept.{turned}
use Rattle.receiver_calls.specs.Calls.{answered_turn, played_turn}
use Rattle.receiver_replay.specs.Given.{symbols_of}

-- ---- all that the program holds, and what a call makes of it
pub record All : Type 0 where
  pub kept : Kept
  pub table : List ℤ
  pub acc : List ℕ
  pub store : List ℤ
  pub soft : List ℤ
  pub input : List ℤ

abbrev pub all : Kept → List ℤ → List ℕ → List ℤ → List ℤ → List ℤ → All
all k table acc store soft input = record { kept = k; table = table; acc = acc; store = store; soft = soft; input = input }

pub record Moved : Type 0 where
  pub told : List ℕ
  pub all : All

abbrev pub moved : Turn → List ℤ → List ℕ → List ℤ → List ℤ → List ℤ → Moved
moved t table acc store soft input = record { told = t.told; all = all t.kept table acc store soft input }

-- a call that changes no store
abbrev pub unmoved : All → Turn → Moved
unmoved a t = moved t a.table a.acc a.store a.soft a.input

-- ---- a new receiver: position, step; a restart: position; as many accumulators as number 3 says
unfoldable pub new_turn : Kept → List ℕ → List ℕ → Turn
new_turn k p acc = answered_turn k (new_answer (at p 1) (signed32 p 2) (take (at p 3) acc))

unfoldable pub new_left : List ℕ → List ℕ → List ℕ
new_left p acc = new_acc (take (at p 3) acc) ++ drop (at p 3) acc

unfoldable pub restart_turn : Kept → List ℕ → List ℕ → Turn
restart_turn k p acc = answered_turn k (restart_answer k.receiver (at p 1) (take (at p 3) acc))

unfoldable pub restart_left : Kept → List ℕ → List ℕ → List ℕ
restart_left k p acc = restart_acc k.receiver (at p 1) (take (at p 3) acc) ++ drop (at p 3) acc

-- ---- digests of accumulators, slot store and soft buffer
unfoldable pub look_turn : Kept → List ℕ → List ℤ → List ℤ → Turn
look_turn k acc store soft = turned k (four_told 0 (naturals_of acc) (digest_of store) (digest_of soft))

-- ---- symbols, with as many entries of table, accumulators, slot store and soft buffer as numbers 2 to 5 say; `go` tells what comes of those
unfoldable pub lent_call : (List ℤ → Lent → Course) → List ℕ → All → Moved
lent_call go p a =
    let c = go (take (at p 2) a.table) (lent_of (take (at p 3) a.acc) (take (at p 4) a.store) (take (at p 5) a.soft)) in
    moved (played_turn a.kept c.told) a.table (c.lent.acc ++ drop (at p 3) a.acc) (c.lent.store ++ drop (at p 4) a.store)
    (c.lent.soft ++ drop (at p 5) a.soft) a.input

-- so many of the call's own, one by one
unfoldable pub play_course : Kept → List ℕ → List ℤ → Lent → Course
play_course k p table l = play_from (block (symbols_of p) k.f k.s table) (least_of (at p 1) 72) 0 k.receiver l

abbrev pub play_call : List ℕ → All → Moved
play_call p a = lent_call (play_course a.kept p) p a

-- so many of the bytes x (at most all), by one call of `feed`
unfoldable pub feed_course : Kept → List ℕ → List ℤ → List ℤ → Lent → Course
feed_course k p x table l =
    let b = block (take (at p 1) x) k.f k.s table in
    course (played_of (feed_answer k.receiver b l)) (feed_of k.receiver b l).lent

abbrev pub feed_call : List ℕ → List ℤ → All → Moved
feed_call p x a = lent_call (feed_course a.kept p x) p a
