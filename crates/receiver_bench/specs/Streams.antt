-- Calls one after another on a new receiver at position 0 with step 0, after a load.
use Rattle.std.specs.Prelude.{ℕ, zero, suc, ◌+◌, ◌*◌, List, ℤ, pos, drop, Result}
use Rattle.refusal.specs.Refusals.{state_after}
use Rattle.receiver.specs.declared.Receiver.{Receiver}
use Rattle.receiver.specs.Symbol.{Lent}
use Rattle.receiver.specs.Answers.{code_in, new_answer, new_acc, points_answer, receiver_left, symbol_answer, symbol_lent}
use Rattle.receiver.specs.Feed.{Block, feed_of, input_at}
use Rattle.receiver_feed.specs.Answers.{feed_answer, receiver_fed, used_in}
use Rattle.refusal.specs.declared.Refused.{Refused}
use Rattle.receiver.specs.declared.Answer.{Answer}
use Rattle.receiver_feed.specs.declared.Fed.{Fed}
use Rattle.receiver_bench.specs.declared.Begun.{Begun}
use Rattle.receiver_bench.specs.declared.Taken.{Taken}
use Rattle.receiver_bench.specs.declared.Received.{Received}

-- a receiver with its stores, the symbols taken, the last refusal
pub record Flow : Type 0 where
  pub receiver : Receiver
  pub taken : ℕ
  pub refusal : ℕ
  pub lent : Lent

abbrev pub flow : Receiver → ℕ → ℕ → Lent → Flow
flow r k n l = record { receiver = r; taken = k; refusal = n; lent = l }

abbrev pub lent_of : List ℕ → List ℤ → List ℤ → Lent
lent_of a b c = record { acc = a; store = b; soft = c }

unfoldable pub begun_of : ℕ → List ℤ → ℤ → List ℕ → Begun
begun_of bits points k acc =
    let a = points_answer (state_after (new_answer 0 (pos 0) acc)) bits points k in
    record { receiver = state_after a; refusal = code_in a }

unfoldable pub new_flow : ℕ → List ℤ → ℤ → Lent → Flow
new_flow bits points k l =
    let a = begun_of bits points k l.acc in
    flow a.receiver 0 a.refusal (lent_of (new_acc l.acc) l.store l.soft)

abbrev pub received : Flow → Received
received x = record { taken = x.taken; refusal = x.refusal }

-- an answer, refused or not
abbrev pub taken_in : Result Fed (Refused Receiver) → Taken
taken_in a = record { receiver = receiver_fed a; used = used_in a; refusal = code_in a }

abbrev pub left_in : Result Answer (Refused Receiver) → Begun
left_in a = record { receiver = receiver_left a; refusal = code_in a }

-- ---- by feeds, each with all that is left
unfoldable pub rest_of : Block → ℕ → Block
rest_of b k = record { bytes = drop (2 * k) b.bytes; f = b.f; s = b.s; table = b.table }

unfoldable pub feed_one : Block → Flow → Flow
feed_one b x =
    let p = rest_of b x.taken in
    let a = feed_answer x.receiver p x.lent in
    flow (receiver_fed a) (x.taken + used_in a) (code_in a) (feed_of x.receiver p x.lent).lent

unfoldable pub feed_many : Block → ℕ → Flow → Flow
feed_many b zero x = x
feed_many b (suc j) x = feed_one b (feed_many b j x)

-- ---- symbol by symbol
unfoldable pub symbol_one : Block → ℕ → Flow → Flow
symbol_one b k x =
    let a = symbol_answer x.receiver (input_at b k) x.lent in
    flow (receiver_left a) (suc k) (code_in a) (symbol_lent x.receiver (input_at b k) x.lent)

unfoldable pub symbol_many : Block → ℕ → Flow → Flow
symbol_many b zero x = x
symbol_many b (suc k) x = symbol_one b k (symbol_many b k x)
