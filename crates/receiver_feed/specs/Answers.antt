-- What `feed` answers: crate receiver's `feed_of`, and its refusal.
use Rattle.std.specs.Prelude.{ℕ, Result, Ok, Err}
use Rattle.refusal.specs.declared.Refused.{Refused}
use Rattle.refusal.specs.Refusals.{answered}
use Rattle.receiver.specs.declared.Receiver.{Receiver}
use Rattle.receiver.specs.Symbol.{Lent}
use Rattle.receiver.specs.Feed.{Block, feed_of, feed_refusal}
use Rattle.receiver_feed.specs.declared.Fed.{Fed}

unfoldable pub feed_answer : Receiver → Block → Lent → Result Fed (Refused Receiver)
feed_answer r b l =
    let x = feed_of r b l in
    answered (feed_refusal r b l) r (record { used = x.used; receiver = x.receiver; events = x.events; runs = x.runs })

-- the symbols used, and the receiver afterwards, whether the feed was accepted or refused
abbrev pub used_in : Result Fed (Refused Receiver) → ℕ
used_in (Ok a) = a.used
used_in (Err _) = 0

abbrev pub receiver_fed : Result Fed (Refused Receiver) → Receiver
receiver_fed (Ok a) = a.receiver
receiver_fed (Err refused) = refused.state
