-- All turns, or a refusal. Assumes nothing.
use mathlib.Core.Path.{sym, ◌∙◌}
use lib.ListN.{length}
use Rattle.receiver_feed.proofs.Stand.{feed-end, feed-refused, standing_known}
use Rattle.receiver_feed.proofs.feed.Goals as goal

pub all-requires : goal.all-requires
all-requires c =
    let a = c.args in
    let k = standing_known a.r (length a.acc.now) (length a.store.now) (length a.soft.now) a.f a.s (length a.table.now) (sym c.standing.ensures ∙ c.in-Ok.is) in
    (c.rows-rows.ensures, k.0, k.1)

pub returns-in-Ok : goal.returns-in-Ok
returns-in-Ok c =
    let a = c.args in
    let g = feed-end a.r (record { bytes = a.bytes.now; f = a.f; s = a.s; table = a.table.now }) (record { acc = a.acc.now; store = a.store.now; soft = a.soft.now }) (sym c.standing.ensures ∙ c.in-Ok.is) _ _ c.all.ensures in
    (c.answer.ensures ∙ g.0, g.1, g.2, g.3)

pub returns-in-Err : goal.returns-in-Err
returns-in-Err c =
    let a = c.args in
    let g = feed-refused a.r (record { bytes = a.bytes.now; f = a.f; s = a.s; table = a.table.now }) (record { acc = a.acc.now; store = a.store.now; soft = a.soft.now }) c.in-Err.why (sym c.standing.ensures ∙ c.in-Err.is) in
    (g.0, rw g.1, rw g.1, rw g.1)
