-- `receiver_replay::stores::feed` meets its contract. Assumes nothing.
use Rattle.receiver_replay.proofs.Laws.{feed_is, lent_is}
use Rattle.receiver_replay.specs.Calls.{feed_course}
use borrow.Author.Rules.{rules}
use lib.Seq.{length-take-le}
use mathlib.Core.Path.{sym}
use Rattle.receiver_replay.proofs.stores.feed.Goals as goal

pub slice_bounds-feed-end : goal.slice_bounds-feed-end
slice_bounds-feed-end c = sym (length-take-le _ _ (search rules))

pub slice_bounds-feed-end-2 : goal.slice_bounds-feed-end-2
slice_bounds-feed-end-2 c = sym (length-take-le _ _ (search rules))

pub slice_bounds-feed-end-4 : goal.slice_bounds-feed-end-4
slice_bounds-feed-end-4 c = sym (length-take-le _ _ (search rules))

pub slice_bounds-feed-end-6 : goal.slice_bounds-feed-end-6
slice_bounds-feed-end-6 c = sym (length-take-le _ _ (search rules))

pub slice_bounds-feed-end-8 : goal.slice_bounds-feed-end-8
slice_bounds-feed-end-8 c = sym (length-take-le _ _ (search rules))

pub returns : goal.returns
returns c = λ input.
    let s = c.args in
    let e = c.feed-d.ensures in
    lent_is (feed_course s.k s.p.now s.x.now) s.k s.p.now s.table.now s.acc.now s.store.now s.soft.now input _ _ _ _ _ _ _ _ _
    c.least-t.ensures.0 c.least-a.ensures.0 c.least-b.ensures.0 c.least-c.ensures.0
    (feed_is s.k s.p.now s.x.now _ _ _ _ _ _ _ _ c.least-m.ensures.0 c.of_feed.ensures e.0 e.1 e.2 e.3)
    c.played.ensures
