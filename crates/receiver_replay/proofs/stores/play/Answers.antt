-- `receiver_replay::stores::play` meets its contract. Assumes nothing.
use Rattle.receiver_replay.proofs.Laws.{lent_is, play_is}
use Rattle.receiver_replay.specs.Calls.{play_course}
use borrow.Author.Rules.{rules}
use lib.Seq.{length-take-le}
use mathlib.Core.Path.{sym}
use Rattle.receiver_replay.proofs.stores.play.Goals as goal

pub slice_bounds-play-end : goal.slice_bounds-play-end
slice_bounds-play-end c = sym (length-take-le _ _ (search rules))

pub slice_bounds-play-end-3 : goal.slice_bounds-play-end-3
slice_bounds-play-end-3 c = sym (length-take-le _ _ (search rules))

pub slice_bounds-play-end-5 : goal.slice_bounds-play-end-5
slice_bounds-play-end-5 c = sym (length-take-le _ _ (search rules))

pub slice_bounds-play-end-7 : goal.slice_bounds-play-end-7
slice_bounds-play-end-7 c = sym (length-take-le _ _ (search rules))

pub returns : goal.returns
returns c = λ input.
    let s = c.args in
    let e = c.play-d.ensures in
    lent_is (play_course s.k s.p.now) s.k s.p.now s.table.now s.acc.now s.store.now s.soft.now input _ _ _ _ _ _ _ _ _
    c.least-t.ensures.0 c.least-a.ensures.0 c.least-b.ensures.0 c.least-c.ensures.0
    (play_is s.k s.p.now _ _ _ _ _ _ c.least-n.ensures.0 c.symbols-x.ensures e.0 e.1)
    c.played.ensures
