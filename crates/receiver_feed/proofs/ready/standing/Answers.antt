-- `receiver_feed::ready::standing` meets its contract. Assumes nothing.
use Rattle.std.proofs.lemmas.Result.{err_from_is_err_and}
use Rattle.receiver_feed.specs.Turns.{standing_by}
use Rattle.receiver_feed.proofs.ready.standing.Goals as goal

pub returns-in_err-lent : goal.returns-in_err-lent
unfolding standing_by
returns-in_err-lent c =
    let p = err_from_is_err_and c.from_residual.result c.from_residual.ensures.1 in
    rw (p.1, p.2, ← c.lent.ensures, c.in_err-lent.was)

pub returns : goal.returns
unfolding standing_by
returns c = rw (c.range_refusal.ensures, ← c.lent.ensures, c.in_ok-lent.was)
