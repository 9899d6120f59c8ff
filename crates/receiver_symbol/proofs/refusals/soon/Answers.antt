-- `receiver_symbol::refusals::soon` meets its contract. Assumes nothing.
use Rattle.receiver_symbol.specs.Parts.{soon_refusal}
use Rattle.std.proofs.lemmas.Result.{err_from_is_err_and}
use Rattle.receiver_symbol.proofs.refusals.soon.Goals as goal

pub returns-in_err-lent : goal.returns-in_err-lent
unfolding soon_refusal
returns-in_err-lent c =
    let p = err_from_is_err_and c.from_residual.result c.from_residual.ensures.1 in
    rw (p.1, p.2, ← c.lent.ensures, c.in_err-lent.was)

pub returns : goal.returns
unfolding soon_refusal
returns c = rw (c.in_state.ensures, ← c.lent.ensures, c.in_ok-lent.was)
