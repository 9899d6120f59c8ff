-- `receiver_symbol::refusals::in_state` meets its contract. Assumes nothing.
use Rattle.receiver_symbol.specs.Parts.{state_refusal}
use Rattle.std.proofs.lemmas.Result.{err_from_is_err_and}
use Rattle.receiver_symbol.proofs.refusals.in_state.Goals as goal

pub returns-in_err-range_refusal : goal.returns-in_err-range_refusal
unfolding state_refusal
returns-in_err-range_refusal c =
    let p = err_from_is_err_and c.from_residual.result c.from_residual.ensures.1 in
    rw (p.1, p.2, ← c.range_refusal.ensures, c.in_err-range_refusal.was)

pub returns : goal.returns
unfolding state_refusal
returns c = rw (c.next.ensures, ← c.range_refusal.ensures, c.in_ok-range_refusal.was)
