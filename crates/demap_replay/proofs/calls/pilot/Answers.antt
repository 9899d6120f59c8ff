-- `demap_replay::calls::pilot` meets its contract. Assumes nothing.
use Rattle.demap_replay.specs.Calls.{pilot_call}
use Rattle.laws.proofs.Size.{back}
use mir.Syntax.{w16}
use Rattle.demap_replay.proofs.calls.pilot.Goals as goal

pub returns : goal.returns
unfolding pilot_call
returns c =
    let e = rw (back w16 c.of_bits.result c.of_bits.type_inv, c.of_bits.ensures, back w16 c.of_bits-2.result c.of_bits-2.type_inv, c.of_bits-2.ensures, c.index.ensures, c.index-2.ensures) at c.pilot-r.ensures in
    rw (c.learned.ensures, e)
