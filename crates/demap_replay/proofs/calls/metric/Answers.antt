-- `demap_replay::calls::metric` meets its contract. Assumes nothing.
use Rattle.demap_replay.specs.Calls.{metric_call}
use Rattle.laws.proofs.Size.{back}
use mir.Syntax.{w16, w64}
use Rattle.demap_replay.proofs.calls.metric.Goals as goal

pub returns : goal.returns
unfolding metric_call
returns c =
    let m = c.metric-m in
    let e = rw (back w16 c.of_bits.result c.of_bits.type_inv, c.of_bits.ensures, back w16 c.of_bits-2.result c.of_bits-2.type_inv, c.of_bits-2.ensures, back w16 c.of_bits-3.result c.of_bits-3.type_inv, c.of_bits-3.ensures, back w16 c.of_bits-4.result c.of_bits-4.type_inv, c.of_bits-4.ensures) at m.ensures in
    let x = rw (back w64 m.result m.type_inv, e) at c.to_bits.ensures in
    rw (c.single.ensures, x)
