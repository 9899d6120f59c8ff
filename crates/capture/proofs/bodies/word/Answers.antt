-- `capture::bodies::word` meets its contract. Assumes nothing.
use Prim.Native.Nat.{◌+◌, ◌-◌}
use native.Mathlib.Omega.{arith}
use lib.IntN.{pos}
use lib.ListN.{replicate, length-replicate}
use Rattle.capture.proofs.Laws.{word_read}
use Rattle.capture.proofs.bodies.word.Goals as goal

pub returns : goal.returns
returns c =
    let a = c.args in
    let k = a.k in
    word_read a.bytes.now k (k + 48 - k) c.symbols.new.out (replicate 48 (pos 0)) (omega arith) c.requires (length-replicate 48 (pos 0)) c.symbols.ensures.1
