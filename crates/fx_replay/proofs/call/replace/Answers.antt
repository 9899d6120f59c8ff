-- `fx_replay::call::replace` meets its contract. Assumes nothing.
use mathlib.Core.List.{List}
use Prim.Native.Nat.{ℕ}
use lib.ListN.{drop}
use Rattle.fx_replay.specs.Replay.{answer_bytes}
use Rattle.fx_replay.proofs.Laws.{length_answer}
use Rattle.wire.proofs.Blocks.{put_all, from_on}
use Rattle.fx_replay.proofs.call.replace.Goals as goal

pub returns : goal.returns
returns c =
    let l : List ℕ = c.args.buf.now in
    let t = c.args.table.now in
    put_all 24 l _ (answer_bytes t (drop c.args.at l)) _ c.args.at c.put.ensures (rw (from_on c.args.at l) at c.answer_bytes-answer.ensures) (length_answer t (drop c.args.at l))
