-- `phase_replay::call::replace` meets its contract. Assumes nothing.
use mathlib.Core.List.{List}
use mathlib.Core.Path.{◌≡◌}
use Prim.Native.Nat.{ℕ}
use lib.ListN.{drop}
use Rattle.wire.proofs.Blocks.{put_all, from_on}
use Rattle.phase_replay.specs.Replay.{answer_bytes, after, lent}
use Rattle.phase_replay.proofs.Laws.{length_answer}
use Rattle.phase_replay.proofs.call.replace.Goals as goal

pub returns : goal.returns
unfolding answer_bytes after
returns c =
    let l : List ℕ = c.args.buf.now in
    let at : ℕ = c.args.at in
    let d = lent c.args.table.now c.args.store.now in
    let n = rw (from_on at l) at c.numbers-p.ensures in
    let g = rw n at c.answered-a.ensures in
    let told = g.0 in
    let e : c.packed-bytes.result ≡ answer_bytes d (drop at l) = rw told at c.packed-bytes.ensures in
    (put_all 192 l _ (answer_bytes d (drop at l)) _ at c.put.ensures e (length_answer d (drop at l)), rw (g.1, g.2))
