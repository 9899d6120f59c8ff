-- `eq_replay::replace` meets its contract. Assumes nothing.
use mathlib.Core.List.{List}
use mathlib.Core.Path.{◌≡◌}
use Prim.Native.Nat.{ℕ}
use lib.ListN.{drop}
use Rattle.wire.proofs.Blocks.{put_all, from_on}
use Rattle.eq_replay.specs.Replay.{answer_bytes, after}
use Rattle.eq_replay.proofs.Laws.{length_answer}
use Rattle.eq_replay.proofs.replace.Goals as goal

pub returns : goal.returns
unfolding answer_bytes after
returns c =
    let l : List ℕ = c.args.buf.now in
    let at : ℕ = c.args.at in
    let d = c.args.k in
    let n = rw (from_on at l) at c.numbers-p.ensures in
    let g = rw n at c.turn-t.ensures in
    let told = g in
    let e : c.packed-bytes.result ≡ answer_bytes d (drop at l) = rw told at c.packed-bytes.ensures in
    (put_all 192 l _ (answer_bytes d (drop at l)) _ at c.put.ensures e (length_answer d (drop at l)), rw g)
