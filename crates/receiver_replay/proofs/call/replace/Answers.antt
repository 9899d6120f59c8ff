-- `receiver_replay::call::replace` meets its contract. Assumes nothing.
use Prim.Native.Nat.{ℕ}
use Rattle.receiver_replay.proofs.Laws.{length_answer}
use Rattle.receiver_replay.specs.Calls.{Moved, all}
use Rattle.receiver_replay.specs.Replay.{after, answer_bytes}
use Rattle.wire.proofs.Blocks.{put_all, from_on}
use lib.ListN.{drop}
use mathlib.Core.List.{List}
use mathlib.Core.Path.{◌≡◌, ap}
use Rattle.receiver_replay.proofs.call.replace.Goals as goal

pub returns : goal.returns
unfolding answer_bytes after
returns c =
    let l : List ℕ = c.args.buf.now in
    let at : ℕ = c.args.at in
    let d = all c.args.k c.args.table.now c.args.acc.now c.args.store.now c.args.soft.now c.args.input.now in
    let n = rw (from_on at l) at c.numbers-p.ensures in
    let g = rw n at c.turn-t.ensures in
    let told = ap (λ (m : Moved). m.told) g in
    let e : c.packed-bytes.result ≡ answer_bytes d (drop at l) = rw told at c.packed-bytes.ensures in
    (put_all 192 l _ (answer_bytes d (drop at l)) _ at c.put.ensures e (length_answer d (drop at l)), ap (λ (m : Moved). m.all) g)
