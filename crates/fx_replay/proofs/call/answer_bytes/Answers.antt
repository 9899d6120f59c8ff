-- `fx_replay::call::answer_bytes` meets its contract. Assumes nothing.
use mir.Facts.{to_z-of_z}
use mir.Syntax.{w64}
use mir.Val.{SFits}
use Rattle.fx_replay.specs.Replay.{answer_bytes, encoded}
use borrow.Author.Rules.{rules}
use Rattle.fx_replay.proofs.call.answer_bytes.Goals as goal

pub returns : goal.returns
unfolding answer_bytes encoded
returns c =
    let a = c.answer-a in
    let f : SFits w64 a.result.first = search rules in
    let g : SFits w64 a.result.second = search rules in
    let e = rw (c.word-3.ensures, c.word-2.ensures, c.word.ensures) at a.ensures in
    rw (c.three.ensures, rw (to_z-of_z g) at c.to_bits-2.ensures, rw (to_z-of_z f) at c.to_bits.ensures, ← e)
