-- `receiver_replay::replay` meets its contract. Assumes nothing.
use Prim.Native.Nat.{◌*◌, ◌+◌, ◌-◌}
use Rattle.receiver_replay.proofs.Laws.{length_answer}
use Rattle.receiver_replay.specs.Calls.{all}
use Rattle.receiver_replay.specs.Replay.{after, answer_bytes}
use Rattle.wire.proofs.Blocks.{replay-all, replay-more, replay-none}
use mathlib.Core.Path.{◌∙◌, ◌≡◌, sym}
use native.Mathlib.Omega.{arith}
use Rattle.receiver_replay.proofs.replay.Goals as goal

pub loop-i-init : goal.loop-i-init
loop-i-init c =
    let s = c.args in
    let d = all s.k s.table.now s.acc.now s.store.now s.soft.now s.input.now in
    let e : s.n - 0 ≡ s.n = omega arith in
    let g = replay-none 192 answer_bytes after length_answer s.n d s.buf.now in
    (omega arith, rw e g.0, rw e g.1)

pub overflow_mul-i : goal.overflow_mul-i
overflow_mul-i c = omega (arith, c.requires, c.well_formed)

pub replace-s-requires : goal.replace-s-requires
replace-s-requires c = omega (arith, c.requires)

pub loop-i-preserved : goal.loop-i-preserved
loop-i-preserved c =
    let t = c.loop-i-test.true in
    let h = c.loop-i in
    let s = c.args in
    let g = c.replace-s in
    let i = h.i in
    let more =
    replay-more 192 answer_bytes after length_answer
    (s.n - (i + 1)) (s.n - i) (192 * i) (192 * (i + 1))
    (all h.s h.table h.acc h.store h.soft h.input) (all g.result g.new.table g.new.acc g.new.store g.new.soft g.new.input) h.buf g.new.buf
    (omega (arith, t)) (omega arith) (omega (arith, c.requires, h.invariant.0, t)) g.ensures.0 g.ensures.1 in
    (omega (arith, t), more.0 ∙ h.invariant.1, more.1 ∙ h.invariant.2)

pub returns : goal.returns
returns c =
    let h = c.loop-i in
    let s = c.args in
    let whole = replay-all 192 answer_bytes after length_answer (s.n - h.i) (192 * h.i) (all h.s h.table h.acc h.store h.soft h.input) h.buf (omega arith) in
    (sym whole.0 ∙ h.invariant.1, sym whole.1 ∙ h.invariant.2)
