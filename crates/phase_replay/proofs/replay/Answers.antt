-- `phase_replay::replay` meets its contract. Assumes nothing.
use mathlib.Core.Path.{◌≡◌, sym, ◌∙◌}
use Prim.Native.Nat.{◌+◌, ◌-◌, ◌*◌}
use native.Mathlib.Omega.{arith}
use Rattle.wire.proofs.Blocks.{replay-more, replay-none, replay-all}
use Rattle.phase_replay.specs.Replay.{answer_bytes, after, lent}
use Rattle.phase_replay.proofs.Laws.{length_answer}
use Rattle.phase_replay.proofs.replay.Goals as goal

pub loop-i-init : goal.loop-i-init
loop-i-init c =
    let s = c.args in
    let d = lent s.table.now s.store.now in
    let e : s.n - 0 ≡ s.n = omega arith in
    let g = replay-none 192 answer_bytes after length_answer s.n d s.buf.now in
    (omega arith, rw e g.0, rw e g.1)

pub overflow_mul-i : goal.overflow_mul-i
overflow_mul-i c = omega (arith, c.requires, c.well_formed)

pub replace-requires : goal.replace-requires
replace-requires c = omega (arith, c.requires)

pub loop-i-preserved : goal.loop-i-preserved
loop-i-preserved c =
    let h = c.loop-i in
    let g = c.replace in
    let i = h.i in
    let more =
    replay-more 192 answer_bytes after length_answer
    (c.args.n - (i + 1)) (c.args.n - i) (192 * i) (192 * (i + 1))
    (lent h.table h.store) (lent g.new.table g.new.store) h.buf g.new.buf
    (omega (arith, c.loop-i-test.true)) (omega arith) (omega (arith, c.requires)) g.ensures.0 g.ensures.1 in (
      omega arith,
      more.0 ∙ h.invariant.1,
      more.1 ∙ h.invariant.2,
    )

pub returns : goal.returns
returns c =
    let h = c.loop-i in
    let s = c.args in
    let all = replay-all 192 answer_bytes after length_answer (s.n - h.i) (192 * h.i) (lent h.table h.store) h.buf (omega arith) in
    (sym all.0 ∙ h.invariant.1, sym all.1 ∙ h.invariant.2)
