-- `fx_replay::replay` meets its contract. Assumes nothing.
use mathlib.Core.Path.{◌≡◌, refl, sym, ◌∙◌}
use Prim.Native.Nat.{◌+◌, ◌-◌, ◌*◌}
use native.Mathlib.Omega.{arith}
use Rattle.fx_replay.specs.Replay.{answer_bytes, same}
use Rattle.fx_replay.proofs.Laws.{length_answer}
use Rattle.wire.proofs.Blocks.{replay-more, replay-none, replay-all}
use Rattle.fx_replay.proofs.replay.Goals as goal

pub loop-i-init : goal.loop-i-init
loop-i-init c =
    let s = c.args in
    let e : s.n - 0 ≡ s.n = omega arith in
    (omega arith, rw e (replay-none 24 answer_bytes same length_answer s.n s.table.now s.buf.now).0)

pub overflow_mul-i : goal.overflow_mul-i
overflow_mul-i c = omega (arith, c.requires, c.well_formed)

pub replace-requires : goal.replace-requires
replace-requires c = omega (arith, c.requires)

pub loop-i-preserved : goal.loop-i-preserved
loop-i-preserved c =
    let g = c.replace in (
      omega arith,
      (replay-more 24 answer_bytes same length_answer
          (c.args.n - (c.loop-i.i + 1)) (c.args.n - c.loop-i.i) (24 * c.loop-i.i) (24 * (c.loop-i.i + 1)) c.args.table.now c.args.table.now c.loop-i.buf g.new.buf
          (omega (arith, c.loop-i-test.true)) (omega arith) (omega (arith, c.requires)) g.ensures refl).0
          ∙ c.loop-i.invariant.1,
    )

pub returns : goal.returns
returns c =
    let s = c.args in
    sym (replay-all 24 answer_bytes same length_answer (s.n - c.loop-i.i) (24 * c.loop-i.i) s.table.now c.loop-i.buf (omega arith)).0 ∙ c.loop-i.invariant.1
