-- The loop has pushed k symbols. Assumes nothing.
use Prim.Native.Nat.{◌/◌}
use Rattle.sync_bench.proofs.Laws.{push_more}
use Rattle.sync_bench.specs.Streams.{Flow, flow, left_of, new_flow, push_many, pushed_acc, pushed_stream, streamed}
use lib.ListN.{length}
use mathlib.Core.Path.{◌∙◌, ◌≡◌, ap, refl}
use native.Mathlib.Omega.{arith}
use Rattle.std.proofs.Common.{◌*◌, ◌+◌, SFits, get_or, pos, rules, to_z-of_z, w16}
use Rattle.sync_bench.proofs.measure_push.Goals as goal

pub loop-k-init : goal.loop-k-init
unfolding push_many
loop-k-init c = (refl, refl)

pub loop-k-preserved : goal.loop-k-preserved
loop-k-preserved c =
    let h = c.loop-k in
    let a = c.args in
    let x : SFits w16 (get_or a.sy.now (2 * h.k) (pos 0)) = search rules in
    let y : SFits w16 (get_or a.sy.now (2 * h.k + 1) (pos 0)) = search rules in (
      push_more a.sy.now a.words.f a.words.w h.k (flow c.begun-t.result.sync 0 c.begun-t.result.level c.begun-t.result.refusal c.new.new.acc) (flow h.t.sync h.k h.t.level h.t.refusal h.acc) _ _ c.left_by-t.result _
          h.invariant.0 (to_z-of_z x) (to_z-of_z y) (c.left_by-t.ensures ∙ ap left_of c.push.ensures.0) c.push.ensures.1,
      c.push.auto.acc ∙ h.invariant.1,
    )

pub returns : goal.returns
unfolding pushed_stream pushed_acc new_flow
returns c =
    let h = c.loop-k in
    let a = c.args in
    let e : h.k ≡ length a.sy.now / 2 = omega (arith, c.loop-k-test) in
    let q : flow h.t.sync (length a.sy.now / 2) h.t.level h.t.refusal h.acc ≡ push_many a.sy.now a.words.f a.words.w (length a.sy.now / 2) (new_flow a.acc.now) =
    rw (e, c.begun-t.ensures, c.new.ensures.0, c.new.ensures.1) at h.invariant.0
    in
    (ap streamed q, ap (λ (x : Flow). x.acc) q)
