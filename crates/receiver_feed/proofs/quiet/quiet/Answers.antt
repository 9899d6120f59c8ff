-- The loop has gone through k symbols. Assumes nothing.
use Rattle.laws.proofs.Size.{arg, at, fits, num}
use mir.Syntax.{w8, w16, w64}
use mir.Val.{of_z}
use Rattle.receiver_feed.specs.Quiet.{Course, Moving}
use Rattle.receiver_feed.proofs.Calm.{some_moved, tally_sum}
use mathlib.Core.Path.{refl, sym, ap, ◌∙◌}
use Rattle.angles.specs.Angles.{turned_by}
use native.Mathlib.Omega.{arith}
use mir.Facts.{to_z-of_z}
use mir.Val.{to_z}
use mir.Syntax.{w32}
use Rattle.laws.specs.Choice.{if_yes}
use Rattle.receiver_bounds.specs.Bounds.{tally_within}
use Rattle.receiver_feed.specs.Quiet.{moves, moving}
use Rattle.receiver_feed.proofs.Calm.{end_most, first_fits, fits_more, goes_on_lem, moves_more, rolled-within}
use Rattle.receiver_feed.proofs.quiet.quiet.Goals as goal

pub loop-k-init : goal.loop-k-init
unfolding moves
loop-k-init c = let s = c.requires in (omega arith, omega arith, sym (if_yes _ _ _ s.10), refl, (λ j q. absurd (omega (arith, q))), s.9, s.0, s.1, s.2)

pub one-y-requires : goal.one-y-requires
one-y-requires c =
    let v = c.loop-k.invariant in
    let p = c.requires in
    let t = c.loop-k-test.true in
    (v.6, v.7, omega (arith, t, v.1, p.5), tally_sum c.loop-k.y (goes_on_lem (tally_within c.loop-k.y) c.args.n c.loop-k.k c.loop-k.end v.2 t), p.8)

pub overflow_cast-freq : goal.overflow_cast-freq
overflow_cast-freq c = fits w64 (arg {w = w32} {z = c.args.freq} c.ranges.freq) tt

pub turn_on-a-requires : goal.turn_on-a-requires
turn_on-a-requires c = let n = at w64 (arg {w = w32} {z = c.args.freq} c.ranges.freq) tt in rw n.is (omega (arith, n.size))

pub loop-k-smaller : goal.loop-k-smaller
loop-k-smaller c = omega (arith, c.loop-k-test.true, c.loop-k.invariant.1)

pub loop-k-preserved : goal.loop-k-preserved
loop-k-preserved c =
    let s = c.args in
    let v = c.loop-k.invariant in
    let t = c.loop-k-test.true in
    let g = c.one-y in
    let z = c.rotated-z in
    let q = c.keep in
    let d : Course = record { bytes = s.bytes.now; table = s.table.now; rows = s.rows.now; freq = to_z w32 (of_z w32 s.freq) } in
    let m : Moving = moving s.win.now s.y0 s.acc.now s.store.now s.phase in
    let f = goes_on_lem (tally_within c.loop-k.y) s.n c.loop-k.k c.loop-k.end v.2 t in
    let zi = (at w16 (num z.result.i 4096 z.ensures.1) tt).is in
    let zq = (at w16 (num z.result.q 4096 z.ensures.2) tt).is in
    let er = rw (zi, zq) at g.ensures.0 in
    let eg = rw (to_z-of_z {w = w16} (record { sfits = c.keep-arg-in-loop-k-1.given }), to_z-of_z {w = w16} (record { sfits = c.keep-arg-in-loop-k-2-1.given })) at q.ensures in
    let ea = c.turn_on-a.ensures ∙ ap (turned_by c.loop-k.a) ((at w64 (arg {w = w32} {z = s.freq} c.ranges.freq) tt).is ∙ sym (to_z-of_z {w = w32} c.ranges.freq)) in (
      omega (arith, t, v.1),
      end_most _ _ _ _ c.up_to-end.ensures (omega (arith, t, v.1)),
      c.up_to-end.ensures,
      moves_more d s.i s.p s.c c.loop-k.k m c.loop-k.win _ c.loop-k.y _ c.loop-k.acc _ c.loop-k.store _ c.loop-k.a _ _ _ z.result v.3
          (to_z-of_z {w = w8} (record { sfits = c.rotated-arg-1.given })) (to_z-of_z {w = w8} (record { sfits = c.rotated-arg-in-loop-k-1.given })) z.ensures.0 er eg ea,
      fits_more d s.i s.p s.c c.loop-k.k m (moving c.loop-k.win c.loop-k.y c.loop-k.acc c.loop-k.store c.loop-k.a) v.3 (record { win = v.5; tally = f }) v.4,
      rolled-within s.rows.now _ _ _ _ _ er v.5 z.ensures.1 z.ensures.2,
      g.ensures.2,
      g.auto.acc ∙ v.7,
      q.auto.store ∙ v.8,
    )

pub shape_of-acc : goal.shape_of-acc
shape_of-acc c = c.loop-k.invariant.7 ∙ sym c.requires.1

pub shape_of-store : goal.shape_of-store
shape_of-store c = c.loop-k.invariant.8 ∙ sym c.requires.2

pub returns : goal.returns
returns c =
    let h = c.loop-k in
    let v = h.invariant in
    let e = to_z-of_z {w = w32} c.ranges.freq in (
      rw e at v.3,
      some_moved (tally_within h.y) c.args.n h.k h.end v.2 (omega (arith, c.loop-k-test)) c.requires.7 (λ z. rw (first_fits _ _ _ _ _ _ _ _ _ _ _ v.3 z) c.requires.10),
      v.0,
      (λ j l. rw e at (v.4 j l)),
      v.5,
    )
