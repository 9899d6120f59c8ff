-- What is left to do after each turn. Assumes nothing.
use mathlib.Core.Path.{refl, sym, ◌∙◌}
use native.Mathlib.Omega.{arith}
use borrow.Author.Tests.{ltb-false, ltb-true}
use Rattle.laws.proofs.Tests.{and_both}
use Rattle.receiver_feed.proofs.Stand.{and_no, first_rest, rest_end, rest_on, stands_same, turn_less}
use Rattle.receiver_feed.proofs.turns.all.Goals as goal

pub loop-t-init : goal.loop-t-init
loop-t-init c = (omega arith, first_rest _ _ _ _, c.requires.1, refl, refl, refl, (λ d z. c.requires.2))

pub next-t-requires : goal.next-t-requires
next-t-requires c =
    let v = c.loop-t.invariant in
    let g = and_both _ _ (sym c.goes_on.ensures ∙ c.loop-t-test.true) in
    (ltb-true _ _ g.1, refl, c.requires.0, v.2, v.6 g.0)

pub loop-t-smaller : goal.loop-t-smaller
loop-t-smaller c =
    let g = and_both _ _ (sym c.goes_on.ensures ∙ c.loop-t-test.true) in
    turn_less _ c.loop-t.t _ g.0 (ltb-true _ _ g.1) c.next-t.ensures.1

pub loop-t-preserved : goal.loop-t-preserved
loop-t-preserved c =
    let v = c.loop-t.invariant in
    let t = and_both _ _ (sym c.goes_on.ensures ∙ c.loop-t-test.true) in
    let g = c.next-t in
    let a = g.auto.acc in
    let b = g.auto.store in
    let d = g.auto.soft in (
      g.ensures.1.most,
      g.ensures.0 ∙ sym (rest_on _ _ c.loop-t.t _ t.0) ∙ v.1,
      stands_same _ _ _ _ _ _ _ _ _ a b d v.2,
      a ∙ v.3,
      b ∙ v.4,
      d ∙ v.5,
      (λ e z. absurd (omega (arith, z, g.ensures.1.on e))),
    )

pub shape_of-acc : goal.shape_of-acc
shape_of-acc c = c.loop-t.invariant.3

pub shape_of-store : goal.shape_of-store
shape_of-store c = c.loop-t.invariant.4

pub shape_of-soft : goal.shape_of-soft
shape_of-soft c = c.loop-t.invariant.5

pub returns : goal.returns
returns c =
    let v = c.loop-t.invariant in
    rest_end _ _ c.loop-t.t _ v.0 (λ e. ltb-false _ _ (and_no _ _ (sym c.goes_on.ensures ∙ c.loop-t-test.false) e)) ∙ v.1
