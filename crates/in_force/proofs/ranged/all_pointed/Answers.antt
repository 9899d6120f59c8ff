-- `in_force::ranged::all_pointed` meets its contract: a turn is one set. Assumes nothing.
use mathlib.Core.Bool.{false}
use mathlib.Core.List.{append-nil}
use mathlib.Core.Path.{◌≡◌, refl, sym, ◌∙◌}
use Prim.Native.Nat.{ℕ, ◌+◌}
use native.Mathlib.Omega.{arith}
use lib.ListN.{replicate}
use Rattle.laws.proofs.Lists.{firsts-step}
use Rattle.laws.specs.Ranges.{firsts}
use Rattle.learn.specs.Learning.{set_learned}
use Rattle.in_force.specs.InForce.{set_flags}
use Rattle.in_force.proofs.Laws.{slices_none, slices_step}
use Rattle.in_force.proofs.ranged.all_pointed.Goals as goal

pub loop-i-init : goal.loop-i-init
unfolding firsts
loop-i-init c = (omega arith, refl, slices_none _ _, c.requires.1)

pub pointed-requires : goal.pointed-requires
pointed-requires c =
    let L = c.loop-i in
    (c.requires.0, record { some = omega arith; few = omega arith }, L.invariant.3)

pub loop-i-preserved : goal.loop-i-preserved
loop-i-preserved c =
    let L = c.loop-i in
    let l = c.args.l in
    let p = c.pointed in (
      omega arith,
      rw L.invariant.1 (firsts-step (λ (b : ℕ). set_learned l (b + 1)) (replicate 5 false) L.i p.result p.ensures.0 (omega arith)),
      p.ensures.1 ∙ rw L.invariant.2 (slices_step l L.i c.args.learned.now),
      p.auto.learned ∙ L.invariant.3,
    )

pub shape_of-learned : goal.shape_of-learned
shape_of-learned c = c.loop-i.invariant.3 ∙ sym c.requires.1

pub returns : goal.returns
unfolding set_flags
returns c =
    let L = c.loop-i in
    let e : L.i ≡ 5 = omega arith in
    ((rw e at L.invariant.1) ∙ append-nil _, rw e at L.invariant.2)
