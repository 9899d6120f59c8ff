-- The loop has written the first j entries, each a byte. Assumes nothing.
use Prim.Native.Nat.{◌<◌, ◌≤◌, ℕ}
use Rattle.eq_fir.proofs.Bytes.{below_next}
use Rattle.eq_fir.specs.Fir.{nth}
use Rattle.eq_fir.specs.Rows.{rows_of}
use Rattle.laws.proofs.Lists.{firsts-step, getD-firsts}
use Rattle.laws.proofs.Size.{back}
use Rattle.laws.specs.Ranges.{firsts}
use lib.IntN.{nat_abs, pos, ℤ}
use lib.ListN.{drop, replicate, set}
use mathlib.Core.List.{List, [], ◌++◌, append-nil}
use mathlib.Core.Path.{◌∙◌, ◌≡◌, ap, refl}
use mir.Syntax.{w16}
use native.Mathlib.Nat.{not-suc-le-zero}
use native.Mathlib.Omega.{arith}
use Rattle.eq_fir.proofs.ranged_rows.rows.Invariants.{entry}
use Rattle.eq_fir.proofs.ranged_rows.rows.Goals as goal

pub pad-t-requires : goal.pad-t-requires
pad-t-requires c = c.requires

pub loop-j-init : goal.loop-j-init
unfolding firsts
loop-j-init c = (omega arith, refl, λ i h. absurd (not-suc-le-zero h))

pub loop-j-preserved : goal.loop-j-preserved
loop-j-preserved c =
    let t = c.pad-t.result in
    let j = c.loop-j.j in
    let l : j < 96 = search in
    let e = c.factor.ensures in (
      omega (arith, l),
      rw (back w16 c.factor.result c.factor.type_inv) (ap (λ (m : List ℤ). set m j c.factor.result) c.loop-j.invariant.1 ∙ firsts-step (entry t) (replicate 96 (pos 0)) j c.factor.result e.0 l),
      below_next (λ (i : ℕ). nat_abs (entry t i) ≤ 255) j c.loop-j.invariant.2 (rw e.0 at e.1),
    )

pub returns : goal.returns
unfolding rows_of
returns c =
    let t = c.pad-t.result in
    let e : c.loop-j.j ≡ 96 = omega arith in
    let g : c.loop-j.r ≡ firsts (entry t) 96 ++ [] = c.loop-j.invariant.1 ∙ ap (λ (n : ℕ). firsts (entry t) n ++ drop n (replicate 96 (pos 0))) e in
    let s : (i : ℕ) → i < 96 → nat_abs (entry t i) ≤ 255 = rw e at c.loop-j.invariant.2 in (
      g ∙ append-nil (firsts (entry t) 96) ∙ ap (λ (l : List ℤ). firsts (entry l) 96) c.pad-t.ensures,
      record { small = λ k l. rw (ap (λ (m : List ℤ). nth m k) g ∙ getD-firsts (entry t) (pos 0) 96 [] k l) (s k l) },
    )
