-- The turns left lead to the page that all turns lead to, as long as writing goes well. Assumes nothing.
use lib.ListN.{drop}
use mathlib.Core.List.{List, []}
use mathlib.Core.Path.{◌≡◌, refl, sym, ap, ◌∙◌}
use Prim.Native.Nat.{ℕ, suc, ◌+◌, ◌-◌, ◌<◌}
use native.Mathlib.Omega.{arith}
use lib.IntN.{ℤ}
use Rattle.receiver_slot.specs.declared.AlignedRun.{AlignedRun}
use Rattle.bench_text.specs.Pages.{Paged, paged_by, page_of}
use Rattle.bench_text.specs.declared.Page.{Page}
use Rattle.bench_text.specs.Claims.{pages_from, run_on}
use Rattle.bench_text.proofs.Theorems.{turn_last, turn_on}
use Rattle.bench.proofs.run.Invariants.{page, led}
use Rattle.bench.proofs.run.Goals as goal

-- what `fill` leaves, as a page
filled : (r : AlignedRun) (q : Page) (soft : List ℤ) (out : List ℕ) (p : Page) (after : List ℕ) →
    paged_by p soft after ≡ page_of r (r.count - q.i) (paged_by q soft out) →
    page p.i (drop p.v soft) p.place after ≡ page_of r (r.count - q.i) (page q.i (drop q.v soft) q.place out)
unfolding paged_by
filled r q soft out p after e = e

some_turn : (n : ℕ) → n < 65536 → suc (65536 - (n + 1)) ≡ 65536 - n
some_turn n h = omega arith

-- no turn is left
at-end : (k : ℕ) (r : AlignedRun) (vs : List ℤ) (place : ℕ) (out : List ℕ) (p : Paged) → k ≡ 0 → led k r p ≡ led 65536 r (page 0 vs place out) → p ≡ (run_on 65536 r vs [] place out).page
unfolding run_on
at-end k r vs place out p z e = sym (none k z) ∙ e
  where
    none : (k : ℕ) → k ≡ 0 → led k r p ≡ p
    none k z = unfold pages_from in rw z refl

pub pages-init : goal.pages-init
pages-init c = record { value = c.requires; same = refl }

pub pages-preserved : goal.pages-preserved
pages-preserved c =
    let a = c.args in
    let L = c.pages in
    let F = c.fill-p in
    let p : Paged = page L.p.i (drop L.p.v a.soft.now) L.p.place L.out in
    let q : Paged = page F.result.i (drop F.result.v a.soft.now) F.result.place F.new.out in
    let e = filled a.r L.p a.soft.now L.out F.result F.new.out F.ensures.0 in
    let h = rw c.from.ensures at c.if-from-p.false in
    record {
      value = F.ensures.1;
      same =
          turn_on (65536 - (L.counter + 1)) a.r p q e h
          ∙ ap (λ (n : ℕ). led n a.r p) (some_turn L.counter c.pages-test.true)
          ∙ L.invariant.same;
    }

pub returns-then-from-p : goal.returns-then-from-p
returns-then-from-p c =
    let a = c.args in
    let L = c.pages in
    let F = c.fill-p in
    let p : Paged = page L.p.i (drop L.p.v a.soft.now) L.p.place L.out in
    let q : Paged = page F.result.i (drop F.result.v a.soft.now) F.result.place F.new.out in
    let e = filled a.r L.p a.soft.now L.out F.result F.new.out F.ensures.0 in
    let h = rw c.from.ensures at c.if-from-p.true in
    let t = turn_last (65536 - (L.counter + 1)) a.r p q e h ∙ ap (λ (n : ℕ). led n a.r p) (some_turn L.counter c.pages-test.true) ∙ L.invariant.same in
    let d = at-end 0 a.r (drop a.v a.soft.now) a.place a.out.now q refl t in
    (F.ensures.1, λ y. (ap (λ (p : Paged). p.rest) d, ap (λ (p : Paged). p.place) d, ap (λ (p : Paged). p.out) d))

pub returns : goal.returns
returns c =
    let a = c.args in
    let L = c.pages in
    let p : Paged = page L.p.i (drop L.p.v a.soft.now) L.p.place L.out in
    let d = at-end (65536 - L.counter) a.r (drop a.v a.soft.now) a.place a.out.now p (omega (arith, c.pages-test.false)) L.invariant.same in
    (L.invariant.value, λ y. (ap (λ (p : Paged). p.rest) d, ap (λ (p : Paged). p.place) d, ap (λ (p : Paged). p.out) d))
