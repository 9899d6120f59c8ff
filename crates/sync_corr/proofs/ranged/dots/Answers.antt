-- `sync_corr::ranged::dots` meets its contract: each of the four sums is that of the products so far, and grows by at most 2^15 a turn.
-- Assumes nothing.
use mathlib.Core.Path.{◌≡◌, refl, sym}
use mathlib.Core.List.{List}
use Prim.Native.Nat.{ℕ, ◌+◌, ◌*◌, ◌^◌, ◌≤◌, ◌<◌}
use native.Mathlib.Nat.{zero-add}
use native.Mathlib.Numerals.{add-one}
use native.Mathlib.Omega.{arith}
use lib.IntN.{ℤ, pos, nat_abs, ◌+ℤ◌, ◌*ℤ◌}
use mir.Syntax.{w16, w32}
use mir.Val.{SFits, to_z, of_z}
use mir.Facts.{to_z-of_z}
use Rattle.laws.proofs.Size.{Num, arg, arg_le, plus, times}
use Rattle.sync_corr.specs.Correlate.{at}
use Rattle.sync_corr.specs.Rows.{SmallRows, dot_to, dots_of}
use Rattle.sync_corr.proofs.ranged.dots.Invariants.{Sum}
use Rattle.sync_corr.proofs.ranged.dots.Goals as goal

none : (win rows : List ℤ) (b : ℕ) → Sum win rows b 0 (pos 0)
unfolding dot_to
none win rows b = record { is = refl; small = omega arith }

-- its value
read : {win rows : List ℤ} {b n : ℕ} {v : ℤ} → Sum win rows b n v → Num v (dot_to win rows b n) (2 ^ 15 * n)
read s = record { is = s.is; size = s.small }

-- what the call asks
asked : {win rows : List ℤ} {b n : ℕ} {v : ℤ} (j : ℕ) → Sum win rows b n v → n < 48 → SmallRows rows → j < 192 → SFits w16 (at rows j) →
    (nat_abs v ≤ 2 ^ 30) × (nat_abs (to_z w16 (of_z w16 (at rows j))) ≤ 1)
asked j s h u k f = rw (s.is, to_z-of_z f) (omega (arith, s.small), u.small j k)

-- one more product
more : {win rows : List ℤ} {b n : ℕ} {v : ℤ} (j : ℕ) (r : ℤ) → j ≡ b + n → Sum win rows b n v → n < 48 → SmallRows rows → j < 192 → SFits w16 (at win n) → SFits w16 (at rows j) →
    r ≡ v +ℤ (to_z w16 (of_z w16 (at win n)) *ℤ to_z w16 (of_z w16 (at rows j))) → SFits w32 r → Sum win rows b (n + 1) (to_z w32 (of_z w32 r))
unfolding dot_to
more {n = n} j r i s h u k x y e f =
    let next = plus (read s) (times (arg x) (arg_le 1 y (u.small j k))) in
    record {
      is = rw (to_z-of_z f, e, next.is, add-one n, i);
      small = rw (add-one n, ← i) (omega (arith, next.size));
    }

pub loop-k-init : goal.loop-k-init
loop-k-init c = (omega arith, none _ _ 0, none _ _ 48, none _ _ 96, none _ _ 144)

pub added-fr-requires : goal.added-fr-requires
unfolding at
added-fr-requires c =
    let t = c.loop-k-test.true in
    asked c.loop-k.k c.loop-k.invariant.1 t c.requires (omega (arith, t)) (record { sfits = c.added-arg-1.given })

pub added-fi-requires : goal.added-fi-requires
unfolding at
added-fi-requires c =
    let t = c.loop-k-test.true in
    asked (48 + c.loop-k.k) c.loop-k.invariant.2 t c.requires (omega (arith, t)) (record { sfits = c.added-arg-in-loop-k-1.given })

pub added-sr-requires : goal.added-sr-requires
unfolding at
added-sr-requires c =
    let t = c.loop-k-test.true in
    asked (96 + c.loop-k.k) c.loop-k.invariant.3 t c.requires (omega (arith, t)) (record { sfits = c.added-arg-in-loop-k-2-1.given })

pub added-si-requires : goal.added-si-requires
unfolding at
added-si-requires c =
    let t = c.loop-k-test.true in
    asked (144 + c.loop-k.k) c.loop-k.invariant.4 t c.requires (omega (arith, t)) (record { sfits = c.added-arg-in-loop-k-3-1.given })

pub loop-k-preserved : goal.loop-k-preserved
unfolding at
loop-k-preserved c =
    let t = c.loop-k-test.true in
    let u = c.requires in
    let x : SFits w16 (at c.args.win.now c.loop-k.k) = record { sfits = c.x-1.given } in (
      rw (add-one c.loop-k.k) t,
      more c.loop-k.k c.added-fr.result (sym (zero-add c.loop-k.k)) c.loop-k.invariant.1 t u (omega (arith, t)) x (record { sfits = c.added-arg-1.given }) c.added-fr.ensures (record { sfits = c.added-fr.type_inv }),
      more (48 + c.loop-k.k) c.added-fi.result refl c.loop-k.invariant.2 t u (omega (arith, t)) x (record { sfits = c.added-arg-in-loop-k-1.given }) c.added-fi.ensures (record { sfits = c.added-fi.type_inv }),
      more (96 + c.loop-k.k) c.added-sr.result refl c.loop-k.invariant.3 t u (omega (arith, t)) x (record { sfits = c.added-arg-in-loop-k-2-1.given }) c.added-sr.ensures (record { sfits = c.added-sr.type_inv }),
      more (144 + c.loop-k.k) c.added-si.result refl c.loop-k.invariant.4 t u (omega (arith, t)) x (record { sfits = c.added-arg-in-loop-k-3-1.given }) c.added-si.ensures (record { sfits = c.added-si.type_inv }),
    )

-- after all products
top : {win rows : List ℤ} {b n : ℕ} {v : ℤ} → n ≡ 48 → Sum win rows b n v → nat_abs (dot_to win rows b 48) ≤ 1572864
top {win} {rows} {b} {n} e s =
    let h : nat_abs (dot_to win rows b n) ≤ 1572864 = omega (arith, s.small, e) in
    rw e at h

pub returns : goal.returns
unfolding dots_of
returns c =
    let e : c.loop-k.k ≡ 48 = omega arith in
    let v = c.loop-k.invariant in
    rw (v.1.is, v.2.is, v.3.is, v.4.is, e) (
      refl,
      record { re = top e v.1; im = top e v.2 },
      record { re = top e v.3; im = top e v.4 },
    )
