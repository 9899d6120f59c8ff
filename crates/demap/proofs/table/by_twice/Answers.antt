-- `demap::table::by_twice` meets its contract: one chain of the calculus of sizes. Assumes nothing.
use Prim.Native.Nat.{◌≤◌}
use native.Mathlib.Omega.{arith}
use lib.IntN.{ℤ, nat_abs, ◌+ℤ◌, ◌-ℤ◌, ◌*ℤ◌}
use mir.Syntax.{w16, w64}
use mir.Val.{SFits, to_z, of_z}
use Rattle.laws.proofs.Size.{Num, fits, at, arg, arg_le, plus, less, times}
use Rattle.demap.specs.Folds.{by_twice}
use Rattle.demap.proofs.table.by_twice.Lts as lts
use Rattle.demap.proofs.table.by_twice.Reads as reads
use Rattle.demap.proofs.table.by_twice.Goals as goal

abbrev m : ℤ → ℤ
m z = to_z w64 (of_z w64 z)

-- a part of the point as an i64
wide : {p : ℤ} → SFits w16 p → Num (m (to_z w16 (of_z w16 p))) p 32768
wide h = at w64 (arg h) tt

rest : {p t : ℤ} → SFits w16 p → SFits w64 t → nat_abs t ≤ 65536 → Num (m (to_z w16 (of_z w16 p)) -ℤ m t) (p -ℤ t) 98304
rest h k b = less (wide h) (arg_le 65536 k b)

axis : {p t : ℤ} → SFits w16 p → SFits w64 t → nat_abs t ≤ 65536 →
    Num (m (to_z w16 (of_z w16 p)) *ℤ m (m (to_z w16 (of_z w16 p)) -ℤ m t)) (p *ℤ (p -ℤ t)) 3221225472
axis h k b = times (wide h) (at w64 (rest h k b) tt)

abbrev term : ℤ → ℤ → ℤ
term p t = m (m (to_z w16 (of_z w16 p)) *ℤ m (m (to_z w16 (of_z w16 p)) -ℤ m t))

module _ (c : (lts.Start reads.Pre reads.Post)) where
  sum : Num (term c.args.pi c.args.ti +ℤ term c.args.pq c.args.tq) (c.args.pi *ℤ (c.args.pi -ℤ c.args.ti) +ℤ c.args.pq *ℤ (c.args.pq -ℤ c.args.tq)) 6442450944
  sum = plus (at w64 (axis c.ranges.pi c.ranges.ti c.requires.0) tt) (at w64 (axis c.ranges.pq c.ranges.tq c.requires.1) tt)

pub overflow_cast-c : goal.overflow_cast-c
overflow_cast-c c = fits w64 (arg c.ranges.pi) tt

pub overflow_cast-d : goal.overflow_cast-d
overflow_cast-d c = fits w64 (arg c.ranges.pq) tt

pub overflow_sub-result : goal.overflow_sub-result
overflow_sub-result c = fits w64 (rest c.ranges.pi c.ranges.ti c.requires.0) tt

pub overflow_mul-result : goal.overflow_mul-result
overflow_mul-result c = fits w64 (axis c.ranges.pi c.ranges.ti c.requires.0) tt

pub overflow_sub-result-2 : goal.overflow_sub-result-2
overflow_sub-result-2 c = fits w64 (rest c.ranges.pq c.ranges.tq c.requires.1) tt

pub overflow_mul-result-2 : goal.overflow_mul-result-2
overflow_mul-result-2 c = fits w64 (axis c.ranges.pq c.ranges.tq c.requires.1) tt

pub overflow_add-result : goal.overflow_add-result
overflow_add-result c = fits w64 (sum c) tt

pub returns : goal.returns
unfolding by_twice
returns c = let s = at w64 (sum c) tt in (s.is, omega (arith, s.size))
