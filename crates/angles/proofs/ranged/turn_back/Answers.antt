-- `angles::ranged::turn_back` meets its contract: products of 16-bit numbers are far from the ends of an i64. Assumes nothing.
use Rattle.std.proofs.Common.{◌+◌, ◌*◌, ◌≤◌, ℤ, ◌+ℤ◌, ◌-ℤ◌, ◌*ℤ◌, nat_abs, arith, to_z-of_z, w64, to_z, of_z}
use Rattle.laws.proofs.Size.{Num, arg_le, sfits_abs, times, plus, less, at, fits}
use Rattle.angles.specs.Angles.{turned_back}
use Rattle.angles.proofs.ranged.turn_back.Goals as goal

-- a 16-bit number in an i64
short : (z : ℤ) → nat_abs z ≤ 32768 → Num (to_z w64 (of_z w64 z)) z 32768
short z h = arg_le 32768 (sfits_abs w64 z (omega (arith, h))) h

product : (a b : ℤ) → nat_abs a ≤ 32768 → nat_abs b ≤ 32768 → Num (to_z w64 (of_z w64 (to_z w64 (of_z w64 a) *ℤ to_z w64 (of_z w64 b)))) (a *ℤ b) (32768 * 32768)
product a b h k = at w64 (times (short a h) (short b k)) tt

-- the two sums of two products
sum_of : (i q c d : ℤ) → nat_abs i ≤ 32768 → nat_abs q ≤ 32768 → nat_abs c ≤ 32768 → nat_abs d ≤ 32768 →
    Num (to_z w64 (of_z w64 (to_z w64 (of_z w64 i) *ℤ to_z w64 (of_z w64 c))) +ℤ to_z w64 (of_z w64 (to_z w64 (of_z w64 q) *ℤ to_z w64 (of_z w64 d)))) (i *ℤ c +ℤ q *ℤ d)
    (32768 * 32768 + 32768 * 32768)
sum_of i q c d hi hq hc hd = plus (product i c hi hc) (product q d hq hd)

dif-of : (i q c d : ℤ) → nat_abs i ≤ 32768 → nat_abs q ≤ 32768 → nat_abs c ≤ 32768 → nat_abs d ≤ 32768 →
    Num (to_z w64 (of_z w64 (to_z w64 (of_z w64 q) *ℤ to_z w64 (of_z w64 c))) -ℤ to_z w64 (of_z w64 (to_z w64 (of_z w64 i) *ℤ to_z w64 (of_z w64 d)))) (q *ℤ c -ℤ i *ℤ d)
    (32768 * 32768 + 32768 * 32768)
dif-of i q c d hi hq hc hd = less (product q c hq hc) (product i d hi hd)

pub overflow_mul-i : goal.overflow_mul-i
overflow_mul-i c =
    let a = c.args in
    let p = c.requires in
    fits w64 (times (short a.i p.2) (short a.p.cos p.0)) tt

pub overflow_mul-q : goal.overflow_mul-q
overflow_mul-q c =
    let a = c.args in
    let p = c.requires in
    fits w64 (times (short a.q p.3) (short a.p.sin p.1)) tt

pub overflow_add-i : goal.overflow_add-i
overflow_add-i c =
    let a = c.args in
    let p = c.requires in
    fits w64 (sum_of a.i a.q a.p.cos a.p.sin p.2 p.3 p.0 p.1) tt

pub round_shift-requires : goal.round_shift-requires
round_shift-requires c =
    let a = c.args in
    let p = c.requires in
    let n = at w64 (sum_of a.i a.q a.p.cos a.p.sin p.2 p.3 p.0 p.1) tt in
    rw n.is (omega (arith, n.size), p.4)

pub overflow_mul-q-2 : goal.overflow_mul-q-2
overflow_mul-q-2 c =
    let a = c.args in
    let p = c.requires in
    fits w64 (times (short a.q p.3) (short a.p.cos p.0)) tt

pub overflow_mul-i-2 : goal.overflow_mul-i-2
overflow_mul-i-2 c =
    let a = c.args in
    let p = c.requires in
    fits w64 (times (short a.i p.2) (short a.p.sin p.1)) tt

pub overflow_sub-q : goal.overflow_sub-q
overflow_sub-q c =
    let a = c.args in
    let p = c.requires in
    fits w64 (dif-of a.i a.q a.p.cos a.p.sin p.2 p.3 p.0 p.1) tt

pub round_shift-requires-2 : goal.round_shift-requires-2
round_shift-requires-2 c =
    let a = c.args in
    let p = c.requires in
    let n = at w64 (dif-of a.i a.q a.p.cos a.p.sin p.2 p.3 p.0 p.1) tt in
    rw n.is (omega (arith, n.size), p.4)

pub returns : goal.returns
unfolding turned_back
returns c =
    let a = c.args in
    let p = c.requires in
    let n = at w64 (sum_of a.i a.q a.p.cos a.p.sin p.2 p.3 p.0 p.1) tt in
    let m = at w64 (dif-of a.i a.q a.p.cos a.p.sin p.2 p.3 p.0 p.1) tt in
    rw (to_z-of_z (record { sfits = c.round_shift.type_inv }), to_z-of_z (record { sfits = c.round_shift-2.type_inv }), rw n.is at c.round_shift.ensures, rw m.is at c.round_shift-2.ensures)
