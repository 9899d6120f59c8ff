-- `frame_map::ranged::scaled` meets its contract. Assumes nothing.
use Prim.Native.Nat.{◌≤◌}
use lib.IntN.{ℤ, pos, neg_ℤ, nat_abs, ◌*ℤ◌, +ℤ_idl}
use mir.Facts.{to_z-of_z, sfits_widen}
use mir.Syntax.{w8, w16}
use mir.Val.{SFits, to_z, of_z}
use Rattle.laws.proofs.Size.{Num, times, less, lit, at, fits}
use Rattle.frame_map.specs.Reference.{scaled_of}
use Rattle.frame_map.proofs.ranged.scaled.Goals as goal

-- an entry of a word in 16 bits
widened : (z : ℤ) → SFits w8 z → nat_abs z ≤ 1 → Num (to_z w16 (of_z w16 (to_z w8 (of_z w8 z)))) z 1
widened z h k = record { is = rw (to_z-of_z {w = w8} h) (to_z-of_z {w = w16} (sfits_widen {w = w8} {w' = w16} tt h)); size = k }

pub overflow_cast-result : goal.overflow_cast-result
overflow_cast-result c = let h = c.ranges.s in rw (to_z-of_z h) (sfits_widen {w = w8} tt h)

pub overflow_mul-result : goal.overflow_mul-result
overflow_mul-result c = fits w16 (times (widened c.args.s c.ranges.s c.requires.1) (lit 724)) tt

pub overflow_cast-result-in-Fsync : goal.overflow_cast-result-in-Fsync
overflow_cast-result-in-Fsync c = let h = c.ranges.f in rw (to_z-of_z h) (sfits_widen {w = w8} tt h)

pub overflow_mul-result-in-Fsync : goal.overflow_mul-result-in-Fsync
overflow_mul-result-in-Fsync c = fits w16 (times (widened c.args.f c.ranges.f c.requires.0) (lit 724)) tt

pub overflow_cast-result-in-NotFsync : goal.overflow_cast-result-in-NotFsync
overflow_cast-result-in-NotFsync c = let h = c.ranges.f in rw (to_z-of_z h) (sfits_widen {w = w8} tt h)

pub overflow_mul-result-in-NotFsync : goal.overflow_mul-result-in-NotFsync
overflow_mul-result-in-NotFsync c = fits w16 (times (widened c.args.f c.ranges.f c.requires.0) (lit 724)) tt

pub overflow_sub-result : goal.overflow_sub-result
overflow_sub-result c = fits w16 (less (lit 0) (at w16 (times (widened c.args.f c.ranges.f c.requires.0) (lit 724)) tt)) tt

pub returns-in-Ssync : goal.returns-in-Ssync
unfolding scaled_of
returns-in-Ssync c = rw ((at w16 (times (widened c.args.s c.ranges.s c.requires.1) (lit 724)) tt).is, c.in-Ssync.is)

pub returns-in-Fsync : goal.returns-in-Fsync
unfolding scaled_of
returns-in-Fsync c = rw ((at w16 (times (widened c.args.f c.ranges.f c.requires.0) (lit 724)) tt).is, c.in-Fsync.is)

pub returns-in-NotFsync : goal.returns-in-NotFsync
unfolding scaled_of
returns-in-NotFsync c = rw ((at w16 (less (lit 0) (at w16 (times (widened c.args.f c.ranges.f c.requires.0) (lit 724)) tt)) tt).is, c.in-NotFsync.is) (+ℤ_idl (neg_ℤ (c.args.f *ℤ pos 724)))
