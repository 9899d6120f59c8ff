-- `fx::turns::cos_sin_at` meets its contract. Assumes nothing.
use Rattle.std.proofs.Common.{◌+◌, ◌%◌, ◌≤◌, get_or, ℤ, pos, nat_abs, refl, arith, to_z-of_z, w16, SFits}
use mir.Facts.{sfits_widen}
use Rattle.fx.specs.Fx.{cos_sin_at}
use Rattle.laws.proofs.Size.{abs≤}
use Rattle.fx.proofs.turns.cos_sin_at.Lts as lts
use Rattle.fx.proofs.turns.cos_sin_at.Reads as reads
use Rattle.fx.proofs.turns.cos_sin_at.Goals as goal

-- the two entries are i16, and so fit an i64
cos-fits : (c : (lts.After-s reads.Pre reads.Post)) → SFits w16 (get_or c.args.table.now c.args.i (pos 0))
cos-fits c = record { sfits = c.c-1.given }

sin-fits : (c : (lts.After-s reads.Pre reads.Post)) → SFits w16 (get_or c.args.table.now ((c.args.i + 768) % 1024) (pos 0))
sin-fits c = record { sfits = c.s-1.given }

pub overflow_cast-result : goal.overflow_cast-result
overflow_cast-result c = rw (to_z-of_z (cos-fits c)) (sfits_widen {w = w16} tt (cos-fits c))

pub overflow_cast-result-2 : goal.overflow_cast-result-2
overflow_cast-result-2 c = rw (to_z-of_z (sin-fits c)) (sfits_widen {w = w16} tt (sin-fits c))

-- an i16 is of size at most 2^15
entry-size : (z : ℤ) → SFits w16 z → nat_abs z ≤ 32768
entry-size z h = omega (arith, abs≤ z, h.sfits)

pub returns : goal.returns
unfolding cos_sin_at
returns c =
    rw (to_z-of_z (overflow_cast-result c), to_z-of_z (overflow_cast-result-2 c), to_z-of_z (cos-fits c), to_z-of_z (sin-fits c))
    (refl, entry-size _ (cos-fits c), entry-size _ (sin-fits c))
