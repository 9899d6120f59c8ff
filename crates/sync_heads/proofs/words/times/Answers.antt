-- `sync_heads::words::times` meets its contract: a product of two small numbers. Assumes nothing.
use Rattle.std.proofs.Common.{◌*◌, ◌*ℤ◌, refl, arith, w32, w64, to_z, of_z}
use Rattle.laws.proofs.Size.{Num, at, fits, times}
use Rattle.sync_heads.proofs.Laws.{part, wide}
use Rattle.sync_heads.proofs.words.times.Lts as lts
use Rattle.sync_heads.proofs.words.times.Reads as reads
use Rattle.sync_heads.proofs.words.times.Goals as goal

product : (s : (lts.Start reads.Pre reads.Post)) → Num (to_z w64 (of_z w64 (to_z w32 (of_z w32 s.args.a))) *ℤ to_z w64 (of_z w64 (to_z w32 (of_z w32 s.args.b)))) (s.args.a *ℤ s.args.b) (1572864 * 1572864)
product s = times (wide s.args.a s.requires.0) (wide s.args.b s.requires.1)

pub overflow_cast-result : goal.overflow_cast-result
overflow_cast-result c = fits w64 (part c.args.a c.requires.0) tt

pub overflow_cast-result-2 : goal.overflow_cast-result-2
overflow_cast-result-2 c = fits w64 (part c.args.b c.requires.1) tt

pub overflow_mul-result : goal.overflow_mul-result
overflow_mul-result c = fits w64 (product c) tt

pub returns : goal.returns
returns c = let p = at w64 (product c) tt in rw p.is (refl, omega (arith, p.size))
