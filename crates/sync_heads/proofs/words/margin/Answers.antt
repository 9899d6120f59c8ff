-- `sync_heads::words::margin` meets its contract: the difference of two sizes. Assumes nothing.
use Rattle.std.proofs.Common.{◌≡◌, ◌+◌, ◌^◌, ◌<◌, ◌≤◌, ℤ, pos, ◌-ℤ◌, nat_abs, ◌∙◌, w64, to_z, of_z}
use Rattle.fx.specs.Fx.{mag_approx}
use Rattle.laws.proofs.Size.{Num, at, back, fits, less}
use Rattle.sync_heads.specs.Words.{margin_of}
use lib.Signed.{mag}
use Rattle.sync_heads.proofs.words.margin.Lts as lts
use Rattle.sync_heads.proofs.words.margin.Tie as tie
use Rattle.sync_heads.proofs.words.margin.Reads as reads
use Rattle.sync_heads.proofs.words.margin.Goals as goal

size_is : (z r : ℤ) → mag r < 2 ^ 63 → (r ≡ z) × (nat_abs r ≤ 2 ^ 42) → Num (to_z w64 (of_z w64 r)) z (2 ^ 42)
size_is z r l e = record { is = back w64 r l ∙ e.0; size = rw e.0 at e.1 }

difference : (c : (lts.After-size2 tie.the-claims reads.Pre reads.Post)) →
    let b = c.args.b in
    Num (to_z w64 (of_z w64 c.size.result) -ℤ to_z w64 (of_z w64 c.size-2.result)) (pos (mag_approx b.s.re b.s.im) -ℤ pos (mag_approx b.f.re b.f.im)) (2 ^ 42 + 2 ^ 42)
difference c =
    let b = c.args.b in
    let p = c.size in
    let q = c.size-2 in
    less (size_is (pos (mag_approx b.s.re b.s.im)) p.result p.type_inv p.ensures) (size_is (pos (mag_approx b.f.re b.f.im)) q.result q.type_inv q.ensures)

pub overflow_sub-result : goal.overflow_sub-result
overflow_sub-result c = fits w64 (difference c) tt

pub returns : goal.returns
unfolding margin_of
returns c = (at w64 (difference c) tt).is
