-- Each part is what the call on its two sums gives. Assumes nothing.
use Prim.Native.Nat.{◌<◌, ◌^◌}
use Rattle.eq_fir.specs.Rows.{finished_of, output_by}
use Rattle.laws.proofs.Size.{back}
use lib.IntN.{ℤ}
use lib.Signed.{mag}
use mathlib.Core.Path.{◌≡◌}
use mir.Syntax.{w16, w32}
use mir.Val.{of_z, to_z}
use Rattle.eq_fir.proofs.ranged_rows.output.Goals as goal

part : (h l x : ℤ) → mag x < 2 ^ 15 → mag h < 2 ^ 31 → mag l < 2 ^ 31 → x ≡ finished_of (to_z w32 (of_z w32 h)) (to_z w32 (of_z w32 l)) → to_z w16 (of_z w16 x) ≡ finished_of h l
part h l x fx fh fl e = rw (back w16 x fx, e, back w32 h fh, back w32 l fl)

pub returns : goal.returns
unfolding output_by
returns c =
    let f = c.finished in
    let g = c.finished-2 in
    let s = c.dots-s.result in
    let p = c.pad-l.ensures in
    let one = part s.rh s.rl f.result f.type_inv (search) (search) f.ensures in
    let two = part s.ih s.il g.result g.type_inv (search) (search) g.ensures in
    rw (one, two, c.dots-s.ensures, p)
