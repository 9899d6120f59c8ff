-- `receiver_calls::calls::points` meets its contract. Assumes nothing.
use Rattle.receiver_calls.specs.Calls.{points_call}
use borrow.Author.Rules.{rules}
use lib.Seq.{length-take-le}
use mathlib.Core.Path.{sym}
use mir.Facts.{to_z-of_z}
use mir.Syntax.{w64}
use Rattle.receiver_calls.proofs.calls.points.Goals as goal

pub slice_bounds-load_points-end : goal.slice_bounds-load_points-end
unfolding points_call
slice_bounds-load_points-end c = sym (length-take-le _ _ (search rules))

pub returns : goal.returns
unfolding points_call
returns c = rw (c.answered.ensures, rw (to_z-of_z {w = w64} (record { sfits = c.of_bits-scale.type_inv })) at c.load_points.ensures, c.of_bits-scale.ensures, c.of_bits.ensures, c.least-n.ensures.0, c.points-all.ensures, c.packed-bytes.ensures)
