-- `eq_calls::told::bits_at` meets its contract. Assumes nothing.
use lib.IntN.{pos}
use lib.ListN.{get_or}
use mir.Facts.{to_z-of_z}
use mir.Syntax.{w16}
use mir.Val.{SFits}
use borrow.Author.Rules.{rules}
use Rattle.eq_calls.specs.Told.{bits_at}
use Rattle.eq_calls.proofs.told.bits_at.Goals as goal

pub returns : goal.returns
unfolding bits_at
returns c =
    let f : SFits w16 (get_or c.args.t.now c.args.k (pos 0)) = search rules in
    rw (to_z-of_z f) at c.to_bits.ensures
