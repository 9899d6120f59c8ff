-- `eq_calls::given::upper_entry` meets its contract. Assumes nothing.
use Prim.Native.Nat.{◌%◌}
use lib.IntN.{pos}
use lib.ListN.{get_or}
use mir.Facts.{to_z-of_z}
use mir.Syntax.{w64}
use mir.Val.{SFits}
use borrow.Author.Rules.{rules}
use Rattle.laws.specs.Choice.{cases}
use Rattle.eq_calls.specs.Given.{upper_entry}
use Rattle.eq_calls.proofs.given.upper_entry.Goals as goal

pub returns-then-j-group : goal.returns-then-j-group
unfolding upper_entry
returns-then-j-group c =
    let f : SFits w64 (get_or c.args.v.now (c.args.j % 22) (pos 0)) = search rules in
    rw (to_z-of_z f) (search cases)

pub returns-else-j-group : goal.returns-else-j-group
unfolding upper_entry
returns-else-j-group c =
    let f : SFits w64 (get_or c.args.r.now c.args.j (pos 0)) = search rules in
    rw (to_z-of_z f) (search cases)
