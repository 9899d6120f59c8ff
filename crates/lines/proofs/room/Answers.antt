-- `lines::room` meets its contract. Assumes nothing.
use mathlib.Core.Path.{sym}
use Prim.Native.Nat.{◌+◌}
use native.Mathlib.Omega.{arith}
use borrow.Author.Tests.{le-leb, lt-leb}
use Rattle.laws.specs.Choice.{if_yes, if_no}
use Rattle.lines.specs.Place.{room_refusal}
use Rattle.lines.proofs.room.Goals as goal

pub returns-then-length-lt256 : goal.returns-then-length-lt256
unfolding room_refusal
returns-then-length-lt256 c = sym (if_no _ _ _ (lt-leb (c.args.at + 256) c.args.length (omega arith)))

pub returns-then-at-length : goal.returns-then-at-length
unfolding room_refusal
returns-then-at-length c = sym (if_yes _ _ _ (le-leb (c.args.at + 256) c.args.length (omega arith)))

pub returns-else-at-length : goal.returns-else-at-length
unfolding room_refusal
returns-else-at-length c = sym (if_no _ _ _ (lt-leb (c.args.at + 256) c.args.length (omega arith)))
