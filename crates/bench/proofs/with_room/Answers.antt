-- Where an answer begins. Assumes nothing.
use mathlib.Core.Path.{sym}
use native.Mathlib.Omega.{arith}
use borrow.Author.Tests.{le-leb, lt-leb}
use Rattle.laws.specs.Choice.{if_yes, if_no}
use Rattle.bench_text.specs.Claims.{room_at}
use Rattle.bench.proofs.with_room.Goals as goal

pub returns-then-place-le64768 : goal.returns-then-place-le64768
unfolding room_at
returns-then-place-le64768 c = (sym (if_yes _ _ _ (le-leb _ _ c.if-place-le64768.true)), omega arith)

pub returns-in_ok-write : goal.returns-in_ok-write
unfolding room_at
returns-in_ok-write c = (sym (if_no _ _ _ (lt-leb _ _ c.if-place-le64768.false)), omega arith)
