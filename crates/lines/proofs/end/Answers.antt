-- `lines::end` meets its contract. Assumes nothing.
use mathlib.Core.Path.{sym, ◌∙◌}
use native.Mathlib.Omega.{arith}
use lib.ListN.{length}
use Rattle.lines.specs.Lines.{end_line}
use Rattle.lines.proofs.Laws.{was_printed, room_ok, room_yes}
use Rattle.lines.proofs.end.Goals as goal

pub counted-requires : goal.counted-requires
counted-requires c =
    let a = c.args in
    (room_ok a.at (length a.out.now) _ (sym c.in_ok-room.was ∙ c.room.ensures), omega arith)

pub returns : goal.returns
unfolding end_line
returns c =
    let a = c.args in
    let t = c.counted in
    let h = room_ok a.at (length a.out.now) _ (sym c.in_ok-room.was ∙ c.room.ensures) in
    was_printed a.out.now a.at (end_line a.symbols) t.new.out t.result _ (room_yes a.at (length a.out.now) h) t.ensures
