-- `lines::event` meets its contract. Assumes nothing.
use mathlib.Core.Path.{sym, ◌∙◌}
use lib.ListN.{length}
use Rattle.lines.specs.Lines.{event_line}
use Rattle.lines.proofs.Laws.{was_printed, room_ok, room_yes}
use Rattle.lines.proofs.event.Goals as goal

pub told-requires : goal.told-requires
told-requires c =
    let a = c.args in room_ok a.at (length a.out.now) _ (sym c.in_ok-room.was ∙ c.room.ensures)

pub returns : goal.returns
returns c =
    let a = c.args in
    let t = c.told in
    let h = room_ok a.at (length a.out.now) _ (sym c.in_ok-room.was ∙ c.room.ensures) in
    was_printed a.out.now a.at (event_line a.e) t.new.out t.result _ (room_yes a.at (length a.out.now) h) t.ensures
