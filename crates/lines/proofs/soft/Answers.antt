-- `lines::soft` meets its contract. Assumes nothing.
use mathlib.Core.Path.{sym, ◌∙◌}
use native.Mathlib.Omega.{arith}
use Rattle.std.proofs.lemmas.Result.{err_from_is_err_and}
use lib.ListN.{length}
use Rattle.lines.specs.Lines.{soft_line}
use Rattle.lines.proofs.Laws.{was_printed, was_refused, room_ok, soft_yes, soft_many, soft_room}
use Rattle.lines.proofs.soft.Goals as goal

pub returns-in_err-room : goal.returns-in_err-room
returns-in_err-room c =
    let a = c.args in
    let p = err_from_is_err_and c.from_residual.result c.from_residual.ensures.1 in
    rw (p.1, p.2)
    (was_refused a.out.now a.place (soft_line a.at a.j a.values.now) _ _ (soft_room (length a.values.now) a.place (length a.out.now) _ (sym c.in_err-room.was ∙ c.room.ensures)))

pub returns-then-values-gt5 : goal.returns-then-values-gt5
returns-then-values-gt5 c =
    let a = c.args in
    let h = room_ok a.place (length a.out.now) _ (sym c.in_ok-room.was ∙ c.room.ensures) in
    was_refused a.out.now a.place (soft_line a.at a.j a.values.now) _ _ (soft_many (length a.values.now) a.place (length a.out.now) h c.if-values-gt5.true)

pub written-requires : goal.written-requires
written-requires c =
    let a = c.args in
    (room_ok a.place (length a.out.now) _ (sym c.in_ok-room.was ∙ c.room.ensures), omega arith)

pub returns : goal.returns
returns c =
    let a = c.args in
    let w = c.written in
    let h = room_ok a.place (length a.out.now) _ (sym c.in_ok-room.was ∙ c.room.ensures) in
    was_printed a.out.now a.place (soft_line a.at a.j a.values.now) w.new.out w.result _
    (soft_yes (length a.values.now) a.place (length a.out.now) h c.if-values-gt5.false) w.ensures
