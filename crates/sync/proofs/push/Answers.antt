use Rattle.std.proofs.Common.{◌≡◌, ◌∙◌, ap, sym, length, to_z-of_z, is_ok, Ok, Result}
use Rattle.refusal.specs.declared.Refused.{Refused}
use Rattle.sync.proofs.Laws.{taking}
use Rattle.sync.specs.Answers.{push_acc, push_answer}
use Rattle.sync.specs.declared.Pushed.{Pushed}
use Rattle.sync.specs.declared.SlotSync.{SlotSync}
use Rattle.sync.proofs.push.Goals as goal

pub accepted-requires : goal.accepted-requires
accepted-requires c =
    let a = c.args in
    let t = taking (length a.acc.now) a.f a.w a.s.run (sym c.push_refusal.ensures ∙ c.in-Ok.is) in
    (t.ready, t.ones_f, t.ones_w, t.long)

pub returns-in-Ok : goal.returns-in-Ok
unfolding push_answer push_acc
returns-in-Ok c =
    let g = rw (to_z-of_z c.ranges.i, to_z-of_z c.ranges.q) at c.accepted.ensures in
    (rw (← c.push_refusal.ensures, c.in-Ok.is, g.0), rw (← c.push_refusal.ensures, c.in-Ok.is) g.1)

pub returns-in-Err : goal.returns-in-Err
unfolding push_answer push_acc
returns-in-Err c = (rw (← c.push_refusal.ensures, c.in-Err.is), rw (← c.push_refusal.ensures, c.in-Err.is))
