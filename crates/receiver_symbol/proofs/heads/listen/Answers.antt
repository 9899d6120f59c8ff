-- `receiver_symbol::heads::listen` meets its contract. Assumes nothing.
use Rattle.receiver_symbol.proofs.Hearing.{first_hears, first_phase, later_hears, later_phase, listened_due}
use Rattle.receiver.specs.Heads.{listened}
use mathlib.Core.Path.{◌≡◌}
use Rattle.receiver_symbol.proofs.heads.listen.Goals as goal

pub event_heard-requires : goal.event_heard-requires
event_heard-requires c =
    let a = c.args in
    let p = c.requires in
    first_hears a.l a.es.first p.0 p.1 p.3.first

pub event_heard-requires-2 : goal.event_heard-requires-2
event_heard-requires-2 c =
    let a = c.args in
    let p = c.requires in
    rw c.event_heard.ensures (later_hears _ a.es.second (first_phase 9296 a.l a.es.first p.1 p.3.first) p.3.second)

pub event_heard-requires-3 : goal.event_heard-requires-3
event_heard-requires-3 c =
    let a = c.args in
    let p = c.requires in
    rw (c.event_heard-2.ensures, c.event_heard.ensures)
    (later_hears _ a.es.third (later_phase 9296 _ a.es.second (first_phase 9296 a.l a.es.first p.1 p.3.first) p.3.second) p.3.third)

pub returns : goal.returns
unfolding listened
returns c =
    let a = c.args in
    let p = c.requires in
    let e : c.event_heard-3.result ≡ listened 9296 a.l a.es = rw (c.event_heard-3.ensures, c.event_heard-2.ensures, c.event_heard.ensures) in
    (e, rw e (listened_due 9296 a.l a.es p.1 p.2 p.3))
