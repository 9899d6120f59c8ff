-- A turn of a receiver in range, or its end. Assumes nothing.
use mathlib.Core.Path.{sym, ◌∙◌}
use Rattle.refusal.specs.declared.Refusal.TheVariants.{Arithmetic}
use Rattle.receiver_feed.proofs.Stand.{out_of_range, stopped_end}
use Rattle.receiver_feed.proofs.turns.next.Goals as goal

pub turn-requires : goal.turn-requires
turn-requires c = let p = c.requires in (p.0, p.1, p.2, p.3, sym c.still.ensures ∙ c.if-still.true)

pub returns-else-still : goal.returns-else-still
returns-else-still c =
    let a = c.args in
    stopped_end (record { bytes = a.bytes.now; f = a.f.now; s = a.s.now; table = a.table.now }) a.n a.i Arithmetic a.r (record { acc = a.acc.now; store = a.store.now; soft = a.soft.now }) _ c.requires.0 c.requires.3
    (out_of_range a.r (sym c.still.ensures ∙ c.if-still.false)) c.stopped.ensures
