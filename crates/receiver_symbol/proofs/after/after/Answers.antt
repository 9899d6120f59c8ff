-- `receiver_symbol::after::after` meets its contract. Assumes nothing.
use Rattle.receiver_symbol.proofs.Laws.{kept-left}
use Rattle.receiver_symbol.specs.Parts.{after_by, store_by}
use Prim.Native.Nat.{◌+◌, ◌<◌, ◌^◌}
use Rattle.laws.proofs.Size.{back}
use Rattle.laws.specs.Choice.{cases}
use Rattle.phase.specs.Phase.{symbol_at}
use Rattle.receiver.specs.Symbol.{next_of}
use lib.IntN.{pos}
use lib.ListN.{get_or}
use mathlib.Core.Path.{◌∙◌}
use mir.Syntax.{w16}
use native.Mathlib.Omega.{arith}
use Rattle.receiver_symbol.proofs.after.after.Goals as goal

pub overflow_add-y : goal.overflow_add-y
unfolding next_of
overflow_add-y c =
    let y = c.args.r.front.sync.run in
    let h : y.base + y.t < 2 ^ 62 = c.requires.0 in
    record { fits = omega (arith, h) }

pub overflow_add-y-then-loses : goal.overflow_add-y-then-loses
unfolding next_of
overflow_add-y-then-loses c =
    let y = c.args.r.front.sync.run in
    let h : y.base + y.t < 2 ^ 62 = c.requires.0 in
    record { fits = omega (arith, h) }

pub returns-then-loses : goal.returns-then-loses
unfolding after_by store_by next_of
returns-then-loses c =
    let a = c.args in
    (rw (c.started.ensures, c.kept_of.ensures, c.left.ensures, kept-left a.r a.a a.b a.a.heard.phase, ← c.loses.ensures) (search cases), rw (← c.loses.ensures) (search cases))

pub returns-else-loses : goal.returns-else-loses
unfolding after_by store_by symbol_at
returns-else-loses c =
    let w = c.args.a.win in
    let g = rw (back w16 (get_or w 0 (pos 0)) c.phased-arg-1.given, back w16 (get_or w 1 (pos 0)) c.phased-arg-else-loses-1.given) at c.phased.ensures in
    (rw (c.left-else-loses.ensures, g.0, ← c.loses.ensures) (search cases), g.1 ∙ rw (← c.loses.ensures) (search cases))
