-- `sync_wire::told::stage_shown` meets its contract. Assumes nothing.
use borrow.Author.Rules.{rules}
use Rattle.sync_wire.specs.Told.{stage_shown}
use mir.Facts.{to_z-of_z}
use mir.Val.{SFits}
use mir.Syntax.{w32}
use Rattle.sync_wire.proofs.told.stage_shown.Goals as goal

pub returns-in-Before : goal.returns-in-Before
unfolding stage_shown
returns-in-Before c = rw c.in-Before.is

pub returns-in-First : goal.returns-in-First
unfolding stage_shown
returns-in-First c =
    let r = c.in-First.r in
    let a : SFits w32 r.both.f.re = search rules in
    let b : SFits w32 r.both.f.im = search rules in
    let d : SFits w32 r.both.s.re = search rules in
    let e : SFits w32 r.both.s.im = search rules in
    rw (c.in-First.is, rw (to_z-of_z e) at c.to_bits-in-First-3.ensures, rw (to_z-of_z d) at c.to_bits-in-First-2.ensures, rw (to_z-of_z b) at c.to_bits-in-First.ensures, rw (to_z-of_z a) at c.to_bits.ensures)

pub returns-in-Known : goal.returns-in-Known
unfolding stage_shown
returns-in-Known c =
    let p = c.in-Known.p in
    let a : SFits w32 p.last.re = search rules in
    let b : SFits w32 p.last.im = search rules in
    rw (c.in-Known.is, rw (to_z-of_z b) at c.to_bits-in-Known-2.ensures, rw (to_z-of_z a) at c.to_bits-in-Known.ensures, c.flag-in-Known.ensures, c.flag.ensures)
