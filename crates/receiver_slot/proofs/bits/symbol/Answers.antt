-- `receiver_slot::bits::symbol` meets its contract: only a main symbol has soft bits. Assumes nothing.
use mathlib.Core.Path.{sym, ◌∙◌}
use native.Mathlib.Omega.{arith}
use lib.IntN.{pos}
use Rattle.demap.specs.Demap.{label_metric}
use Rattle.demap.proofs.Blocks.{length_bits}
use Rattle.receiver_slot.specs.Slot.{soft_of}
use Rattle.receiver_slot.proofs.Steps.{put_none}
use Rattle.receiver_slot.proofs.bits.symbol.Goals as goal

pub main_symbol-requires : goal.main_symbol-requires
unfolding soft_of
main_symbol-requires c =
    let a = c.args in
    let l = length_bits (label_metric a.a.z.i a.a.z.q a.p.points) a.p.bits (pos a.p.k) in
    let h = rw (sym c.part.ensures ∙ c.in-Ok-Main.is, c.in-Ok-Main.field-0-is) at c.requires.1 in
    (c.requires.0, omega (arith, h, l))

pub returns-in-Ok-Sync : goal.returns-in-Ok-Sync
unfolding soft_of
returns-in-Ok-Sync c =
    let a = c.args in
    rw (sym c.part.ensures ∙ c.in-Ok-Sync.is, c.in-Ok-Sync.field-0-is) (omega arith, sym (put_none a.o a.soft.now))

pub returns-in-Ok-Pilot : goal.returns-in-Ok-Pilot
unfolding soft_of
returns-in-Ok-Pilot c =
    let a = c.args in
    rw (sym c.part.ensures ∙ c.in-Ok-Pilot.is, c.in-Ok-Pilot.field-0-is) (omega arith, sym (put_none a.o a.soft.now))

pub returns-in-Ok-Main : goal.returns-in-Ok-Main
unfolding soft_of
returns-in-Ok-Main c =
    let a = c.args in
    let l = length_bits (label_metric a.a.z.i a.a.z.q a.p.points) a.p.bits (pos a.p.k) in
    rw (sym c.part.ensures ∙ c.in-Ok-Main.is, c.in-Ok-Main.field-0-is, l) c.main_symbol.ensures

pub returns-in-Ok-Tmcc : goal.returns-in-Ok-Tmcc
unfolding soft_of
returns-in-Ok-Tmcc c =
    let a = c.args in
    rw (sym c.part.ensures ∙ c.in-Ok-Tmcc.is, c.in-Ok-Tmcc.field-0-is) (omega arith, sym (put_none a.o a.soft.now))

pub returns-in-Err : goal.returns-in-Err
unfolding soft_of
returns-in-Err c =
    let a = c.args in
    rw (sym c.part.ensures ∙ c.in-Err.is) (omega arith, sym (put_none a.o a.soft.now))
