-- Each of the four ends, by the results of the calls before it. Assumes nothing.
use Rattle.laws.specs.Choice.{cases}
use Rattle.sync_step.proofs.Laws.{after_ready}
use Rattle.sync_step.specs.Step.{late_of}
use Rattle.sync_step.proofs.ranged.late.Goals as goal

pub ended-requires : goal.ended-requires
ended-requires c =
    let r = c.args.r in
    rw c.after-n.ensures (after_ready r c.place-p.result c.leak-level.result c.taken-k.result c.requires.0 c.leak-level.type_inv)

pub returns-then-p-eq9295 : goal.returns-then-p-eq9295
unfolding late_of
returns-then-p-eq9295 c =
    let p = c.place-p.ensures.0 in
    rw (c.lost_at_end.ensures, ← p, ← c.taken-k.ensures, ← c.heads_of-es.ensures) (search cases)

pub returns-else-p-eq9295 : goal.returns-else-p-eq9295
unfolding late_of
returns-else-p-eq9295 c =
    let p = c.place-p.ensures.0 in
    rw (c.lost.ensures, ← p, ← c.taken-k.ensures, ← c.heads_of-es.ensures) (search cases)

pub returns-then-p-eq9295-2 : goal.returns-then-p-eq9295-2
unfolding late_of
returns-then-p-eq9295-2 c =
    let p = c.place-p.ensures.0 in
    rw (c.ended.ensures, c.after-n.ensures, c.leak-level.ensures, c.size.ensures, ← p, ← c.taken-k.ensures, ← c.heads_of-es.ensures) (search cases)

pub returns-else-p-eq9295-2 : goal.returns-else-p-eq9295-2
unfolding late_of
returns-else-p-eq9295-2 c =
    let p = c.place-p.ensures.0 in
    rw (c.kept.ensures, c.after-n.ensures, c.leak-level.ensures, c.size.ensures, ← p, ← c.taken-k.ensures, ← c.heads_of-es.ensures) (search cases)
