-- Three lines, one behind the other. Assumes nothing.
use Rattle.std.proofs.Common.{arith}
use Rattle.lines.specs.Lines.{event_line}
use Rattle.lines.proofs.Laws.{then as next-to}
use Rattle.bench_text.specs.Bench.{events_text}
use Rattle.bench_text.proofs.Laws.{event_short, line_ok, line_wrote, first_room, first_two}
use Rattle.bench_text.proofs.ranged.events.Goals as goal

pub unwrap-a-requires : goal.unwrap-a-requires
unwrap-a-requires c =
    let a = c.args in
    let x = c.event in
    line_ok a.out.now a.place (event_line a.es.first) x.new.out x.result (omega (arith, c.requires)) x.ensures

pub unwrap-b-requires : goal.unwrap-b-requires
unwrap-b-requires c =
    let a = c.args in
    let x = c.event in
    let y = c.event-2 in
    let u = first_room a.out.now x.new.out a.place c.unwrap-a.result (event_line a.es.first) x.result (event_short a.es.first) c.requires x.ensures c.unwrap-a.ensures in
    line_ok x.new.out c.unwrap-a.result (event_line a.es.second) y.new.out y.result (omega (arith, u.1)) y.ensures

pub unwrap-requires : goal.unwrap-requires
unwrap-requires c =
    let a = c.args in
    let x = c.event in
    let y = c.event-2 in
    let z = c.event-3 in
    let v = first_two a.out.now x.new.out y.new.out a.place c.unwrap-a.result c.unwrap-b.result (event_line a.es.first) (event_line a.es.second) x.result y.result (event_short a.es.first) (event_short a.es.second) c.requires x.ensures c.unwrap-a.ensures y.ensures c.unwrap-b.ensures in
    line_ok y.new.out c.unwrap-b.result (event_line a.es.third) z.new.out z.result v.1 z.ensures

pub returns : goal.returns
unfolding events_text
returns c =
    let a = c.args in
    let x = c.event in
    let y = c.event-2 in
    let z = c.event-3 in
    let v = first_two a.out.now x.new.out y.new.out a.place c.unwrap-a.result c.unwrap-b.result (event_line a.es.first) (event_line a.es.second) x.result y.result (event_short a.es.first) (event_short a.es.second) c.requires x.ensures c.unwrap-a.ensures y.ensures c.unwrap-b.ensures in
    next-to v.0
    (line_wrote y.new.out c.unwrap-b.result (event_line a.es.third) z.new.out z.result c.unwrap.result (event_short a.es.third) v.1 z.ensures c.unwrap.ensures)
