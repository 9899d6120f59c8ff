-- One of two lines. Assumes nothing.
use Rattle.lines.specs.Lines.{end_line, refused_line}
use Rattle.bench_text.proofs.Laws.{end_short, refused_short, line_ok, line_wrote}
use Rattle.bench_text.proofs.ranged.last.Goals as goal

pub unwrap-requires : goal.unwrap-requires
unwrap-requires c =
    let a = c.args in line_ok a.out.now a.place (end_line c.in-Ok.symbols) c.end.new.out c.end.result c.requires c.end.ensures

pub unwrap-requires-in-Err : goal.unwrap-requires-in-Err
unwrap-requires-in-Err c =
    let a = c.args in
    line_ok a.out.now a.place (refused_line c.from.result) c.refused.new.out c.refused.result c.requires c.refused.ensures

pub returns-in-Ok : goal.returns-in-Ok
returns-in-Ok c =
    let a = c.args in
    let n = c.in-Ok.symbols in
    rw c.in-Ok.is
    (line_wrote a.out.now a.place (end_line n) c.end.new.out c.end.result c.unwrap.result (end_short n) c.requires c.end.ensures c.unwrap.ensures)

pub returns-in-Err : goal.returns-in-Err
returns-in-Err c =
    let a = c.args in
    let n = c.from.result in
    rw (c.in-Err.is, ← c.from.ensures)
    (line_wrote a.out.now a.place (refused_line n) c.refused.new.out c.refused.result c.unwrap-in-Err.result (refused_short n) c.requires c.refused.ensures c.unwrap-in-Err.ensures)
