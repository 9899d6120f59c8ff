-- The loop has written a page. Assumes nothing.
use Rattle.std.proofs.Common.{◌≡◌, ◌∙◌, length, sym, arith, leb-true}
use Rattle.bench_text.proofs.Pages.{more_on, page-next, page-end}
use Rattle.bench_text.proofs.ranged.fill.Goals as goal

pub line-q-requires : goal.line-q-requires
line-q-requires c =
    let L = c.lines in
    let a = c.args in
    let m = more_on a.run.count L.q.i (length L.out) L.q.place (sym c.more.ensures ∙ c.lines-test.true) in
    (m.0, L.invariant.value, leb-true _ _ m.1)

pub lines-smaller : goal.lines-smaller
lines-smaller c =
    let L = c.lines in
    let a = c.args in
    let m = more_on a.run.count L.q.i (length L.out) L.q.place (sym c.more.ensures ∙ c.lines-test.true) in
    omega (arith, m.0, c.line-q.ensures.1)

pub lines-preserved : goal.lines-preserved
lines-preserved c =
    let L = c.lines in
    let a = c.args in
    let m = more_on a.run.count L.q.i (length L.out) L.q.place (sym c.more.ensures ∙ c.lines-test.true) in
    let E = c.line-q in
    record {
      value = E.ensures.2;
      long = E.auto.out ∙ L.invariant.long;
      page = page-next a.run a.run.count L.q E.result a.soft.now L.out E.new.out m.0 m.1 E.ensures.1 E.ensures.0 ∙ L.invariant.page;
    }

pub returns : goal.returns
returns c =
    let L = c.lines in
    let a = c.args in
    (sym (page-end a.run a.run.count L.q a.soft.now L.out (sym c.more.ensures ∙ c.lines-test.false)) ∙ L.invariant.page, L.invariant.value)
