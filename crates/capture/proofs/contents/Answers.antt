-- `capture::contents` meets its contract. Assumes nothing.
use mathlib.Core.Path.{sym, ◌∙◌}
use Rattle.std.proofs.lemmas.Result.{err_from_is_err_and}
use Rattle.capture.specs.declared.entries.Kind.TheVariants.{Words, Table, Points, Symbols}
use Rattle.capture.proofs.Laws.{entry_taken, entry_refused, contents_yes, contents_no, contents_short, contents_first, contents_fit_all, each}
use Rattle.capture.proofs.contents.Goals as goal
use Rattle.capture.proofs.contents.Goals.{then-bytes-lt33-via-then-bytes-lt33, then-bytes-lt33-via-else-bytes-lt33+then-bytes-ne4}

pub returns-then-bytes-lt33 : goal.returns-then-bytes-lt33
returns-then-bytes-lt33 c =
    let s = c.args.bytes.now in
    elim c.then-bytes-lt33.branch [
      | then-bytes-lt33-via-then-bytes-lt33 w ↦ contents_no s (contents_short s w.if-bytes-lt33.true)
      | then-bytes-lt33-via-else-bytes-lt33+then-bytes-ne4 w ↦ contents_no s (contents_first s w.if-bytes-ne4.true)
    ]

pub returns-in_err-entry : goal.returns-in_err-entry
returns-in_err-entry c =
    let p = err_from_is_err_and c.from_residual.result c.from_residual.ensures.1 in
    entry_refused c.args.bytes.now Words _ _ _ (sym c.in_err-entry.was ∙ c.entry.ensures) p.1 p.2

pub returns-in_err-entry-2 : goal.returns-in_err-entry-2
returns-in_err-entry-2 c =
    let p = err_from_is_err_and c.from_residual-in_err-entry-2.result c.from_residual-in_err-entry-2.ensures.1 in
    entry_refused c.args.bytes.now Table _ _ _ (sym c.in_err-entry-2.was ∙ c.entry-2.ensures) p.1 p.2

pub returns-in_err-points : goal.returns-in_err-points
returns-in_err-points c =
    let p = err_from_is_err_and c.from_residual-in_err-points.result c.from_residual-in_err-points.ensures.1 in
    entry_refused c.args.bytes.now Points _ _ _ (sym c.in_err-points.was ∙ c.entry-3.ensures) p.1 p.2

pub returns-in_err-symbols : goal.returns-in_err-symbols
returns-in_err-symbols c =
    let p = err_from_is_err_and c.from_residual-in_err-symbols.result c.from_residual-in_err-symbols.ensures.1 in
    entry_refused c.args.bytes.now Symbols _ _ _ (sym c.in_err-symbols.was ∙ c.entry-4.ensures) p.1 p.2

pub returns : goal.returns
returns c =
    let s = c.args.bytes.now in
    let w = entry_taken s Words _ (sym c.in_ok-entry.was ∙ c.entry.ensures) in
    let t = entry_taken s Table _ (sym c.in_ok-entry-2.was ∙ c.entry-2.ensures) in
    let p = entry_taken s Points _ (sym c.in_ok-points.was ∙ c.entry-3.ensures) in
    let q = entry_taken s Symbols _ (sym c.in_ok-symbols.was ∙ c.entry-4.ensures) in
    rw (p.1, q.1) (contents_yes s (contents_fit_all s c.if-bytes-lt33.false c.if-bytes-ne4.false (each s w.0 t.0 p.0 q.0)))
