-- `eq_bench::measure_filter` meets its contract. Assumes nothing.
use mathlib.Core.Path.{refl, sym, ap, ◌∙◌}
use borrow.Author.Tests.{leb-true}
use native.Mathlib.Omega.{arith}
use lib.Dec.{leb}
use lib.ListN.{length}
use Rattle.eq_fir.specs.Fir.{no_line}
use Rattle.laws.proofs.Tests.{and_both}
use Rattle.laws.specs.Choice.{if_yes, if_no}
use Rattle.eq_bench.proofs.Laws.{rows_bytes}
use Rattle.eq_bench.specs.Blocks.{Filtered, filtered_code, filtered_out}
use Rattle.eq_bench.proofs.measure_filter.Goals as goal

pub filter_all-requires : goal.filter_all-requires
filter_all-requires c =
    let a = c.args in
    let r = c.all_in_byte in
    let t = and_both r.result (leb (length a.ys.now) (length a.out.now)) c.if-all_in_byte-ys.true in
    (rows_bytes a.rows.now (omega arith) (sym r.ensures ∙ t.0), refl, leb-true _ _ t.1)

pub returns-then-all_in_byte-ys : goal.returns-then-all_in_byte-ys
unfolding filtered_code filtered_out no_line
returns-then-all_in_byte-ys c =
    let r = c.all_in_byte.ensures in
    let t = rw r at c.if-all_in_byte-ys.true in
    (sym (if_yes _ _ _ t), ap (λ (x : Filtered). x.out) c.filter_all.ensures ∙ sym (if_yes _ _ _ t))

pub returns-else-all_in_byte-ys : goal.returns-else-all_in_byte-ys
unfolding filtered_code filtered_out
returns-else-all_in_byte-ys c = let t = rw c.all_in_byte.ensures at c.if-all_in_byte-ys.false in (sym (if_no _ _ _ t), sym (if_no _ _ _ t))
