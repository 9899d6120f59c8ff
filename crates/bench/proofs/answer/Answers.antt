-- Events and runs leave what the answer's pages leave. Assumes nothing.
use mathlib.Core.Path.{sym, ap, subst, ◌∙◌}
use Prim.Native.Nat.{ℕ}
use lib.ListN.{drop}
use Rattle.std.specs.Result.{is_ok}
use Rattle.lines.specs.Place.{Wrote}
use Rattle.bench_text.specs.Bench.{events_text}
use Rattle.bench_text.specs.Claims.{room_at}
use Rattle.bench_text.proofs.Theorems.{answer_left_lem}
use Rattle.bench.proofs.answer.Goals as goal

pub returns : goal.returns
returns c =
    let a = c.args in
    let R = c.in_ok-room.ensures in
    let E = c.events-e in
    let X = c.run-x in
    let Y = c.run-y in
    answer_left_lem 65536 a.es a.rs a.soft.now (room_at a.place) a.out.now E.new.out E.result (drop X.result.v a.soft.now) (drop Y.result.v a.soft.now) X.result.place Y.result.place X.new.out Y.new.out
    (subst (λ (p : ℕ). Wrote a.out.now p (events_text a.es) E.new.out E.result) R.0 E.ensures) (X.ensures.1 (ap is_ok c.in_ok-x.was))
    (Y.ensures.1 (ap is_ok c.in_ok-y.was))
