use Rattle.sync_block.proofs.Laws.{until_early, until_late}
use Rattle.sync_block.specs.Reach.{loud_place}
use borrow.Author.Rules.{rules}
use mathlib.Core.Path.{◌≡◌, sym}
use native.Mathlib.Omega.{arith}
use Rattle.sync_block.proofs.reach.until.Goals as goal

pub returns-then-r-lt23 : goal.returns-then-r-lt23
returns-then-r-lt23 c = (sym (until_early c.args.r (search rules)), omega arith)

pub returns-else-r-lt23 : goal.returns-else-r-lt23
returns-else-r-lt23 c =
    let r = c.args.r in
    let e : c.loud_place.result ≡ loud_place r.lock c.place-p.result = c.loud_place.ensures.0 in
    (rw (e, c.place-p.ensures.0) (sym (until_late r (search rules))), omega arith)
