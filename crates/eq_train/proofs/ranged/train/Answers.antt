-- `eq_train::ranged::train` meets its contract. Assumes nothing.
use mathlib.Core.Path.{◌≡◌, ◌∙◌}
use borrow.Author.Rules.{rules}
use lib.ListN.{length}
use mir.Facts.{to_z-of_z}
use Rattle.eq_train.specs.Train.{upper_products, right_products, trained_sums}
use Rattle.eq_train.proofs.Adding.{added-all, upper_132, right_length}
use Rattle.eq_train.proofs.ranged.train.Goals as goal

pub add_rows-requires : goal.add_rows-requires
add_rows-requires c =
    let h : length c.args.s.r ≡ 132 = search rules in
    (record { long = h; small = λ j l k. c.requires.0.upper j k }, c.requires.1)

pub add_right-requires : goal.add_right-requires
add_right-requires c =
    let h : length c.args.s.p ≡ 22 = search rules in
    (record { long = h; small = λ j l k. c.requires.0.right j k }, c.requires.1)

pub returns : goal.returns
unfolding trained_sums
returns c =
    let s = c.args.s in
    let line = c.args.line.now in
    let h : length s.r ≡ 132 = search rules in
    let k : length s.p ≡ 22 = search rules in
    let right = rw (to_z-of_z c.ranges.di, to_z-of_z c.ranges.dq) at c.add_right.ensures in
    let e = c.add_rows.ensures ∙ added-all s.r (upper_products line 0 11) 132 h (upper_132 line) in
    let f = right ∙ added-all s.p (right_products line c.args.di c.args.dq 0 11) 22 k (right_length line c.args.di c.args.dq 0 11) in
    rw (e, f)
