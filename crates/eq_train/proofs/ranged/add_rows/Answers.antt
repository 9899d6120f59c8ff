-- `eq_train::ranged::add_rows` meets its contract. Assumes nothing.
use mathlib.Core.Path.{sym, ◌∙◌}
use native.Mathlib.Omega.{arith}
use Rattle.eq_train.proofs.Adding.{upper_on, upper_done}
use Rattle.eq_train.proofs.ranged.add_rows.Goals as goal

pub add_row-requires : goal.add_row-requires
add_row-requires c = (c.requires.0, c.requires.1, omega arith, omega arith)

pub add_row-requires-2 : goal.add_row-requires-2
add_row-requires-2 c = (c.add_row.ensures.1, c.requires.1, omega arith, omega arith)

pub add_row-requires-3 : goal.add_row-requires-3
add_row-requires-3 c = (c.add_row-2.ensures.1, c.requires.1, omega arith, omega arith)

pub add_row-requires-4 : goal.add_row-requires-4
add_row-requires-4 c = (c.add_row-3.ensures.1, c.requires.1, omega arith, omega arith)

pub add_row-requires-5 : goal.add_row-requires-5
add_row-requires-5 c = (c.add_row-4.ensures.1, c.requires.1, omega arith, omega arith)

pub add_row-requires-6 : goal.add_row-requires-6
add_row-requires-6 c = (c.add_row-5.ensures.1, c.requires.1, omega arith, omega arith)

pub add_row-requires-7 : goal.add_row-requires-7
add_row-requires-7 c = (c.add_row-6.ensures.1, c.requires.1, omega arith, omega arith)

pub add_row-requires-8 : goal.add_row-requires-8
add_row-requires-8 c = (c.add_row-7.ensures.1, c.requires.1, omega arith, omega arith)

pub add_row-requires-9 : goal.add_row-requires-9
add_row-requires-9 c = (c.add_row-8.ensures.1, c.requires.1, omega arith, omega arith)

pub add_row-requires-10 : goal.add_row-requires-10
add_row-requires-10 c = (c.add_row-9.ensures.1, c.requires.1, omega arith, omega arith)

pub add_row-requires-11 : goal.add_row-requires-11
add_row-requires-11 c = (c.add_row-10.ensures.1, c.requires.1, omega arith, omega arith)

pub returns : goal.returns
returns c =
    let S = c.args in
    let line = S.line.now in
    let a11 = c.add_row-11 in
    let a10 = c.add_row-10 in
    let a9 = c.add_row-9 in
    let a8 = c.add_row-8 in
    let a7 = c.add_row-7 in
    let a6 = c.add_row-6 in
    let a5 = c.add_row-5 in
    let a4 = c.add_row-4 in
    let a3 = c.add_row-3 in
    let a2 = c.add_row-2 in
    let a1 = c.add_row in
    sym (upper_done a11.new.s line 132)
    ∙ upper_on a10.new.s a11.new.s line 10 130 (omega arith) a11.ensures.0
    ∙ upper_on a9.new.s a10.new.s line 9 126 (omega arith) a10.ensures.0
    ∙ upper_on a8.new.s a9.new.s line 8 120 (omega arith) a9.ensures.0
    ∙ upper_on a7.new.s a8.new.s line 7 112 (omega arith) a8.ensures.0
    ∙ upper_on a6.new.s a7.new.s line 6 102 (omega arith) a7.ensures.0
    ∙ upper_on a5.new.s a6.new.s line 5 90 (omega arith) a6.ensures.0
    ∙ upper_on a4.new.s a5.new.s line 4 76 (omega arith) a5.ensures.0
    ∙ upper_on a3.new.s a4.new.s line 3 60 (omega arith) a4.ensures.0
    ∙ upper_on a2.new.s a3.new.s line 2 42 (omega arith) a3.ensures.0
    ∙ upper_on a1.new.s a2.new.s line 1 22 (omega arith) a2.ensures.0
    ∙ upper_on S.s.now a1.new.s line 0 0 (omega arith) a1.ensures.0
