-- `receiver_symbol::looks::look` meets its contract. Assumes nothing.
use Rattle.receiver_symbol.proofs.Laws.{advanced_ok}
use Rattle.receiver_symbol.specs.Parts.{ahead_by}
use mir.Facts.{to_z-of_z}
use mir.Syntax.{w8}
use Rattle.receiver_symbol.proofs.looks.look.Goals as goal

pub step-st-requires : goal.step-st-requires
step-st-requires c = (c.requires.run, c.requires.first, c.requires.second)

pub listen-requires : goal.listen-requires
listen-requires c =
    (rw c.advanced.ensures (advanced_ok c.args.r.front.nco c.requires.nco), c.requires.phase, tt, c.step-st.ensures.1)

pub returns : goal.returns
unfolding ahead_by
returns c =
    let w = rw (to_z-of_z {w = w8} c.ranges.xi, to_z-of_z {w = w8} c.ranges.xq) at c.window-win.ensures in
    (rw (c.listen.ensures.0, c.advanced.ensures, c.step-st.ensures.0, w), c.listen.ensures.1)
