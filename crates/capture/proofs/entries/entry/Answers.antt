-- `capture::entries::entry` meets its contract. Assumes nothing.
use mathlib.Core.Path.{sym}
use Rattle.laws.specs.Choice.{if_yes, if_no}
use Rattle.capture.specs.Contents.{length_of, entry_fits, entry_of}
use Rattle.capture.proofs.entries.entry.Goals as goal

pub returns-then-kind_fits-length_fits : goal.returns-then-kind_fits-length_fits
unfolding entry_of entry_fits length_of
returns-then-kind_fits-length_fits c =
    let t = rw (c.kind_fits.ensures, c.length_fits.ensures, c.number-length.ensures, c.place-n.ensures.0) at c.if-kind_fits-length_fits.true in
    rw (c.number-length.ensures, c.place-n.ensures.0) (sym (if_yes _ _ _ t))

pub returns-else-kind_fits-length_fits : goal.returns-else-kind_fits-length_fits
unfolding entry_of entry_fits length_of
returns-else-kind_fits-length_fits c =
    let t = rw (c.kind_fits.ensures, c.length_fits.ensures, c.number-length.ensures, c.place-n.ensures.0) at c.if-kind_fits-length_fits.false in
    sym (if_no _ _ _ t)
