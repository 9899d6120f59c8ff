-- `frame_line::plain::in_range` meets its contract. Assumes nothing.
use Rattle.frame_line.specs.Ranges.{metas_in_range}
use Rattle.frame_line.proofs.plain.in_range.Goals as goal

pub returns : goal.returns
unfolding metas_in_range
returns c =
    rw (
      c.place_in_range.ensures,
      c.place_in_range-2.ensures,
      c.place_in_range-3.ensures,
      c.place_in_range-4.ensures,
      c.place_in_range-5.ensures,
    )
