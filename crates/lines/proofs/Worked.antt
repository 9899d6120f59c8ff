-- The lines of specs/Worked.antt read as said. By computation; assumes nothing.
use mathlib.Core.List.{map}
use mathlib.Core.Path.{◌≡◌, refl}
use Rattle.laws.specs.Choice as choice
use Rattle.lines.specs.Decimal.{decimal_in, decimal_of, signed_of}
use Rattle.lines.specs.Lines as text
use Rattle.lines.specs.Lines.{period_line, letter_of, slot_text, head_line, lost_line, event_line, value_text, values_to, values_text, soft_line, end_line, refused_line}
use Rattle.lines.specs.Worked.{Example, head_at, stats, silent, worked}

pub worked_right : map (λ (e : Example). e.given) worked ≡ map (λ (e : Example). e.said) worked
unfolding worked head_at stats silent decimal_in decimal_of signed_of text.bit period_line letter_of slot_text head_line lost_line event_line value_text values_to values_text soft_line end_line refused_line choice.when◌then◌else◌
worked_right = refl
