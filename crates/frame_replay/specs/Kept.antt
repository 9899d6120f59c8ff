-- What the program keeps from call to call, and what a call gives.
use Rattle.std.specs.Prelude.{ℕ, List, ℤ, Option}
use Rattle.eq.specs.declared.Equaliser.{Equaliser}
use Rattle.sums.specs.declared.Sums.{Sums}
use Rattle.frame_line.specs.declared.Metas.{Metas}
use Rattle.frame.specs.declared.Back.{Back}
use Rattle.frame_replay.specs.declared.kept.Kept.{Kept}
use Rattle.frame_replay.specs.declared.kept.Turn.{Turn}

abbrev pub with_back : Kept → Back → Kept
with_back k b = record { back = b; sums = k.sums; f = k.f; s = k.s }

abbrev pub with_eq : Kept → Equaliser → Sums → Kept
with_eq k e t = record { back = record { eq = e; metas = k.back.metas; last = k.back.last }; sums = t; f = k.f; s = k.s }

abbrev pub with_line : Kept → Metas → Option ℕ → Kept
with_line k w last = with_back k (record { eq = k.back.eq; metas = w; last = last })

abbrev pub with_words : Kept → List ℤ → List ℤ → Kept
with_words k f s = record { back = k.back; sums = k.sums; f = f; s = s }

abbrev pub turned : Kept → List ℕ → Turn
turned k told = record { kept = k; told = told }
