-- `receiver_replay::given::symbols` meets its contract. Assumes nothing.
use Rattle.receiver_replay.proofs.Laws.{over-all}
use Rattle.receiver_replay.specs.Given.{symbols_of}
use mathlib.Core.Path.{◌∙◌}
use Rattle.receiver_replay.proofs.given.symbols.Goals as goal

pub returns : goal.returns
unfolding symbols_of
returns c = c.copy.ensures ∙ over-all _ _ _ c.no_symbols-t.ensures
