-- `sync_corr::rows::plain` meets its contract: an entry of a word fits 16 bits. Assumes nothing.
use lib.IntN.{pos}
use lib.ListN.{get_or}
use mir.Syntax.{w8, w16}
use mir.Val.{SFits}
use Rattle.laws.proofs.Size.{arg, fits, at as held}
use Rattle.sync_corr.specs.Correlate.{at}
use Rattle.sync_corr.proofs.rows.plain.Lts as lts
use Rattle.sync_corr.proofs.rows.plain.Reads as reads
use Rattle.sync_corr.proofs.rows.plain.Goals as goal

entry : (c : (lts.After-a reads.Pre reads.Post)) → SFits w8 (get_or c.args.w.now c.args.j (pos 0))
entry c = record { sfits = c.a-1.given }

pub overflow_cast-result : goal.overflow_cast-result
overflow_cast-result c = fits w16 (arg (entry c)) tt

pub returns : goal.returns
unfolding at
returns c = (held w16 (arg (entry c)) tt).is
