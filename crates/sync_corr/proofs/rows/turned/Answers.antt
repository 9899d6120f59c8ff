-- `sync_corr::rows::turned` meets its contract: the entry fits 16 bits, and so does its negation. Assumes nothing.
use Prim.Native.Nat.{◌+◌, ◌-◌}
use lib.IntN.{pos, +ℤ_idl}
use lib.ListN.{get_or}
use mir.Syntax.{w8, w16}
use mir.Val.{SFits}
use Rattle.laws.proofs.Size.{arg, fits, less, lit, at as held}
use Rattle.laws.specs.Choice.{cases}
use Rattle.sync_corr.specs.Correlate.{at}
use Rattle.sync_corr.specs.Rows.{turned_at}
use Rattle.sync_corr.proofs.rows.turned.Lts as lts
use Rattle.sync_corr.proofs.rows.turned.Reads as reads
use Rattle.sync_corr.proofs.rows.turned.Goals as goal

after : (c : (lts.After-a reads.Pre reads.Post)) → SFits w8 (get_or c.args.w.now (c.args.j + 1) (pos 0))
after c = record { sfits = c.a-1.given }

ahead : (c : (lts.After-b reads.Pre reads.Post)) → SFits w8 (get_or c.args.w.now (c.args.j - 1) (pos 0))
ahead c = record { sfits = c.b-1.given }

pub overflow_cast-result : goal.overflow_cast-result
overflow_cast-result c = fits w16 (arg (after c)) tt

pub overflow_sub-result : goal.overflow_sub-result
overflow_sub-result c = fits w16 (less (lit 0) (held w16 (arg (after c)) tt)) tt

pub overflow_cast-result-else-j-eq0 : goal.overflow_cast-result-else-j-eq0
overflow_cast-result-else-j-eq0 c = fits w16 (arg (ahead c)) tt

pub returns-then-j-eq0 : goal.returns-then-j-eq0
unfolding at turned_at
returns-then-j-eq0 c = rw ((held w16 (less (lit 0) (held w16 (arg (after c)) tt)) tt).is, +ℤ_idl) (search cases)

pub returns-else-j-eq0 : goal.returns-else-j-eq0
unfolding at turned_at
returns-else-j-eq0 c = rw (held w16 (arg (ahead c)) tt).is (search cases)
