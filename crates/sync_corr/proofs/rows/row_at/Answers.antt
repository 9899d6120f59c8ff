-- `sync_corr::rows::row_at` meets its contract. Assumes nothing.
use mir.Syntax.{w16}
use Rattle.laws.proofs.Size.{back}
use Rattle.laws.specs.Choice.{cases}
use Rattle.sync_corr.specs.Rows.{row_at}
use Rattle.sync_corr.proofs.rows.row_at.Goals as goal

pub returns-then-j-lt48 : goal.returns-then-j-lt48
unfolding row_at
returns-then-j-lt48 c = rw (back w16 c.plain.result c.plain.type_inv) (search cases)

pub returns-then-j-lt96 : goal.returns-then-j-lt96
unfolding row_at
returns-then-j-lt96 c = rw (back w16 c.turned.result c.turned.type_inv) (search cases)

pub returns-then-j-lt144 : goal.returns-then-j-lt144
unfolding row_at
returns-then-j-lt144 c = rw (back w16 c.plain-then-j-lt144.result c.plain-then-j-lt144.type_inv) (search cases)

pub returns-else-j-lt144 : goal.returns-else-j-lt144
unfolding row_at
returns-else-j-lt144 c = rw (back w16 c.turned-else-j-lt144.result c.turned-else-j-lt144.type_inv) (search cases)
