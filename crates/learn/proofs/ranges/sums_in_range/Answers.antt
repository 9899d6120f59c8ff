-- `learn::ranges::sums_in_range` meets its contract. Assumes nothing.
use Rattle.std.proofs.Common.{◌≡◌, ◌↔◌, true, ◌&&◌, EachIndex, get_or, pos, rules}
use lib.Signed.{le_z}
use Rattle.laws.specs.Choice.{minus}
use Rattle.learn.specs.Learning.{sum_at}
use Rattle.learn.specs.Ranges.{sum_in_range, sums_in_range}
use Rattle.learn.proofs.Laws.{tested}
use Rattle.learn.proofs.ranges.sums_in_range.Goals as goal

pub returns : goal.returns
unfolding sums_in_range sum_in_range
returns c =
    let x = c.args.sum.now in
    let h : (c.all.result ≡ true) ↔ EachIndex x (λ k. (le_z (minus 2199023255552) (get_or x k (pos 0)) && le_z (get_or x k (pos 0)) (pos 2198956146688)) ≡ true) = search rules in
    tested c.all.result (λ k. sum_in_range (sum_at x k)) 124
    (λ t k l. h.0 t k (rw c.told-sum l))
    (λ f. h.1 (λ k l. f k (rw c.told-sum at l)))
