-- `learn::ranges::counts_in_range` meets its contract. Assumes nothing.
use Rattle.std.proofs.Common.{◌≡◌, ◌≤◌, ◌↔◌, true, leb, EachIndex, get_or, le-leb, leb-true, rules}
use Rattle.learn.specs.Learning.{count_at}
use Rattle.learn.specs.Ranges.{counts_in_range}
use Rattle.learn.proofs.Laws.{tested}
use Rattle.learn.proofs.ranges.counts_in_range.Goals as goal

pub returns : goal.returns
unfolding counts_in_range
returns c =
    let x = c.args.count.now in
    let h : (c.all.result ≡ true) ↔ EachIndex x (λ k. get_or x k 0 ≤ 67108864) = search rules in
    tested c.all.result (λ k. leb (count_at x k) 67108864) 62
    (λ t k l. le-leb (get_or x k 0) 67108864 (h.0 t k (rw c.told-count l)))
    (λ f. h.1 (λ k l. leb-true (get_or x k 0) 67108864 (f k (rw c.told-count at l))))
