-- `learn::means::all_piloted` meets its contract. Assumes nothing.
use Rattle.std.proofs.Common.{◌≡◌, ◌+◌, ◌-◌, ◌<◌, ◌≤◌, ◌↔◌, ℕ, List, true, ltb, length, EachIndex, get_or, take, drop, lt-ltb, ltb-true, get_or-drop, get_or-take, length-take, length-drop, rules, arith, ◌∙◌}
use Rattle.demap.proofs.Blocks.{whole}
use Rattle.learn.specs.Learning.{count_at, all_piloted}
use Rattle.learn.proofs.Laws.{tested}
use Rattle.learn.proofs.means.all_piloted.Goals as goal

-- the n labels from place a on, and each of them
long : (a n : ℕ) (count : List ℕ) → a + n ≤ length count → length (take n (drop a count)) ≡ n
long a n count h = simp (length-take, length-drop) (omega arith)

each : (a n : ℕ) (count : List ℕ) (k : ℕ) → k < n → get_or (take n (drop a count)) k 0 ≡ get_or count (a + k) 0
each a n count k h = get_or-take n (drop a count) k 0 h ∙ get_or-drop a count k 0

pub returns : goal.returns
unfolding all_piloted
returns c =
    let o = c.args.count.now in
    let a = c.args.a in
    let n = c.args.n in
    let x = take (a + n - a) (drop a o) in
    let h : (c.all.result ≡ true) ↔ EachIndex x (λ k. 0 < get_or x k 0) = search rules in
    let p = long a n o (rw c.told-count c.requires) in
    tested c.all.result (λ k. ltb 0 (count_at o (a + k))) n
    (λ t k l. lt-ltb 0 (count_at o (a + k)) (rw (whole a n, each a n o k l) at (h.0 t k (rw (whole a n, p) l))))
    (λ f. h.1 (λ k l. let m = rw (whole a n, p) at l in rw (whole a n, each a n o k m) (ltb-true 0 (count_at o (a + k)) (f k m))))
