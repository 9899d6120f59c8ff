-- A turn of the loop. Assumes nothing.
use Prim.Native.Nat.{◌*◌, ◌+◌, ℕ}
use Rattle.sync.specs.Answers.{push_acc, push_answer}
use Rattle.sync_bench.specs.declared.Left.{Left}
use Rattle.sync_bench.specs.Streams.{Flow, flow, push_many, push_one, left_of}
use lib.IntN.{pos, ℤ}
use lib.ListN.{get_or}
use mathlib.Core.List.{List}
use mathlib.Core.Path.{◌≡◌}
use native.Mathlib.Numerals.{add-one}
use Rattle.sync_corr.specs.Correlate.{at}

pub push_more : (sy f w : List ℤ) (k : ℕ) (o x : Flow) (i q : ℤ) (a : Left) (acc : List ℕ) → x ≡ push_many sy f w k o →
    i ≡ get_or sy (2 * k) (pos 0) → q ≡ get_or sy (2 * k + 1) (pos 0) →
    a ≡ left_of (push_answer x.sync i q f w x.acc) → acc ≡ push_acc x.sync i q f w x.acc →
    flow a.sync (k + 1) a.level a.refusal acc ≡ push_many sy f w (k + 1) o
unfolding push_many push_one at
push_more sy f w k o x i q a acc e ei eq ea ec = rw (add-one k, ← e, ea, ec, ei, eq)
