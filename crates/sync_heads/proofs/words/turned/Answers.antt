-- `sync_heads::words::turned` meets its contract: small numbers, negated. Assumes nothing.
use Rattle.std.proofs.Common.{◌≡◌, ◌+◌, ◌≤◌, ℤ, pos, ◌-ℤ◌, neg_ℤ, nat_abs, ◌∙◌, w32, to_z, of_z}
use Rattle.laws.proofs.Size.{Num, at, fits, less, lit}
use Rattle.sync_heads.proofs.Laws.{part}
use Rattle.sync_heads.specs.Words.{negated}
use lib.IntN.{+ℤ_idl}
use Rattle.sync_heads.proofs.words.turned.Goals as goal

minus-part : (z : ℤ) → nat_abs z ≤ 1572864 → Num (pos 0 -ℤ to_z w32 (of_z w32 z)) (pos 0 -ℤ z) (0 + 1572864)
minus-part z h = less (lit 0) (part z h)

turned : (z : ℤ) → nat_abs z ≤ 1572864 → to_z w32 (of_z w32 (pos 0 -ℤ to_z w32 (of_z w32 z))) ≡ neg_ℤ z
turned z h = (at w32 (minus-part z h) tt).is ∙ +ℤ_idl (neg_ℤ z)

pub overflow_sub-result : goal.overflow_sub-result
overflow_sub-result c = fits w32 (minus-part c.args.c.re c.requires.re) tt

pub overflow_sub-result-2 : goal.overflow_sub-result-2
overflow_sub-result-2 c = fits w32 (minus-part c.args.c.im c.requires.im) tt

pub returns : goal.returns
unfolding negated
returns c = rw (turned c.args.c.re c.requires.re, turned c.args.c.im c.requires.im)
