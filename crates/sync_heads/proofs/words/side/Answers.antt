-- `sync_heads::words::side` meets its contract: a sum of two products. Assumes nothing.
use Rattle.std.proofs.Common.{◌≡◌, ◌+◌, ◌*◌, ◌^◌, ◌<◌, ◌≤◌, ℤ, ◌+ℤ◌, ◌*ℤ◌, nat_abs, ◌∙◌, w32, w64, to_z, of_z}
use Rattle.laws.proofs.Size.{Num, at, back, fits, plus, times}
use Rattle.sync_heads.proofs.Laws.{given, held, part}
use Rattle.sync_heads.specs.Words.{side_of}
use lib.Signed.{mag}
use Rattle.sync_heads.proofs.words.side.Lts as lts
use Rattle.sync_heads.proofs.words.side.Tie as tie
use Rattle.sync_heads.proofs.words.side.Reads as reads
use Rattle.sync_heads.proofs.words.side.Goals as goal

product : (a b r : ℤ) → nat_abs a ≤ 1572864 → nat_abs b ≤ 1572864 → mag r < 2 ^ 63 → r ≡ to_z w32 (of_z w32 a) *ℤ to_z w32 (of_z w32 b) → Num (to_z w64 (of_z w64 r)) (a *ℤ b) (1572864 * 1572864)
product a b r h k l e = given (back w64 r l ∙ e) (times (part a h) (part b k))

sum : (c : (lts.After-times2 tie.the-claims reads.Pre reads.Post)) →
    let s = c.args in
    Num (to_z w64 (of_z w64 c.times.result) +ℤ to_z w64 (of_z w64 c.times-2.result)) (s.a.re *ℤ s.b.re +ℤ s.a.im *ℤ s.b.im) (1572864 * 1572864 + 1572864 * 1572864)
sum c =
    let p = c.times in
    let q = c.times-2 in
    plus (product c.args.a.re c.args.b.re p.result c.requires.0.re c.requires.1.re p.type_inv p.ensures.0)
    (product c.args.a.im c.args.b.im q.result c.requires.0.im c.requires.1.im q.type_inv q.ensures.0)

pub times-requires : goal.times-requires
times-requires c = (held c.args.a.re c.requires.0.re, held c.args.b.re c.requires.1.re)

pub times-requires-2 : goal.times-requires-2
times-requires-2 c = (held c.args.a.im c.requires.0.im, held c.args.b.im c.requires.1.im)

pub overflow_add-result : goal.overflow_add-result
overflow_add-result c = fits w64 (sum c) tt

pub returns : goal.returns
unfolding side_of
returns c = (at w64 (sum c) tt).is
