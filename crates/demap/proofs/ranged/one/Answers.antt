-- `demap::ranged::one` meets its contract: the metrics, then the folds. Assumes nothing.
use mathlib.Core.Path.{◌≡◌, ◌∙◌}
use Prim.Native.Nat.{ℕ, ◌^◌, ◌<◌}
use lib.ListN.{length}
use lib.Pow.{pow_pos}
use mir.Facts.{to_z-of_z}
use mir.Syntax.{w64}
use Rattle.laws.proofs.Size.{back}
use Rattle.demap.specs.Demap.{label_metric}
use Rattle.demap.specs.Folds.{Holds, entry}
use Rattle.demap.proofs.Fold.{least_metric_ext}
use Rattle.demap.proofs.Stage.{soft_bits_ext}
use Rattle.demap.proofs.ranged.one.Lts as lts
use Rattle.demap.proofs.ranged.one.Tie as tie
use Rattle.demap.proofs.ranged.one.Reads as reads
use Rattle.demap.proofs.ranged.one.Goals as goal

table : (c : (lts.After-all_metrics tie.the-claims reads.Pre reads.Post)) →
    (length c.all_metrics.new.m ≡ 32)
    × Holds (label_metric c.args.yi c.args.yq c.args.points.now) (2 ^ c.args.bits) c.all_metrics.new.m
table c = rw (to_z-of_z c.ranges.yi, to_z-of_z c.ranges.yq) at c.all_metrics.ensures

pub all_levels-requires : goal.all_levels-requires
all_levels-requires c =
    let H = table c.before.before in
    (c.requires.0, c.requires.1, c.requires.3, rw (to_z-of_z c.ranges.k) c.requires.4, H.0, λ l q. rw (H.1 l q).0 (H.1 l q).1)

pub returns : goal.returns
returns c =
    let H = table c.before.before.before.before in
    let f = label_metric c.args.yi c.args.yq c.args.points.now in
    let r = c.all_levels in
    let same : (l : ℕ) → l < 2 ^ c.args.bits → entry c.all_metrics.new.m l ≡ f l = λ l q. (H.1 l q).0 in (
      back w64 r.result r.type_inv ∙ (r.ensures.0 ∙ least_metric_ext _ f (2 ^ c.args.bits) (pow_pos c.args.bits) same),
      rw (to_z-of_z c.ranges.k, soft_bits_ext _ f c.args.bits c.args.k same) at r.ensures.1,
    )
