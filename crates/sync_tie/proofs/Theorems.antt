-- The claims of specs/Tie.antt. Assumes nothing.
use Rattle.std.specs.Prelude.{Option}
use Rattle.sync_heads.specs.declared.FrameHead.{FrameHead}
use Prim.Native.Nat.{◌+◌, ◌-◌, ◌<◌, ◌≤◌, suc, zero, ℕ}
use Rattle.laws.proofs.Tests.{by_test}
use Rattle.laws.specs.Choice.{when◌then◌else◌}
use Rattle.sync_step.specs.Events.{no_events}
use Rattle.sync_step.specs.declared.Events.{Events}
use Rattle.sync_step.specs.declared.Run.{Run}
use Rattle.sync_tie.proofs.Follow.{follows}
use Rattle.sync_tie.proofs.Ruled.{Ruled, ruled}
use Rattle.sync_tie.proofs.Story as fold
use Rattle.sync_tie.proofs.Told.{events-of, loss-of}
use Rattle.sync_tie.specs.Pushes.{Push}
use Rattle.sync_tie.specs.Stretch as rule
use Rattle.sync_tie.specs.Tie.{Kept, Tie, begun, pushes}
use borrow.Author.Tests.{eqb-false, eqb-true}
use lib.Dec.{eqb, ltb}
use lib.ListN.{length}
use mathlib.Core.Bool.{false}
use mathlib.Core.List.{List}
use mathlib.Core.Path.{◌∙◌, ◌≡◌, ap, sym}
use native.Mathlib.Omega.{arith}
-- for every list of pushes: it may be cut anywhere
pub use Rattle.sync_tie.proofs.Told.{cut}

module _ (n base : ℕ) (last : Option FrameHead) (h : List Push) where
  -- ---- none has lost, by the rules and by the fold
  pub kept-fold : (m : ℕ) → 0 < n → Kept n base last h m → fold.Kept n base last h m
  kept-fold m z k c d = (ruled n base last h c z (λ i l. k i (omega arith))).loses ∙ k c d

  pub kept_rule : (m : ℕ) → 0 < n → fold.Kept n base last h m → Kept n base last h m
  kept_rule m z k c d = all (suc c) (λ i l. k i (omega (arith, d, l))) c (omega arith)
    where
      all : (c : ℕ) → ((i : ℕ) → i < c → fold.loses_at n base last h i ≡ false) → (i : ℕ) → i < c → rule.loses_at n base last h i ≡ false
      all zero f i l = absurd (omega arith)
      all (suc c) f i l =
          let g = all c (λ j d. f j (omega arith)) in
          by_test (eqb i c)
          (λ t. let e = eqb-true i c t in rw e (sym (ruled n base last h c z g).loses ∙ f c (omega arith)))
          (λ t. g i (omega (arith, l, eqb-false i c t)))

  pub ruled-at : (m : ℕ) → 0 < n → Kept n base last h m → Ruled n base last h (m - 23)
  ruled-at m z k = ruled n base last h (m - 23) z (λ i l. k i (omega (arith, l)))

  -- ---- so they tell the same
  pub tells-same : (m : ℕ) → 0 < n → Kept n base last h m → fold.tells n base last h m ≡ rule.tells n base last h m
  unfolding fold.tells rule.tells
  tells-same m z k = ap (λ (es : Events). when ltb m 23 then no_events else es) (ruled-at m z k).told

  -- the frame record after m pushes
  pub record-now : (m : ℕ) → 0 < n → m ≤ length h → Kept n base last h m → (pushes n (begun n base last) h m).sync.run.course.last ≡ rule.record_before n base last h (m - 23)
  record-now m z l k =
      ap (λ (u : Run). u.course.last) (follows n base last h m z l (kept-fold m z k)).run ∙ (ruled-at m z k).before

pub tie : Tie
tie n base last h m z l k =
    let g = kept-fold n base last h m z k in
    let f = follows n base last h m z (omega arith) g in
    let r = ruled-at n base last h m z k in
    record {
      time = ap (λ (u : Run). u.t) f.run;
      record_is = record-now n base last h m z (omega arith) k;
      events = events-of n base last h m z l g ∙ tells-same n base last h m z k;
      loss = λ b e. loss-of n base last h m z l g b (r.loses ∙ e) ∙ ap (begun n (base + suc m)) r.record_is;
    }
