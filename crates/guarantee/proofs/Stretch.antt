-- One symbol more of a stretch: what the slot sync makes of it. Assumes nothing.
use Rattle.std.specs.Prelude.{Option}
use Rattle.sync_heads.specs.declared.FrameHead.{FrameHead}
use Prim.Native.Nat.{ℕ, suc, ◌+◌, ◌-◌, ◌≤◌}
use Rattle.laws.proofs.Tests.{by_test}
use Rattle.sync_step.specs.declared.Run.{Run}
use Rattle.sync_tie.proofs.Follow.{follows}
use Rattle.sync_tie.proofs.Theorems.{kept-fold, tie}
use Rattle.sync_tie.specs.Pushes.{Push, no_push}
use Rattle.sync_tie.proofs.Story.{lock_at}
use Rattle.sync_tie.specs.Stretch.{loses_at, record_at, tells}
use Rattle.sync_tie.specs.Tie.{Held, Kept, begun, push_on, pushes, step_on}
use Rattle.guarantee.proofs.Prefix.{kept-prefix, pushes_prefix}
use borrow.Author.Tests.{ltb-false, ltb-true}
use lib.Dec.{lit≤, ltb}
use lib.ListN.{get_or, length, length-append}
use lib.Seq.{get_or-append-add}
use mathlib.Core.Bool.{false, true}
use mathlib.Core.List.{List, [], ◌∷◌, ◌++◌}
use mathlib.Core.Path.{◌∙◌, ◌≡◌, ap, sym, subst}
use native.Mathlib.Omega.{arith}

module _ (base : ℕ) (last : Option FrameHead) (h : List Push) (p : Push) where
  abbrev pub grown : List Push
  grown = h ++ (p ∷ [])

  abbrev pub count : ℕ
  count = length h

  abbrev pub before : Held
  before = pushes 9296 (begun 9296 base last) h count

  pub grown-length : length grown ≡ suc count
  grown-length = length-append h (p ∷ []) ∙ omega arith

  pub newest : get_or grown count no_push ≡ p
  newest = let e : count + 0 ≡ count = omega arith in rw e at (get_or-append-add h (p ∷ []) 0 no_push)

  module _ (k : Kept 9296 base last h count) where
    pub kept-before : Kept 9296 base last grown count
    kept-before = kept-prefix 9296 base last h (p ∷ []) (lit≤ tt) count (omega arith) k

    same-before : pushes 9296 (begun 9296 base last) grown count ≡ before
    same-before = pushes_prefix 9296 (begun 9296 base last) h (p ∷ []) count (omega arith)

    pub step-events : (step_on 9296 before p).events ≡ tells 9296 base last grown count
    step-events =
        let t = (tie 9296 base last grown count (lit≤ tt) (omega (arith, grown-length)) kept-before).events in
        ap (λ (y : Held). (step_on 9296 y p).events) (sym same-before) ∙ ap (λ (q : Push). (step_on 9296 (pushes 9296 (begun 9296 base last) grown count) q).events) (sym newest) ∙ t

    -- the lock, as the grown stretch has it
    pub lock-now : before.sync.run.lock ≡ lock_at 9296 base last grown (count - 23)
    lock-now =
        let f = follows 9296 base last grown count (lit≤ tt) (omega (arith, grown-length)) (kept-fold 9296 base last grown count (lit≤ tt) kept-before) in
        ap (λ (y : Held). y.sync.run.lock) (sym same-before) ∙ ap (λ (u : Run). u.lock) f.run

    pub step-next : push_on 9296 before p ≡ pushes 9296 (begun 9296 base last) grown (suc count)
    unfolding pushes
    step-next = ap (λ (y : Held). push_on 9296 y p) (sym same-before) ∙ ap (push_on 9296 (pushes 9296 (begun 9296 base last) grown count)) (sym newest)

    pub step_kept : (23 ≤ count → loses_at 9296 base last grown (count - 23) ≡ false) → Kept 9296 base last grown (suc count)
    step_kept f c d =
        by_test (ltb (c + 23) count)
        (λ t. kept-before c (ltb-true (c + 23) count t))
        (λ t.
        let e : count - 23 ≡ c = omega (arith, ltb-false (c + 23) count t, d) in
        subst (λ (i : ℕ). loses_at 9296 base last grown i ≡ false) e (f (omega (arith, ltb-false (c + 23) count t, d))))

    pub step-lost : 23 ≤ count → loses_at 9296 base last grown (count - 23) ≡ true → push_on 9296 before p ≡ begun 9296 (base + suc count) (record_at 9296 base last grown (count - 23))
    step-lost b e = step-next ∙ (tie 9296 base last grown count (lit≤ tt) (omega (arith, grown-length)) kept-before).loss b e

  -- ---- where the sync stands
  pub where-now : Kept 9296 base last h count → (before.sync.run.base ≡ base) × (before.sync.run.t ≡ count) × (length before.acc ≡ 9296)
  where-now k =
      let f = follows 9296 base last h count (lit≤ tt) (omega arith) (kept-fold 9296 base last h count (lit≤ tt) k) in
      (ap (λ (u : Run). u.base) f.run, ap (λ (u : Run). u.t) f.run, f.long)
