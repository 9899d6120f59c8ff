-- What happened in a stretch stands as more symbols come: until one loses, the first m pushes of h ++ e tell what those of h tell. Assumes nothing.
use Rattle.std.specs.Prelude.{Option}
use Rattle.sync_heads.specs.declared.FrameHead.{FrameHead}
use Prim.Native.Nat.{ℕ, zero, suc, ◌+◌, ◌-◌, ◌<◌, ◌≤◌}
use Rattle.laws.proofs.Tests.{by_test}
use Rattle.laws.specs.Choice.{if_no, when◌then◌else◌}
use Rattle.sync_step.specs.declared.Step.{Step}
use Rattle.sync_step.specs.declared.Events.{Events}
use Rattle.sync_tie.proofs.Theorems.{tie}
use Rattle.sync_tie.specs.Claims.{any_head}
use Rattle.sync_corr.specs.Correlate.{both_of, size_of}
use Rattle.sync_corr.specs.declared.Both.{Both}
use Rattle.sync_history.specs.History.{Premise}
use Rattle.sync_tie.specs.Pushes.{Push, both_at, flat, no_push, size_at}
use Rattle.sync_tie.specs.Stretch.{loses_at, tells}
use Rattle.sync_tie.specs.Tie.{Held, Kept, begun, push_on, pushes, step_on}
use Rattle.receiver.specs.Heads.{loses_in}
use Rattle.guarantee.specs.History.{told_to}
use Rattle.guarantee.proofs.Lost.{tells-loses}
use borrow.Author.Tests.{le-ltb, ltb-true}
use lib.Dec.{ltb, lit≤}
use lib.ListN.{get_or-append, drop, get_or, length, length-append, length-drop, take}
use lib.Seq.{drop-append-le, take-append-le}
use mathlib.Core.Bool.{false}
use mathlib.Core.List.{List, ◌++◌}
use mathlib.Core.Path.{◌∙◌, ◌≡◌, ap, ap₂, refl, subst, sym}
use native.Mathlib.Omega.{arith}

pub pushes_prefix : (n : ℕ) (x : Held) (h e : List Push) (m : ℕ) → m ≤ length h → pushes n x (h ++ e) m ≡ pushes n x h m
unfolding pushes
pushes_prefix n x h e zero l = refl
pushes_prefix n x h e (suc m) l =
    ap (λ (y : Held). push_on n y (get_or (h ++ e) m no_push)) (pushes_prefix n x h e m (omega arith)) ∙ ap (push_on n (pushes n x h m)) (get_or-append h e no_push m l)

module _ (n base : ℕ) (last : Option FrameHead) (h e : List Push) (z : 0 < n) where
  long : length h ≤ length (h ++ e)
  long = rw (length-append h e) (omega arith)

  -- the same events, where neither has lost before
  same-tells : (m : ℕ) → m < length h → Kept n base last h m → Kept n base last (h ++ e) m → tells n base last (h ++ e) m ≡ tells n base last h m
  same-tells m l k q =
      let a = (tie n base last (h ++ e) m z (omega (arith, long)) q).events in
      let b = (tie n base last h m z l k).events in
      let s : step_on n (pushes n (begun n base last) (h ++ e) m) (get_or (h ++ e) m no_push) ≡ step_on n (pushes n (begun n base last) h m) (get_or h m no_push) =
      ap (λ (y : Held). step_on n y (get_or (h ++ e) m no_push)) (pushes_prefix n (begun n base last) h e m (omega arith))
      ∙ ap (step_on n (pushes n (begun n base last) h m)) (get_or-append h e no_push m l) in
      sym a ∙ ap (λ (t : Step). t.events) s ∙ b

  late-loses : (g : List Push) (c : ℕ) → loses_in (tells n base last g (c + 23)) ≡ loses_at n base last g c
  late-loses g c =
      let d : c + 23 - 23 ≡ c = omega arith in
      tells-loses n base last g (c + 23)
      ∙ if_no (ltb (c + 23) 23) false (loses_at n base last g (c + 23 - 23)) (le-ltb (c + 23) 23 (omega arith))
      ∙ ap (loses_at n base last g) d

  -- .. so neither loses where the other does not
  pub kept-prefix : (m : ℕ) → m ≤ length h → Kept n base last h m → Kept n base last (h ++ e) m
  kept-prefix zero l k c d = absurd (omega (arith, d))
  kept-prefix (suc m) l k c d =
      let q = kept-prefix m (omega arith) (λ i b. k i (omega arith)) in
      by_test (ltb (c + 23) m)
      (λ t. q c (ltb-true (c + 23) m t))
      (λ t.
      let s = same-tells (c + 23) (omega (arith, d)) (λ i b. k i (omega (arith, d))) (λ i b. q i (omega (arith, d))) in
      sym (late-loses (h ++ e) c) ∙ ap loses_in s ∙ late-loses h c ∙ k c d)

  pub tells-prefix : (m : ℕ) → m < length h → Kept n base last h m → tells n base last (h ++ e) m ≡ tells n base last h m
  tells-prefix m l k = same-tells m l k (kept-prefix m (omega arith) k)

-- the symbols that told a head
pub told_prefix : (base : ℕ) (last : Option FrameHead) (h e : List Push) (m : ℕ) → m ≤ length h → Kept 9296 base last h m → told_to base last (h ++ e) m ≡ told_to base last h m
unfolding told_to
told_prefix base last h e zero l k = refl
told_prefix base last h e (suc m) l k =
    let g = told_prefix base last h e m (omega arith) (λ i b. k i (omega arith)) in
    let t = tells-prefix 9296 base last h e (lit≤ tt) m l (λ i b. k i (omega arith)) in
    ap (λ (v : ℕ). v + (when any_head (tells 9296 base last (h ++ e) m) then 1 else 0)) g ∙ ap (λ (es : Events). told_to base last h m + (when any_head es then 1 else 0)) t

-- ---- sizes stand too, so a stretch that meets the premise has met it at each of its calls
both_prefix : (h e : List Push) (c : ℕ) → c + 23 < length h → both_at (h ++ e) c ≡ both_at h c
unfolding both_at
both_prefix h e c l =
    let x = get_or-append h e no_push (c + 23) l in
    let d : drop c (h ++ e) ≡ drop c h ++ e = drop-append-le c h e (omega arith) in
    let t : take 24 (drop c h ++ e) ≡ take 24 (drop c h) = take-append-le 24 (drop c h) e (rw (length-drop c h) (omega arith)) in
    ap₂ (λ (u : List Push) (y : Push). both_of (flat u) y.f y.w) (ap (take 24) d ∙ t) x

pub premise_earlier : (place P Q : ℕ) (h e : List Push) → Premise 9296 place P Q (size_at (h ++ e)) (length (h ++ e) - 23) → Premise 9296 place P Q (size_at h) (length h - 23)
unfolding size_at
premise_earlier place P Q h e p =
    record {
      within = p.within;
      apart = p.apart;
      there = λ j l k. subst (λ (b : Both). P ≤ size_of b) (both_prefix h e j (omega (arith, l))) (p.there j (rw (length-append h e) (omega (arith, l))) k);
      elsewhere = λ j l k. subst (λ (b : Both). size_of b ≤ Q) (both_prefix h e j (omega (arith, l))) (p.elsewhere j (rw (length-append h e) (omega (arith, l))) k);
    }
