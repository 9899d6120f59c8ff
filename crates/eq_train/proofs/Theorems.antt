-- What is true of training sums: in range they have room, trained ones stay in range, and they hold exactly their trainings. Each statement
-- stands above its proof. Assumes nothing.
use mathlib.Core.Path.{◌≡◌, refl, sym, ap, subst, ◌∙◌}
use mathlib.Core.Bool.{true, ◌&&◌}
use mathlib.Core.List.{List, [], ◌∷◌}
use Prim.Native.Nat.{ℕ, ◌+◌, ◌*◌, ◌≤◌, ◌<◌}
use native.Mathlib.Omega.{arith}
use native.Mathlib.Nat.{le_refl, add-zero, zero-add}
use borrow.Author.Tests.{le-leb, eqb-true, eqb-false}
use lib.Dec.{leb, eqb}
use lib.IntN.{ℤ, pos, ◌+ℤ◌, +ℤ_assoc, +ℤ_idl, +ℤ_idr}
use lib.ListN.{length, length-replicate, get_or-replicate}
use lib.Signed.{≤ℤ_refl}
use mir.Syntax.{w16}
use mir.Val.{SFits}
use Rattle.laws.proofs.Tests.{by_test, and_both}
use Rattle.sums.specs.Sums.{upper_at, empty_sums}
use Rattle.sums.specs.declared.Sums.{Sums}
use Rattle.eq_train.specs.Train.{nth, line_product, right_product, trained_sums}
use Rattle.eq_train.specs.Ranges.{entry_in_range, upper_in_range, right_in_range, sums_in_range, SumsOk}
use Rattle.eq_train.specs.Sound.{ProductSound, DiagonalSound, SumsSound, Training, trained_all, total, Holds}
use Rattle.eq_train.proofs.Places.{upper_in}
use Rattle.eq_train.proofs.Tested.{diagonal_entry, product_entry}
use Rattle.eq_train.proofs.Bounds.{product_more, diagonal_more, product_in, diagonal_in}
use Rattle.eq_train.proofs.Laws.{upper_sizes, right_sizes, upper_true, right_true, trained-re, trained-im, trained-right-re, trained-right-im, trained-long, trained_count}

-- ---- sums in range and not full have room for a training
pub in_range_ok : (s : Sums) → sums_in_range s ≡ true → s.count < 4194304 → SumsOk s
unfolding sums_in_range
in_range_ok s e h =
    let f = and_both (leb s.count 4194304 && upper_in_range 4194304 s.r 0 11) (right_in_range 4194304 s.p 0 11) e in
    let g = and_both (leb s.count 4194304) (upper_in_range 4194304 s.r 0 11) f.0 in
    record { count = h; upper = λ k l. omega (arith, upper_sizes 4194304 (le_refl 4194304) s.r g.1 k l); right = λ k l. omega (arith, right_sizes 4194304 (le_refl 4194304) s.p f.1 k l) }

-- ---- sound sums of at most N trainings are in range
sound_entry : (N : ℕ) (s : Sums) → SumsSound s → s.count ≤ N → (r c : ℕ) → r ≤ c → c < 11 → entry_in_range N s.r r c ≡ true
sound_entry N s m few r c h l =
    by_test (eqb r c)
    (λ e. subst (λ (d : ℕ). entry_in_range N s.r r d ≡ true) (eqb-true r c e) (diagonal_entry N s.r r ∙ diagonal_in s.count N (nth s.r (2 * upper_at r r)) (nth s.r (2 * upper_at r r + 1)) few (m.diagonal r (omega arith))))
    (λ e. let k = apart r c h (eqb-false r c e) in
    product_entry N s.r r c k ∙ product_in s.count N (nth s.r (2 * upper_at r c)) (nth s.r (2 * upper_at r c + 1)) few (m.upper r c k l))
  where
    apart : (r c : ℕ) → r ≤ c → (r ≡ c → ⊥) → r < c
    apart r c h n = omega (arith, n)

pub sound_upper : (N : ℕ) (s : Sums) → SumsSound s → s.count ≤ N → upper_in_range N s.r 0 11 ≡ true
sound_upper N s m few = upper_true N s.r 0 11 refl (sound_entry N s m few)

pub sound_in_range : (s : Sums) → SumsSound s → sums_in_range s ≡ true
unfolding sums_in_range
sound_in_range s m =
    rw (
      le-leb s.count 4194304 m.count,
      sound_upper 4194304 s m m.count,
      right_true 4194304 s.p 0 11 refl (λ i h. product_in s.count 4194304 (nth s.p (2 * i)) (nth s.p (2 * i + 1)) m.count (m.right i h)),
    )

-- ---- empty sums are sound
empty_r : (frame k : ℕ) → k < 132 → nth (empty_sums frame).r k ≡ pos 0
unfolding empty_sums
empty_r frame k h = get_or-replicate 132 k (pos 0) (pos 0) h

empty_p : (frame k : ℕ) → k < 22 → nth (empty_sums frame).p k ≡ pos 0
unfolding empty_sums
empty_p frame k h = get_or-replicate 22 k (pos 0) (pos 0) h

no_products : ProductSound 0 (pos 0) (pos 0)
no_products = record { low = ≤ℤ_refl (pos 0); high = ≤ℤ_refl (pos 0); turn = le_refl 0 }

no_squares : DiagonalSound 0 (pos 0) (pos 0)
no_squares = record { low = ≤ℤ_refl (pos 0); high = ≤ℤ_refl (pos 0); turn = refl }

empty_count : (frame : ℕ) → (empty_sums frame).count ≡ 0
unfolding empty_sums
empty_count frame = refl

empty_long : (frame : ℕ) → (length (empty_sums frame).r ≡ 132) × (length (empty_sums frame).p ≡ 22)
unfolding empty_sums
empty_long frame = (length-replicate {A = ℤ} 132 (pos 0), length-replicate {A = ℤ} 22 (pos 0))

pub empty_sound : (frame : ℕ) → SumsSound (empty_sums frame)
empty_sound frame =
    record {
      count = rw (empty_count frame) (omega arith);
      long = (empty_long frame).0;
      wide = (empty_long frame).1;
      diagonal = λ r h. let u = upper_in r r (le_refl r) h in rw (empty_count frame, empty_r frame (2 * upper_at r r) (omega arith), empty_r frame (2 * upper_at r r + 1) (omega arith)) no_squares;
      upper = λ r c h l. let u = upper_in r c (omega arith) l in rw (empty_count frame, empty_r frame (2 * upper_at r c) (omega arith), empty_r frame (2 * upper_at r c + 1) (omega arith)) no_products;
      right = λ r h. rw (empty_count frame, empty_p frame (2 * r) (omega arith), empty_p frame (2 * r + 1) (omega arith)) no_products;
    }

-- ---- a training with a line and a reference of 16-bit numbers keeps sums sound, if they are not full
pub train_sound : (s : Sums) (line : List ℤ) (di dq : ℤ) → SumsSound s → ((k : ℕ) → k < 22 → SFits w16 (nth line k)) → SFits w16 di → SFits w16 dq → s.count < 4194304 →
    SumsSound (trained_sums s line di dq)
unfolding line_product right_product
train_sound s line di dq m short hi hq room =
    let i : (r : ℕ) → r < 11 → SFits w16 (nth line (2 * r)) = λ r h. short (2 * r) (omega arith) in
    let q : (r : ℕ) → r < 11 → SFits w16 (nth line (2 * r + 1)) = λ r h. short (2 * r + 1) (omega arith) in
    record {
      count = rw (trained_count s line di dq) (omega arith);
      long = (trained-long s line di dq).0;
      wide = (trained-long s line di dq).1;
      diagonal = λ r h.
          rw (trained_count s line di dq, trained-re s line di dq r r (le_refl r) h, trained-im s line di dq r r (le_refl r) h)
          (diagonal_more s.count (nth s.r (2 * upper_at r r)) (nth s.r (2 * upper_at r r + 1)) (nth line (2 * r)) (nth line (2 * r + 1)) (i r h) (q r h) (m.diagonal r h));
      upper = λ r c h l.
          rw (trained_count s line di dq, trained-re s line di dq r c (omega arith) l, trained-im s line di dq r c (omega arith) l)
          (product_more s.count (nth s.r (2 * upper_at r c)) (nth s.r (2 * upper_at r c + 1)) (nth line (2 * r)) (nth line (2 * r + 1)) (nth line (2 * c)) (nth line (2 * c + 1))
          (i r (omega arith)) (q r (omega arith)) (i c l) (q c l) (m.upper r c h l));
      right = λ r h.
          rw (trained_count s line di dq, trained-right-re s line di dq r h, trained-right-im s line di dq r h)
          (product_more s.count (nth s.p (2 * r)) (nth s.p (2 * r + 1)) (nth line (2 * r)) (nth line (2 * r + 1)) di dq (i r h) (q r h) hi hq (m.right r h));
    }

-- ---- sums hold exactly the trainings that went into them
-- a place that each training adds its own number to
sum_all : (at : Sums → ℤ) (f : Training → ℤ) → ((s : Sums) (t : Training) → at (trained_sums s t.line t.di t.dq) ≡ at s +ℤ f t) →
    (s : Sums) (ts : List Training) → at (trained_all s ts) ≡ at s +ℤ total f ts
unfolding trained_all total
sum_all at f step s [] = sym (+ℤ_idr (at s))
sum_all at f step s (t ∷ ts) =
    sum_all at f step (trained_sums s t.line t.di t.dq) ts ∙ ap (λ (z : ℤ). z +ℤ total f ts) (step s t) ∙ +ℤ_assoc (at s) (f t) (total f ts)

count_all : (s : Sums) (ts : List Training) → (trained_all s ts).count ≡ s.count + length ts
unfolding trained_all
count_all s [] = sym (add-zero s.count)
count_all s (t ∷ ts) = omega (arith, count_all (trained_sums s t.line t.di t.dq) ts, trained_count s t.line t.di t.dq)

from_none : (at : Sums → ℤ) (f : Training → ℤ) (frame : ℕ) (ts : List Training) → at (empty_sums frame) ≡ pos 0 → at (trained_all (empty_sums frame) ts) ≡ at (empty_sums frame) +ℤ total f ts → at (trained_all (empty_sums frame) ts) ≡ total f ts
from_none at f frame ts z e = e ∙ ap (λ (x : ℤ). x +ℤ total f ts) z ∙ +ℤ_idl (total f ts)

pub holds_trainings : (frame : ℕ) (ts : List Training) → Holds (trained_all (empty_sums frame) ts) ts
holds_trainings frame ts =
    let e = empty_sums frame in
    record {
      count = count_all e ts ∙ rw (empty_count frame) (zero-add (length ts));
      upper_re = λ r c h l.
          let at : Sums → ℤ = λ s. nth s.r (2 * upper_at r c) in
          let f : Training → ℤ = λ t. (line_product t.line r c).re in
          let u = upper_in r c h l in
          from_none at f frame ts (empty_r frame (2 * upper_at r c) (omega arith)) (sum_all at f (λ s t. trained-re s t.line t.di t.dq r c h l) e ts);
      upper_im = λ r c h l.
          let at : Sums → ℤ = λ s. nth s.r (2 * upper_at r c + 1) in
          let f : Training → ℤ = λ t. (line_product t.line r c).im in
          let u = upper_in r c h l in
          from_none at f frame ts (empty_r frame (2 * upper_at r c + 1) (omega arith)) (sum_all at f (λ s t. trained-im s t.line t.di t.dq r c h l) e ts);
      right_re = λ r h.
          let at : Sums → ℤ = λ s. nth s.p (2 * r) in
          let f : Training → ℤ = λ t. (right_product t.line t.di t.dq r).re in
          from_none at f frame ts (empty_p frame (2 * r) (omega arith)) (sum_all at f (λ s t. trained-right-re s t.line t.di t.dq r h) e ts);
      right_im = λ r h.
          let at : Sums → ℤ = λ s. nth s.p (2 * r + 1) in
          let f : Training → ℤ = λ t. (right_product t.line t.di t.dq r).im in
          from_none at f frame ts (empty_p frame (2 * r + 1) (omega arith)) (sum_all at f (λ s t. trained-right-im s t.line t.di t.dq r h) e ts);
    }
