-- What a corrected slot comes out as: which symbols, told as which runs. Assumes nothing.
use Rattle.std.specs.Prelude.{Option, None, Some}
use Prim.Native.Nat.{ℕ, zero, suc, ◌+◌, ◌≤◌, ◌<◌}
use Rattle.frame.proofs.Theorems.{aligned_theorem, gap_theorem, waiting_theorem}
use Rattle.frame.specs.Align.{joined_to, pushed_back, restarted_back, started_back}
use Rattle.frame.specs.declared.AlignedSymbol.{AlignedSymbol}
use Rattle.frame.specs.declared.Back.{Back}
use Rattle.frame.specs.Stretch.{after_all, given_all, given_by, metas_of, unbroken}
use Rattle.frame_line.proofs.Theorems.{waiting_length}
use Rattle.frame_line.specs.declared.Meta.{Meta}
use Rattle.frame_line.specs.Line.{gap_at, meta_of, no_metas}
use Rattle.frame_line.specs.Waiting.{waiting_of}
use Rattle.laws.proofs.Lists.{length-firsts}
use Rattle.laws.proofs.Tests.{by_test, if_both, if_either}
use Rattle.laws.specs.Choice.{if_no, if_yes}
use Rattle.laws.specs.Ranges.{firsts}
use Rattle.phase.specs.declared.Corrected.{Corrected}
use Rattle.phase.specs.declared.WholeSlot.{WholeSlot}
use Rattle.phase.specs.Phase.{corrected_of}
use Rattle.receiver_slot.specs.declared.Points.{Points}
use Rattle.receiver_slot.specs.declared.AlignedRun.{AlignedRun}
use Rattle.receiver_slot.specs.Slot.{aligned_all, aligned_by, corrected_all, no_run, points_for, run_of, runs_of, waiting_before}
use borrow.Author.Tests.{eqb-false, eq-eqb, eqb-true}
use lib.Dec.{eqb}
use lib.IntN.{ℤ}
use lib.ListN.{drop, length, length-append, length-take, take}
use lib.Seq.{drop_at, take-append-add, take-append-le, take-append_seam, take_all, take_at}
use mathlib.Core.Bool.{false, true}
use mathlib.Core.List.{List, [], ◌∷◌, ◌++◌}
use mathlib.Core.Logic.{⊎_elim}
use mathlib.Core.Path.{◌∙◌, ◌≡◌, ap, ap₂, refl, sym}
use native.Mathlib.Nat.{eq-or-lt_of_le}
use native.Mathlib.Omega.{arith}
use Rattle.receiver_slot.specs.Aligned.{comes_out, metas_in, run_by}
use Rattle.receiver_slot.specs.Steps.{runs_from, tail_of}
use Rattle.frame_line.specs.declared.Metas.{Metas}

-- ---- lists of a slot's symbols
pub firsts_cons : {A : Type 0} (g : ℕ → A) (n : ℕ) → firsts g (suc n) ≡ g 0 ∷ firsts (λ (j : ℕ). g (suc j)) n
unfolding firsts
firsts_cons g zero = refl
firsts_cons g (suc n) = rw (firsts_cons g n)

all_firsts : {A : Type 0} (g : ℕ → A) (n m : ℕ) → n ≡ m → take n (firsts g m) ≡ firsts g n
all_firsts g n m e = take_all n (firsts g m) (omega (arith, length-firsts g m, e)) ∙ ap (firsts g) (sym e)

take_more : {A : Type 0} (g : ℕ → A) (n m : ℕ) → n ≤ m → take n (firsts g m) ≡ firsts g n → take n (firsts g (suc m)) ≡ firsts g n
unfolding firsts
take_more g n m h e = take-append-le n (firsts g m) (g m ∷ []) (omega (arith, length-firsts g m, h)) ∙ e

take_firsts : {A : Type 0} (g : ℕ → A) (n m : ℕ) → n ≤ m → take n (firsts g m) ≡ firsts g n
take_firsts g n zero h = all_firsts g n zero (omega (arith, h))
take_firsts g n (suc m) h =
    ⊎_elim (λ (e : n ≡ suc m). all_firsts g n (suc m) e) (λ (k : n < suc m). take_more g n m (omega arith) (take_firsts g n m (omega arith))) (eq-or-lt_of_le h)

metas_cons : (c : Corrected) (cs : List Corrected) → metas_of (c ∷ cs) ≡ meta_of c ∷ metas_of cs
unfolding metas_of
metas_cons c cs = refl

metas_firsts : (g : ℕ → Corrected) (n : ℕ) → metas_of (firsts g n) ≡ firsts (λ (j : ℕ). meta_of (g j)) n
metas_firsts g zero = unfold metas_of firsts in refl
metas_firsts g (suc n) =
    ap metas_of (firsts_cons g n) ∙ metas_cons (g 0) (firsts (λ (j : ℕ). g (suc j)) n) ∙ ap (λ (l : List Meta). meta_of (g 0) ∷ l) (metas_firsts (λ (j : ℕ). g (suc j)) n)
    ∙ sym (firsts_cons (λ (j : ℕ). meta_of (g j)) n)

-- positions that count up have no gap
runs_on : (g : ℕ → Corrected) (at n : ℕ) → ((j : ℕ) → (g j).at ≡ at + suc j) → unbroken (Some at) (firsts g n) ≡ true
unfolding unbroken gap_at
runs_on g at zero h = unfold firsts in refl
runs_on g at (suc n) h =
    rw (firsts_cons g n, eq-eqb (at + 1) (g 0).at (omega (arith, h 0)))
    (runs_on (λ (j : ℕ). g (suc j)) (g 0).at n (λ j. omega (arith, h 0, h (suc j))))

-- ---- WHICH SYMBOLS come out: those that waited, unless a gap drops them, and the slot's own but for the last five
pub metas_append : (xs ys : List AlignedSymbol) → metas_in (xs ++ ys) ≡ metas_in xs ++ metas_in ys
unfolding metas_in
metas_append [] ys = refl
metas_append (x ∷ xs) ys = ap (λ (l : List Meta). x.meta ∷ l) (metas_append xs ys)

given_by_lem : (a : Option AlignedSymbol) → metas_in (aligned_by a) ≡ given_by a
unfolding metas_in aligned_by given_by
given_by_lem None = refl
given_by_lem (Some a) = refl

given_all_lem : (b : Back) (cs : List Corrected) (f s : List ℤ) → metas_in (aligned_all b cs f s) ≡ given_all b cs f s
unfolding aligned_all given_all
given_all_lem b [] f s = unfold metas_in in refl
given_all_lem b (c ∷ cs) f s =
    let p = pushed_back b c f s in
    metas_append (aligned_by p.out) (aligned_all p.back cs f s) ∙ ap₂ (λ (k l : List Meta). k ++ l) (given_by_lem p.out) (given_all_lem p.back cs f s)

-- a gap before the first symbol has been seen to
joined_given : (b : Back) (c : Corrected) (cs : List Corrected) (f s : List ℤ) → given_all b (c ∷ cs) f s ≡ given_all (joined_to b c.at) (c ∷ cs) f s
unfolding given_all joined_to
joined_given b c cs f s =
    by_test (gap_at b.last c.at)
    (λ t. rw (if_yes _ (restarted_back b) b t, gap_theorem b c f s t))
    (λ t. rw (if_no _ (restarted_back b) b t))

pub joined_few : (b : Back) (at : ℕ) → b.metas.count ≤ 5 → (joined_to b at).metas.count ≤ 5
unfolding joined_to restarted_back started_back no_metas
joined_few b at h = if_both (λ (x : Back). x.metas.count ≤ 5) (gap_at b.last at) (restarted_back b) b (omega arith) h

pub joined_last : (b : Back) (at : ℕ) → gap_at (joined_to b at).last at ≡ false
unfolding joined_to restarted_back started_back
joined_last b at = if_either (λ (x : Back). gap_at x.last at ≡ false) (gap_at b.last at) (restarted_back b) b (λ t. unfold gap_at in refl) (λ t. t)

-- what stands in front
front : {A : Type 0} (xs ys ws zs : List A) (n : ℕ) → xs ++ ys ≡ ws ++ zs → length xs ≡ length ws + n → xs ≡ ws ++ take n zs
front xs ys ws zs n e l =
    sym (take-append_seam xs ys) ∙ ap (take (length xs)) e ∙ ap (λ (k : ℕ). take k (ws ++ zs)) l ∙ take-append-add ws zs n

pub metas_length : (xs : List AlignedSymbol) → length (metas_in xs) ≡ length xs
unfolding metas_in
metas_length [] = refl
metas_length (x ∷ xs) = ap suc (metas_length xs)

-- of n + 5 symbols with positions that count up
module _ (b : Back) (g : ℕ → Corrected) (f s : List ℤ) (h : b.metas.count ≤ 5) (up : (j : ℕ) → (g j).at ≡ (g 0).at + j) where
  abbrev from : Back
  from = joined_to b (g 0).at

  no_gaps : (n : ℕ) → unbroken from.last (firsts g (suc n)) ≡ true
  unfolding unbroken
  no_gaps n =
      rw (firsts_cons g n, joined_last b (g 0).at) (runs_on (λ (j : ℕ). g (suc j)) (g 0).at n (λ j. up (suc j)))

  given-joined : (n : ℕ) → metas_in (aligned_all b (firsts g (suc n)) f s) ≡ given_all from (firsts g (suc n)) f s
  given-joined n = given_all_lem b (firsts g (suc n)) f s ∙ rw (firsts_cons g n) (joined_given b (g 0) (firsts (λ (j : ℕ). g (suc j)) n) f s)

  given-are : (n m : ℕ) → suc m ≡ n + 5 → given_all from (firsts g (suc m)) f s ≡ waiting_of from.metas ++ firsts (λ (j : ℕ). meta_of (g j)) n
  given-are n m e =
      let cs = firsts g (suc m) in
      let ms = firsts (λ (j : ℕ). meta_of (g j)) (suc m) in
      let k = joined_few b (g 0).at h in
      let rest = (after_all from cs f s).metas in
      let out = given_all from cs f s in
      let w = waiting_theorem from cs f s k (no_gaps m) in
      let a : out ++ waiting_of rest ≡ waiting_of from.metas ++ ms = aligned_theorem from cs f s k (no_gaps m) ∙ ap (λ (l : List Meta). waiting_of from.metas ++ l) (metas_firsts g (suc m)) in
      let five : rest.count ≡ 5 = omega (arith, w, length-firsts g (suc m), e) in
      let l : length out ≡ length (waiting_of from.metas) + n =
      omega (
        arith,
        ap {B = ℕ} (λ (u : List Meta). length u) a,
        length-append out (waiting_of rest),
        length-append (waiting_of from.metas) ms,
        waiting_length rest (omega (arith, five)),
        length-firsts (λ (j : ℕ). meta_of (g j)) (suc m),
        five,
        e,
      ) in
      front out (waiting_of rest) (waiting_of from.metas) ms n a l ∙ ap (λ (u : List Meta). waiting_of from.metas ++ u) (take_firsts (λ (j : ℕ). meta_of (g j)) n (suc m) (omega (arith, e)))

  comes-out : (n : ℕ) → metas_in (aligned_all b (firsts g (n + 5)) f s) ≡ waiting_of from.metas ++ firsts (λ (j : ℕ). meta_of (g j)) n
  comes-out n =
      let e : suc (n + 4) ≡ n + 5 = omega arith in
      ap (λ (k : ℕ). metas_in (aligned_all b (firsts g k) f s)) (sym e) ∙ given-joined (n + 4) ∙ given-are n (n + 4) e

-- a slot's positions count up from its head's
comes_out-at : (b : Back) (w : WholeSlot) (table store f s : List ℤ) → b.metas.count ≤ 5 → (n : ℕ)
    → metas_in (aligned_all b (firsts (corrected_of w table store) (n + 5)) f s)
    ≡ waiting_of (joined_to b w.head.at).metas ++ firsts (λ (j : ℕ). meta_of (corrected_of w table store j)) n
unfolding corrected_of
comes_out-at b w table store f s h n =
    let g = corrected_of w table store in
    let e : w.head.at + 0 ≡ w.head.at = omega arith in
    comes-out b g f s h (λ j. omega arith) n ∙ ap (λ (at : ℕ). waiting_of (joined_to b at).metas ++ firsts (λ (j : ℕ). meta_of (g j)) n) e

pub aligned_are : (b : Back) (w : WholeSlot) (table store f s : List ℤ) → b.metas.count ≤ 5
    → metas_in (aligned_all b (corrected_all 9296 w table store) f s) ≡ comes_out 9291 b w table store
unfolding corrected_all comes_out
aligned_are b w table store f s h = comes_out-at b w table store f s h 9291

-- how many
pub aligned_count : (b : Back) (w : WholeSlot) (table store f s : List ℤ) → b.metas.count ≤ 5
    → length (aligned_all b (corrected_all 9296 w table store) f s) ≡ (joined_to b w.head.at).metas.count + 9291
unfolding comes_out
aligned_count b w table store f s h =
    let ws = waiting_of (joined_to b w.head.at).metas in
    let ms = firsts (λ (j : ℕ). meta_of (corrected_of w table store j)) 9291 in
    omega (
      arith,
      metas_length (aligned_all b (corrected_all 9296 w table store) f s),
      ap {B = ℕ} (λ (l : List Meta). length l) (aligned_are b w table store f s h),
      length-append ws ms,
      length-firsts (λ (j : ℕ). meta_of (corrected_of w table store j)) 9291,
      waiting_length (joined_to b w.head.at).metas (joined_few b w.head.at h),
    )

-- ---- AS WHICH RUNS they are told
waiting_first : (b : Back) (g : ℕ → Corrected) (n : ℕ) → waiting_before b (firsts g (suc n)) ≡ (joined_to b (g 0).at).metas.count
unfolding waiting_before
waiting_first b g n = rw (firsts_cons g n)

pub waiting_are : (b : Back) (w : WholeSlot) (table store : List ℤ) → waiting_before b (corrected_all 9296 w table store) ≡ (joined_to b w.head.at).metas.count
unfolding corrected_all corrected_of
waiting_are b w table store =
    let e : w.head.at + 0 ≡ w.head.at = omega arith in
    waiting_first b (corrected_of w table store) 9295 ∙ ap (λ (at : ℕ). (joined_to b at).metas.count) e

pub run_by_lem : (p : Points) (xs : List AlignedSymbol) → run_of p xs ≡ run_by p (metas_in xs)
unfolding run_of run_by metas_in
run_by_lem p [] = refl
run_by_lem p (x ∷ xs) = rw (metas_length xs)

pub run_count : (p : Points) (ms : List Meta) → (run_by p ms).count ≡ length ms
unfolding run_by no_run
run_count p [] = refl
run_count p (m ∷ ms) = refl

metas_take : (n : ℕ) (xs : List AlignedSymbol) → metas_in (take n xs) ≡ take n (metas_in xs)
unfolding metas_in
metas_take zero xs = refl
metas_take (suc n) [] = refl
metas_take (suc n) (x ∷ xs) = ap (λ (l : List Meta). x.meta ∷ l) (metas_take n xs)

metas_drop : (n : ℕ) (xs : List AlignedSymbol) → metas_in (drop n xs) ≡ drop n (metas_in xs)
unfolding metas_in
metas_drop zero xs = refl
metas_drop (suc n) [] = refl
metas_drop (suc n) (x ∷ xs) = metas_drop n xs

-- of a list in two parts
module _ (p : Points) (given : List AlignedSymbol) (ws ms : List Meta) (n : ℕ) (e : metas_in given ≡ ws ++ ms) (l : length ws ≡ n) where
  pub tail-by : (runs_of p n given).tail ≡ run_by p ws
  unfolding runs_of
  tail-by = run_by_lem p (take n given) ∙ ap (run_by p) (metas_take n given ∙ ap (take n) e ∙ take_at ws ms n l)

  pub body-by : (runs_of p n given).body ≡ run_by p ms
  unfolding runs_of
  body-by = run_by_lem p (drop n given) ∙ ap (run_by p) (metas_drop n given ∙ ap (drop n) e ∙ drop_at ws ms n l)

-- those that waited, by the oldest
tail_told : (p : Points) (w : Metas) → w.count ≤ 5 → tail_of p w ≡ run_by p (waiting_of w)
unfolding tail_of
tail_told p w h =
    let m : AlignedRun = record { at = w.first.at; j = w.first.j; count = w.count; bits = p.bits } in
    by_test (eqb w.count 0) (λ t. if_yes (eqb w.count 0) no_run m t ∙ sym (by-none (eqb-true w.count 0 t)))
    (λ t. if_no (eqb w.count 0) no_run m t ∙ sym (by-some (eqb-false w.count 0 t) w.count refl h))
  where
    by-none : w.count ≡ 0 → run_by p (waiting_of w) ≡ no_run
    by-none e = unfold run_by waiting_of in rw e

    by-some : (w.count ≡ 0 → ⊥) → (n : ℕ) → w.count ≡ n → w.count ≤ 5 → run_by p (waiting_of w) ≡ record { at = w.first.at; j = w.first.j; count = w.count; bits = p.bits }
    by-some h zero e l = absurd (h e)
    by-some h (suc n) e l =
        unfold run_by waiting_of points_for in
        rw e (ap (λ (k : ℕ). record { at = w.first.at; j = w.first.j; count = suc k; bits = p.bits }) (omega (arith, length-take n (w.second ∷ w.third ∷ w.fourth ∷ w.fifth ∷ []), e, l)))

-- those that waited, and the slot's own
module _ (p : Points) (b : Back) (w : WholeSlot) (table store f s : List ℤ) (h : b.metas.count ≤ 5) where
  abbrev cs : List Corrected
  cs = corrected_all 9296 w table store

  abbrev waited : List Meta
  waited = waiting_of (joined_to b w.head.at).metas

  waited-count : length waited ≡ waiting_before b cs
  waited-count = waiting_length (joined_to b w.head.at).metas (joined_few b w.head.at h) ∙ sym (waiting_are b w table store)

  pub tail-is : (runs_of p (waiting_before b cs) (aligned_all b cs f s)).tail ≡ run_by p waited
  unfolding comes_out
  tail-is = tail-by p (aligned_all b cs f s) waited _ (waiting_before b cs) (aligned_are b w table store f s h) waited-count

  pub body_is : (runs_of p (waiting_before b cs) (aligned_all b cs f s)).body ≡ run_by p (firsts (λ (j : ℕ). meta_of (corrected_of w table store j)) 9291)
  unfolding comes_out
  body_is = body-by p (aligned_all b cs f s) waited _ (waiting_before b cs) (aligned_are b w table store f s h) waited-count

  first-is : (n : ℕ) → run_by p (firsts (λ (j : ℕ). meta_of (corrected_of w table store j)) (suc n)) ≡ record { at = w.head.at; j = 0; count = suc n; bits = p.bits }
  unfolding run_by points_for meta_of corrected_of
  first-is n =
      let e : w.head.at + 0 ≡ w.head.at = omega arith in
      rw (firsts_cons (λ (j : ℕ). meta_of (corrected_of w table store j)) n, e, length-firsts (λ (j : ℕ). meta_of (corrected_of w table store (suc j))) n)

  pub runs-from : runs_of p (waiting_before b cs) (aligned_all b cs f s) ≡ runs_from p b w.head.at
  unfolding runs_from
  runs-from = rw (tail_told p (joined_to b w.head.at).metas (joined_few b w.head.at h), ← tail-is, ← (first-is 9290), ← body_is)
