-- Lines within a buffer: the rows' last two entries are zeros, so that what stands behind a line counts for nothing. Assumes nothing.
use Prim.Native.Nat.{ℕ, zero, suc, ◌+◌, ◌-◌, ◌*◌, ◌/◌, ◌%◌, ◌<◌, ◌≤◌}
use Rattle.eq_fir.proofs.Bytes.{Sum, more}
use Rattle.eq_fir.proofs.Filter.{ih_at, il_at, imag_even, imag_odd, padded-at, real_even, real_odd, rh_at, rl_at}
use Rattle.eq_fir.specs.Fir.{nth}
use Rattle.eq_fir.specs.Rows.{Bytes, Ends, byte_of, dot_to, dots_of, output_by, outputs_by, padded, rows_of}
use Rattle.laws.proofs.Lists.{firsts-step}
use Rattle.laws.specs.Choice.{if_no, if_yes}
use Rattle.laws.specs.Ranges.{firsts}
use borrow.Author.Tests.{eq-eqb, ne_eqb}
use lib.Dec.{eqb, lit<}
use lib.IntN.{*ℤ-zero, +ℤ_idr, ◌+ℤ◌, ◌*ℤ◌, neg_ℤ, pos, ℤ}
use lib.ListN.{get_or-eq_default, drop, length, set, take}
use lib.Seq.{get_or-drop, get_or-take}
use mathlib.Core.Bool.{Bool, false, true}
use mathlib.Core.List.{List, ◌++◌}
use mathlib.Core.Path.{◌∙◌, ◌≡◌, ap, refl, subst, sym}
use mir.Syntax.{w16, w32}
use mir.Val.{SFits, of_z, to_z}
use native.Mathlib.Omega.{arith}

-- number k of the line that begins at a place
pub window_at_lem : (l : List ℤ) (at k : ℕ) → k < 24 → nth (padded (drop at l)) k ≡ nth l (at + k)
window_at_lem l at k h = padded-at (drop at l) k h ∙ get_or-drop at l k (pos 0)

-- a turn, by a number that the line has at this place
pub more_by : {line rows : List ℤ} {b n : ℕ} {v : ℤ} (x : ℤ) (j : ℕ) (r : ℤ) → nth line n ≡ x → j ≡ b + n → Sum line rows b n v → n < 24 → Bytes rows → j < 96 → SFits w16 x → SFits w16 (nth rows j) →
    r ≡ v +ℤ to_z w16 (of_z w16 x) *ℤ to_z w16 (of_z w16 (nth rows j)) → Sum line rows b (n + 1) (to_z w32 (of_z w32 r))
more_by {line} {rows} {b} {n} {v} x j r g i s h u k f y e =
    more j r i s h u k (subst (SFits w16) (sym g) f) y (e ∙ ap (λ (z : ℤ). v +ℤ to_z w16 (of_z w16 z) *ℤ to_z w16 (of_z w16 (nth rows j))) (sym g))

-- ---- what the last two numbers are multiplied by
none : (high : Bool) → byte_of high (pos 0) ≡ pos 0
unfolding byte_of
none true = if_yes true _ _ refl
none false = if_no false _ _ refl

module _ (taps : List ℤ) (h : length taps ≡ 22) where
  past : (high : Bool) (k : ℕ) → 22 ≤ k → byte_of high (nth taps k) ≡ pos 0
  past high k g = ap (byte_of high) (get_or-eq_default taps (pos 0) (omega (arith, h, g))) ∙ none high

  pub rows_end : Ends (rows_of taps)
  rows_end =
      record {
        rh = (rh_at taps 22 (lit< tt) ∙ real_even taps true 22 (lit< tt) refl ∙ past true 22 (omega arith), rh_at taps 23 (lit< tt) ∙ real_odd taps true 23 (lit< tt) refl ∙ ap neg_ℤ (past true 23 (omega arith)));
        rl = (rl_at taps 22 (lit< tt) ∙ real_even taps false 22 (lit< tt) refl ∙ past false 22 (omega arith), rl_at taps 23 (lit< tt) ∙ real_odd taps false 23 (lit< tt) refl ∙ ap neg_ℤ (past false 23 (omega arith)));
        ih = (ih_at taps 22 (lit< tt) ∙ imag_even taps true 22 (lit< tt) refl ∙ past true 23 (omega arith), ih_at taps 23 (lit< tt) ∙ imag_odd taps true 23 (lit< tt) refl ∙ past true 22 (omega arith));
        il = (il_at taps 22 (lit< tt) ∙ imag_even taps false 22 (lit< tt) refl ∙ past false 23 (omega arith), il_at taps 23 (lit< tt) ∙ imag_odd taps false 23 (lit< tt) refl ∙ past false 22 (omega arith));
      }

-- ---- so the first 22 numbers are enough
dot_same : (xs ys rows : List ℤ) (b n : ℕ) → ((k : ℕ) → k < n → nth xs k ≡ nth ys k) → dot_to xs rows b n ≡ dot_to ys rows b n
unfolding dot_to
dot_same xs ys rows b zero h = refl
dot_same xs ys rows b (suc n) h = rw (dot_same xs ys rows b n (λ k l. h k (omega arith)), h n (omega arith))

dot_first : (xs rows : List ℤ) (b : ℕ) → nth rows (b + 22) ≡ pos 0 → nth rows (b + 23) ≡ pos 0 → dot_to xs rows b 24 ≡ dot_to xs rows b 22
unfolding dot_to
dot_first xs rows b u v =
    rw (u, v, *ℤ-zero (nth xs 22), *ℤ-zero (nth xs 23), +ℤ_idr (dot_to xs rows b 22), +ℤ_idr (dot_to xs rows b 22))

dot_short : (xs rows : List ℤ) (b : ℕ) → nth rows (b + 22) ≡ pos 0 → nth rows (b + 23) ≡ pos 0 → dot_to (padded xs) rows b 24 ≡ dot_to (padded (take 22 xs)) rows b 24
dot_short xs rows b u v =
    dot_first (padded xs) rows b u v
    ∙ dot_same (padded xs) (padded (take 22 xs)) rows b 22
    (λ k h. padded-at xs k (omega arith) ∙ sym (get_or-take 22 xs k (pos 0) h) ∙ sym (padded-at (take 22 xs) k (omega arith)))
    ∙ sym (dot_first (padded (take 22 xs)) rows b u v)

pub output_short : (rows xs : List ℤ) → Ends rows → output_by rows xs ≡ output_by rows (take 22 xs)
unfolding output_by dots_of
output_short rows xs e =
    rw (
      dot_short xs rows 0 e.rh.0 e.rh.1,
      dot_short xs rows 24 e.rl.0 e.rl.1,
      dot_short xs rows 48 e.ih.0 e.ih.1,
      dot_short xs rows 72 e.il.0 e.il.1,
    )

-- ---- the numbers of output k
pub outputs_i : (rows l : List ℤ) (end k : ℕ) → (output_by rows (drop (end - 2 * k) l)).i ≡ outputs_by rows l end (2 * k)
unfolding outputs_by
outputs_i rows l end k =
    let e : 2 * k / 2 ≡ k = omega arith in
    sym (if_yes (eqb (2 * k % 2) 0) _ _ (eq-eqb (2 * k % 2) 0 (omega arith)) ∙ ap (λ (m : ℕ). (output_by rows (drop (end - 2 * m) l)).i) e)

pub outputs_q : (rows l : List ℤ) (end k : ℕ) → (output_by rows (drop (end - 2 * k) l)).q ≡ outputs_by rows l end (2 * k + 1)
unfolding outputs_by
outputs_q rows l end k =
    let e : (2 * k + 1) / 2 ≡ k = omega arith in
    sym (if_no (eqb ((2 * k + 1) % 2) 0) _ _ (ne_eqb ((2 * k + 1) % 2) 0 (omega arith)) ∙ ap (λ (m : ℕ). (output_by rows (drop (end - 2 * m) l)).q) e)

-- a turn writes both
pub outputs_step : (f : ℕ → ℤ) (old : List ℤ) (k : ℕ) (i q : ℤ) → i ≡ f (2 * k) → q ≡ f (2 * k + 1) → 2 * k + 1 < length old →
    set (set (firsts f (2 * k) ++ drop (2 * k) old) (2 * k) i) (2 * k + 1) q ≡ firsts f (2 * (k + 1)) ++ drop (2 * (k + 1)) old
outputs_step f old k i q x y h =
    let e : 2 * k + 1 + 1 ≡ 2 * (k + 1) = omega arith in
    ap (λ (l : List ℤ). set l (2 * k + 1) q) (firsts-step f old (2 * k) i x (omega (arith, h)))
    ∙ firsts-step f old (2 * k + 1) q y h
    ∙ ap (λ (m : ℕ). firsts f m ++ drop m old) e
