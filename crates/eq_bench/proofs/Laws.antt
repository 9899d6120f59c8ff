-- One more symbol of a block, one more training. Assumes nothing.
use mathlib.Core.Bool.{true}
use mathlib.Core.List.{List, [], ◌∷◌}
use Rattle.laws.proofs.Tests.{and_both}
use mathlib.Core.Path.{◌≡◌, refl, sym, ap, subst, ◌∙◌}
use Prim.Native.Nat.{ℕ, zero, suc, ◌+◌, ◌*◌, ◌<◌}
use native.Mathlib.Numerals.{add-one}
use native.Mathlib.Nat.{not-suc-le-zero}
use native.Mathlib.Omega.{arith}
use borrow.Author.Tests.{leb-true}
use lib.IntN.{ℤ, pos, nat_abs}
use lib.ListN.{length, get_or, set, length-take, get_or-replicate}
use lib.Seq.{get_or-take}
use Rattle.angles.specs.declared.Symbol.{Symbol}
use Rattle.eq_fir.specs.Fir.{line_after, no_line}
use Rattle.eq_fir.specs.Rows.{output_by, Bytes}
use mir.Syntax.{w16}
use mir.Val.{SFits}
use Rattle.eq_train.proofs.Theorems.{in_range_ok, sound_in_range, empty_sound, train_sound}
use Rattle.eq_train.specs.Ranges.{SumsOk}
use Rattle.eq_train.specs.Sound.{SumsSound}
use Rattle.eq_train.specs.Train.{nth, trained_sums}
use Rattle.sums.specs.Sums.{empty_sums}
use Rattle.sums.specs.declared.Sums.{Sums}
use Rattle.eq_bench.specs.Blocks.{Filtered, filtered, filtered_one, filtered_by, in_byte, in_bytes, trained_along, line_by, Short}

pub filter_more : (rows ys : List ℤ) (k : ℕ) (t₀ t : Filtered) (l : List ℤ) (z : Symbol) → t ≡ filtered_by rows ys k t₀ →
    l ≡ line_after t.line (get_or ys (2 * k) (pos 0)) (get_or ys (2 * k + 1) (pos 0)) →
    z ≡ output_by rows l →
    filtered l (set (set t.out (2 * k) z.i) (2 * k + 1) z.q) ≡ filtered_by rows ys (k + 1) t₀
unfolding filtered_by filtered_one
filter_more rows ys k t₀ t l z et el ez = rw (add-one k, ← et, ez, el)

pub line_long : (line : List ℤ) (i q : ℤ) → length line ≡ 22 → length (line_after line i q) ≡ 22
unfolding line_after
line_long line i q h = omega (arith, h, length-take 20 line)

-- ---- a line of 16-bit numbers
pub no_line_lem : Short no_line
unfolding no_line
no_line_lem = record { long = refl; fits = λ k h. rw (get_or-replicate 22 k (pos 0) (pos 0) h) (record { sfits = omega arith }) }

pub line_short : (line : List ℤ) (i q : ℤ) → Short line → SFits w16 i → SFits w16 q → Short (line_after line i q)
unfolding line_after
line_short line i q s hi hq = record { long = line_long line i q s.long; fits = go }
  where
    go : (k : ℕ) → k < 22 → SFits w16 (nth (line_after line i q) k)
    go zero h = hi
    go (suc zero) h = hq
    go (suc (suc k)) h = rw (get_or-take 20 line k (pos 0) (omega arith)) (s.fits k (omega arith))

pub line_more : (ys : List ℤ) (k : ℕ) (l m : List ℤ) → l ≡ line_by ys k → m ≡ line_after l (get_or ys (2 * k) (pos 0)) (get_or ys (2 * k + 1) (pos 0)) → m ≡ line_by ys (k + 1)
unfolding line_by
line_more ys k l m el em = rw (add-one k, ← el) em

-- ---- trainings
pub record Trained (ys : List ℤ) (di dq : ℤ) (k : ℕ) (line : List ℤ) (s : Sums) : Type 0 where
  pub at : line ≡ line_by ys k
  pub short : Short line
  pub is : s ≡ trained_along ys di dq k
  pub sound : SumsSound s
  pub count : s.count ≡ k

pub none_trained : (ys : List ℤ) (di dq : ℤ) (s : Sums) → s ≡ empty_sums 0 → Trained ys di dq 0 no_line s
unfolding trained_along line_by empty_sums
none_trained ys di dq s e = record { at = refl; short = no_line_lem; is = e; sound = subst SumsSound (sym e) (empty_sound 0); count = ap (λ (x : Sums). x.count) e }

pub train_more : (ys : List ℤ) (di dq : ℤ) (k : ℕ) (l m : List ℤ) (s r : Sums) → SFits w16 (get_or ys (2 * k) (pos 0)) → SFits w16 (get_or ys (2 * k + 1) (pos 0)) → SFits w16 di →
    SFits w16 dq →
    k < 4194304 →
    Trained ys di dq k l s →
    m ≡ line_after l (get_or ys (2 * k) (pos 0)) (get_or ys (2 * k + 1) (pos 0)) →
    r ≡ trained_sums s m di dq →
    Trained ys di dq (k + 1) m r
unfolding trained_along trained_sums
train_more ys di dq k l m s r hx hy hi hq lt t em er =
    let a = line_more ys k l m t.at em in
    let h = subst Short (sym em) (line_short l _ _ t.short hx hy) in
    record {
      at = a;
      short = h;
      is = er ∙ along a;
      sound = subst SumsSound (sym er) (train_sound s m di dq t.sound h.fits hi hq (omega (arith, t.count, lt)));
      count = ap (λ (x : Sums). x.count) er ∙ omega (arith, t.count);
    }
  where
    along : m ≡ line_by ys (k + 1) → trained_sums s m di dq ≡ trained_along ys di dq (k + 1)
    along a = rw (a, t.is, add-one k)

pub trainable : (ys : List ℤ) (di dq : ℤ) (k : ℕ) (line : List ℤ) (s : Sums) → k < 4194304 → Trained ys di dq k line s → SumsOk s
trainable ys di dq k line s l t = in_range_ok s (sound_in_range s t.sound) (omega (arith, t.count, l))

-- ---- rows that are bytes
below_in : (rows : List ℤ) → in_bytes rows ≡ true → (j : ℕ) → j < length rows → in_byte (nth rows j) ≡ true
below_in [] h j l = absurd (not-suc-le-zero l)
below_in (v ∷ rows) h zero l = (and_both (in_byte v) (in_bytes rows) h).0
below_in (v ∷ rows) h (suc j) l = below_in rows (and_both (in_byte v) (in_bytes rows) h).1 j (omega arith)

pub rows_bytes : (rows : List ℤ) → length rows ≡ 96 → in_bytes rows ≡ true → Bytes rows
unfolding in_byte
rows_bytes rows e h = record { small = λ j l. leb-true (nat_abs (nth rows j)) 255 (below_in rows h j (omega arith)) }
