-- Groups of a slot's symbols in one buffer: its pieces, and each symbol's line in it. Assumes nothing.
use Prim.Native.Nat.{ℕ, zero, suc, ◌+◌, ◌-◌, ◌*◌, ◌/◌, ◌%◌, ◌≤◌, ◌<◌}
use mathlib.Core.List.{List, [], ◌∷◌, ◌++◌, append_assoc, append-nil}
use mathlib.Core.Path.{◌≡◌, refl, ap, sym, ◌∙◌}
use native.Mathlib.Nat.{zero-add}
use native.Mathlib.Numerals.{add-one}
use native.Mathlib.Omega.{arith}
use lib.Dec.{eqb}
use lib.IntN.{ℤ, pos}
use lib.ListN.{length, take, drop, get_or, set, replicate, length-append, take-append-drop, drop_of_length-le}
use lib.Seq.{drop-append-add, drop_at, length-take-le, paste, paste-suc, set_at, take_all, take-suc}
use Rattle.laws.proofs.Lists.{firsts-ext, length-firsts}
use Rattle.laws.specs.Choice.{when◌then◌else◌}
use Rattle.laws.specs.Ranges.{firsts}
use Rattle.phase.specs.declared.Corrected.{Corrected}
use Rattle.phase.specs.declared.WholeSlot.{WholeSlot}
use Rattle.phase.specs.Phase.{corrected_of}
use Rattle.eq_fir.specs.Rows.{output_by, outputs_by}
use Rattle.receiver_slot.specs.Steps.{ahead_on, behind_of, out_on, outs_on, put_at}

-- ---- two numbers at the end of a front part
pub set_two : (l r : List ℤ) (m : ℕ) (i q : ℤ) → m + 2 ≤ length l → set (set (take (m + 2) l ++ r) m i) (m + 1) q ≡ take m l ++ (i ∷ q ∷ r)
set_two l r m i q h =
    let p = take m l in
    let x = get_or l m (pos 0) in
    let y = get_or l (suc m) (pos 0) in
    let n : length p ≡ m = length-take-le m l (omega (arith, h)) in
    let e : m + 2 ≡ suc (suc m) = omega arith in
    let g : take (m + 2) l ++ r ≡ p ++ (x ∷ y ∷ r) =
    rw (e, take-suc l (suc m) (pos 0) (omega (arith, h)), take-suc l m (pos 0) (omega (arith, h)))
    (append_assoc (p ++ (x ∷ [])) (y ∷ []) r ∙ append_assoc p (x ∷ []) (y ∷ r)) in
    ap (λ (z : List ℤ). set (set z m i) (m + 1) q) g
    ∙ ap (λ (z : List ℤ). set z (m + 1) q) (set_at p x (y ∷ r) i m n ∙ sym (append_assoc p (i ∷ []) (y ∷ r)))
    ∙ set_at (p ++ (i ∷ [])) y r q (m + 1) (omega (arith, n, length-append p (i ∷ [])))
    ∙ append_assoc p (i ∷ []) (q ∷ r)

-- a copy, one number further
pub copy_turn : (d l s : List ℤ) (at k : ℕ) (v : ℤ) → v ≡ get_or s k (pos 0) → at + k < length d → k < length s → l ≡ paste d at s k → set l (at + k) v ≡ paste d at s (k + 1)
copy_turn d l s at k v e h g f = rw (e, f, add-one k) (paste-suc d at s k (pos 0) h g)

-- a copied line behind its room
pub opened_is : (line l : List ℤ) → length line ≡ 22 → l ≡ paste (replicate 304 (pos 0)) 280 line 22 → l ≡ put_at 280 line (replicate 304 (pos 0))
unfolding put_at
opened_is line l h e =
    let z = replicate 304 (pos 0) in
    let n : 280 + length line ≡ 302 = omega (arith, h) in
    e ∙ rw (take_all 22 line (omega (arith, h)), n) (append_assoc (take 280 z) line (drop 302 z))

pub room_long : length (take 280 (replicate 304 (pos 0))) ≡ 280
room_long = refl

pub opened_behind : (line : List ℤ) → length line ≡ 22 → drop 280 (put_at 280 line (replicate 304 (pos 0))) ≡ behind_of line
unfolding put_at behind_of
opened_behind line h =
    let n : 280 + length line ≡ 302 = omega (arith, h) in
    rw n (drop_at (take 280 (replicate 304 (pos 0))) (line ++ drop 302 (replicate 304 (pos 0))) 280 room_long)

-- .. and copied back
pub closed_is : (old l line : List ℤ) (e : ℕ) → length old ≡ 22 → line ≡ paste old 0 (drop e l) 22 → line ≡ take 22 (drop e l)
closed_is old l line e h g = g ∙ rw (drop_of_length-le old {i = 22} (omega (arith, h))) (append-nil (take 22 (drop e l)))

-- ---- the symbols in front
module _ (w : WholeSlot) (table store : List ℤ) where
  pub ahead_none : (k : ℕ) (b : List ℤ) → ahead_on k 0 b w table store ≡ b
  unfolding ahead_on
  ahead_none k b = refl

  pub ahead-start : (l : List ℤ) (k : ℕ) → l ≡ take (280 - 2 * 0) l ++ ahead_on k 0 (drop 280 l) w table store
  unfolding ahead_on
  ahead-start l k = sym (take-append-drop 280 l)

  pub ahead-turn : (k t : ℕ) (old l : List ℤ) (c : Corrected) → length old ≡ 304 → t < 140 → c ≡ corrected_of w table store (29 + (k + t)) →
      l ≡ take (280 - 2 * t) old ++ ahead_on k t (drop 280 old) w table store →
      set (set l (278 - 2 * t) c.y.i) (279 - 2 * t) c.y.q ≡ take (280 - 2 * (t + 1)) old ++ ahead_on k (t + 1) (drop 280 old) w table store
  unfolding ahead_on
  ahead-turn k t old l c h g e f =
      let m = 278 - 2 * t in
      let x : 280 - 2 * t ≡ m + 2 = omega (arith, g) in
      let y : 279 - 2 * t ≡ m + 1 = omega (arith, g) in
      let z : 280 - 2 * (t + 1) ≡ m = omega (arith, g) in
      rw (f, x, y, z, add-one t, ← e) (set_two old (ahead_on k t (drop 280 old) w table store) m c.y.i c.y.q (omega (arith, h)))

  pub ahead-long : (k n : ℕ) (b : List ℤ) → length (ahead_on k n b w table store) ≡ 2 * n + length b
  unfolding ahead_on
  ahead-long k zero b = omega arith
  ahead-long k (suc n) b = omega (arith, ahead-long k n b)

  ahead-drop : (k s d : ℕ) (b : List ℤ) → drop (2 * d) (ahead_on k (d + s) b w table store) ≡ ahead_on k s b w table store
  unfolding ahead_on
  ahead-drop k s zero b = rw (zero-add s)
  ahead-drop k s (suc d) b =
      let e : 2 * suc d ≡ suc (suc (2 * d)) = omega arith in
      let f : suc d + s ≡ suc (d + s) = omega arith in
      rw (e, f) (ahead-drop k s d b)

  -- the line of symbol t, and the last one
  pub window : (k n t : ℕ) (p b : List ℤ) → length p ≡ 280 - 2 * n → n ≤ 140 → t < n → drop (278 - 2 * t) (p ++ ahead_on k n b w table store) ≡ ahead_on k (t + 1) b w table store
  window k n t p b h g l =
      let d = n - (t + 1) in
      let e : 278 - 2 * t ≡ length p + 2 * d = omega (arith, h, g, l) in
      let f : n ≡ d + (t + 1) = omega (arith, l) in
      let x = ahead_on k n b w table store in
      ap (λ (i : ℕ). drop i (p ++ x)) e ∙ drop-append-add p x (2 * d) ∙ ap (λ (i : ℕ). drop (2 * d) (ahead_on k i b w table store)) f ∙ ahead-drop k (t + 1) d b

  pub outs-are : (k n m : ℕ) (p rows line : List ℤ) → length p ≡ 280 - 2 * n → n ≤ 140 → m ≤ n →
      firsts (outputs_by rows (p ++ ahead_on k n (behind_of line) w table store) 278) (2 * m) ≡ outs_on k m rows line w table store
  unfolding outs_on out_on outputs_by
  outs-are k n m p rows line h g l =
      firsts-ext (outputs_by rows (p ++ ahead_on k n (behind_of line) w table store) 278) (out_on k rows line w table store) (2 * m)
      (λ j q. ap (λ (x : List ℤ). let z = output_by rows x in when eqb (j % 2) 0 then z.i else z.q) (window k n (j / 2) p (behind_of line) h g (omega (arith, q, l))))

-- ---- the buffer of a group: o is the line behind its room, l has the n symbols too
pub behind_long : (line : List ℤ) → length (behind_of line) ≡ length line + 2
unfolding behind_of
behind_long line = length-append line (pos 0 ∷ pos 0 ∷ [])

pub record Filled (k n : ℕ) (line o l : List ℤ) (w : WholeSlot) (table store : List ℤ) : Type 0 where
  pub few : n ≤ 140
  pub front : length (take (280 - 2 * n) o) ≡ 280 - 2 * n
  pub is : l ≡ take (280 - 2 * n) o ++ ahead_on k n (behind_of line) w table store
  pub long : length l ≡ 304

pub filled : (k n : ℕ) (line o l : List ℤ) (w : WholeSlot) (table store : List ℤ) → n ≤ 140 → length line ≡ 22 → o ≡ put_at 280 line (replicate 304 (pos 0)) → length o ≡ 304 →
    l ≡ take (280 - 2 * n) o ++ ahead_on k n (drop 280 o) w table store → Filled k n line o l w table store
filled k n line o l w table store g h e m f =
    let front : length (take (280 - 2 * n) o) ≡ 280 - 2 * n = length-take-le (280 - 2 * n) o (omega (arith, m)) in
    let is : l ≡ take (280 - 2 * n) o ++ ahead_on k n (behind_of line) w table store =
    f ∙ ap (λ (b : List ℤ). take (280 - 2 * n) o ++ ahead_on k n b w table store) (ap (λ (x : List ℤ). drop 280 x) e ∙ opened_behind line h) in
    record {
      few = g;
      front = front;
      is = is;
      long = ap {B = ℕ} (λ (x : List ℤ). length x) is
          ∙ omega (arith, g, front, length-append (take (280 - 2 * n) o) (ahead_on k n (behind_of line) w table store), ahead-long w table store k n (behind_of line), behind_long line, h);
    }

module _ {k n : ℕ} {line o l : List ℤ} {w : WholeSlot} {table store : List ℤ} (f : Filled k n line o l w table store) where
  -- the line behind the group
  pub last_line : take 22 (drop (280 - 2 * n) l) ≡ take 22 (ahead_on k n (behind_of line) w table store)
  last_line =
      ap (λ (x : List ℤ). take 22 (drop (280 - 2 * n) x)) f.is
      ∙ ap (λ (x : List ℤ). take 22 x) (drop_at (take (280 - 2 * n) o) (ahead_on k n (behind_of line) w table store) (280 - 2 * n) f.front)

  -- what the first m symbols give
  pub group-outs : (m : ℕ) (rows : List ℤ) → m ≤ n → firsts (outputs_by rows (take 304 l) 278) (2 * m) ≡ outs_on k m rows line w table store
  group-outs m rows g =
      ap (λ (x : List ℤ). firsts (outputs_by rows x 278) (2 * m)) (take_all 304 l (omega (arith, f.long)) ∙ f.is)
      ∙ outs-are w table store k n m (take (280 - 2 * n) o) rows line f.front f.few g

pub outs_long : (k m : ℕ) (rows line : List ℤ) (w : WholeSlot) (table store : List ℤ) → length (outs_on k m rows line w table store) ≡ 2 * m
unfolding outs_on
outs_long k m rows line w table store = length-firsts (out_on k rows line w table store) (2 * m)
