-- The alignment after n symbols of a slot, one step at a time. Assumes nothing.
use Rattle.std.specs.Prelude.{Some}
use Prim.Native.Nat.{ℕ, zero, suc, ◌+◌, ◌-◌, ◌≤◌, ◌<◌}
use mathlib.Core.Bool.{Bool, true, false, ◌||◌}
use mathlib.Core.List.{List, [], ◌∷◌, ◌++◌, append_assoc, append-nil}
use mathlib.Core.Path.{◌≡◌, refl, sym, ap, subst, ◌∙◌}
use native.Mathlib.Nat.{add-zero}
use native.Mathlib.Numerals.{add-one}
use native.Mathlib.Omega.{arith}
use lib.IntN.{ℤ}
use lib.ListN.{length, take, drop, length-append, length-take, length-drop, take-append-drop}
use lib.Seq.{take_at, drop-append-add, drop-drop}
use Rattle.laws.specs.Ranges.{firsts}
use Rattle.laws.proofs.Tests.{if_both, neither}
use Rattle.phase.specs.declared.Corrected.{Corrected}
use Rattle.phase.specs.declared.WholeSlot.{WholeSlot}
use Rattle.phase.specs.Phase.{corrected_of}
use Rattle.frame_map.specs.Map.{part_of}
use Rattle.frame.specs.declared.Back.{Back}
use Rattle.frame.specs.declared.AlignedSymbol.{AlignedSymbol}
use Rattle.frame.specs.declared.Pushed.{Pushed}
use Rattle.frame.specs.Align.{joined_to, taken_by, pushed_back}
use Rattle.frame.specs.Answers.{full_back}
use Rattle.frame.specs.Stretch.{after_all}
use Rattle.receiver_slot.specs.declared.Points.{Points}
use Rattle.receiver_slot.specs.Slot.{aligned_all, aligned_by, corrected_all, overfull, points_for, soft_all, soft_of, written_on}
use Rattle.receiver_slot.specs.Steps.{back_at, pushed_at, put_at, soft_to}

-- ---- one symbol behind others
pub after_snoc : (b : Back) (xs : List Corrected) (c : Corrected) (f s : List ℤ) → after_all b (xs ++ (c ∷ [])) f s ≡ (pushed_back (after_all b xs f s) c f s).back
unfolding after_all
after_snoc b [] c f s = refl
after_snoc b (x ∷ xs) c f s = after_snoc (pushed_back b x f s).back xs c f s

pub aligned_snoc : (b : Back) (xs : List Corrected) (c : Corrected) (f s : List ℤ) →
    aligned_all b (xs ++ (c ∷ [])) f s ≡ aligned_all b xs f s ++ aligned_by (pushed_back (after_all b xs f s) c f s).out
unfolding aligned_all after_all
aligned_snoc b [] c f s = append-nil (aligned_by (pushed_back b c f s).out)
aligned_snoc b (x ∷ xs) c f s =
    let p = pushed_back b x f s in
    ap (λ (l : List AlignedSymbol). aligned_by p.out ++ l) (aligned_snoc p.back xs c f s)
    ∙ sym (append_assoc (aligned_by p.out) (aligned_all p.back xs f s) (aligned_by (pushed_back (after_all p.back xs f s) c f s).out))

pub or_false : (t : Bool) → (t || false) ≡ t
or_false true = refl
or_false false = refl

or_assoc : (a b c : Bool) → (a || (b || c)) ≡ ((a || b) || c)
or_assoc true b c = refl
or_assoc false b c = refl

pub over_snoc : (b : Back) (xs : List Corrected) (c : Corrected) (f s : List ℤ) →
    overfull b (xs ++ (c ∷ [])) f s ≡ (overfull b xs f s || full_back (joined_to (after_all b xs f s) c.at))
unfolding overfull after_all
over_snoc b [] c f s = or_false (full_back (joined_to b c.at))
over_snoc b (x ∷ xs) c f s =
    let p = (pushed_back b x f s).back in
    ap (λ (t : Bool). full_back (joined_to b x.at) || t) (over_snoc p xs c f s)
    ∙ or_assoc (full_back (joined_to b x.at)) (overfull p xs f s) (full_back (joined_to (after_all p xs f s) c.at))

pub soft_append : (p : Points) (xs ys : List AlignedSymbol) → soft_all p (xs ++ ys) ≡ soft_all p xs ++ soft_all p ys
unfolding soft_all
soft_append p [] ys = refl
soft_append p (x ∷ xs) ys =
    ap (λ (l : List ℤ). soft_of (part_of x.meta.j) (points_for p x.meta) x.z ++ l) (soft_append p xs ys)
    ∙ sym (append_assoc (soft_of (part_of x.meta.j) (points_for p x.meta) x.z) (soft_all p xs) (soft_all p ys))

-- the values of one that comes out
pub soft_given : (p : Points) (a : AlignedSymbol) → soft_all p (aligned_by (Some a)) ≡ soft_of (part_of a.meta.j) p a.z
unfolding soft_all aligned_by points_for
soft_given p a = append-nil (soft_of (part_of a.meta.j) p a.z)

-- a symbol's position is the last, gap or none
pub pushed_last : (b : Back) (c : Corrected) (f s : List ℤ) → (pushed_back b c f s).back.last ≡ Some c.at
unfolding pushed_back taken_by
pushed_last b c f s = if_both (λ (x : Pushed). x.back.last ≡ Some c.at) _ _ _ refl refl

-- ---- after n symbols
module _ (b : Back) (w : WholeSlot) (table store f s : List ℤ) where
  abbrev over : ℕ → Bool
  over n = overfull b (corrected_all n w table store) f s

  pub back_none : back_at 0 b w table store f s ≡ b
  unfolding back_at corrected_all firsts after_all
  back_none = refl

  pub back_step : (n : ℕ) → back_at (suc n) b w table store f s ≡ (pushed_at n b w table store f s).back
  unfolding back_at pushed_at corrected_all firsts
  back_step n = after_snoc b (firsts (corrected_of w table store) n) (corrected_of w table store n) f s

  pub over_none : over 0 ≡ false
  unfolding corrected_all firsts overfull
  over_none = refl

  pub over-step : (n : ℕ) → over (suc n) ≡ (over n || full_back (joined_to (back_at n b w table store f s) (corrected_of w table store n).at))
  unfolding back_at corrected_all firsts
  over-step n = over_snoc b (firsts (corrected_of w table store) n) (corrected_of w table store n) f s

  -- no symbol before has found the sums full
  not-over : (k n m : ℕ) → k + n ≡ m → over m ≡ false → over n ≡ false
  not-over zero n m e h = subst (λ (i : ℕ). over i ≡ false) (omega (arith, e)) h
  not-over (suc k) n m e h =
      not-over k n (k + n) refl (neither (over (k + n)) _ (sym (over-step (k + n)) ∙ subst (λ (i : ℕ). over i ≡ false) (omega (arith, e)) h)).0

  pub room_at : over 9296 ≡ false → (n : ℕ) → n < 9296 → full_back (joined_to (back_at n b w table store f s) (corrected_of w table store n).at) ≡ false
  room_at h n l =
      let g = not-over (9295 - n) (suc n) 9296 (omega (arith, l)) h in
      (neither (over n) _ (sym (over-step n) ∙ g)).1

  module _ (p : Points) where
    pub soft-none : soft_to 0 p b w table store f s ≡ []
    unfolding soft_to corrected_all firsts aligned_all soft_all
    soft-none = refl

    pub soft-step : (n : ℕ) → soft_to (suc n) p b w table store f s ≡ soft_to n p b w table store f s ++ soft_all p (aligned_by (pushed_at n b w table store f s).out)
    unfolding soft_to pushed_at back_at corrected_all firsts
    soft-step n =
        ap (soft_all p) (aligned_snoc b (firsts (corrected_of w table store) n) (corrected_of w table store n) f s)
        ∙ soft_append p (aligned_all b (firsts (corrected_of w table store) n) f s) _

    soft-grows : (k n m : ℕ) → k + n ≡ m → length (soft_to n p b w table store f s) ≤ length (soft_to m p b w table store f s)
    soft-grows zero n m e = subst (λ (i : ℕ). length (soft_to n p b w table store f s) ≤ length (soft_to i p b w table store f s)) {x = n} (omega (arith, e)) (omega arith)
    soft-grows (suc k) n m e =
        subst (λ (i : ℕ). length (soft_to n p b w table store f s) ≤ length (soft_to i p b w table store f s)) {x = suc (k + n)} (omega (arith, e))
        (omega (
          arith,
          soft-grows k n (k + n) refl,
          ap {B = ℕ} (λ (l : List ℤ). length l) (soft-step (k + n)),
          length-append (soft_to (k + n) p b w table store f s) (soft_all p (aligned_by (pushed_at (k + n) b w table store f s).out)),
        ))

    -- the values of the first n, where all have their place
    pub soft-room : (m : ℕ) → length (soft_to 9296 p b w table store f s) ≤ m → (n : ℕ) → n ≤ 9296 → length (soft_to n p b w table store f s) ≤ m
    soft-room m h n l = omega (arith, h, soft-grows (9296 - n) n 9296 (omega (arith, l)))

    pub soft-next : (m : ℕ) → length (soft_to 9296 p b w table store f s) ≤ m → (n : ℕ) → n < 9296 →
        length (soft_to n p b w table store f s) + length (soft_all p (aligned_by (pushed_at n b w table store f s).out)) ≤ m
    soft-next m h n l =
        omega (
          arith,
          soft-room m h (suc n) l,
          ap {B = ℕ} (λ (k : List ℤ). length k) (soft-step n),
          length-append (soft_to n p b w table store f s) (soft_all p (aligned_by (pushed_at n b w table store f s).out)),
        )

-- ---- the buffer
pub put_none : (o : ℕ) (l : List ℤ) → put_at o [] l ≡ l
unfolding put_at
put_none o l = rw (add-zero o) (take-append-drop o l)

pub put_length : (o : ℕ) (xs l : List ℤ) → o + length xs ≤ length l → length (put_at o xs l) ≡ length l
unfolding put_at
put_length o xs l h =
    omega (
      arith,
      h,
      length-append (take o l) (xs ++ drop (o + length xs) l),
      length-append xs (drop (o + length xs) l),
      length-take o l,
      length-drop (o + length xs) l,
    )

pub written_length : (xs l : List ℤ) → length xs ≤ length l → length (written_on xs l) ≡ length l
unfolding written_on
written_length xs l h = omega (arith, h, length-append xs (drop (length xs) l), length-drop (length xs) l)

pub written_none : (l : List ℤ) → written_on [] l ≡ l
unfolding written_on
written_none l = refl

-- values behind those that are there
pub written_more : (xs ys l : List ℤ) → put_at (length xs) ys (written_on xs l) ≡ written_on (xs ++ ys) l
unfolding put_at written_on
written_more xs ys l =
    let d = drop (length xs) l in
    let e : drop (length xs + length ys) (xs ++ d) ≡ drop (length ys) d = drop-append-add xs d (length ys) in
    rw (take_at xs d (length xs) refl, e, drop-drop (length ys) (length xs) l, length-append xs ys) (sym (append_assoc xs ys (drop (length xs + length ys) l)))

-- values behind those that were put
pub put_more : (o : ℕ) (xs ys l : List ℤ) → o ≤ length l → put_at (o + length xs) ys (put_at o xs l) ≡ put_at o (xs ++ ys) l
unfolding put_at
put_more o xs ys l h =
    let d = drop (o + length xs) l in
    let a = take o l ++ xs in
    let e : length a ≡ o + length xs = omega (arith, h, length-append (take o l) xs, length-take o l) in
    let g : drop (o + length xs + length ys) (a ++ d) ≡ drop (length ys) d =
    ap (λ (n : ℕ). drop (n + length ys) (a ++ d)) (sym e) ∙ drop-append-add a d (length ys) in
    let n : o + length xs + length ys ≡ o + length (xs ++ ys) = omega (arith, length-append xs ys) in
    rw (← (append_assoc (take o l) xs d), take_at a d (o + length xs) e, g, drop-drop (length ys) (o + length xs) l, n)
    (append_assoc (take o l) xs (ys ++ drop (o + length (xs ++ ys)) l) ∙ ap (λ (x : List ℤ). take o l ++ x) (sym (append_assoc xs ys (drop (o + length (xs ++ ys)) l))))

-- ---- a turn: q is what a symbol makes of the back, its values go to place o
module _ (b : Back) (w : WholeSlot) (table store f s : List ℤ) where
  pub turn-pushed : (n : ℕ) (x : Back) (q : Pushed) → x ≡ back_at n b w table store f s → q ≡ pushed_back x (corrected_of w table store n) f s →
      q ≡ pushed_at n b w table store f s
  unfolding pushed_at
  turn-pushed n x q e h = rw (← e) h

  pub turn-back : (n : ℕ) (q : Pushed) → q ≡ pushed_at n b w table store f s → q.back ≡ back_at (n + 1) b w table store f s
  turn-back n q e = rw (e, add-one n, back_step b w table store f s n)

  pub turn-place : (p : Points) (n : ℕ) (q : Pushed) (o : ℕ) → q ≡ pushed_at n b w table store f s → o ≡ length (soft_to n p b w table store f s) →
      o + length (soft_all p (aligned_by q.out)) ≡ length (soft_to (n + 1) p b w table store f s)
  turn-place p n q o e h =
      rw (e, h, add-one n, soft-step b w table store f s p n)
      (sym (length-append (soft_to n p b w table store f s) (soft_all p (aligned_by (pushed_at n b w table store f s).out))))

  pub turn-soft : (p : Points) (n : ℕ) (q : Pushed) (o : ℕ) (soft old : List ℤ) → q ≡ pushed_at n b w table store f s → o ≡ length (soft_to n p b w table store f s) →
      soft ≡ written_on (soft_to n p b w table store f s) old →
      put_at o (soft_all p (aligned_by q.out)) soft ≡ written_on (soft_to (n + 1) p b w table store f s) old
  turn-soft p n q o soft old e h k =
      rw (e, h, k, add-one n, soft-step b w table store f s p n)
      (written_more (soft_to n p b w table store f s) (soft_all p (aligned_by (pushed_at n b w table store f s).out)) old)
