-- Laws of text in a buffer, and of numbers as text. Assumes nothing.
use mathlib.Core.Bool.{Bool, true, false}
use Rattle.std.specs.Int.{from_bool}
use mathlib.Core.List.{List, [], ◌∷◌, ◌++◌, append_assoc}
use mathlib.Core.Path.{◌≡◌, refl, sym, ap, ap₂, ◌∙◌}
use Prim.Native.Nat.{ℕ, suc, ◌+◌, ◌-◌, ◌≤◌, ◌<◌}
use native.Mathlib.Nat.{add-zero}
use native.Mathlib.Omega.{arith}
use native.Mathlib.Numerals.{add-one}
use borrow.Author.Tests.{eq-eqb, lt-ltb, le-ltb, le-leb, lt-leb, ltb-true, leb-true, leb-false}
use lib.Dec.{eqb, leb}
use lib.IntN.{ℤ, pos, negsuc, nat_abs}
use lib.ListN.{length, get_or, take, drop, set, length-append}
use lib.Signed.{lt_z}
use borrow.Author.Rules.{rules}
use Rattle.std.specs.Prelude.{Result, Ok, Err, ⊤}
use lib.Seq.{paste, paste-zero, take-length, length-take-le, length-paste, take_at, drop_at, drop-drop, set_split, append_snoc}
use Rattle.laws.proofs.Tests.{by_test, never}
use Rattle.laws.specs.Choice.{if_yes, if_no}
use Rattle.lines.specs.Decimal.{decimal_of, signed_of}
use Rattle.refusal.specs.declared.Refusal.{Refusal}
use Rattle.refusal.specs.declared.Refusal.TheVariants.{Stores, Points}
use Rattle.lines.specs.Place.{written, Wrote, room_refusal, printed_at, printed_into}
use Rattle.lines.specs.Lines.{bit, value_text, values_to, soft_refusal}

-- ---- text
pasted : (o : List ℕ) (at : ℕ) (t : List ℕ) → written o at t ≡ paste o at t (length t)
unfolding written
pasted o at t = ap (λ (u : List ℕ). take at o ++ u ++ drop (at + length t) o) (sym (take-length t))

pub length_written : (o : List ℕ) (at : ℕ) (t : List ℕ) → at + length t ≤ length o → length (written o at t) ≡ length o
length_written o at t h = rw (pasted o at t) (length-paste o at t (length t) h (omega arith))

-- what a copy of all of t left
pub copied : (o : List ℕ) (at : ℕ) (t l : List ℕ) (r : ℕ) → at + length t ≤ length o → l ≡ paste o at t (length t) → r ≡ at + length t → Wrote o at t l r
copied o at t l r h e b =
    let w : l ≡ written o at t = e ∙ sym (pasted o at t) in record { fits = h; is = w; behind = b; long = ap length w ∙ length_written o at t h }

-- a text and the next behind it
joined : (o : List ℕ) (at : ℕ) (t u : List ℕ) → at + length t + length u ≤ length o → written (written o at t) (at + length t) u ≡ written o at (t ++ u)
unfolding written
joined o at t u h =
    let p : List ℕ = take at o ++ t in
    let n : length p ≡ at + length t = length-append (take at o) t ∙ ap (λ (k : ℕ). k + length t) (length-take-le at o (omega arith)) in
    let q : List ℕ = p ++ drop (at + length t) o in
    let front : take (at + length t) q ≡ p = take_at p (drop (at + length t) o) (at + length t) n in
    let back : drop (at + length t + length u) q ≡ drop (at + length t + length u) o =
    sym (drop-drop (length u) (at + length t) q) ∙ ap (λ (l : List ℕ). drop (length u) l) (drop_at p (drop (at + length t) o) (at + length t) n) ∙ drop-drop (length u) (at + length t) o in
    let e : at + length t + length u ≡ at + length (t ++ u) = omega (arith, length-append t u) in
    ap₂ (λ (x y : List ℕ). x ++ u ++ y) front (back ∙ ap (λ (k : ℕ). drop k o) e)
    ∙ ap (λ (l : List ℕ). l ++ drop (at + length (t ++ u)) o) (append_assoc (take at o) t u)

pub then : {o m l : List ℕ} {at a b : ℕ} {t u : List ℕ} → Wrote o at t m a → Wrote m a u l b → Wrote o at (t ++ u) l b
then {o} {m} {l} {at} {a} {b} {t} {u} v w =
    let h : at + length t + length u ≤ length o = omega (arith, v.behind, v.long, w.fits) in
    record {
      fits = omega (arith, length-append t u);
      is = w.is ∙ ap₂ (λ (x : List ℕ) (y : ℕ). written x y u) v.is v.behind ∙ joined o at t u h;
      behind = omega (arith, length-append t u, v.behind, w.behind);
      long = w.long ∙ v.long;
    }

-- a single byte
pub one_written : (o : List ℕ) (at b : ℕ) → at < length o → set o at b ≡ written o at (b ∷ [])
unfolding written
one_written o at b h =
    set_split o at b h ∙ sym (append_snoc (take at o) b (drop (suc at) o)) ∙ ap (λ (k : ℕ). take at o ++ (b ∷ []) ++ drop k o) (sym (add-one at))

-- ---- lines
pub nothing : (o : List ℕ) (at : ℕ) → at ≤ length o → Wrote o at [] o at
nothing o at h = copied o at [] o at (omega arith) (paste-zero o at []) (sym (add-zero at))

-- a text was written, and no refusal was due
pub was_printed : (o : List ℕ) (at : ℕ) (t l : List ℕ) (r : ℕ) (n : Result ⊤ Refusal) → n ≡ Ok Prim.tt → Wrote o at t l r →
    (◌≡◌ {A = Result ℕ Refusal} (Ok r) (printed_at n t at)) × (l ≡ printed_into n t at o)
was_printed o at t l r n e w = rw e (ap (λ (p : ℕ). Ok p) w.behind, w.is)

-- nothing was written, and this refusal was due
pub was_refused : (o : List ℕ) (at : ℕ) (t : List ℕ) (n : Result ⊤ Refusal) (k : Refusal) → n ≡ Err k →
    (◌≡◌ {A = Result ℕ Refusal} (Err k) (printed_at n t at)) × (o ≡ printed_into n t at o)
was_refused o at t n k e = rw e (refl, refl)

pub ok_same : {T E : Type 0} {t u : T} → (◌≡◌ {A = Result T E} (Ok t) (Ok u)) → t ≡ u
ok_same h = search rules

pub room_yes : (at n : ℕ) → at + 256 ≤ n → room_refusal at n ≡ Ok Prim.tt
unfolding room_refusal
room_yes at n h = if_yes _ _ _ (le-leb (at + 256) n h)

ok_err : {T E : Type 0} {t : T} {e : E} → (◌≡◌ {A = Result T E} (Ok t) (Err e)) → ⊥
ok_err h = search rules

-- a test that lets a text through found room
pub room_ok : (at n : ℕ) (u : Unit {0}) → Ok u ≡ room_refusal at n → at + 256 ≤ n
unfolding room_refusal
room_ok at n u e =
    by_test (leb (at + 256) n)
    (λ t. leb-true (at + 256) n t)
    (λ t. absurd (ok_err (e ∙ if_no _ _ _ t)))

-- soft lines are refused for want of room as all lines are
pub soft_room : (k at n : ℕ) (why : Refusal) → Err why ≡ room_refusal at n → soft_refusal k at n ≡ Err why
unfolding room_refusal soft_refusal
soft_room k at n why e =
    by_test (leb (at + 256) n)
    (λ t. absurd (ok_err (sym (if_yes _ _ _ t) ∙ sym e)))
    (λ t. if_no _ _ _ t ∙ sym (if_no _ _ _ t) ∙ sym e)

pub soft_yes : (k at n : ℕ) → at + 256 ≤ n → k ≤ 5 → soft_refusal k at n ≡ Ok Prim.tt
unfolding soft_refusal
soft_yes k at n e h = if_yes _ _ _ (le-leb (at + 256) n e) ∙ if_no _ _ _ (le-ltb 5 k h)

pub soft_many : (k at n : ℕ) → at + 256 ≤ n → 5 < k → soft_refusal k at n ≡ Err Points
unfolding soft_refusal
soft_many k at n e h = if_yes _ _ _ (le-leb (at + 256) n e) ∙ if_yes _ _ _ (lt-ltb 5 k h)

-- ---- values
pub value_neg : (v : ℤ) → lt_z v (pos 0) ≡ true → value_text v ≡ ((32 ∷ []) ++ (45 ∷ [])) ++ decimal_of (nat_abs v)
unfolding value_text signed_of
value_neg (pos n) t = absurd (omega (arith, ltb-true n 0 t))
value_neg (negsuc n) t = refl

pub value_pos : (v : ℤ) → lt_z v (pos 0) ≡ false → value_text v ≡ (32 ∷ []) ++ decimal_of (nat_abs v)
unfolding value_text signed_of
value_pos (pos n) t = refl
value_pos (negsuc n) t = absurd (never t)

pub values_none : (vs : List ℤ) → values_to vs 0 ≡ []
unfolding values_to
values_none vs = refl

pub values_more : (vs : List ℤ) (n : ℕ) → values_to vs n ++ value_text (get_or vs n (pos 0)) ≡ values_to vs (n + 1)
unfolding values_to
values_more vs n = rw (add-one n)

-- room by a difference
pub room_by : (at n : ℕ) → 256 ≤ n → leb at (n - 256) ≡ leb (at + 256) n
room_by at n h =
    by_test (leb at (n - 256))
    (λ t. let e = leb-true at (n - 256) t in t ∙ sym (le-leb (at + 256) n (omega arith)))
    (λ t. let e = leb-false at (n - 256) t in t ∙ sym (lt-leb (at + 256) n (omega arith)))

-- LOCKED as a number
pub bit_is : (b : Bool) → from_bool b ≡ bit b
unfolding bit
bit_is true = refl
bit_is false = refl
