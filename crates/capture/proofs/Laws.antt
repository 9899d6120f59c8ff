-- Laws of the definitions of capture. Assumes nothing.
use mathlib.Core.Bool.{Bool, true, false, ◌&&◌, ◌||◌}
use mathlib.Core.List.{List, [], ◌∷◌, map-append, append-nil}
use lib.IntN.{ℤ}
use Rattle.std.proofs.lemmas.List.{get_or-drop}
use mathlib.Core.Path.{◌≡◌, refl, sym, ap, ◌∙◌}
use Prim.Native.Nat.{ℕ, zero, suc, min, ◌+◌, ◌-◌, ◌*◌, ◌%◌, ◌^◌, ◌≤◌, ◌<◌}
use native.Mathlib.Omega.{arith}
use borrow.Author.Rules.{rules}
use borrow.Author.Tests.{ltb-true, ltb-false, leb-true, eqb-true, eq-eqb, ne_eqb, le-leb, lt-leb, le-ltb, lt-ltb}
use lib.Dec.{ltb, leb, eqb}
use lib.ListN.{length, get_or, take, drop, replicate, length-drop, length-replicate, drop_of_length-le, replicate-append-replicate}
use lib.Pow.{pow_mono}
use lib.Seq.{take-suc, drop_at, take_all, length-take-le}
use Rattle.laws.proofs.Lists.{firsts-ext}
use Rattle.laws.proofs.Tests.{by_test, and_both, never}
use Rattle.laws.specs.Choice.{when◌then◌else◌, if_yes, if_no}
use Rattle.laws.specs.Ranges.{firsts}
use Rattle.capture.specs.Bytes.{signed_byte, byte_at, signed_bytes, signed_into}
use Rattle.std.specs.Prelude.{Result, Ok, Err, ⊤}
use Rattle.refusal.specs.declared.Refusal.{Refusal}
use Rattle.refusal.specs.declared.Refusal.TheVariants.{Words as WordsRefused, Table as TableRefused, Points as PointsRefused, Scale, Contents, Bodies}
use Rattle.capture.specs.declared.Lengths.{Lengths}
use Rattle.capture.specs.declared.entries.Kind.{Kind}
use Rattle.capture.specs.declared.entries.Kind.TheVariants.{Words, Table, Points, Symbols}
use Rattle.capture.specs.Contents.{place_of, kind_fits, length_fits, length_of, entry_fits, entry_of, contents_fit, contents_of}
use Rattle.capture.specs.Bodies.{word_from, words_fit, words_refusal, bits_of, scale_of, points_fit, points_refusal, bodies_refusal, header_refusal, answer_refusal, table_of, accepted_heading, header_answer, header_table, told}

-- ---- bytes
pub firsts-signed : (s : List ℕ) (n : ℕ) → n ≤ length s → firsts (byte_at s) n ≡ signed_bytes (take n s)
unfolding firsts byte_at signed_bytes
firsts-signed s zero h = refl
firsts-signed s (suc n) h =
    rw (firsts-signed s n (omega arith), take-suc s n 0 h) (sym (map-append signed_byte (take n s) (get_or s n 0 ∷ [])))

-- a word's bytes, read as symbols
from_drop : (s : List ℕ) (k i : ℕ) → byte_at (drop k s) i ≡ byte_at s (k + i)
unfolding byte_at
from_drop s k i = ap signed_byte (get_or-drop k s i 0)

pub word_read : (s : List ℕ) (k m : ℕ) (t out : List ℤ) → m ≡ 48 → k + 48 ≤ length s → length out ≡ 48 → t ≡ signed_into (take m (drop k s)) out → t ≡ word_from s k
unfolding signed_into word_from
word_read s k m t out e h o is =
    let x : List ℕ = take 48 (drop k s) in
    let d : length (drop k s) ≡ length s - k = length-drop k s in
    let l : length x ≡ 48 = length-take-le 48 (drop k s) (omega (arith, d)) in
    let n : min (length x) (length out) ≡ 48 = omega (arith, l, o) in
    let f : firsts (byte_at (drop k s)) 48 ≡ firsts (λ (i : ℕ). byte_at s (k + i)) 48 = firsts-ext (byte_at (drop k s)) (λ (i : ℕ). byte_at s (k + i)) 48 (λ i g. from_drop s k i) in
    (rw (e, n, take_all 48 x (omega (arith, l)), drop_of_length-le out {i = 48} (omega (arith, o)), append-nil (signed_bytes x)) at is)
    ∙ sym (firsts-signed (drop k s) 48 (omega (arith, d)))
    ∙ f

pub drop_zeros : {A : Type 0} (n m : ℕ) (a : A) → n ≤ m → drop n (replicate m a) ≡ replicate (m - n) a
drop_zeros n m a h =
    let e : n + (m - n) ≡ m = omega arith in
    ap (λ (l : List _). drop n l) (sym (replicate-append-replicate n (m - n) a ∙ ap (λ (k : ℕ). replicate k a) e))
    ∙ drop_at (replicate n a) (replicate (m - n) a) n (length-replicate n a)

-- ---- a choice between an answer and a refusal, and which it was
pub ok_err : {T E : Type 0} {t : T} {e : E} → (◌≡◌ {A = Result T E} (Ok t) (Err e)) → ⊥
ok_err h = search rules

pub ok_same : {T E : Type 0} {t u : T} → (◌≡◌ {A = Result T E} (Ok t) (Ok u)) → t ≡ u
ok_same h = search rules

pub err_same : {T E : Type 0} {e f : E} → (◌≡◌ {A = Result T E} (Err e) (Err f)) → e ≡ f
err_same h = search rules

taken : {T : Type 0} (t : Bool) (a : T) (why : Refusal) (x : T) → Ok x ≡ (when t then Ok a else Err why) → (t ≡ true) × (x ≡ a)
unfolding when◌then◌else◌
taken true a why x e = (refl, ok_same e)
taken false a why x e = absurd (ok_err e)

left : {T : Type 0} (t : Bool) (a : T) (why x : Refusal) → Err x ≡ (when t then Ok a else Err why) → (t ≡ false) × (x ≡ why)
unfolding when◌then◌else◌
left true a why x e = absurd (ok_err (sym e))
left false a why x e = (refl, err_same e)

-- ---- contents
either : {X : Type 0} (a b : Bool) → (a || b) ≡ true → (a ≡ true → X) → (b ≡ true → X) → X
either true b e f g = f refl
either false b e f g = g e

-- the five lengths of points
pub record Listable (l : ℕ) : Type 0 where
  pub least : 13 ≤ l
  pub most : l ≤ 133
  pub odd : l % 2 ≡ 1

listable : (l n : ℕ) → 13 ≤ n → n ≤ 133 → n % 2 ≡ 1 → eqb l n ≡ true → Listable l
listable l n a b o t = rw (eqb-true l n t) (record { least = a; most = b; odd = o })

points_listable : (l : ℕ) → length_fits Points l ≡ true → Listable l
points_listable l h =
    either (((eqb l 13 || eqb l 21) || eqb l 37) || eqb l 69) (eqb l 133) h
    (λ h. either ((eqb l 13 || eqb l 21) || eqb l 37) (eqb l 69) h
    (λ h. either (eqb l 13 || eqb l 21) (eqb l 37) h
    (λ h. either (eqb l 13) (eqb l 21) h
    (λ t. listable l 13 (omega arith) (omega arith) refl t)
    (λ t. listable l 21 (omega arith) (omega arith) refl t))
    (λ t. listable l 37 (omega arith) (omega arith) refl t))
    (λ t. listable l 69 (omega arith) (omega arith) refl t))
    (λ t. listable l 133 (omega arith) (omega arith) refl t)

-- what contents that fit tell
pub record Fitting (s : List ℕ) : Type 0 where
  pub long : 33 ≤ length s
  pub points : Listable (length_of s Points)
  pub symbols : length_of s Symbols % 2 ≡ 0

even : (l : ℕ) → length_fits Symbols l ≡ true → l % 2 ≡ 0
even l h = eqb-true (l % 2) 0 h

entry_length : (s : List ℕ) (kind : Kind) → entry_fits s kind ≡ true → length_fits kind (length_of s kind) ≡ true
unfolding entry_fits
entry_length s kind h =
    let n : ℕ = place_of kind in
    let k : ℕ = 1 + 8 * n in
    (and_both (kind_fits n (get_or s k 0) (get_or s (k + 1) 0) (get_or s (k + 2) 0) (get_or s (k + 3) 0)) (length_fits kind (length_of s kind)) h).1

-- .. and that each entry does
pub each : (s : List ℕ) → entry_fits s Words ≡ true → entry_fits s Table ≡ true → entry_fits s Points ≡ true → entry_fits s Symbols ≡ true → (kind : Kind) → entry_fits s kind ≡ true
each s w t p q Words = w
each s w t p q Table = t
each s w t p q Points = p
each s w t p q Symbols = q

entry_fitting : (s : List ℕ) → contents_fit s ≡ true → (kind : Kind) → entry_fits s kind ≡ true
unfolding contents_fit
entry_fitting s h =
    let a = and_both (leb 33 (length s)) ((((eqb (get_or s 0 0) 4 && entry_fits s Words) && entry_fits s Table) && entry_fits s Points) && entry_fits s Symbols) h in
    let d = and_both (((eqb (get_or s 0 0) 4 && entry_fits s Words) && entry_fits s Table) && entry_fits s Points) (entry_fits s Symbols) a.1 in
    let c = and_both ((eqb (get_or s 0 0) 4 && entry_fits s Words) && entry_fits s Table) (entry_fits s Points) d.0 in
    let b = and_both (eqb (get_or s 0 0) 4 && entry_fits s Words) (entry_fits s Table) c.0 in
    let w = and_both (eqb (get_or s 0 0) 4) (entry_fits s Words) b.0 in
    each s w.1 b.1 c.1 d.1

pub fitting : (s : List ℕ) → contents_fit s ≡ true → Fitting s
unfolding contents_fit entry_fits
fitting s h =
    let a = and_both (leb 33 (length s)) ((((eqb (get_or s 0 0) 4 && entry_fits s Words) && entry_fits s Table) && entry_fits s Points) && entry_fits s Symbols) h in
    let d = and_both (((eqb (get_or s 0 0) 4 && entry_fits s Words) && entry_fits s Table) && entry_fits s Points) (entry_fits s Symbols) a.1 in
    let c = and_both ((eqb (get_or s 0 0) 4 && entry_fits s Words) && entry_fits s Table) (entry_fits s Points) d.0 in
    record {
      long = leb-true 33 (length s) a.0;
      points = points_listable (length_of s Points) (entry_length s Points c.1);
      symbols = even (length_of s Symbols) (entry_length s Symbols d.1);
    }

-- an entry and contents are taken exactly then
pub entry_taken : (s : List ℕ) (kind : Kind) (l : ℕ) → Ok l ≡ entry_of s kind → (entry_fits s kind ≡ true) × (l ≡ length_of s kind)
unfolding entry_of
entry_taken s kind l e = taken (entry_fits s kind) (length_of s kind) Contents l e

pub entry_left : (s : List ℕ) (kind : Kind) (why : Refusal) → Err why ≡ entry_of s kind → (entry_fits s kind ≡ false) × (why ≡ Contents)
unfolding entry_of
entry_left s kind why e = left (entry_fits s kind) (length_of s kind) Contents why e

pub contents_taken : (s : List ℕ) (l : Lengths) → Ok l ≡ contents_of s →
    (contents_fit s ≡ true) × (l ≡ record { points = length_of s Points; symbols = length_of s Symbols })
unfolding contents_of
contents_taken s l e = taken (contents_fit s) _ Contents l e

pub contents_left : (s : List ℕ) (why : Refusal) → Err why ≡ contents_of s → (contents_fit s ≡ false) × (why ≡ Contents)
unfolding contents_of
contents_left s why e = left (contents_fit s) (record { points = length_of s Points; symbols = length_of s Symbols }) Contents why e

-- why they are left
pub contents_short : (s : List ℕ) → length s < 33 → contents_fit s ≡ false
unfolding contents_fit
contents_short s h = rw (lt-leb 33 (length s) h) refl

pub contents_first : (s : List ℕ) → (get_or s 0 0 ≡ 4 → ⊥) → contents_fit s ≡ false
unfolding contents_fit
contents_first s h = rw (ne_eqb (get_or s 0 0) 4 h) (no_and (leb 33 (length s)))
  where
    no_and : (t : Bool) → (t && false) ≡ false
    no_and true = refl
    no_and false = refl

pub contents_fit_all : (s : List ℕ) → 33 ≤ length s → get_or s 0 0 ≡ 4 → ((kind : Kind) → entry_fits s kind ≡ true) → contents_fit s ≡ true
unfolding contents_fit
contents_fit_all s h f e = rw (le-leb 33 (length s) h, eq-eqb (get_or s 0 0) 4 f, e Words, e Table, e Points, e Symbols) refl

-- a refused entry's refusal is that of the contents
pub entry_refused : (s : List ℕ) (kind : Kind) (why x : Refusal) (r : Result Lengths Refusal) → Err why ≡ entry_of s kind → r ≡ Err x → x ≡ why → r ≡ contents_of s
unfolding contents_of
entry_refused s kind why x r e p q =
    let l = entry_left s kind why e in
    let n : contents_fit s ≡ false =
    by_test (contents_fit s) (λ t. absurd (never (sym (entry_fitting s t kind) ∙ l.0))) (λ t. t) in
    p ∙ ap (λ (w : Refusal). Err w) (q ∙ l.1) ∙ sym (if_no _ _ _ n)

pub contents_yes : (s : List ℕ) → contents_fit s ≡ true → Ok (record { points = length_of s Points; symbols = length_of s Symbols }) ≡ contents_of s
unfolding contents_of
contents_yes s h = sym (if_yes _ _ _ h)

pub contents_no : (s : List ℕ) → contents_fit s ≡ false → Err Contents ≡ contents_of s
unfolding contents_of
contents_no s h = sym (if_no _ _ _ h)

-- ---- points
pub record Fits (bits p : ℕ) : Type 0 where
  pub some : 1 ≤ bits
  pub most : bits ≤ 5
  pub is : p ≡ 5 + 4 * 2 ^ bits
  pub few : 2 ^ bits ≤ 32

pub fits : (bits p : ℕ) → points_fit bits p ≡ true → Fits bits p
unfolding points_fit
fits bits p h =
    let a = and_both (leb 1 bits) (leb bits 5 && eqb p (5 + 4 * 2 ^ bits)) h in
    let b = and_both (leb bits 5) (eqb p (5 + 4 * 2 ^ bits)) a.1 in
    let m = leb-true bits 5 b.0 in
    record { some = leb-true 1 bits a.0; most = m; is = eqb-true p (5 + 4 * 2 ^ bits) b.1; few = pow_mono {i = bits} {j = 5} m }

-- ---- what the tests of the bodies come to
pub words_short : (s : List ℕ) → length s < 129 → words_refusal s ≡ Err Bodies
unfolding words_refusal
words_short s h = if_yes _ _ _ (lt-ltb (length s) 129 h)

pub words_right : (s : List ℕ) → 129 ≤ length s → words_fit s ≡ true → words_refusal s ≡ Ok Prim.tt
unfolding words_refusal
words_right s h t = if_no _ _ _ (le-ltb (length s) 129 h) ∙ if_yes _ _ _ t

pub words_wrong : (s : List ℕ) → 129 ≤ length s → words_fit s ≡ false → words_refusal s ≡ Err WordsRefused
unfolding words_refusal
words_wrong s h t = if_no _ _ _ (le-ltb (length s) 129 h) ∙ if_no _ _ _ t

pub points_short : (s : List ℕ) (p : ℕ) → length s < 2177 + p → points_refusal s p ≡ Err Bodies
unfolding points_refusal
points_short s p h =
    by_test (ltb (length s) 2177)
    (λ t. if_yes _ _ _ t)
    (λ t. if_no _ _ _ t ∙ if_yes _ _ _ (lt-ltb (length s) (2177 + p) h))

-- with all their bytes they are judged by what they say
pub points_judged : (s : List ℕ) (p : ℕ) → 2177 + p ≤ length s →
    points_refusal s p ≡ (when points_fit (bits_of s) p then when ltb (2 ^ 24) (scale_of s p) then Err Scale else Ok Prim.tt else Err PointsRefused)
unfolding points_refusal
points_judged s p h = if_no _ _ _ (le-ltb (length s) 2177 (omega arith)) ∙ if_no _ _ _ (le-ltb (length s) (2177 + p) h)

-- words that pass leave the rest to the points
pub bodies_by_words : (s : List ℕ) (p : ℕ) → words_refusal s ≡ Ok Prim.tt → bodies_refusal s p ≡ points_refusal s p
unfolding words_refusal bodies_refusal
bodies_by_words s p e =
    by_test (ltb (length s) 129)
    (λ t. absurd (ok_err (sym e ∙ if_yes _ _ _ t)))
    (λ t.
    if_no _ _ _ t
    ∙ by_test (words_fit s)
    (λ w. if_yes _ _ _ w)
    (λ w. absurd (ok_err (sym e ∙ if_no _ _ _ t ∙ if_no _ _ _ w))))

pub bodies_no_words : (s : List ℕ) (p : ℕ) (why : Refusal) → words_refusal s ≡ Err why → bodies_refusal s p ≡ Err why
unfolding words_refusal bodies_refusal
bodies_no_words s p why e =
    by_test (ltb (length s) 129)
    (λ t. if_yes _ _ _ t ∙ sym (if_yes _ _ _ t) ∙ e)
    (λ t.
    if_no _ _ _ t
    ∙ by_test (words_fit s)
    (λ w. absurd (ok_err (sym (if_no _ _ _ t ∙ if_yes _ _ _ w) ∙ e)))
    (λ w. if_no _ _ _ w ∙ sym (if_no _ _ _ t ∙ if_no _ _ _ w) ∙ e))

-- ---- an answer, and the test that it comes from
pub told_ok : {T : Type 0} (r : Result ⊤ Refusal) (t : T) → r ≡ Ok Prim.tt → Ok t ≡ told r t
told_ok r t e = rw e refl

pub told_err : {T : Type 0} (r : Result ⊤ Refusal) (t : T) (why : Refusal) → r ≡ Err why → Err why ≡ told r t
told_err r t why e = rw e refl

pub told_was_ok : {T : Type 0} (r : Result ⊤ Refusal) (t x : T) → Ok x ≡ told r t → (r ≡ Ok Prim.tt) × (x ≡ t)
told_was_ok (Ok u) t x e = (refl, ok_same e)
told_was_ok (Err why) t x e = absurd (ok_err e)

pub told_was_err : {T : Type 0} (r : Result ⊤ Refusal) (t : T) (why : Refusal) → Err why ≡ told r t → r ≡ Err why
told_was_err (Ok u) t why e = absurd (ok_err (sym e))
told_was_err (Err w) t why e = ap (λ (x : Refusal). Err x) (sym (err_same e))

-- ---- a header that is not refused
pub points-whole : (s : List ℕ) (p : ℕ) → points_refusal s p ≡ Ok Prim.tt → (2177 + p ≤ length s) × (points_fit (bits_of s) p ≡ true)
points-whole s p h =
    by_test (ltb (length s) (2177 + p))
    (λ t. absurd (ok_err (sym h ∙ points_short s p (ltb-true (length s) (2177 + p) t))))
    (λ t.
    let l = ltb-false (length s) (2177 + p) t in
    by_test (points_fit (bits_of s) p)
    (λ f. (l, f))
    (λ f. absurd (ok_err (sym h ∙ points_judged s p l ∙ if_no _ _ _ f))))

bodies_whole : (s : List ℕ) (p : ℕ) → bodies_refusal s p ≡ Ok Prim.tt → (2177 + p ≤ length s) × (points_fit (bits_of s) p ≡ true)
unfolding bodies_refusal
bodies_whole s p h =
    by_test (ltb (length s) 129)
    (λ t. absurd (ok_err (sym h ∙ if_yes _ _ _ t)))
    (λ t.
    by_test (words_fit s)
    (λ w. points-whole s p (sym (if_no _ _ _ t ∙ if_yes _ _ _ w) ∙ h))
    (λ w. absurd (ok_err (sym h ∙ if_no _ _ _ t ∙ if_no _ _ _ w))))

pub record Whole (s : List ℕ) : Type 0 where
  pub contents : contents_fit s ≡ true
  pub long : 2177 + length_of s Points ≤ length s
  pub fits : points_fit (bits_of s) (length_of s Points) ≡ true

pub header_whole : (s : List ℕ) → header_refusal s ≡ Ok Prim.tt → Whole s
unfolding header_refusal
header_whole s h =
    by_test (contents_fit s)
    (λ t. let b = bodies_whole s (length_of s Points) (sym (if_yes _ _ _ t) ∙ h) in record { contents = t; long = b.0; fits = b.1 })
    (λ t. absurd (ok_err (sym h ∙ if_no _ _ _ t)))

-- ---- the answer of a header, part by part
pub room_no : (room : ℕ) (s : List ℕ) → (room ≡ 1024 → ⊥) → answer_refusal room s ≡ Err TableRefused
unfolding answer_refusal
room_no room s h = if_no _ _ _ (ne_eqb room 1024 h)

pub answer_contents : (room : ℕ) (s : List ℕ) (why : Refusal) → room ≡ 1024 → Err why ≡ contents_of s → answer_refusal room s ≡ Err why
unfolding answer_refusal header_refusal
answer_contents room s why e h =
    let l = contents_left s why h in
    if_yes _ _ _ (eq-eqb room 1024 e) ∙ if_no _ _ _ l.0 ∙ ap (λ (w : Refusal). Err w) (sym l.1)

-- with contents that fit it is that of the bodies
pub answer_bodies : (room : ℕ) (s : List ℕ) → room ≡ 1024 → contents_fit s ≡ true → answer_refusal room s ≡ bodies_refusal s (length_of s Points)
unfolding answer_refusal header_refusal
answer_bodies room s e h = if_yes _ _ _ (eq-eqb room 1024 e) ∙ if_yes _ _ _ h

-- what is answered and left of the table where a test refuses, and where it does not
pub refused_header : (t : List ℤ) (s : List ℕ) (why : Refusal) → answer_refusal (length t) s ≡ Err why → (Err why ≡ header_answer (length t) s) × (t ≡ header_table t s)
unfolding header_answer header_table
refused_header t s why e = rw e (refl, refl)

pub accepted_header : (t : List ℤ) (s : List ℕ) → answer_refusal (length t) s ≡ Ok Prim.tt → (Ok (accepted_heading s) ≡ header_answer (length t) s) × (table_of s ≡ header_table t s)
unfolding header_answer header_table
accepted_header t s e = rw e (refl, refl)
