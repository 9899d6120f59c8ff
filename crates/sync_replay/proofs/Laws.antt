-- Laws of the definitions of sync_replay that its proofs cite. Assumes nothing.
use Rattle.std.proofs.Common.{◌≡◌, ℕ, ◌+◌, ◌<◌, List, [], ◌∷◌, ◌++◌, length, get_or, drop, set, ℤ, refl, ap, add-suc, add-one, arith, drop_of_length-le, drop-cons}
use Rattle.digest.specs.Digest.{mixed_of}
use Rattle.laws.proofs.Lists.{getD-firsts}
use Rattle.laws.specs.Ranges.{firsts}
use Rattle.sync.specs.Answers.{push_acc}
use Rattle.sync_replay.specs.Desk.{St, pushed_of, pushes_of, st}
use Rattle.sync_replay.specs.Mixing.{mixed_to}
use Rattle.sync_replay.specs.declared.desk.Desk.{Desk}
use Rattle.sync_replay.specs.Told.{answer_of, head_row, period_row, refused_of, row_of}
use Rattle.sync_step.specs.declared.Event.TheVariants.{Head as HeadEvent, Lost, Nothing, Period}
use Rattle.sync_step.specs.declared.Event.{Event}
use Rattle.sync_step.specs.declared.Events.{Events}
use Rattle.sync_step.specs.declared.LastCorr.{LastCorr}
use Rattle.wire.specs.Wire.{bits, byte_of, bytes_of}
use lib.Seq.{sets}

-- ---- a byte of the eight
pub byte_is : (u j : ℕ) → j < 8 → get_or (bytes_of u) j 0 ≡ byte_of u j
unfolding bytes_of firsts
byte_is u j h = getD-firsts (byte_of u) 0 8 [] j h

-- ---- one more number in a digest
pub mixed_more : (d : ℕ) (l : List ℕ) (k r : ℕ) → r ≡ mixed_to d l k → mixed_of r (get_or l k 0) ≡ mixed_to d l (k + 1)
unfolding mixed_to
mixed_more d l k r e = rw (e, add-one k)

pub mixed-none : (d : ℕ) (l : List ℕ) → d ≡ mixed_to d l 0
unfolding mixed_to
mixed-none d l = refl

-- ---- a row has eleven numbers
abbrev row_read : List ℕ → List ℕ
row_read l =
    get_or l 0 0
    ∷ get_or l 1 0
    ∷ get_or l 2 0
    ∷ get_or l 3 0
    ∷ get_or l 4 0
    ∷ get_or l 5 0
    ∷ get_or l 6 0
    ∷ get_or l 7 0
    ∷ get_or l 8 0
    ∷ get_or l 9 0
    ∷ get_or l 10 0
    ∷ []

row_whole : (e : Event) → row_of e ≡ row_read (row_of e)
unfolding row_of head_row period_row
row_whole Nothing = refl
row_whole (HeadEvent h) = refl
row_whole (Period p) = refl
row_whole (Lost p) = refl

pub row_long : (e : Event) → length (row_of e) ≡ 11
row_long e = ap length (row_whole e)

-- ---- a row placed number by number
pub placed_more : (r t x : List ℕ) (k i : ℕ) → i < length x → sets r (k + i) (drop i x) ≡ sets t k x →
    sets (set r (k + i) (get_or x i 0)) (k + (i + 1)) (drop (i + 1) x) ≡ sets t k x
placed_more r t x k i h e = rw (add-one i, add-suc k i) (rw (drop-cons x i 0 h) at e)

pub placed-all : (r t x : List ℕ) (k i : ℕ) → length x ≡ i → sets r (k + i) (drop i x) ≡ sets t k x → r ≡ sets t k x
placed-all r t x k i h e = rw (drop_of_length-le x {i = i} (omega (arith, h))) at e

-- ---- three rows placed
rows_whole : (refusal a b c d v : ℕ) (l m n : List ℕ) → l ≡ row_read l → m ≡ row_read m → n ≡ row_read n →
    sets (sets (sets (set (set (set (set (set (refused_of refusal) 2 a) 3 b) 4 c) 5 d) 6 v) 7 l) 18 m) 29 n
    ≡ (0 ∷ refusal ∷ a ∷ b ∷ c ∷ d ∷ v ∷ []) ++ l ++ m ++ n
unfolding refused_of
rows_whole refusal a b c d v l m n p q r = rw (p, q, r)

pub answer_whole : (last : LastCorr) (es : Events) →
    let f = last.both.f in
    let s = last.both.s in
    let t = set (set (set (set (set (refused_of 0) 2 (bits f.re)) 3 (bits f.im)) 4 (bits s.re)) 5 (bits s.im)) 6 last.level in
    sets (sets (sets t 7 (row_of es.first)) 18 (row_of es.second)) 29 (row_of es.third) ≡ answer_of last es
unfolding answer_of
answer_whole last es = rows_whole 0 _ _ _ _ _ _ _ _ (row_whole es.first) (row_whole es.second) (row_whole es.third)

-- ---- one more push of the same symbol
pub pushes_more : (n : ℕ) (i q : ℤ) (s r : St) → r ≡ pushes_of n i q s →
    st (pushed_of r.desk i q r.acc) (push_acc r.desk.sync i q r.desk.f r.desk.s r.acc) ≡ pushes_of (n + 1) i q s
unfolding pushes_of
pushes_more n i q s r e = rw (e, add-one n)

pub st_eq : (d e : Desk) (a b : List ℕ) → d ≡ e → a ≡ b → st d a ≡ st e b
st_eq d e a b p q = rw (p, q)

pub pushes-none : (i q : ℤ) (s : St) → s ≡ pushes_of 0 i q s
unfolding pushes_of
pushes-none i q s = refl
