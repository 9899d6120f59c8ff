-- Laws of the definitions of receiver_play that its proofs cite. Assumes nothing.
use mathlib.Core.Bool.{true, false}
use mathlib.Core.Path.{◌≡◌, sym, ◌∙◌}
use Prim.Native.Nat.{ℕ, ◌+◌}
use native.Mathlib.Numerals.{add-one}
use Rattle.std.specs.Prelude.{Result, Ok, Err}
use Rattle.laws.specs.Choice.{if_yes, if_no}
use Rattle.refusal.specs.declared.Refused.{Refused}
use Rattle.receiver.specs.declared.Receiver.{Receiver}
use Rattle.receiver.specs.declared.Answer.{Answer}
use Rattle.receiver.specs.Symbol.{Lent}
use Rattle.receiver.specs.Answers.{receiver_left, symbol_answer, symbol_lent}
use Rattle.receiver.specs.Feed.{Block, input_at, tells_any}
use Rattle.receiver_play.specs.declared.Played.{Played}
use Rattle.receiver_play.specs.Play.{Course, course, play_by, play_from, quiet, refused_at, taken_at}

-- ---- a play, by what its first symbol's call answers and leaves
play_more : (b : Block) (k i : ℕ) (r : Receiver) (l : Lent) →
    play_from b (k + 1) i r l
    ≡ play_by i (symbol_answer r (input_at b i) l) (symbol_lent r (input_at b i) l)
    (play_from b k (i + 1) (receiver_left (symbol_answer r (input_at b i) l)) (symbol_lent r (input_at b i) l))
unfolding play_from
play_more b k i r l = rw (add-one k)

told_more : (b : Block) (k m i : ℕ) (r : Receiver) (l n : Lent) (x : Result Answer (Refused Receiver)) (whole : Course) → m ≡ k + 1 → play_from b m i r l ≡ whole →
    x ≡ symbol_answer r (input_at b i) l → n ≡ symbol_lent r (input_at b i) l → play_by i x n (play_from b k (i + 1) (receiver_left x) n) ≡ whole
told_more b k m i r l n x whole em ew ex en =
    let w : play_from b (k + 1) i r l ≡ whole = rw em at ew in
    rw (ex, en) (sym (play_more b k i r l) ∙ w)

-- it ends the play, whose whole is known ..
pub told_stop : (b : Block) (k m i : ℕ) (r : Receiver) (l n : Lent) (a : Answer) (p : Played) (whole : Course) → m ≡ k + 1 → play_from b m i r l ≡ whole →
    Ok a ≡ symbol_answer r (input_at b i) l → n ≡ symbol_lent r (input_at b i) l → tells_any a ≡ true → p ≡ taken_at (i + 1) a → (p ≡ whole.told) × (n ≡ whole.lent)
unfolding play_by
told_stop b k m i r l n a p whole em ew ea en et ep =
    let g = sym (if_yes (tells_any a) (course (taken_at (i + 1) a) n) (play_from b k (i + 1) a.receiver n) et) ∙ told_more b k m i r l n (Ok a) whole em ew ea en in
    (rw (ep, ← g), rw (← g))

pub told_refused : (b : Block) (k m i : ℕ) (r : Receiver) (l n : Lent) (x : Refused Receiver) (p : Played) (whole : Course) → m ≡ k + 1 → play_from b m i r l ≡ whole →
    Err x ≡ symbol_answer r (input_at b i) l → n ≡ symbol_lent r (input_at b i) l → p ≡ refused_at i x → (p ≡ whole.told) × (n ≡ whole.lent)
unfolding play_by
told_refused b k m i r l n x p whole em ew ea en ep =
    let g : course (refused_at i x) n ≡ whole = told_more b k m i r l n (Err x) whole em ew ea en in
    (rw (ep, ← g), rw (← g))

-- .. or goes on
pub told-on : (b : Block) (k m i : ℕ) (r : Receiver) (l n : Lent) (a : Answer) (whole : Course) → m ≡ k + 1 → play_from b m i r l ≡ whole →
    Ok a ≡ symbol_answer r (input_at b i) l → n ≡ symbol_lent r (input_at b i) l → tells_any a ≡ false → play_from b k (i + 1) a.receiver n ≡ whole
unfolding play_by
told-on b k m i r l n a whole em ew ea en et =
    sym (if_no (tells_any a) (course (taken_at (i + 1) a) n) (play_from b k (i + 1) a.receiver n) et) ∙ told_more b k m i r l n (Ok a) whole em ew ea en

-- none is left
pub told-quiet : (b : Block) (m i : ℕ) (r : Receiver) (l : Lent) (p : Played) (whole : Course) → m ≡ 0 → play_from b m i r l ≡ whole → p ≡ quiet i r → (p ≡ whole.told) × (l ≡ whole.lent)
unfolding play_from
told-quiet b m i r l p whole em ew ep = let g : course (quiet i r) l ≡ whole = rw em at ew in (rw (ep, ← g), rw (← g))
