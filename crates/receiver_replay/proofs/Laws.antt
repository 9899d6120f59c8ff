-- Laws of the definitions of receiver_replay that its proofs cite. Assumes nothing.
use mathlib.Core.List.{List, [], ◌++◌, append-nil}
use mathlib.Core.Path.{◌≡◌, refl, sym, ap}
use Prim.Native.Nat.{ℕ, ◌-◌, ◌≤◌}
use native.Mathlib.Omega.{arith}
use native.Mathlib.Nat.{le_refl}
use borrow.Author.Tests.{ltb-false}
use lib.IntN.{ℤ}
use lib.Dec.{ltb}
use lib.ListN.{length, take, drop, length-drop, drop_of_length-le, get_or-eq_default}
use lib.Seq.{take_all}
use Rattle.laws.proofs.Lists.{length-firsts}
use Rattle.laws.proofs.Tests.{if_both, if_either}
use Rattle.laws.specs.Ranges.{firsts}
use Rattle.wire.specs.Wire.{byte_at, packed_of, numbers_of}
use Rattle.fields.proofs.Laws.{take_least, drop_least}
use Rattle.fields.specs.Fields.{at, one_at, least_of}
use Rattle.receiver.specs.Symbol.{Lent}
use Rattle.receiver.specs.Feed.{feed_of}
use Rattle.receiver_feed.specs.Answers.{feed_answer}
use Rattle.receiver_feed.specs.declared.Fed.{Fed}
use Rattle.receiver_play.specs.declared.Played.{Played}
use Rattle.receiver.specs.declared.Receiver.{Receiver}
use Rattle.refusal.specs.declared.Refused.{Refused}
use Rattle.std.specs.Prelude.{Result}
use Rattle.receiver_play.specs.Play.{Course, block, course, lent_of, play_from, played_of}
use Rattle.receiver_calls.specs.declared.kept.Kept.{Kept}
use Rattle.receiver_calls.specs.declared.kept.Turn.{Turn}
use Rattle.receiver_calls.specs.Calls.{plain, played_turn}
use Rattle.receiver_replay.specs.Given.{over_of, symbols_of, put_of}
use Rattle.receiver_replay.specs.Calls.{All, all, moved, unmoved, lent_call, play_course, feed_course}
use Rattle.receiver_replay.specs.Replay.{takers, stores_of, turn_of, answer_bytes}

-- ---- the smaller is no more than the first
pub least_within : (r n all : ℕ) → r ≡ least_of n all → r ≤ n
unfolding least_of
least_within r n all e = rw e (if_either (λ (k : ℕ). k ≤ n) _ _ _ (λ t. le_refl n) (λ t. ltb-false n all t))

-- ---- bytes of a call in place of entries: of all entries; of those of the input from a place on
pub over-all : (v : ℕ → ℤ) (n : ℕ) (l : List ℤ) → length l ≡ n → over_of v n l ≡ firsts v n
unfolding over_of least_of
over-all v n l e =
    let m : least_of n n ≡ n = if_both (λ (k : ℕ). k ≡ n) (ltb n n) n n refl refl in
    rw (e, m, drop_of_length-le l {i = n} (omega arith)) (append-nil (firsts v n))

pub put_is : (p : List ℕ) (l : List ℤ) (a k : ℕ) (x : List ℤ) → a ≡ least_of (at p 1) (length l) → k ≡ length l - a → x ≡ over_of (one_at (packed_of p) 16) 176 (take k (drop a l)) → take a l ++ (x ++ drop k (drop a l)) ≡ put_of p l
unfolding put_of
put_is p l a k x ea ek ex =
    let long : length (drop a l) ≤ k = omega (arith, length-drop a l) in
    let none : drop k (drop a l) ≡ [] = drop_of_length-le (drop a l) {i = k} long in
    let front : take a l ≡ take (at p 1) l = rw ea (take_least (at p 1) l) in
    let back : drop a l ≡ drop (at p 1) l = rw ea (drop_least (at p 1) l) in
    rw (none, ex, take_all k (drop a l) long, front, back) (ap (λ (r : List ℤ). take (at p 1) l ++ r) (append-nil _))

-- ---- symbols, with parts lent of as many entries as there are
pub lent_is : (go : List ℤ → Lent → Course) (k : Kept) (p : List ℕ) (table : List ℤ) (acc : List ℕ) (store soft input : List ℤ) (t a b d : ℕ) (m : Played) (acc' : List ℕ) (store' soft' : List ℤ) (r : Turn) → t ≡ least_of (at p 2) (length table) → a ≡ least_of (at p 3) (length acc) → b ≡ least_of (at p 4) (length store) → d ≡ least_of (at p 5) (length soft) → course m (lent_of acc' store' soft') ≡ go (take t table) (lent_of (take a acc) (take b store) (take d soft)) → r ≡ played_turn k m → moved r table (acc' ++ drop a acc) (store' ++ drop b store) (soft' ++ drop d soft) input ≡ lent_call go p (all k table acc store soft input)
unfolding lent_call
lent_is go k p table acc store soft input t a b d m acc' store' soft' r et ea eb ed e er =
    let ts : take t table ≡ take (at p 2) table = rw et (take_least (at p 2) table) in
    let al : take a acc ≡ take (at p 3) acc = rw ea (take_least (at p 3) acc) in
    let bs : take b store ≡ take (at p 4) store = rw eb (take_least (at p 4) store) in
    let ds : take d soft ≡ take (at p 5) soft = rw ed (take_least (at p 5) soft) in
    let ar : drop a acc ≡ drop (at p 3) acc = rw ea (drop_least (at p 3) acc) in
    let br : drop b store ≡ drop (at p 4) store = rw eb (drop_least (at p 4) store) in
    let dr : drop d soft ≡ drop (at p 5) soft = rw ed (drop_least (at p 5) soft) in
    let g = rw (ts, al, bs, ds) at e in
    rw (er, ← g, ar, br, dr)

-- .. one by one
pub play_is : (k : Kept) (p : List ℕ) (table : List ℤ) (l : Lent) (n : ℕ) (x : List ℤ) (m : Played) (l' : Lent) → n ≡ least_of (at p 1) 72 → x ≡ symbols_of p → m ≡ (play_from (block x k.f k.s table) n 0 k.receiver l).told → l' ≡ (play_from (block x k.f k.s table) n 0 k.receiver l).lent → course m l' ≡ play_course k p table l
unfolding play_course
play_is k p table l n x m l' en ex em el = rw (em, el, en, ex)

-- .. by `feed`
pub feed_is : (k : Kept) (p : List ℕ) (x table : List ℤ) (l : Lent) (n : ℕ) (y : Result Fed (Refused Receiver)) (m : Played) (acc : List ℕ) (store soft : List ℤ) → n ≡ least_of (at p 1) (length x) → m ≡ played_of y → y ≡ feed_answer k.receiver (block (take n x) k.f k.s table) l → acc ≡ (feed_of k.receiver (block (take n x) k.f k.s table) l).lent.acc → store ≡ (feed_of k.receiver (block (take n x) k.f k.s table) l).lent.store → soft ≡ (feed_of k.receiver (block (take n x) k.f k.s table) l).lent.soft → course m (lent_of acc store soft) ≡ feed_course k p x table l
unfolding feed_course
feed_is k p x table l n y m acc store soft en em ey ea es ef =
    let xs : take n x ≡ take (at p 1) x = rw en (take_least (at p 1) x) in
    rw (em, ey, ea, es, ef, xs)

-- ---- a call that there is not
pub stores-none : (n : ℕ) (p : List ℕ) (a : All) → 9 ≤ n → unmoved a (plain a.kept 255) ≡ stores_of n p a
unfolding stores_of
stores-none n p a h = sym (get_or-eq_default (takers p a) (unmoved a (plain a.kept 255)) h)

-- ---- an answer has 192 bytes, as a call has
pub length_answer : (a : All) (s : List ℕ) → length (answer_bytes a s) ≡ 192
unfolding answer_bytes packed_of
length_answer a s = let p = numbers_of s in length-firsts (byte_at (turn_of (at p 0) p a).told) 192
