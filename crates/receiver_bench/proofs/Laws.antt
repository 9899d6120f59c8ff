-- A turn of each loop, and that no more is taken of a stream than it has. Assumes nothing.
use Prim.Native.Nat.{ℕ, zero, suc, ◌+◌, ◌-◌, ◌*◌, ◌≤◌}
use mathlib.Core.List.{List, [], ◌∷◌}
use mathlib.Core.Path.{◌≡◌, refl, sym, ap}
use native.Mathlib.Numerals.{add-one}
use native.Mathlib.Omega.{arith}
use lib.IntN.{ℤ, pos}
use lib.ListN.{drop, get_or, length, length-drop, take}
use Rattle.receiver.specs.declared.Receiver.{Receiver}
use Rattle.receiver.specs.declared.Answer.{Answer}
use Rattle.receiver.specs.Symbol.{Input, Lent}
use Rattle.std.specs.Prelude.{Result}
use Rattle.refusal.specs.declared.Refused.{Refused}
use Rattle.receiver.specs.Answers.{code_in, new_acc, receiver_left, symbol_answer, symbol_lent}
use Rattle.receiver.specs.Feed.{Block, feed_of, input_at}
use Rattle.receiver_feed.specs.declared.Fed.{Fed as Answered}
use Rattle.receiver_feed.specs.Answers.{feed_answer, receiver_fed, used_in}
use Rattle.receiver_feed.proofs.Stand.{feed_within}
use Rattle.receiver_bench.specs.declared.Begun.{Begun}
use Rattle.receiver_bench.specs.Streams.{Flow, begun_of, feed_many, feed_one, flow, lent_of, new_flow, rest_of, symbol_many, symbol_one}

pub rest_within : (b : Block) (k : ℕ) (r : Receiver) (l : Lent) → 2 * k ≤ length b.bytes → 2 * (k + used_in (feed_answer r (rest_of b k) l)) ≤ length b.bytes
unfolding rest_of
rest_within b k r l h = omega (arith, h, feed_within r (rest_of b k) l, length-drop (2 * k) b.bytes)

pub feed_more : (b : Block) (j : ℕ) (o x : Flow) (a : Result Answered (Refused Receiver)) (l : Lent) → x ≡ feed_many b j o → a ≡ feed_answer x.receiver (rest_of b x.taken) x.lent →
    l ≡ (feed_of x.receiver (rest_of b x.taken) x.lent).lent → flow (receiver_fed a) (x.taken + used_in a) (code_in a) l ≡ feed_many b (j + 1) o
unfolding feed_many feed_one
feed_more b j o x a l e ea el = rw (add-one j, ← e, ea, el)

pub symbol_more : (b : Block) (k : ℕ) (o x : Flow) (i q : ℤ) (a : Result Answer (Refused Receiver)) (acc : List ℕ) (store soft : List ℤ) → x ≡ symbol_many b k o →
    i ≡ get_or b.bytes (2 * k) (pos 0) → q ≡ get_or b.bytes (2 * k + 1) (pos 0) →
    let y : Input = record { xi = i; xq = q; f = b.f; s = b.s; table = b.table } in
    a ≡ symbol_answer x.receiver y x.lent → acc ≡ (symbol_lent x.receiver y x.lent).acc → store ≡ (symbol_lent x.receiver y x.lent).store →
    soft ≡ (symbol_lent x.receiver y x.lent).soft → flow (receiver_left a) (k + 1) (code_in a) (lent_of acc store soft) ≡ symbol_many b (k + 1) o
unfolding symbol_many symbol_one input_at
symbol_more b k o x i q a acc store soft e ei eq ea e1 e2 e3 = rw (add-one k, ← e, ea, e1, e2, e3, ei, eq)

pub lent_eq : (m : Lent) (a : List ℕ) (b c : List ℤ) → a ≡ m.acc → b ≡ m.store → c ≡ m.soft → lent_of a b c ≡ m
lent_eq m a b c ea eb ec = rw (ea, eb, ec)

take_all : (l : List ℤ) (n : ℕ) → n ≡ length l → take n l ≡ l
take_all [] zero e = refl
take_all [] (suc n) e = refl
take_all (x ∷ l) zero e = absurd (omega (arith, e))
take_all (x ∷ l) (suc n) e = ap (λ (v : List ℤ). x ∷ v) (take_all l n (omega (arith, e)))

pub rest_is : (l : List ℤ) (k : ℕ) → take (length l - 2 * k) (drop (2 * k) l) ≡ drop (2 * k) l
rest_is l k = take_all (drop (2 * k) l) (length l - 2 * k) (sym (length-drop (2 * k) l))

pub new_flow_lem : (bits : ℕ) (points : List ℤ) (k : ℤ) (acc a : List ℕ) (store soft : List ℤ) (p : Begun) → p ≡ begun_of bits points k acc → a ≡ new_acc acc →
    flow p.receiver 0 p.refusal (lent_of a store soft) ≡ new_flow bits points k (lent_of acc store soft)
unfolding new_flow
new_flow_lem bits points k acc a store soft p ep ea = rw (ep, ea)
