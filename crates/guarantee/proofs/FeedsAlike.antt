-- Two receivers with the same numbers and accumulators take every feed alike, if their slot stores agree on the held slot. Assumes nothing.
use Prim.Native.Nat.{ℕ, zero, suc, ◌+◌}
use Rattle.guarantee.proofs.Alike.{Same, after_same, sys, told_same}
use Rattle.guarantee.proofs.Feeds.{own-or-wrong-feed, refused-1, wrong-after, wrong-told, wrong-used}
use Rattle.guarantee.specs.Calls.{Accumulators, System, handed_acc, handed_store, kept_acc, kept_store, lent_to}
use Rattle.guarantee.specs.Calls.{own, wrong}
use Rattle.guarantee.specs.Feeds.{Feed, after_feed, fed_by, told_feed, told_nothing}
use Rattle.guarantee.specs.History.{own_acc, own_store}
use Rattle.guarantee.specs.Items.{Item, ItemTold, after_item, told_item, told_items}
use Rattle.guarantee.specs.Items.{call, feed, called, fed}
use Rattle.laws.proofs.Tests.{by_test}
use Rattle.laws.specs.Choice.{when◌then◌else◌}
use Rattle.std.specs.Prelude.{None, Result, Ok, Err}
use Rattle.refusal.specs.declared.Refused.{Refused}
use Rattle.refusal.specs.Refusals.{code_of}
use Rattle.receiver_range.proofs.Codes.{by_refusal}
use Rattle.receiver.specs.Answers.{receiver_left, stores_fit, symbol_answer, symbol_lent, symbol_refusal}
use Rattle.receiver.specs.Feed.{Block, Fed, fed_by as fed_on, fed_from, feed_of, feed_refusal, input_at, quiet_at, standing_refusal, symbols_of, tells_any}
use Rattle.receiver.specs.Symbol.{Lent}
use Rattle.receiver.specs.declared.Answer.{Answer}
use Rattle.receiver.specs.declared.Receiver.{Receiver}
use Rattle.receiver_laws.proofs.Stores.{alike}
use Rattle.receiver_laws.specs.Stores.{Agree, lent}
use lib.Dec.{eqb}
use lib.IntN.{ℤ}
use mathlib.Core.Bool.{false, ◌&&◌}
use mathlib.Core.List.{List, [], ◌∷◌}
use mathlib.Core.Path.{◌∙◌, ◌≡◌, ap, ap₂, refl, subst, sym}

-- two feeds that stand alike
record FedAlike (x y : Fed) : Type 0 where
  pub used : x.used ≡ y.used
  pub receiver : x.receiver ≡ y.receiver
  pub events : x.events ≡ y.events
  pub runs : x.runs ≡ y.runs
  pub acc : x.lent.acc ≡ y.lent.acc
  pub soft : x.lent.soft ≡ y.lent.soft
  pub stores : Agree x.receiver.front.phase x.lent.store y.lent.store

-- what is left agrees
record LentAlike (r : Receiver) (l m : Lent) : Type 0 where
  pub acc : l.acc ≡ m.acc
  pub soft : l.soft ≡ m.soft
  pub stores : Agree r.front.phase l.store m.store

quiet_alike : (i : ℕ) (r : Receiver) (l m : Lent) → LentAlike r l m → FedAlike (quiet_at i r l) (quiet_at i r m)
unfolding quiet_at
quiet_alike i r l m w = record { used = refl; receiver = refl; events = refl; runs = refl; acc = w.acc; soft = w.soft; stores = w.stores }

-- a symbol of a feed, by its answer and what it leaves
abbrev step_fed : Block → ℕ → ℕ → Receiver → Lent → Result Answer (Refused Receiver) → Lent → Fed
step_fed b k i r l a m = fed_on i r l a m (fed_from b k (i + 1) (receiver_left a) m)

step_alike : (b : Block) (k i : ℕ) (r : Receiver) (l l' : Lent) (a : Result Answer (Refused Receiver)) (m m' : Lent) → LentAlike r l l' → LentAlike (receiver_left a) m m' →
    FedAlike (fed_from b k (i + 1) (receiver_left a) m) (fed_from b k (i + 1) (receiver_left a) m') → FedAlike (step_fed b k i r l a m) (step_fed b k i r l' a m')
unfolding fed_on when◌then◌else◌
step_alike b k i r l l' (Ok a) m m' w v on =
    by_test (tells_any a)
    (λ t. rw t (record { used = refl; receiver = refl; events = refl; runs = refl; acc = v.acc; soft = v.soft; stores = v.stores }))
    (λ t. rw t on)
step_alike b k i r l l' (Err x) m m' w v on = quiet_alike i r l l' w

lent_is : (l m : Lent) → l.acc ≡ m.acc → l.soft ≡ m.soft → lent l.acc l.soft m.store ≡ m
lent_is l m p q = λ i. record { acc = p i; store = m.store; soft = q i }

fed_zero : (b : Block) (i : ℕ) (r : Receiver) (l m : Lent) → LentAlike r l m → FedAlike (fed_from b zero i r l) (fed_from b zero i r m)
unfolding fed_from
fed_zero b i r l m w = quiet_alike i r l m w

fed_more : (b : Block) (k i : ℕ) (r : Receiver) (l l' : Lent) → LentAlike r l l' →
    ((m m' : Lent) → LentAlike (receiver_left (symbol_answer r (input_at b i) l)) m m' →
    FedAlike (fed_from b k (i + 1) (receiver_left (symbol_answer r (input_at b i) l)) m) (fed_from b k (i + 1) (receiver_left (symbol_answer r (input_at b i) l)) m')) →
    FedAlike (fed_from b (suc k) i r l) (fed_from b (suc k) i r l')
unfolding fed_from
fed_more b k i r l l' w on =
    let x = input_at b i in
    let e = lent_is l l' w.acc w.soft in
    let v = alike r x l.acc l.soft l.store l'.store w.stores in
    let a = symbol_answer r x l in
    let m = symbol_lent r x l in
    let same : a ≡ symbol_answer r x l' = v.answer ∙ ap (symbol_answer r x) e in
    let left = ap (symbol_lent r x) e in
    let q : LentAlike (receiver_left a) m (symbol_lent r x l') =
    subst (LentAlike (receiver_left a) m) left (record { acc = v.acc_is; soft = v.soft_is; stores = v.agree }) in
    subst (λ (y : Result Answer (Refused Receiver)). FedAlike (step_fed b k i r l a m) (step_fed b k i r l' y (symbol_lent r x l'))) same
    (step_alike b k i r l l' a m (symbol_lent r x l') w q (on m (symbol_lent r x l') q))

fed_alike : (b : Block) (k i : ℕ) (r : Receiver) (l m : Lent) → LentAlike r l m → FedAlike (fed_from b k i r l) (fed_from b k i r m)
fed_alike b zero i r l m w = fed_zero b i r l m w
fed_alike b (suc k) i r l m w = fed_more b k i r l m w (λ u v q. fed_alike b k (i + 1) (receiver_left (symbol_answer r (input_at b i) l)) u v q)

-- ---- a feed with the receiver's own stores
fit_alike : (r : Receiver) (l m : Lent) → LentAlike r l m → stores_fit l ≡ stores_fit m
unfolding stores_fit
fit_alike r l m w = rw (w.acc, w.soft, w.stores.first, w.stores.second)

refusal_alike : (b : Block) (r : Receiver) (l m : Lent) → LentAlike r l m → feed_refusal r b l ≡ feed_refusal r b m
unfolding feed_refusal standing_refusal when◌then◌else◌
refusal_alike b r l m w =
    let x = input_at b 0 in
    let e = (alike r x l.acc l.soft l.store m.store w.stores).refusal ∙ ap (symbol_refusal r x) (lent_is l m w.acc w.soft) in
    by_test (eqb (symbols_of b) 0) (λ t. rw (t, fit_alike r l m w)) (λ t. rw t e)

feed_alike : (b : Block) (r : Receiver) (l m : Lent) → LentAlike r l m → FedAlike (feed_of r b l) (feed_of r b m)
unfolding feed_of
feed_alike b r l m w =
    let e = refusal_alike b r l m w in
    by_refusal (feed_refusal r b l)
    (λ t. rw (sym e, t) (fed_alike b (symbols_of b) 0 r l m w))
    (λ why t. rw (sym e, t) (quiet_alike 0 r l m w))

-- ---- what it tells and leaves
record FeedSame (s t : System) (d : Feed) : Type 0 where
  pub used : (fed_by s d).used ≡ (fed_by t d).used
  pub told : told_feed s d ≡ told_feed t d
  pub after : Same (after_feed s d) (after_feed t d)

module _ (r : Receiver) (acc : List ℕ) (a b : List ℤ) (g : Agree r.front.phase a b) where
  abbrev sa : System
  sa = sys r acc a

  abbrev sb : System
  sb = sys r acc b

  own_same : (block : Block) (soft : List ℤ) → FeedSame sa sb (record { block = block; accumulators = own; slots = own; soft = soft })
  unfolding told_feed after_feed lent_to handed_acc handed_store kept_acc kept_store
  own_same block soft =
      let l = lent acc soft a in
      let m = lent acc soft b in
      let q : LentAlike r l m = record { acc = refl; soft = refl; stores = g } in
      let w = feed_alike block r l m q in
      let n = refusal_alike block r l m q in
      record {
        used = w.used;
        told = λ j. record { refusal = code_of (n j); events = w.events j; runs = w.runs j; sums = None; soft = w.soft j; lent = w.acc j; acc = w.acc j };
        after = record { receivers = w.receiver; accs = w.acc; stores = w.stores };
      }

  -- with one that gives 1
  handed-same : (u : Accumulators) → handed_acc sa u ≡ handed_acc sb u
  unfolding handed_acc
  handed-same own = refl
  handed-same (wrong l e) = refl

  nothing-same : (d : Feed) (n : ℕ) → told_nothing sa d n ≡ told_nothing sb d n
  unfolding told_nothing
  nothing-same d n = let e = handed-same d.accumulators in rw e

  wrong-same : (d : Feed) → (own_acc d.accumulators && own_store d.slots) ≡ false → FeedSame sa sb d
  wrong-same d z =
      record {
        used = wrong-used sa d z ∙ sym (wrong-used sb d z);
        told = wrong-told sa d z ∙ ap (told_nothing sa d) (refused-1 sa d z ∙ sym (refused-1 sb d z)) ∙ nothing-same d (told_feed sb d).refusal ∙ sym (wrong-told sb d z);
        after =
            subst (λ (y : System). Same y (after_feed sb d)) (sym (wrong-after sa d z))
            (subst (λ (y : System). Same sa y) (sym (wrong-after sb d z)) (record { receivers = refl; accs = refl; stores = g }));
      }

feed_same : (s t : System) (d : Feed) → Same s t → FeedSame s t d
feed_same s t d w =
    subst (λ (v : System). FeedSame s v d) (ap₂ (λ (r : Receiver) (k : List ℕ). sys r k t.store) w.receivers w.accs)
    (own-or-wrong-feed (FeedSame s (sys s.receiver s.acc t.store)) (own_same s.receiver s.acc s.store t.store w.stores) (wrong-same s.receiver s.acc s.store t.store w.stores) d)

-- ---- every list of calls and feeds
item_told : (s t : System) (x : Item) → Same s t → told_item s x ≡ told_item t x
unfolding told_item
item_told s t (call c) w = ap called (told_same s t c w)
item_told s t (feed d) w = let v = feed_same s t d w in ap₂ fed v.used v.told

item_same : (s t : System) (x : Item) → Same s t → Same (after_item s x) (after_item t x)
unfolding after_item
item_same s t (call c) w = after_same s t c w
item_same s t (feed d) w = (feed_same s t d w).after

pub items_same : (s t : System) (xs : List Item) → Same s t → told_items s xs ≡ told_items t xs
unfolding told_items
items_same s t [] w = refl
items_same s t (x ∷ xs) w =
    ap₂ (λ (y : ItemTold) (ys : List ItemTold). y ∷ ys) (item_told s t x w) (items_same (after_item s x) (after_item t x) xs (item_same s t x w))
