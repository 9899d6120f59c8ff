-- Two receivers with the same numbers and accumulators answer every list of calls alike, if their slot stores agree on the held slot. Assumes nothing.
use Prim.Native.Nat.{ℕ}
use Rattle.eq.specs.Eq.{loaded_eq, with_sums}
use Rattle.eq.specs.declared.Equaliser.{Equaliser}
use Rattle.laws.proofs.Tests.{if_both}
use Rattle.laws.specs.Choice.{when◌then◌else◌}
use Rattle.refusal.specs.declared.Refusal.{Refusal}
use Rattle.refusal.specs.declared.Refused.{Refused}
use Rattle.refusal.specs.Refusals.{answered, state_after}
use Rattle.refusal.proofs.Answered.{answered_both}
use Rattle.std.specs.Prelude.{Result, ⊤}
use Rattle.receiver.specs.declared.Answer.{Answer}
use Rattle.receiver.specs.declared.Receiver.{Receiver}
use Rattle.receiver.specs.Answers.{ended_of, range_refusal, receiver_ended, receiver_left, loaded_points, points_refusal, restart_refusal, eq_answer, end_answer, open_answer, points_answer, restart_answer, stores_fit, symbol_answer, symbol_refusal, taps_answer, with_eq, with_points}
use Rattle.receiver.specs.Started.{kept_of, started}
use Rattle.receiver.specs.declared.Ended.{Ended}
use Rattle.sums.specs.Sums.{empty_sums}
use Rattle.receiver.specs.Symbol.{Input, Lent}
use Rattle.receiver_laws.proofs.Stores.{alike}
use Rattle.receiver_laws.specs.Stores.{Agree, lent}
use Rattle.guarantee.specs.Calls.{Accumulators, Call, SlotStore, System, Told, after_call, handed_acc, handed_store, kept_acc, kept_store, lent_to, plain, told_all, told_by}
use Rattle.guarantee.specs.Calls.{symbol, points, taps, opens, ends, restarts, own, wrong}
use lib.Dec.{eqb, leb}
use lib.IntN.{ℤ}
use lib.ListN.{length}
use mathlib.Core.Bool.{false, true, ◌&&◌}
use mathlib.Core.List.{List, [], ◌∷◌}
use Rattle.std.proofs.lemmas.Bool.{and_left, and_right}
use mathlib.Core.Path.{◌≡◌, ap, ap₂, refl, sym, subst}

abbrev pub sys : Receiver → List ℕ → List ℤ → System
sys r acc store = record { receiver = r; acc = acc; store = store }

-- ---- a wrong slot store gives 1, and the receiver received
no_fit : (l : Lent) → eqb (length l.store) 18592 ≡ false → stores_fit l ≡ false
unfolding stores_fit
no_fit l e = and_left (eqb (length l.acc) 9296 && eqb (length l.store) 18592) (leb 44880 (length l.soft)) (and_right (eqb (length l.acc) 9296) (eqb (length l.store) 18592) e)

refused-same : (r : Receiver) (x : Input) (l : Lent) → stores_fit l ≡ false → receiver_left (symbol_answer r x l) ≡ r
unfolding symbol_answer symbol_refusal when◌then◌else◌
refused-same r x l e = rw e

-- ---- one call
module _ (r : Receiver) (acc : List ℕ) (a b : List ℤ) (g : Agree r.front.phase a b) where
  abbrev sa : System
  sa = sys r acc a

  abbrev sb : System
  sb = sys r acc b

  symbol-told : (x : Input) (u : Accumulators) (v : SlotStore) (soft : List ℤ) → told_by sa (symbol x u v soft) ≡ told_by sb (symbol x u v soft)
  unfolding told_by lent_to handed_acc handed_store kept_acc
  symbol-told x own own soft = let w = alike r x acc soft a b g in rw (w.answer, w.acc_is, w.soft_is)
  symbol-told x own (wrong l e) soft = refl
  symbol-told x (wrong m d) own soft = let w = alike r x m soft a b g in rw (w.answer, w.acc_is, w.soft_is)
  symbol-told x (wrong m d) (wrong l e) soft = refl

  same-told : (c : Call) → told_by sa c ≡ told_by sb c
  unfolding told_by plain handed_acc kept_acc
  same-told (symbol x u v soft) = symbol-told x u v soft
  same-told (points bits ps k) = refl
  same-told (taps ts frame) = refl
  same-told (opens frame) = refl
  same-told ends = refl
  same-told (restarts at own) = refl
  same-told (restarts at (wrong m d)) = refl

-- what a call leaves: the same but for the stores
pub record Same (s t : System) : Type 0 where
  pub receivers : s.receiver ≡ t.receiver
  pub accs : s.acc ≡ t.acc
  pub stores : Agree s.receiver.front.phase s.store t.store

module _ (r : Receiver) (acc : List ℕ) (a b : List ℤ) (g : Agree r.front.phase a b) where
  symbol-same : (x : Input) (u : Accumulators) (v : SlotStore) (soft : List ℤ) → Same (after_call (sys r acc a) (symbol x u v soft)) (after_call (sys r acc b) (symbol x u v soft))
  unfolding after_call lent_to handed_acc handed_store kept_acc kept_store
  symbol-same x own own soft =
      let w = alike r x acc soft a b g in
      record { receivers = ap (λ (k : Result Answer (Refused Receiver)). receiver_left k) w.answer; accs = w.acc_is; stores = w.agree }
  symbol-same x own (wrong l e) soft =
      let k = lent acc soft l in
      record { receivers = refl; accs = refl; stores = subst (λ (u : Receiver). Agree u.front.phase a b) (sym (refused-same r x k (no_fit k e))) g }
  symbol-same x (wrong m d) own soft =
      let w = alike r x m soft a b g in
      record { receivers = ap (λ (k : Result Answer (Refused Receiver)). receiver_left k) w.answer; accs = refl; stores = w.agree }
  symbol-same x (wrong m d) (wrong l e) soft =
      let k = lent m soft l in
      record { receivers = refl; accs = refl; stores = subst (λ (u : Receiver). Agree u.front.phase a b) (sym (refused-same r x k (no_fit k e))) g }

  -- a load, an opening and an end leave the slot phase; a restart holds no slot
  abbrev Held : Receiver → Type 0
  Held u = Agree u.front.phase a b

  left-held : (t : Result ⊤ Refusal) (u : Receiver) → Held u → Held (state_after (answered t r u))
  left-held t u k = answered_both (λ (y : Result Receiver (Refused Receiver)). Held (state_after y)) t r u k (λ why. g)

  points-held : (bits : ℕ) (ps : List ℤ) (k : ℤ) → Held (state_after (points_answer r bits ps k))
  unfolding points_answer with_points
  points-held bits ps k = left-held (points_refusal r bits (length ps) k) (with_points r (loaded_points bits ps k)) g

  eq_held : (e : Equaliser) → Held (state_after (eq_answer r e))
  unfolding eq_answer with_eq
  eq_held e = left-held (range_refusal r) (with_eq r e) g

  end-held : Held (receiver_ended (end_answer r))
  unfolding end_answer ended_of with_eq
  end-held =
      answered_both (λ (y : Result Ended (Refused Receiver)). Held (receiver_ended y)) (range_refusal r) r (ended_of r)
      (if_both (λ (u : Ended). Held u.receiver) r.back.eq.opened _ _ g g)
      (λ why. g)

  restart-held : (at : ℕ) (m : List ℕ) → Held (state_after (restart_answer r at m))
  unfolding restart_answer started
  restart-held at m = left-held (restart_refusal r at (length m)) (started at (kept_of r)) (record { first = g.first; second = g.second; held = tt })

  call_same : (c : Call) → Same (after_call (sys r acc a) c) (after_call (sys r acc b) c)
  unfolding after_call handed_acc kept_acc taps_answer open_answer
  call_same (symbol x u v soft) = symbol-same x u v soft
  call_same (points bits ps k) = record { receivers = refl; accs = refl; stores = points-held bits ps k }
  call_same (taps ts frame) = record { receivers = refl; accs = refl; stores = eq_held (loaded_eq r.back.eq ts frame) }
  call_same (opens frame) = record { receivers = refl; accs = refl; stores = eq_held (with_sums r.back.eq true (empty_sums frame)) }
  call_same ends = record { receivers = refl; accs = refl; stores = end-held }
  call_same (restarts at own) = record { receivers = refl; accs = refl; stores = restart-held at acc }
  call_same (restarts at (wrong m d)) = record { receivers = refl; accs = refl; stores = restart-held at m }

-- ---- a call of two such
pub told_same : (s t : System) (c : Call) → Same s t → told_by s c ≡ told_by t c
told_same s t c w =
    let e : sys s.receiver s.acc t.store ≡ t = ap₂ (λ (r : Receiver) (k : List ℕ). sys r k t.store) w.receivers w.accs in
    subst (λ (v : System). told_by s c ≡ told_by v c) e (same-told s.receiver s.acc s.store t.store w.stores c)

pub after_same : (s t : System) (c : Call) → Same s t → Same (after_call s c) (after_call t c)
after_same s t c w =
    let e : sys s.receiver s.acc t.store ≡ t = ap₂ (λ (r : Receiver) (k : List ℕ). sys r k t.store) w.receivers w.accs in
    subst (λ (v : System). Same (after_call s c) (after_call v c)) e (call_same s.receiver s.acc s.store t.store w.stores c)

-- ---- every list of calls
pub same-all : (s t : System) (cs : List Call) → Same s t → told_all s cs ≡ told_all t cs
unfolding told_all
same-all s t [] w = refl
same-all s t (c ∷ cs) w = ap₂ (λ (x : Told) (xs : List Told). x ∷ xs) (told_same s t c w) (same-all (after_call s c) (after_call t c) cs (after_same s t c w))
