-- What a turn leaves to do, and the whole feed. Assumes nothing.
use Prim.Native.Nat.{ℕ, zero, suc, ◌+◌, ◌-◌, ◌*◌, ◌/◌, ◌<◌, ◌≤◌}
use mathlib.Core.Bool.{Bool, true, false, ◌&&◌}
use mathlib.Core.List.{List}
use mathlib.Core.Path.{◌≡◌, refl, sym, ap, subst, ◌∙◌}
use native.Mathlib.Omega.{arith}
use borrow.Author.Tests.{eq-eqb, eqb-true, le-leb, leb-true, ne_eqb}
use lib.Dec.{eqb, leb}
use lib.IntN.{ℤ, pos}
use lib.ListN.{get_or, length}
use Rattle.std.specs.Prelude.{Result, Ok, Err, ⊤}
use Rattle.laws.specs.Choice.{when◌then◌else◌, if_yes, if_no}
use Rattle.laws.proofs.Taken.{err_not_ok, ok_yes}
use Rattle.laws.proofs.Tests.{and_both, by_test, if_both, if_either, never}
use Rattle.refusal.specs.declared.Refusal.{Refusal}
use Rattle.refusal.specs.declared.Refusal.TheVariants.{Stores, Words, Table, Arithmetic}
use Rattle.refusal.specs.declared.Refused.{Refused}
use Rattle.refusal.specs.Refusals.{answered, written}
use Rattle.sync_corr.specs.Correlate.{ones_of}
use Rattle.sync_corr.specs.Rows.{rows_of}
use Rattle.receiver.specs.declared.Receiver.{Receiver}
use Rattle.receiver.specs.declared.Answer.{Answer}
use Rattle.receiver.specs.Symbol.{Input, Lent, lent_after}
use Rattle.receiver.specs.Ranges.{receiver_in_range}
use Rattle.receiver.specs.Answers.{accepted_symbol, range_refusal, receiver_left, stores_fit, symbol_answer, symbol_lent, symbol_refusal}
use Rattle.receiver.specs.Feed.{Block, Fed, fed_by, fed_from, feed_of, feed_refusal, input_at, quiet_at, standing_refusal, symbols_of, tells_any}
use Rattle.receiver_symbol.specs.Parts.{lent_refusal, soon_refusal, state_refusal, tested}
use Rattle.receiver_symbol.proofs.Ready.{tested_ok}
use Rattle.receiver_symbol.proofs.Symbols.{answer-soon, lent-soon}
use Rattle.receiver_feed.specs.declared.Goes.{Goes}
use Rattle.receiver_feed.specs.declared.Goes.TheVariants.{On, Told, Refused as Stopped}
use Rattle.receiver_feed.specs.declared.Turn.{Turn}
use Rattle.receiver_feed.specs.declared.Fed.{Fed as Answered}
use Rattle.receiver_feed.specs.Answers.{feed_answer, used_in}
use Rattle.receiver_feed.specs.Quiet.{Fits, lent_by, moves_from, passed_by}
use Rattle.receiver_feed.proofs.Calm.{calm_known, stretch-stands}
use Rattle.receiver_feed.specs.Turns.{Leads, Stand, Stands, answer_as, answer_of, calm_of, goes_by, goes_on, is_on, quiet_fed, rest_as, rest_by, stand_by, stand_from, standing_by, stopped_at, told_by}

-- ---- a turn of one symbol: what its call answers and leaves, by the test that let it through or not
told_stands : (q : Result ⊤ Refusal) (a : Answer) (b : Block) (n i k : ℕ) (r : Receiver) (l m : Lent) → n - (i + 1) ≡ k →
    rest_by b n (told_by (answered q r a) i) (written q l m)
    ≡ stand_by i r l (answered q r a) (written q l m) (stand_from b k (i + 1) (receiver_left (answered q r a)) (written q l m))
unfolding rest_by rest_as told_by goes_by stopped_at stand_by when◌then◌else◌
told_stands (Ok x) a b n i k r l m e = by_test (tells_any a) (λ t. rw t) (λ t. rw (t, e))
told_stands (Err why) a b n i k r l m e = refl

pub single_stands : (b : Block) (n i : ℕ) (r : Receiver) (l : Lent) → i < n →
    rest_by b n (told_by (symbol_answer r (input_at b i) l) i) (symbol_lent r (input_at b i) l) ≡ stand_from b (n - i) i r l
unfolding stand_from symbol_answer symbol_lent
single_stands b n i r l h =
    let x = input_at b i in
    let k = n - (i + 1) in
    let e : n - i ≡ suc k = omega (arith, h) in
    told_stands (symbol_refusal r x l) (accepted_symbol r x l) b n i k r l (lent_after 9296 r x l) refl ∙ sym (ap (λ (v : ℕ). stand_from b v i r l) e)

pub told_leads : (a : Result Answer (Refused Receiver)) (n i : ℕ) → i < n → Leads n i (told_by a i)
unfolding told_by stopped_at
told_leads (Ok a) n i h = record { from = omega arith; most = omega (arith, h); on = λ e. omega arith }
told_leads (Err x) n i h = record { from = omega arith; most = omega (arith, h); on = λ e. absurd (never (sym e)) }

-- ---- a turn that a receiver's state stops
pub state_soon : (r : Receiver) (acc store soft : ℕ) (f s : List ℤ) (table : ℕ) → Stands acc store soft f s table → soon_refusal r acc store soft f s table ≡ state_refusal r
unfolding soon_refusal lent_refusal when◌then◌else◌
state_soon r acc store soft f s table g = rw (eq-eqb acc 9296 g.long, eq-eqb store 18592 g.held, le-leb 44880 soft g.buffer, g.first, g.second, eq-eqb table 1024 g.cosines)

stopped-told : (why : Refusal) (r : Receiver) (i : ℕ) → stopped_at why r i ≡ told_by (Err (record { why = why; state = r })) i
unfolding told_by
stopped-told why r i = refl

pub stopped_end : (b : Block) (n i : ℕ) (why : Refusal) (r : Receiver) (l : Lent) (t : Turn) → i < n → Stands (length l.acc) (length l.store) (length l.soft) b.f b.s (length b.table) →
    Err why ≡ state_refusal r → t ≡ stopped_at why r i → (rest_by b n t l ≡ stand_from b (n - i) i r l) × (Leads n i t)
stopped_end b n i why r l t h g e et =
    let x = input_at b i in
    let q : soon_refusal r (length l.acc) (length l.store) (length l.soft) x.f x.s (length x.table) ≡ Err why = state-here ∙ sym e in
    let u : t ≡ told_by (symbol_answer r x l) i = et ∙ stopped-told why r i ∙ ap (λ (a : Result Answer (Refused Receiver)). told_by a i) (answer-soon r x l why q) in
    (rw u (ap (rest_by b n (told_by (symbol_answer r x l) i)) (sym (lent-soon r x l why q)) ∙ single_stands b n i r l h), rw u (told_leads (symbol_answer r x l) n i h))
  where
    state-here : soon_refusal r (length l.acc) (length l.store) (length l.soft) (input_at b i).f (input_at b i).s (length (input_at b i).table) ≡ state_refusal r
    state-here = unfold input_at in state_soon r _ _ _ _ _ _ g

pub out_of_range : (r : Receiver) → receiver_in_range r ≡ false → Err Arithmetic ≡ state_refusal r
unfolding state_refusal range_refusal when◌then◌else◌
out_of_range r e = rw e

-- ---- the end of a feed
-- it is crate receiver's feed, with what stops it
used_by : (a : Result Answer (Refused Receiver)) (i : ℕ) (r : Receiver) (l m : Lent) (on : Fed) → i + 1 ≤ on.used → i ≤ (fed_by i r l a m on).used
unfolding fed_by quiet_at
used_by (Ok a) i r l m on h = if_both (λ (x : Fed). i ≤ x.used) (tells_any a) _ _ (omega arith) (omega (arith, h))
used_by (Err x) i r l m on h = omega arith

used-from : (b : Block) (k i : ℕ) (r : Receiver) (l : Lent) → i ≤ (fed_from b k i r l).used
unfolding fed_from
used-from b zero i r l = unfold quiet_at in omega arith
used-from b (suc k) i r l =
    let a = symbol_answer r (input_at b i) l in
    let m = symbol_lent r (input_at b i) l in
    used_by a i r l m _ (used-from b k (i + 1) (receiver_left a) m)

stand_fed_by : (a : Result Answer (Refused Receiver)) (i : ℕ) (r : Receiver) (l m : Lent) (s : Stand) (on : Fed) → s.fed ≡ on → (stand_by i r l a m s).fed ≡ fed_by i r l a m on
unfolding stand_by fed_by when◌then◌else◌
stand_fed_by (Ok a) i r l m s on e = by_test (tells_any a) (λ t. rw t) (λ t. rw t e)
stand_fed_by (Err x) i r l m s on e = refl

stand_fed : (b : Block) (k i : ℕ) (r : Receiver) (l : Lent) → (stand_from b k i r l).fed ≡ fed_from b k i r l
unfolding stand_from fed_from
stand_fed b zero i r l = refl
stand_fed b (suc k) i r l =
    let a = symbol_answer r (input_at b i) l in
    let m = symbol_lent r (input_at b i) l in
    stand_fed_by a i r l m _ _ (stand_fed b k (i + 1) (receiver_left a) m)

-- ---- the turns
rest_going : (b : Block) (n i : ℕ) (r : Receiver) (l : Lent) (g : Goes) → is_on g ≡ true → rest_as b n i r l g ≡ stand_from b (n - i) i r l
unfolding rest_as
rest_going b n i r l On e = refl
rest_going b n i r l (Told es ws) e = absurd (never (sym e))
rest_going b n i r l (Stopped why) e = absurd (never (sym e))

pub rest_on : (b : Block) (n : ℕ) (t : Turn) (l : Lent) → goes_on t ≡ true → rest_by b n t l ≡ stand_from b (n - t.used) t.used t.receiver l
unfolding rest_by
rest_on b n t l e = rest_going b n t.used t.receiver l t.goes e

rest_ended : (b : Block) (n i : ℕ) (r : Receiver) (l : Lent) (g : Goes) → i ≤ n → (is_on g ≡ true → n ≤ i) → rest_as b i i r l g ≡ rest_as b n i r l g
unfolding rest_as
rest_ended b n i r l On h e = let z : i ≡ n = omega (arith, h, e refl) in ap (λ (v : ℕ). stand_from b (v - i) i r l) z
rest_ended b n i r l (Told es ws) h e = refl
rest_ended b n i r l (Stopped why) h e = refl

pub rest_end : (b : Block) (n : ℕ) (t : Turn) (l : Lent) → t.used ≤ n → (goes_on t ≡ true → n ≤ t.used) → rest_by b t.used t l ≡ rest_by b n t l
unfolding rest_by
rest_end b n t l h e = rest_ended b n t.used t.receiver l t.goes h e

-- ---- the whole feed, from what stands at its end
unfoldable fed_told : Fed → Answered
fed_told x = record { used = x.used; receiver = x.receiver; events = x.events; runs = x.runs }

unfoldable stand_answer : Stand → Result Answered (Refused Receiver)
stand_answer x = when eqb x.fed.used 0 then answered x.refusal x.fed.receiver (fed_told x.fed) else Ok (fed_told x.fed)

stand_none : (b : Block) (u i : ℕ) (r : Receiver) (l : Lent) → stand_from b (u - u) i r l ≡ record { refusal = Ok tt; fed = quiet_at i r l }
unfolding stand_from
stand_none b u i r l = let z : u - u ≡ 0 = omega arith in rw z

answer_stand_as : (b : Block) (u : ℕ) (r : Receiver) (l : Lent) (g : Goes) → answer_as u r g ≡ stand_answer (rest_as b u u r l g)
unfolding answer_as rest_as stand_answer fed_told quiet_at quiet_fed
answer_stand_as b u r l On = rw (stand_none b u u r l) (if_both (λ (y : Result Answered (Refused Receiver)). Ok (quiet_fed u r) ≡ y) (eqb u 0) _ _ refl refl)
answer_stand_as b u r l (Told es ws) = if_both (λ (y : Result Answered (Refused Receiver)). Ok (record { used = u; receiver = r; events = es; runs = ws }) ≡ y) (eqb u 0) _ _ refl refl
answer_stand_as b u r l (Stopped why) = refl

answer_stand : (b : Block) (t : Turn) (l : Lent) → answer_of t ≡ stand_answer (rest_by b t.used t l)
unfolding answer_of rest_by
answer_stand b t l = answer_stand_as b t.used t.receiver l t.goes

lent_stand_as : (b : Block) (u : ℕ) (r : Receiver) (l : Lent) (g : Goes) → l ≡ (rest_as b u u r l g).fed.lent
unfolding rest_as quiet_at
lent_stand_as b u r l On = rw (stand_none b u u r l)
lent_stand_as b u r l (Told es ws) = refl
lent_stand_as b u r l (Stopped why) = refl

lent_stand : (b : Block) (t : Turn) (l : Lent) → l ≡ (rest_by b t.used t l).fed.lent
unfolding rest_by
lent_stand b t l = lent_stand_as b t.used t.receiver l t.goes

-- ---- a turn, from the results of its parts
module _ (b : Block) (n i : ℕ) (r : Receiver) (l : Lent) where
  pub single-end : (xi xq : ℤ) (a : Result Answer (Refused Receiver)) (t : Turn) (m : Lent) → i < n → xi ≡ get_or b.bytes (2 * i) (pos 0) → xq ≡ get_or b.bytes (2 * i + 1) (pos 0) →
      let x : Input = record { xi = xi; xq = xq; f = b.f; s = b.s; table = b.table } in
      a ≡ symbol_answer r x l → m.acc ≡ (symbol_lent r x l).acc → m.store ≡ (symbol_lent r x l).store → m.soft ≡ (symbol_lent r x l).soft → t ≡ told_by a i →
      (rest_by b n t m ≡ stand_from b (n - i) i r l) × (Leads n i t)
  single-end xi xq a t m h ei eq ea e1 e2 e3 et =
      let x : Input = record { xi = xi; xq = xq; f = b.f; s = b.s; table = b.table } in
      let ex : x ≡ input_at b i = input-is in
      let em : m ≡ symbol_lent r (input_at b i) l = lent_eq m (symbol_lent r x l) e1 e2 e3 ∙ ap (λ (y : Input). symbol_lent r y l) ex in
      let eu : t ≡ told_by (symbol_answer r (input_at b i) l) i = et ∙ ap (λ (y : Result Answer (Refused Receiver)). told_by y i) (ea ∙ ap (λ (y : Input). symbol_answer r y l) ex) in
      (rw (eu, em) (single_stands b n i r l h), rw et (told_leads a n i h))
    where
      input-is : ◌≡◌ {A = Input} (record { xi = xi; xq = xq; f = b.f; s = b.s; table = b.table }) (input_at b i)
      input-is = unfold input_at in rw (ei, eq)

      lent_eq : (u v : Lent) → u.acc ≡ v.acc → u.store ≡ v.store → u.soft ≡ v.soft → u ≡ v
      lent_eq u v p q s = sym (rw (← p, ← q, ← s))

module _ (b : Block) (n i : ℕ) (r : Receiver) (acc : List ℕ) (store soft : List ℤ) where
  -- what is left behind a stretch
  pub stretch-left : (m k : ℕ) (rows : List ℤ) (v : Receiver) (acc' : List ℕ) (store' : List ℤ) → i < n → m ≡ calm_of r (n - i) → (m ≡ 0 → ⊥) →
      Stands (length acc) (length store) (length soft) b.f b.s (length b.table) → rows ≡ rows_of b.f b.s →
      v ≡ passed_by r k (moves_from r b.bytes b.table rows acc store i k) → acc' ≡ (moves_from r b.bytes b.table rows acc store i k).acc →
      store' ≡ (moves_from r b.bytes b.table rows acc store i k).store → k ≤ m → ((j : ℕ) → j < k → Fits (moves_from r b.bytes b.table rows acc store i j)) →
      stand_from b (n - (i + k)) (i + k) v (record { acc = acc'; store = store'; soft = soft }) ≡ stand_from b (n - i) i r (record { acc = acc; store = store; soft = soft })
  unfolding lent_by
  stretch-left m k rows v acc' store' h e z w er ev ea es' l f =
      let q = calm_known r (n - i) m e z in
      let c : k + (n - (i + k)) ≡ n - i = omega (arith, h, l, q.2) in
      rw (ev, ea, es', er) (sym (stretch-stands r b i m acc store soft q.0 q.1 w k (n - (i + k)) l (λ j y. subst (λ (x : List ℤ). Fits (moves_from r b.bytes b.table x acc store i j)) er (f j y))) ∙ ap (λ (x : ℕ). stand_from b x i r (record { acc = acc; store = store; soft = soft })) c)

  pub stretch-end : (m k : ℕ) (rows : List ℤ) (v : Receiver) (acc' : List ℕ) (store' : List ℤ) → i < n → m ≡ calm_of r (n - i) → (m ≡ 0 → ⊥) →
      Stands (length acc) (length store) (length soft) b.f b.s (length b.table) → rows ≡ rows_of b.f b.s →
      v ≡ passed_by r k (moves_from r b.bytes b.table rows acc store i k) → acc' ≡ (moves_from r b.bytes b.table rows acc store i k).acc →
      store' ≡ (moves_from r b.bytes b.table rows acc store i k).store → 1 ≤ k → k ≤ m → ((j : ℕ) → j < k → Fits (moves_from r b.bytes b.table rows acc store i j)) →
      let t : Turn = record { used = i + k; receiver = v; goes = On } in
      (rest_by b n t (record { acc = acc'; store = store'; soft = soft }) ≡ stand_from b (n - i) i r (record { acc = acc; store = store; soft = soft })) × (Leads n i t)
  stretch-end m k rows v acc' store' h e z w er ev ea es' u l f =
      let q = calm_known r (n - i) m e z in
      let t : Turn = record { used = i + k; receiver = v; goes = On } in
      let lead : Leads n i t = record { from = omega arith; most = omega (arith, h, l, q.2); on = λ y. omega (arith, u) } in
      (on (stretch-left m k rows v acc' store' h e z w er ev ea es' l f), lead)
    where
      on : stand_from b (n - (i + k)) (i + k) v (record { acc = acc'; store = store'; soft = soft }) ≡ stand_from b (n - i) i r (record { acc = acc; store = store; soft = soft }) →
          rest_by b n (record { used = i + k; receiver = v; goes = On }) (record { acc = acc'; store = store'; soft = soft })
          ≡ stand_from b (n - i) i r (record { acc = acc; store = store; soft = soft })
      on y = unfold rest_by rest_as in y

pub both_end : (b : Block) (n i k : ℕ) (r v : Receiver) (l m p : Lent) (t : Turn) → stand_from b (n - (i + k)) (i + k) v m ≡ stand_from b (n - i) i r l →
    (rest_by b n t p ≡ stand_from b (n - (i + k)) (i + k) v m) × (Leads n (i + k) t) → (rest_by b n t p ≡ stand_from b (n - i) i r l) × (Leads n i t)
both_end b n i k r v l m p t e h =
    let w = h.1 in
    let a = w.from in
    (h.0 ∙ e, record { from = omega (arith, a); most = w.most; on = λ d. let q = w.on d in omega (arith, q) })

pub first_rest : (b : Block) (n : ℕ) (r : Receiver) (l : Lent) → rest_by b n (record { used = 0; receiver = r; goes = On }) l ≡ stand_from b n 0 r l
unfolding rest_by rest_as
first_rest b n r l = let z : n - 0 ≡ n = omega arith in rw z

-- ---- the whole feed
pub standing_known : (r : Receiver) (acc store soft : ℕ) (f s : List ℤ) (table : ℕ) → standing_by r acc store soft f s table ≡ Ok tt → (Stands acc store soft f s table) × (receiver_in_range r ≡ true)
unfolding standing_by lent_refusal range_refusal
standing_known r acc store soft f s table h =
    let p = tested_ok (lent_refusal acc store soft f s table) (range_refusal r) h in
    let a = ok_yes (eqb acc 9296 && eqb store 18592 && leb 44880 soft) _ _ p.0 in
    let d = ok_yes (ones_of f && ones_of s) _ _ a.1 in
    let e = ok_yes (eqb table 1024) _ _ d.1 in
    let i = ok_yes (receiver_in_range r) _ _ p.1 in
    let x = and_both (eqb acc 9296 && eqb store 18592) (leb 44880 soft) a.0 in
    let q = and_both (eqb acc 9296) (eqb store 18592) x.0 in
    let o = and_both (ones_of f) (ones_of s) d.0 in
    (record { long = eqb-true acc 9296 q.0; held = eqb-true store 18592 q.1; buffer = leb-true 44880 soft x.1; first = o.0; second = o.1; cosines = eqb-true table 1024 e.0 }, i.0)

passing : (a d e : Bool) (x : Result ⊤ Refusal) → (when a then when d then when e then x else Err Table else Err Words else Err Stores)
    ≡ tested (when a then when d then when e then Ok tt else Err Table else Err Words else Err Stores) x
unfolding when◌then◌else◌
passing false d e x = refl
passing true false e x = refl
passing true true false x = refl
passing true true true x = refl

same-refusal : (a d e f : Bool) (x : Result ⊤ Refusal) (why : Refusal) →
    tested (when a then when d then when e then Ok tt else Err Table else Err Words else Err Stores) (when f then Ok tt else Err Arithmetic) ≡ Err why →
    (when a then when d then when e then when f then x else Err Arithmetic else Err Table else Err Words else Err Stores) ≡ Err why
unfolding when◌then◌else◌
same-refusal false d e f x why h = h
same-refusal true false e f x why h = h
same-refusal true true false f x why h = h
same-refusal true true true false x why h = h
same-refusal true true true true x why h = absurd (err_not_ok (sym h))

-- a feed that a first symbol's call begins
stand_used : (x : Stand) → 1 ≤ x.fed.used → stand_answer x ≡ Ok (fed_told x.fed)
unfolding stand_answer
stand_used x h = if_no (eqb x.fed.used 0) _ _ (ne_eqb x.fed.used 0 (λ q. omega (arith, q, h)))

first_answer : (q : Result ⊤ Refusal) (a : Answer) (r : Receiver) (l m : Lent) (on : Stand) → 1 ≤ on.fed.used →
    stand_answer (stand_by 0 r l (answered q r a) m on) ≡ answered q r (fed_told (stand_by 0 r l (answered q r a) m on).fed)
first_answer (Ok x) a r l m on h = unfold stand_by in stand_used _ (if_both (λ (y : Stand). 1 ≤ y.fed.used) (tells_any a) _ on (omega arith) h)
first_answer (Err why) a r l m on h = unfold stand_by stand_answer quiet_at when◌then◌else◌ in refl

fed_first : (q : Result ⊤ Refusal) (a : Answer) (r : Receiver) (l m : Lent) (on : Fed) → written q (quiet_at 0 r l) (fed_by 0 r l (answered q r a) m on) ≡ fed_by 0 r l (answered q r a) m on
unfolding fed_by
fed_first (Ok x) a r l m on = refl
fed_first (Err why) a r l m on = refl

module _ (r : Receiver) (b : Block) (l : Lent) where
  abbrev standing : Result ⊤ Refusal
  standing = standing_by r (length l.acc) (length l.store) (length l.soft) b.f b.s (length b.table)

  standing-is : standing_refusal r b l ≡ standing
  unfolding standing_refusal standing_by lent_refusal stores_fit
  standing-is = passing _ _ _ _

  first-is : (k : ℕ) → symbols_of b ≡ suc k → feed_refusal r b l ≡ symbol_refusal r (input_at b 0) l
  unfolding feed_refusal
  first-is k e = if_no (eqb (symbols_of b) 0) _ _ (ne_eqb (symbols_of b) 0 (λ q. omega (arith, q, e)))

  none_is : symbols_of b ≡ 0 → feed_refusal r b l ≡ standing_refusal r b l
  unfolding feed_refusal
  none_is e = if_yes (eqb (symbols_of b) 0) _ _ (eq-eqb (symbols_of b) 0 e)

  -- ---- it goes: what its end tells is the answer
  module _ (z : standing ≡ Ok tt) where
    feed_is : feed_of r b l ≡ fed_from b (symbols_of b) 0 r l
    unfolding feed_of
    feed_is = go (symbols_of b) refl
      where
        go : (k : ℕ) → symbols_of b ≡ k → written (feed_refusal r b l) (quiet_at 0 r l) (fed_from b k 0 r l) ≡ fed_from b k 0 r l
        go zero e = rw (none_is e ∙ standing-is ∙ z)
        go (suc k) e = rw (first-is k e) (unfold fed_from symbol_answer in fed_first (symbol_refusal r (input_at b 0) l) (accepted_symbol r (input_at b 0) l) r l (symbol_lent r (input_at b 0) l) _)

    whole : (k : ℕ) → symbols_of b ≡ k → stand_answer (stand_from b k 0 r l) ≡ answered (feed_refusal r b l) r (fed_told (fed_from b k 0 r l))
    whole zero e = rw (none_is e ∙ standing-is ∙ z) (unfold stand_from fed_from stand_answer quiet_at when◌then◌else◌ in refl)
    whole (suc k) e =
        let x = input_at b 0 in
        let m = symbol_lent r x l in
        let left = receiver_left (symbol_answer r x l) in
        let some : 1 ≤ (stand_from b k 1 left m).fed.used = rw (stand_fed b k 1 left m) (used-from b k 1 left m) in
        rw (first-is k e) (begins some ∙ ap (λ (y : Fed). answered (symbol_refusal r x l) r (fed_told y)) (stand_fed b (suc k) 0 r l))
      where
        begins : 1 ≤ (stand_from b k 1 (receiver_left (symbol_answer r (input_at b 0) l)) (symbol_lent r (input_at b 0) l)).fed.used →
            stand_answer (stand_from b (suc k) 0 r l) ≡ answered (symbol_refusal r (input_at b 0) l) r (fed_told (stand_from b (suc k) 0 r l).fed)
        begins h = unfold stand_from symbol_answer in first_answer (symbol_refusal r (input_at b 0) l) (accepted_symbol r (input_at b 0) l) r l (symbol_lent r (input_at b 0) l) _ h

    pub feed-end : (t : Turn) (m : Lent) → rest_by b t.used t m ≡ stand_from b (length b.bytes / 2) 0 r l →
        (answer_of t ≡ feed_answer r b l) × (m.acc ≡ (feed_of r b l).lent.acc) × (m.store ≡ (feed_of r b l).lent.store) × (m.soft ≡ (feed_of r b l).lent.soft)
    unfolding symbols_of
    feed-end t m e =
        let s = stand_from b (length b.bytes / 2) 0 r l in
        let y : s.fed ≡ feed_of r b l = stand_fed b (length b.bytes / 2) 0 r l ∙ sym feed_is in
        let u : m ≡ (feed_of r b l).lent = lent_stand b t m ∙ ap (λ (x : Stand). x.fed.lent) e ∙ ap (λ (x : Fed). x.lent) y in
        (answer_stand b t m ∙ ap stand_answer e ∙ whole (length b.bytes / 2) refl ∙ ap (λ (x : Fed). answered (feed_refusal r b l) r (fed_told x)) (sym feed_is) ∙ told-answer, ap (λ (x : Lent). x.acc) u, ap (λ (x : Lent). x.store) u, ap (λ (x : Lent). x.soft) u)
      where
        told-answer : answered (feed_refusal r b l) r (fed_told (feed_of r b l)) ≡ feed_answer r b l
        told-answer = unfold fed_told feed_answer in refl

  -- ---- it is refused
  first-refused : (why : Refusal) → standing ≡ Err why → symbol_refusal r (input_at b 0) l ≡ Err why
  unfolding symbol_refusal standing_by lent_refusal range_refusal stores_fit input_at
  first-refused why h = same-refusal _ _ _ _ _ why h

  pub feed-refused : (why : Refusal) → standing ≡ Err why → (Err (record { why = why; state = r }) ≡ feed_answer r b l) × ((feed_of r b l).lent ≡ l)
  unfolding feed_answer feed_of quiet_at
  feed-refused why e = rw refusal_is (refl, refl)
    where
      refusal_is : feed_refusal r b l ≡ Err why
      refusal_is = unfold feed_refusal in if_both (λ (v : Result ⊤ Refusal). v ≡ Err why) (eqb (symbols_of b) 0) _ _ (standing-is ∙ e) (first-refused why e)

-- ---- the loop over the turns
-- it ends: a turn stops the feed, or fewer symbols are left
unfoldable pub left_by : ℕ → Turn → ℕ
left_by n t = when goes_on t then suc (n - t.used) else 0

pub turn_less : (n : ℕ) (t u : Turn) → goes_on t ≡ true → t.used < n → Leads n t.used u → left_by n u < left_by n t
unfolding left_by
turn_less n t u e l w =
    rw (if_yes (goes_on t) (suc (n - t.used)) 0 e)
    (if_either (λ (v : ℕ). v < suc (n - t.used)) (goes_on u) _ _ (λ y. let q = w.on y in omega (arith, q, l, w.most)) (λ y. omega arith))

pub and_no : (a b : Bool) → (a && b) ≡ false → a ≡ true → b ≡ false
and_no true b e h = e
and_no false b e h = absurd (never (sym h))

pub stands_same : (a b c x y z : ℕ) (f s : List ℤ) (t : ℕ) → x ≡ a → y ≡ b → z ≡ c → Stands a b c f s t → Stands x y z f s t
stands_same a b c x y z f s t p q r h = rw (p, q, r) h

-- ---- no more symbols are used than there are
most_by : (a : Result Answer (Refused Receiver)) (i k : ℕ) (r : Receiver) (l m : Lent) (on : Fed) → on.used ≤ i + 1 + k → (fed_by i r l a m on).used ≤ i + suc k
unfolding fed_by quiet_at
most_by (Ok a) i k r l m on h = if_both (λ (x : Fed). x.used ≤ i + suc k) (tells_any a) _ _ (omega arith) (omega (arith, h))
most_by (Err x) i k r l m on h = omega arith

used-most : (b : Block) (k i : ℕ) (r : Receiver) (l : Lent) → (fed_from b k i r l).used ≤ i + k
unfolding fed_from
used-most b zero i r l = unfold quiet_at in omega arith
used-most b (suc k) i r l =
    let a = symbol_answer r (input_at b i) l in
    let m = symbol_lent r (input_at b i) l in
    most_by a i k r l m _ (used-most b k (i + 1) (receiver_left a) m)

within_by : (q : Result ⊤ Refusal) (r : Receiver) (l : Lent) (x : Fed) (n : ℕ) → 2 * x.used ≤ n →
    2 * used_in (answered q r (fed_told (written q (quiet_at 0 r l) x))) ≤ n
unfolding fed_told
within_by (Ok _) r l x n h = h
within_by (Err why) r l x n h = omega arith

pub feed_within : (r : Receiver) (b : Block) (l : Lent) → 2 * used_in (feed_answer r b l) ≤ length b.bytes
unfolding feed_answer feed_of symbols_of fed_told
feed_within r b l =
    let h = used-most b (length b.bytes / 2) 0 r l in
    within_by (feed_refusal r b l) r l (fed_from b (length b.bytes / 2) 0 r l) (length b.bytes) (omega (arith, h))
