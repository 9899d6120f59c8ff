-- What is true of every slot phase that came from calls, and what its slots hold. Each statement stands above its proof. Assumes nothing.
use Rattle.std.specs.Prelude.{Option, None, Some, Result, Ok, Err, ⊤}
use Rattle.phase.specs.declared.Held.{Held}
use mathlib.Core.Bool.{Bool, true, false, ◌&&◌, ◌||◌}
use mathlib.Core.List.{List, [], ◌∷◌}
use mathlib.Core.Path.{◌≡◌, refl, sym, ap, ap₂, subst, ◌∙◌}
use Prim.Native.Nat.{ℕ, zero, suc, ◌+◌, ◌*◌, ◌^◌, ◌≤◌, ◌<◌}
use native.Mathlib.Nat.{not-suc-le-zero}
use native.Mathlib.Omega.{arith}
use borrow.Author.Tests.{eqb-true, eqb-false, eq-eqb, ltb-true, ltb-false, lt-ltb, le-ltb, le-leb, lt-leb, leb-false}
use lib.Dec.{eqb, ltb, leb}
use lib.IntN.{ℤ, pos, nat_abs}
use lib.ListN.{length, get_or, set, length-set}
use lib.Seq.{get_or-set_same, get_or-set_other}
use Rattle.angles.specs.declared.Symbol.{Symbol}
use Rattle.laws.proofs.Tests.{by_test, if_either, if_both, never}
use Rattle.laws.specs.Choice.{if_yes, if_no}
use Rattle.phase.proofs.Laws.{push_taken, head_taken}
use Rattle.phase.specs.Answers.{held_past, past_end, place_past, push_refusal, push_answer, push_store, head_refusal, head_answer, headed_phase, restart_answer, correct_refusal, correct_answer}
use Rattle.phase.specs.Phase.{begun_of, pushed_of, stored_of, whole_of, due_of, symbol_at, corrected_of, stored_in, pushed_in, due_in, counted_in}
use Rattle.phase.specs.Ranges.{held_in_range, phase_in_range, whole_in_range, HeadOk}
use Rattle.phase.specs.declared.Headed.{Headed}
use Rattle.refusal.proofs.Answered.{answered_both, answered_either}
use Rattle.refusal.specs.Refusals.{answered, state_after, written as written_by}
use Rattle.refusal.specs.declared.Refusal.{Refusal}
use Rattle.refusal.specs.declared.Refusal.TheVariants.{Stores, Table, Arithmetic, Position}
use Rattle.refusal.specs.declared.Refused.{Refused}
use Rattle.phase.specs.declared.WholeSlot.{WholeSlot}
use Rattle.phase_range.proofs.Steps.{whole_in_range_lem}
use Rattle.phase_range.specs.Calls.{Call, At, at, held, call_of, after_all, pushed_all, AgreeOn}
use Rattle.phase_range.specs.Calls.Call.{push, hear, restart}
use Rattle.phase_range.specs.Coherent.{Coherent, HeldSound}
use Rattle.phase_range.specs.Slots.{Givable, Filled, nth, Alike}
use Rattle.sync_heads.specs.declared.Head.{Head}

-- ---- EVERY CALL KEEPS THE INVARIANT, and it implies the ranges
pub in_range : (s : Option Held) → Coherent s → phase_in_range s ≡ true
unfolding phase_in_range held_in_range
in_range None h = refl
in_range (Some x) h =
    rw (le-ltb (2 ^ 60) (nat_abs x.head.amp) h.amp, lt-ltb x.head.at (2 ^ 62) h.place, le-leb x.count 9296 h.count)

-- an accepted symbol
pub pushed_coherent : (s : Option Held) → Coherent s → past_end s ≡ false → Coherent (pushed_of s)
unfolding pushed_in past_end counted_in held_past
pushed_coherent None h e = tt
pushed_coherent (Some x) h e =
    if_either HeldSound (ltb x.count 9296) (record { head = x.head; count = x.count + 1 }) x
    (λ t.
    let l = ltb-true x.count 9296 t in
    let n = leb-false (2 ^ 62) (x.head.at + x.count) (sym (if_yes (ltb x.count 9296) (leb (2 ^ 62) (x.head.at + x.count)) false t) ∙ e) in
    record { amp = h.amp; place = h.place; count = omega (arith, l); room = omega (arith, n) })
    (λ t. h)

-- an accepted head
pub begun_coherent : (h : Head) → HeadOk h → h.at < 2 ^ 62 → Coherent (begun_of h)
unfolding begun_of
begun_coherent h o l = record { amp = o.amp; place = l; count = omega arith; room = omega (arith, l) }

-- .. and a refused call leaves the state
pub call_coherent : (s : At) (c : Call) → Coherent s.phase → Coherent (call_of s c).phase
unfolding call_of push_answer head_answer restart_answer
call_coherent s (push x) h =
    answered_either (λ (x : Result (Option Held) (Refused (Option Held))). Coherent (state_after x)) (push_refusal s.phase (length s.store)) s.phase (pushed_of s.phase)
    (λ e. pushed_coherent s.phase h (push_taken s.phase (length s.store) e).before_end)
    (λ why e. h)
call_coherent s (hear b) h =
    answered_either (λ (x : Result Headed (Refused (Option Held))). Coherent (headed_phase x)) (head_refusal s.phase b) s.phase
    (record { phase = begun_of b; due = due_of s.phase b })
    (λ e. let t = head_taken s.phase b e in begun_coherent b t.head t.place)
    (λ why e. h)
call_coherent s restart h =
    if_both (λ (x : Result (Option Held) (Refused (Option Held))). Coherent (state_after x)) (phase_in_range s.phase) (Ok None)
    (Err (record { why = Arithmetic; state = s.phase }))
    tt
    h

all_coherent : (s : At) (cs : List Call) → Coherent s.phase → Coherent (after_all s cs).phase
unfolding after_all
all_coherent s [] h = h
all_coherent s (c ∷ cs) h = all_coherent (call_of s c) cs (call_coherent s c h)

-- of any slot phase that `new` answers and any calls then leave, with any store
pub calls_keep : (store : List ℤ) (cs : List Call) → let s = (after_all (at None store) cs).phase in Coherent s × (phase_in_range s ≡ true)
calls_keep store cs = let h = all_coherent (at None store) cs tt in (h, in_range (after_all (at None store) cs).phase h)

-- ---- A RESTART IS NEW
pub restart_is_new : (s : Option Held) → Coherent s → restart_answer s ≡ Ok None
unfolding restart_answer
restart_is_new s h = if_yes (phase_in_range s) (Ok None) (Err (record { why = Arithmetic; state = s })) (in_range s h)

-- ---- A SLOT THAT IS DUE CAN BE GIVEN: none of its symbols is refused, and each stands below 2^62
whole-place : (a h : Head) (j : ℕ) → a.at + 9296 ≤ 2 ^ 62 → j < 9296 → (whole_of a h).head.at + j < 2 ^ 62
unfolding whole_of
whole-place a h j room k = omega (arith, room, k)

whole_next : (a h : Head) → h.at < 2 ^ 62 → (whole_of a h).next.at < 2 ^ 62
unfolding whole_of
whole_next a h l = l

whole_taken : (w : WholeSlot) (j t u : ℕ) → whole_in_range w ≡ true → w.head.at + j < 2 ^ 62 → w.next.at < 2 ^ 62 → j < 9296 → t ≡ 1024 → u ≡ 18592 → correct_refusal w j t u ≡ Ok tt
unfolding correct_refusal place_past
whole_taken w j t u r p n k et eu =
    if_yes (eqb u 18592) _ (Err Stores) (eq-eqb u 18592 eu) ∙ if_yes (eqb t 1024) _ (Err Table) (eq-eqb t 1024 et) ∙ if_yes (whole_in_range w && ltb j 9296) _ (Err Arithmetic) (rw (r, lt-ltb j 9296 k))
    ∙ if_no (leb (2 ^ 62) (w.head.at + j) || leb (2 ^ 62) w.next.at) (Err Position) (Ok tt) (rw (lt-leb (2 ^ 62) (w.head.at + j) p, lt-leb (2 ^ 62) w.next.at n))

whole_given : (a h : Head) (j : ℕ) (table store : List ℤ) → HeadOk a → HeadOk h → h.at < 2 ^ 62 → a.at + 9296 ≤ 2 ^ 62 → j < 9296 → length table ≡ 1024 → length store ≡ 18592 →
    Givable (whole_of a h) j table store
unfolding correct_answer
whole_given a h j table store oa oh l room k t u =
    let w = whole_of a h in
    let p = whole-place a h j room k in
    let e : correct_refusal w j (length table) (length store) ≡ Ok tt = whole_taken w j (length table) (length store) (whole_in_range_lem a h oa oh) p (whole_next a h l) k t u in
    record { given = rw e; place = p }

-- the slot of an answer
abbrev is_slot : Option WholeSlot → Bool
is_slot None = false
is_slot (Some w) = true

abbrev slot_or : WholeSlot → Option WholeSlot → WholeSlot
slot_or z None = z
slot_or z (Some w) = w

pub due_given : (s : Option Held) (h : Head) (w : WholeSlot) (j : ℕ) (table store : List ℤ) → Coherent s → head_refusal s h ≡ Ok tt → due_of s h ≡ Some w → j < 9296 →
    length table ≡ 1024 →
    length store ≡ 18592 →
    Givable w j table store
unfolding due_in
due_given None h w j table store c r d k t u = absurd (never (sym (ap is_slot d)))
due_given (Some x) h w j table store c r d k t u =
    let a = head_taken (Some x) h r in
    by_test (eqb x.count 9296)
    (λ e.
    let n = eqb-true x.count 9296 e in
    let i = sym (if_yes (eqb x.count 9296) (Some (whole_of x.head h)) None e) ∙ d in
    subst (λ (v : WholeSlot). Givable v j table store) (ap (slot_or w) i)
    (whole_given x.head h j table store (record { amp = c.amp }) a.head a.place (omega (arith, c.room, n)) k t u))
    (λ e. absurd (never (sym (ap is_slot (sym (if_no (eqb x.count 9296) (Some (whole_of x.head h)) None e) ∙ d)))))

-- ---- WHAT WAS PUSHED: after a head the first 9,296 symbols stand in the store, in order, and the slot is due exactly if there were so many
-- one symbol: counted and placed up to the 9,296th, then ignored
taken_step : (h : Head) (c : ℕ) (x : Symbol) (store : List ℤ) → c < 9296 →
    at (pushed_of (held h c)) (stored_of (held h c) x.i x.q store) ≡ at (held h (c + 1)) (set (set store (2 * c) x.i) (2 * c + 1) x.q)
unfolding pushed_in stored_in counted_in
taken_step h c x store l =
    let t = lt-ltb c 9296 l in
    ap₂ at (ap Some (if_yes (ltb c 9296) (record { head = h; count = c + 1 }) (record { head = h; count = c }) t)) (if_yes (ltb c 9296) (set (set store (2 * c) x.i) (2 * c + 1) x.q) store t)

ignored_step : (h : Head) (c : ℕ) (x : Symbol) (store : List ℤ) → 9296 ≤ c → at (pushed_of (held h c)) (stored_of (held h c) x.i x.q store) ≡ at (held h c) store
unfolding pushed_in stored_in counted_in
ignored_step h c x store l =
    let t = le-ltb c 9296 l in
    ap₂ at (ap Some (if_no (ltb c 9296) (record { head = h; count = c + 1 }) (record { head = h; count = c }) t)) (if_no (ltb c 9296) (set (set store (2 * c) x.i) (2 * c + 1) x.q) store t)

-- the two entries that a symbol is written to, and the others
written : (store : List ℤ) (c : ℕ) (x : Symbol) → 2 * c + 1 < length store → let s = set (set store (2 * c) x.i) (2 * c + 1) x.q in
    (get_or s (2 * c) (pos 0) ≡ x.i) × (get_or s (2 * c + 1) (pos 0) ≡ x.q) × ((k : ℕ) → k < 2 * c → get_or s k (pos 0) ≡ get_or store k (pos 0)) × (length s ≡ length store)
written store c x l =
    let s = set store (2 * c) x.i in (
      get_or-set_other s (2 * c + 1) (2 * c) x.q (pos 0) (omega arith) ∙ get_or-set_same store (2 * c) x.i (pos 0) (omega (arith, l)),
      get_or-set_same s (2 * c + 1) x.q (pos 0) (omega (arith, l, length-set store (2 * c) x.i)),
      λ k h. get_or-set_other s (2 * c + 1) k x.q (pos 0) (omega (arith, h)) ∙ get_or-set_other store (2 * c) k x.i (pos 0) (omega (arith, h)),
      length-set s (2 * c + 1) x.q ∙ length-set store (2 * c) x.i,
    )

placed_at : (r : List ℤ) (c : ℕ) (x : Symbol) (xs : List Symbol) → get_or r (2 * c) (pos 0) ≡ x.i → get_or r (2 * c + 1) (pos 0) ≡ x.q →
    ((k : ℕ) → k < length xs → c + 1 + k < 9296 → symbol_at r (c + 1 + k) ≡ nth xs k) →
    (k : ℕ) → k < suc (length xs) → c + k < 9296 → symbol_at r (c + k) ≡ nth (x ∷ xs) k
unfolding symbol_at
placed_at r c x xs ei eq f zero p q = let e : c ≡ c + 0 = omega arith in subst (λ (n : ℕ). symbol_at r n ≡ x) e (rw (ei, eq))
placed_at r c x xs ei eq f (suc k) p q = let e : c + 1 + k ≡ c + suc k = omega arith in subst (λ (n : ℕ). symbol_at r n ≡ nth xs k) e (f k (omega (arith, p)) (omega (arith, q)))

-- the same from the next symbol on
filled_taken : (h : Head) (c : ℕ) (store : List ℤ) (x : Symbol) (xs : List Symbol) → c < 9296 → length store ≡ 18592 →
    Filled h (c + 1) (set (set store (2 * c) x.i) (2 * c + 1) x.q) xs → Filled h c store (x ∷ xs)
unfolding pushed_all symbol_at
filled_taken h c store x xs l e f =
    let s = set (set store (2 * c) x.i) (2 * c + 1) x.q in
    let w = written store c x (omega (arith, e, l)) in
    let t : pushed_all (at (held h c) store) (x ∷ xs) ≡ pushed_all (at (held h (c + 1)) s) xs = ap (λ (a : At). pushed_all a xs) (taken_step h c x store l) in
    let r = (pushed_all (at (held h (c + 1)) s) xs).store in
    record {
      counted = ap (λ (a : At). a.phase) t ∙ f.counted ∙ ap (held h) (omega arith);
      long = ap (λ (a : At). length a.store) t ∙ f.long;
      before = λ k p. ap (λ (a : At). get_or a.store k (pos 0)) t ∙ f.before k (omega (arith, p)) ∙ w.2 k p;
      placed =
          λ k p q.
          ap (λ (a : At). symbol_at a.store (c + k)) t
          ∙ placed_at r c x xs (f.before (2 * c) (omega arith) ∙ w.0) (f.before (2 * c + 1) (omega arith) ∙ w.1) f.placed k p q;
    }

filled_ignored : (h : Head) (c : ℕ) (store : List ℤ) (x : Symbol) (xs : List Symbol) → 9296 ≤ c → Filled h c store xs → Filled h c store (x ∷ xs)
unfolding pushed_all
filled_ignored h c store x xs l f =
    let t : pushed_all (at (held h c) store) (x ∷ xs) ≡ pushed_all (at (held h c) store) xs = ap (λ (a : At). pushed_all a xs) (ignored_step h c x store l) in
    record {
      counted = ap (λ (a : At). a.phase) t ∙ f.counted ∙ ap (held h) (omega (arith, l));
      long = ap (λ (a : At). length a.store) t ∙ f.long;
      before = λ k p. ap (λ (a : At). get_or a.store k (pos 0)) t ∙ f.before k p;
      placed = λ k p q. absurd (omega (arith, q, l));
    }

pub what_was_pushed : (h : Head) (c : ℕ) (store : List ℤ) (xs : List Symbol) → c ≤ 9296 → length store ≡ 18592 → Filled h c store xs
unfolding pushed_all
what_was_pushed h c store [] l e =
    record { counted = ap (held h) (omega (arith, l)); long = e; before = λ k p. refl; placed = λ k p q. absurd (not-suc-le-zero p) }
what_was_pushed h c store (x ∷ xs) l e =
    let s = set (set store (2 * c) x.i) (2 * c + 1) x.q in
    by_test (ltb c 9296)
    (λ t.
    let p = ltb-true c 9296 t in
    filled_taken h c store x xs p e (what_was_pushed h (c + 1) s xs (omega (arith, p)) ((written store c x (omega (arith, e, p))).3 ∙ e)))
    (λ t. filled_ignored h c store x xs (ltb-false c 9296 t) (what_was_pushed h c store xs l e))

-- ---- ONLY WHAT WAS PUSHED IS READ: two stores, the same calls. The states are equal, the stores agree on what the held slot pushed, and
-- so each symbol of a slot that is due is the same by either store
agree_held : (c : ℕ) (x : Symbol) (a b : List ℤ) → c < 9296 → length a ≡ 18592 → length b ≡ 18592 → ((k : ℕ) → k < 2 * c → get_or a k (pos 0) ≡ get_or b k (pos 0)) →
    (k : ℕ) → k < 2 * (c + 1) → get_or (set (set a (2 * c) x.i) (2 * c + 1) x.q) k (pos 0) ≡ get_or (set (set b (2 * c) x.i) (2 * c + 1) x.q) k (pos 0)
agree_held c x a b l ea eb h k p =
    let wa = written a c x (omega (arith, ea, l)) in
    let wb = written b c x (omega (arith, eb, l)) in
    by_test (ltb k (2 * c)) (λ t. let m = ltb-true k (2 * c) t in wa.2 k m ∙ h k m ∙ sym (wb.2 k m))
    (λ t.
    by_test (eqb k (2 * c)) (λ u. rw (eqb-true k (2 * c) u) (wa.0 ∙ sym wb.0))
    (λ u.
    let e : k ≡ 2 * c + 1 = omega (arith, ltb-false k (2 * c) t, eqb-false k (2 * c) u, p) in
    rw e (wa.1 ∙ sym wb.1)))

pub agree_pushed : (s : Option Held) (x : Symbol) (a b : List ℤ) → length a ≡ 18592 → length b ≡ 18592 → AgreeOn s a b → AgreeOn (pushed_of s) (stored_of s x.i x.q a) (stored_of s x.i x.q b)
unfolding pushed_in stored_in counted_in
agree_pushed None x a b ea eb h = tt
agree_pushed (Some y) x a b ea eb h =
    let c = y.count in
    by_test (ltb c 9296)
    (λ t.
    rw (if_yes (ltb c 9296) (record { head = y.head; count = c + 1 }) y t, if_yes (ltb c 9296) (set (set a (2 * c) x.i) (2 * c + 1) x.q) a t, if_yes (ltb c 9296) (set (set b (2 * c) x.i) (2 * c + 1) x.q) b t)
    (agree_held c x a b (ltb-true c 9296 t) ea eb h))
    (λ t.
    rw (if_no (ltb c 9296) (record { head = y.head; count = c + 1 }) y t, if_no (ltb c 9296) (set (set a (2 * c) x.i) (2 * c + 1) x.q) a t, if_no (ltb c 9296) (set (set b (2 * c) x.i) (2 * c + 1) x.q) b t)
    h)

-- a call that leaves the state, or a slot begun, or none held
alike_begun : (g : Head) (a b : List ℤ) → length a ≡ 18592 → length b ≡ 18592 → Alike (at (begun_of g) a) (at (begun_of g) b)
unfolding begun_of
alike_begun g a b ea eb = record { phases = refl; agree = λ k p. absurd (not-suc-le-zero p); first = ea; second = eb }

alike_idle : (a b : List ℤ) → length a ≡ 18592 → length b ≡ 18592 → Alike (at None a) (at None b)
alike_idle a b ea eb = record { phases = refl; agree = tt; first = ea; second = eb }

pub length_stored : (s : Option Held) (x : Symbol) (a : List ℤ) → length (stored_of s x.i x.q a) ≡ length a
unfolding stored_in
length_stored None x a = refl
length_stored (Some y) x a =
    if_both (λ (l : List ℤ). length l ≡ length a) (ltb y.count 9296) (set (set a (2 * y.count) x.i) (2 * y.count + 1) x.q) a
    (length-set (set a (2 * y.count) x.i) (2 * y.count + 1) x.q ∙ length-set a (2 * y.count) x.i)
    refl

alike_push : (s : Option Held) (a b : List ℤ) (x : Symbol) → Alike (at s a) (at s b) → Alike (call_of (at s a) (push x)) (call_of (at s b) (push x))
unfolding call_of push_answer push_store
alike_push s a b x h =
    let sa = stored_of s x.i x.q a in
    let sb = stored_of s x.i x.q b in
    rw (h.first, h.second)
    (by_refusal (push_refusal s 18592) s (pushed_of s) a sa b sb
    (record { phases = refl; agree = agree_pushed s x a b h.first h.second h.agree; first = length_stored s x a ∙ h.first; second = length_stored s x b ∙ h.second })
    h)
  where
    -- a symbol that is taken, or one that is refused, by either store
    by_refusal : (r : Result ⊤ Refusal) (s t : Option Held) (a c b d : List ℤ) → Alike (at t c) (at t d) → Alike (at s a) (at s b) →
        Alike (at (state_after (answered r s t)) (written_by r a c)) (at (state_after (answered r s t)) (written_by r b d))
    by_refusal (Ok y) s t a c b d p q = p
    by_refusal (Err y) s t a c b d p q = q

alike_call : (s : Option Held) (a b : List ℤ) (c : Call) → Alike (at s a) (at s b) → Alike (call_of (at s a) c) (call_of (at s b) c)
unfolding call_of head_answer restart_answer
alike_call s a b (push x) h = alike_push s a b x h
alike_call s a b (hear g) h =
    answered_both (λ (x : Result Headed (Refused (Option Held))). Alike (at (headed_phase x) a) (at (headed_phase x) b)) (head_refusal s g) s
    (record { phase = begun_of g; due = due_of s g })
    (alike_begun g a b h.first h.second)
    (λ why. h)
alike_call s a b restart h =
    if_both (λ (x : Result (Option Held) (Refused (Option Held))). Alike (at (state_after x) a) (at (state_after x) b)) (phase_in_range s) (Ok None)
    (Err (record { why = Arithmetic; state = s }))
    (alike_idle a b h.first h.second)
    h

alike_all : (s t : At) (cs : List Call) → Alike s t → Alike (after_all s cs) (after_all t cs)
unfolding after_all
alike_all s t [] h = h
alike_all s t (c ∷ cs) h =
    let e : at s.phase t.store ≡ t = ap (λ (p : Option Held). at p t.store) h.phases in
    let g : Alike s (at s.phase t.store) = record { phases = refl; agree = h.agree; first = h.first; second = h.second } in
    alike_all (call_of s c) (call_of t c) cs (subst (λ (v : At). Alike (call_of s c) (call_of v c)) e (alike_call s.phase s.store t.store c g))

pub stores_alike : (a b : List ℤ) (cs : List Call) → length a ≡ 18592 → length b ≡ 18592 → Alike (after_all (at None a) cs) (after_all (at None b) cs)
stores_alike a b cs ea eb = alike_all (at None a) (at None b) cs (alike_idle a b ea eb)

pub corrected_alike : (s : Option Held) (h : Head) (w : WholeSlot) (j : ℕ) (table a b : List ℤ) → AgreeOn s a b → due_of s h ≡ Some w → j < 9296 → corrected_of w table a j ≡ corrected_of w table b j
unfolding due_in corrected_of symbol_at
corrected_alike None h w j table a b g d k = absurd (never (sym (ap is_slot d)))
corrected_alike (Some x) h w j table a b g d k =
    by_test (eqb x.count 9296)
    (λ e.
    let n = eqb-true x.count 9296 e in
    rw (g (2 * j) (omega (arith, n, k)), g (2 * j + 1) (omega (arith, n, k))))
    (λ e. absurd (never (sym (ap is_slot (sym (if_no (eqb x.count 9296) (Some (whole_of x.head h)) None e) ∙ d)))))
