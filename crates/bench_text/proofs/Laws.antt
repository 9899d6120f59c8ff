-- Laws of the lines' lengths. Assumes nothing.
use Rattle.std.specs.Prelude.{is_some}
use Rattle.sync_heads.specs.declared.SlotNumber.{SlotNumber}
use Rattle.std.proofs.Common.{◌≡◌, ℕ, zero, suc, ◌+◌, ◌*◌, ◌/◌, ◌%◌, ◌≤◌, true, eqb, ltb, List, [], ◌∷◌, ◌++◌, length, get_or, ℤ, pos, negsuc, ap, ◌∙◌, subst, ap₂, arith, length-append, eq-eqb, le-leb, Option, None, Some, sym, refl}
use Rattle.std.specs.Prelude.{Result, Ok, Err, ⊤, IsOk}
use Rattle.laws.proofs.Tests.{if_both}
use Rattle.laws.specs.Choice.{if_yes}
use Rattle.sync_heads.specs.declared.Head.{Head}
use Rattle.sync_step.specs.declared.SyncStats.{SyncStats}
use Rattle.sync_step.specs.declared.Event.{Event}
use Rattle.sync_step.specs.declared.Event.TheVariants.{Nothing, Head as HeadEvent, Period, Lost}
use Rattle.lines.specs.Decimal.{digit, decimal_in, decimal_of, signed_of}
use Rattle.lines.specs.Place.{written, Wrote, room_refusal, printed_at, printed_into}
use Rattle.refusal.specs.declared.Refusal.{Refusal}
use Rattle.lines.specs.Lines.{number_then, period_line, letter_of, slot_text, head_line, lost_line, event_line, value_text, values_to, values_text, soft_line, soft_refusal, end_line, refused_line, bit}
use Rattle.lines.proofs.Laws.{length_written, ok_same, room_yes, soft_yes, then as next-to}

-- ---- no line has more than 256 bytes
cat : (a b : List ℕ) {m n : ℕ} → length a ≤ m → length b ≤ n → length (a ++ b) ≤ m + n
cat a b x y = omega (arith, length-append a b, x, y)

decimal_short : (k n : ℕ) → length (decimal_in k n) ≤ k
unfolding decimal_in
decimal_short zero n = omega arith
decimal_short (suc k) n =
    let more : length (decimal_in k (n / 10) ++ (digit (n % 10) ∷ [])) ≤ k + 1 = cat (decimal_in k (n / 10)) (digit (n % 10) ∷ []) {n = 1} (decimal_short k (n / 10)) (omega arith) in
    if_both (λ (t : List ℕ). length t ≤ suc k) (ltb n 10) (digit n ∷ []) (decimal_in k (n / 10) ++ (digit (n % 10) ∷ [])) (omega arith) (omega (arith, more))

digits_short : (n : ℕ) → length (decimal_of n) ≤ 20
unfolding decimal_of
digits_short n = decimal_short 20 n

number_short : (n b : ℕ) → length (number_then n b) ≤ 20 + 1
number_short n b = cat (decimal_of n) (b ∷ []) {n = 1} (digits_short n) (omega arith)

period_short : (p : SyncStats) → length (period_line p) ≤ 7 + 21 + 21 + 21 + 21
unfolding period_line
period_short p =
    let w : List ℕ = 112 ∷ 101 ∷ 114 ∷ 105 ∷ 111 ∷ 100 ∷ 32 ∷ [] in
    let a : List ℕ = number_then p.peak 32 in
    let b : List ℕ = number_then p.peak_pos 32 in
    let d : List ℕ = number_then p.sum 32 in
    let e : List ℕ = number_then (bit (is_some p.offset)) 10 in
    cat (w ++ a ++ b ++ d) e (cat (w ++ a ++ b) d (cat (w ++ a) b (cat w a {m = 7} (omega arith) (number_short p.peak 32)) (number_short p.peak_pos 32)) (number_short p.sum 32)) (number_short (bit (is_some p.offset)) 10)

slot_short : (s : Option SlotNumber) → length (slot_text s) ≤ 21 + 21
unfolding slot_text
slot_short None = omega arith
slot_short (Some s) = cat (number_then s.number 32) (number_then s.frame 10) (number_short s.number 32) (number_short s.frame 10)

head_short : (h : Head) → length (head_line h) ≤ 5 + 21 + 2 + 42
unfolding head_line
head_short h =
    let w : List ℕ = 104 ∷ 101 ∷ 97 ∷ 100 ∷ 32 ∷ [] in
    let a : List ℕ = number_then h.at 32 in
    let l : List ℕ = letter_of h.word ∷ 32 ∷ [] in
    cat (w ++ a ++ l) (slot_text h.slot) (cat (w ++ a) l {n = 2} (cat w a {m = 5} (omega arith) (number_short h.at 32)) (omega arith)) (slot_short h.slot)

lost_short : (n : ℕ) → length (lost_line n) ≤ 5 + 21
unfolding lost_line
lost_short n = cat (108 ∷ 111 ∷ 115 ∷ 116 ∷ 32 ∷ []) (number_then n 10) {m = 5} (omega arith) (number_short n 10)

pub event_short : (e : Event) → length (event_line e) ≤ 256
unfolding event_line
event_short Nothing = omega arith
event_short (HeadEvent h) = omega (arith, head_short h)
event_short (Period p) = omega (arith, period_short p)
event_short (Lost n) = omega (arith, lost_short n)

pub end_short : (n : ℕ) → length (end_line n) ≤ 256
unfolding end_line
end_short n =
    let h : length ((101 ∷ 110 ∷ 100 ∷ 32 ∷ []) ++ number_then n 10) ≤ 4 + 21 = cat (101 ∷ 110 ∷ 100 ∷ 32 ∷ []) (number_then n 10) {m = 4} (omega arith) (number_short n 10) in
    omega (arith, h)

pub refused_short : (n : ℕ) → length (refused_line n) ≤ 256
unfolding refused_line
refused_short n =
    let h : length ((114 ∷ 101 ∷ 102 ∷ 117 ∷ 115 ∷ 101 ∷ 100 ∷ 32 ∷ []) ++ number_then n 10) ≤ 8 + 21 =
    cat (114 ∷ 101 ∷ 102 ∷ 117 ∷ 115 ∷ 101 ∷ 100 ∷ 32 ∷ []) (number_then n 10) {m = 8} (omega arith) (number_short n 10) in
    omega (arith, h)

signed_short : (v : ℤ) → length (signed_of v) ≤ 21
unfolding signed_of
signed_short (pos n) = omega (arith, digits_short n)
signed_short (negsuc n) = omega (arith, digits_short (suc n))

value_short : (v : ℤ) → length (value_text v) ≤ 1 + 21
unfolding value_text
value_short v = cat (32 ∷ []) (signed_of v) {m = 1} (omega arith) (signed_short v)

values_short : (vs : List ℤ) (n : ℕ) → length (values_to vs n) ≤ 22 * n
unfolding values_to
values_short vs zero = omega arith
values_short vs (suc n) =
    let h : length (values_to vs n ++ value_text (get_or vs n (pos 0))) ≤ 22 * n + 22 = cat (values_to vs n) (value_text (get_or vs n (pos 0))) (values_short vs n) (value_short (get_or vs n (pos 0))) in
    omega (arith, h)

pub soft_short : (at j : ℕ) (vs : List ℤ) → length vs ≤ 5 → length (soft_line at j vs) ≤ 256
unfolding soft_line values_text
soft_short at j vs l =
    let w : List ℕ = 115 ∷ 111 ∷ 102 ∷ 116 ∷ 32 ∷ [] in
    let a : List ℕ = number_then at 32 in
    let t : List ℕ = values_to vs (length vs) in
    let v : length (t ++ (10 ∷ [])) ≤ 22 * length vs + 1 = cat t (10 ∷ []) {n = 1} (values_short vs (length vs)) (omega arith) in
    let h : length (w ++ a ++ decimal_of j ++ (t ++ (10 ∷ []))) ≤ 5 + 21 + 20 + (22 * length vs + 1) =
    cat (w ++ a ++ decimal_of j) (t ++ (10 ∷ [])) (cat (w ++ a) (decimal_of j) (cat w a {m = 5} (omega arith) (number_short at 32)) (digits_short j)) v in
    omega (arith, h, l)

-- ---- a line where there is room
-- what an entry of crate lines answers where its test finds room and no other fault
answer_wrote : (o : List ℕ) (at : ℕ) (t l : List ℕ) (n : Result ⊤ Refusal) (r : Result ℕ Refusal) (to : ℕ) → n ≡ Ok Prim.tt → length t ≤ 256 → at + 256 ≤ length o →
    (r ≡ printed_at n t at) × (l ≡ printed_into n t at o) → r ≡ Ok to → Wrote o at t l to
answer_wrote o at t l n r to z s h e d =
    let p = rw z at e in
    let w : l ≡ written o at t = p.1 in
    let f : at + length t ≤ length o = omega (arith, s, h) in
    record { fits = f; is = w; behind = ok_same (sym d ∙ p.0); long = ap length w ∙ length_written o at t f }

-- it answers a place
pub answer_ok : (o : List ℕ) (at : ℕ) (t : List ℕ) (n : Result ⊤ Refusal) (r : Result ℕ Refusal) → n ≡ Ok Prim.tt → r ≡ printed_at n t at → IsOk r
answer_ok o at t n r z e = let p = rw z at e in rw p refl

-- what an entry of crate lines answers, which has no other refusal than 1
abbrev pub Answers : List ℕ → ℕ → List ℕ → List ℕ → Result ℕ Refusal → Type 0
Answers o at t l r = (r ≡ printed_at (room_refusal at (length o)) t at) × (l ≡ printed_into (room_refusal at (length o)) t at o)

pub line_ok : (o : List ℕ) (at : ℕ) (t l : List ℕ) (r : Result ℕ Refusal) → at + 256 ≤ length o → Answers o at t l r → IsOk r
line_ok o at t l r h e = answer_ok o at t (room_refusal at (length o)) r (room_yes at (length o) h) e.0

pub line_wrote : (o : List ℕ) (at : ℕ) (t l : List ℕ) (r : Result ℕ Refusal) (to : ℕ) → length t ≤ 256 → at + 256 ≤ length o → Answers o at t l r → r ≡ Ok to → Wrote o at t l to
line_wrote o at t l r to s h e d = answer_wrote o at t l (room_refusal at (length o)) r to (room_yes at (length o) h) s h e d

-- the first two of three lines, and room for the third
pub first_room : (o l : List ℕ) (at a : ℕ) (x : List ℕ) (r : Result ℕ Refusal) → length x ≤ 256 → at + 768 ≤ length o →
    Answers o at x l r → r ≡ Ok a → (Wrote o at x l a) × (a + 512 ≤ length l)
first_room o l at a x r s h e d =
    let u = line_wrote o at x l r a s (omega (arith, h)) e d in (u, omega (arith, h, s, u.behind, u.long))

pub first_two : (o l m : List ℕ) (at a b : ℕ) (x y : List ℕ) (r q : Result ℕ Refusal) → length x ≤ 256 → length y ≤ 256 → at + 768 ≤ length o →
    Answers o at x l r → r ≡ Ok a → Answers l a y m q → q ≡ Ok b → (Wrote o at (x ++ y) m b) × (b + 256 ≤ length m)
first_two o l m at a b x y r q s t h e d f g =
    let u = first_room o l at a x r s h e d in
    let v = line_wrote l a y m q b t (omega (arith, u.1)) f g in
    (next-to u.0 v, omega (arith, u.1, t, v.behind, v.long))

-- a main symbol's line; vs are the values us, n is the position m
pub soft_ok : (o : List ℕ) (at n j : ℕ) (vs : List ℤ) (r : Result ℕ Refusal) → length vs ≤ 5 → at + 256 ≤ length o →
    r ≡ printed_at (soft_refusal (length vs) at (length o)) (soft_line n j vs) at → IsOk r
soft_ok o at n j vs r s h e = answer_ok o at (soft_line n j vs) (soft_refusal (length vs) at (length o)) r (soft_yes (length vs) at (length o) h s) e

pub soft-wrote :
    (o : List ℕ) (at n m j : ℕ) (vs us : List ℤ) (l : List ℕ) (r : Result ℕ Refusal) (to : ℕ) → n ≡ m → vs ≡ us → length vs ≤ 5 → at + 256 ≤ length o →
    (r ≡ printed_at (soft_refusal (length vs) at (length o)) (soft_line n j vs) at) × (l ≡ printed_into (soft_refusal (length vs) at (length o)) (soft_line n j vs) at o) → r ≡ Ok to →
    Wrote o at (soft_line m j us) l to
soft-wrote o at n m j vs us l r to d e s h x y =
    let w = answer_wrote o at (soft_line n j vs) l (soft_refusal (length vs) at (length o)) r to (soft_yes (length vs) at (length o) h s) (soft_short n j vs s) h x y in
    subst (λ (t : List ℕ). Wrote o at t l to) (ap₂ (λ (p : ℕ) (q : List ℤ). soft_line p j q) d e) w
