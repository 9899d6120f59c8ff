-- Laws of pages: a symbol with a line, one without, a page that goes on and one that stops. Assumes nothing.
use Rattle.std.proofs.Common.{◌≡◌, ℕ, zero, suc, ◌+◌, ◌-◌, ◌%◌, ◌^◌, ◌<◌, ◌≤◌, min, Bool, true, false, ◌&&◌, ltb, leb, List, [], length, take, drop, ℤ, sym, refl, ap, ◌∙◌, ap₂, arith, length-drop, drop_of_length-le, length-take, take_all, drop-drop, ltb-false, ltb-true, leb-false, leb-true}
use native.Mathlib.Nat.{min-eq_left, min-eq_right, min-le_left}
use borrow.Author.Tests.{lt-leb}
use lib.Seq.{drop-length}
use Rattle.laws.proofs.Tests.{by_test, and_both, never}
use Rattle.laws.specs.Choice.{if_yes, if_no}
use Rattle.frame_map.specs.Map.{part_of}
use Rattle.receiver_slot.specs.declared.AlignedRun.{AlignedRun}
use Rattle.lines.specs.Lines.{soft_line}
use Rattle.lines.specs.Place.{written, Wrote}
use Rattle.lines.proofs.Laws.{nothing, room_by}
use Rattle.frame_map.proofs.Laws.{part_past}
use Rattle.bench_text.specs.declared.Page.{Page}
use Rattle.bench_text.specs.Bench.{is_main, main_part, prints_of, symbol_text, symbol_rest}
use Rattle.bench_text.specs.Pages.{Paged, paged_by, line_of, more_of, page_of}

abbrev paged : ℕ → List ℤ → ℕ → List ℕ → Paged
paged n r p o = record { next = n; rest = r; place = p; out = o }

-- the part of the soft values that a line takes, and those behind it
pub taken : (soft : List ℤ) (v b e : ℕ) → v ≤ length soft → e ≡ min (v + b) (length soft) → take (e - v) (drop v soft) ≡ take b (drop v soft)
taken soft v b e h m =
    by_test (leb (v + b) (length soft))
    (λ t.
    let x : e ≡ v + b = m ∙ min-eq_left (leb-true (v + b) (length soft) t) in
    let y : e - v ≡ b = omega (arith, x) in
    ap (λ (k : ℕ). take k (drop v soft)) y)
    (λ t.
    let l = leb-false (v + b) (length soft) t in
    let x : e ≡ length soft = m ∙ min-eq_right (omega (arith, l)) in
    let d = length-drop v soft in
    take_all (e - v) (drop v soft) (omega (arith, x, d)) ∙ sym (take_all b (drop v soft) (omega (arith, l, d))))

pub behind : (soft : List ℤ) (v b e : ℕ) → v ≤ length soft → e ≡ min (v + b) (length soft) → drop e soft ≡ drop b (drop v soft)
behind soft v b e h m =
    by_test (leb (v + b) (length soft))
    (λ t.
    let x : e ≡ v + b = m ∙ min-eq_left (leb-true (v + b) (length soft) t) in
    ap (λ (k : ℕ). drop k soft) x ∙ sym (drop-drop b v soft))
    (λ t.
    let l = leb-false (v + b) (length soft) t in
    let x : e ≡ length soft = m ∙ min-eq_right (omega (arith, l)) in
    let d = length-drop v soft in
    ap (λ (k : ℕ). drop k soft) x ∙ drop-length soft ∙ sym (drop_of_length-le (drop v soft) {i = b} (omega (arith, l, d))))

-- a symbol with a line
pub printed :
    (r : AlignedRun) (p : Page) (soft : List ℤ) (out after : List ℕ) (to e : ℕ) → prints_of (r.j + p.i) r.bits ≡ true →
    Wrote out p.place (soft_line ((r.at + p.i) % 2 ^ 64) (r.j + p.i) (take r.bits (drop p.v soft))) after to → drop e soft ≡ drop r.bits (drop p.v soft) →
    paged_by (record { i = p.i + 1; v = e; place = to }) soft after ≡ line_of r (paged_by p soft out)
unfolding paged_by line_of symbol_text symbol_rest
printed r p soft out after to e y w d =
    let n : ℕ = p.i + 1 in
    let at : ℕ = p.place in
    let t : List ℕ = soft_line ((r.at + p.i) % 2 ^ 64) (r.j + p.i) (take r.bits (drop p.v soft)) in
    ap (λ (x : List ℤ). paged n x to after) d
    ∙ ap₂ (λ (k : ℕ) (o : List ℕ). paged n (drop r.bits (drop p.v soft)) k o) w.behind w.is
    ∙ ap₂ (λ (x : List ℤ) (u : List ℕ). paged n x (at + length u) (written out at u)) (sym (if_yes _ _ (drop p.v soft) y)) (sym (if_yes _ t [] y))

-- one without
pub silent :
    (r : AlignedRun) (p : Page) (soft : List ℤ) (out : List ℕ) → prints_of (r.j + p.i) r.bits ≡ false → p.place ≤ length out →
    paged_by (record { i = p.i + 1; v = p.v; place = p.place }) soft out ≡ line_of r (paged_by p soft out)
unfolding paged_by line_of symbol_text symbol_rest
silent r p soft out y h =
    let n : ℕ = p.i + 1 in
    let at : ℕ = p.place in
    let w = nothing out at h in
    let t : List ℕ = soft_line ((r.at + p.i) % 2 ^ 64) (r.j + p.i) (take r.bits (drop p.v soft)) in
    ap₂ (λ (k : ℕ) (o : List ℕ). paged n (drop p.v soft) k o) w.behind w.is
    ∙ ap₂ (λ (x : List ℤ) (u : List ℕ). paged n x (at + length u) (written out at u)) (sym (if_no _ (drop r.bits (drop p.v soft)) _ y)) (sym (if_no _ t [] y))

-- ---- pages
pub page_done : (r : AlignedRun) (p : Paged) → page_of r 0 p ≡ p
unfolding page_of
page_done r p = refl

pub page_stop : (r : AlignedRun) (n : ℕ) (p : Paged) → leb (p.place + 256) (length p.out) ≡ false → page_of r n p ≡ p
unfolding page_of
page_stop r zero p e = refl
page_stop r (suc n) p e = if_no _ _ _ e

pub page_on : (r : AlignedRun) (n : ℕ) (p : Paged) → leb (p.place + 256) (length p.out) ≡ true → page_of r (suc n) p ≡ page_of r n (line_of r p)
unfolding page_of
page_on r n p e = if_yes _ _ _ e

-- ---- going on
and_no : (b : Bool) → (b && false) ≡ false
and_no true = refl
and_no false = refl

pub more_none : (n i room place : ℕ) → room < 256 → more_of n i room place ≡ false
unfolding more_of
more_none n i room place h = ap (λ (b : Bool). ltb i n && b) (lt-leb (place + 256) room (omega (arith, h))) ∙ and_no (ltb i n)

pub more_some : (n i room place : ℕ) → 256 ≤ room → (ltb i n && leb place (room - 256)) ≡ more_of n i room place
unfolding more_of
more_some n i room place h = ap (λ (b : Bool). ltb i n && b) (room_by place room h)

pub more_on : (n i room place : ℕ) → more_of n i room place ≡ true → (i < n) × (leb (place + 256) room ≡ true)
unfolding more_of
more_on n i room place e = let b = and_both (ltb i n) (leb (place + 256) room) e in (ltb-true i n b.0, b.1)

-- ---- a line stands in the slot
past : (j : ℕ) → 9296 ≤ j → main_part (part_of j) ≡ false
unfolding main_part
past j h = rw (part_past j h)

pub below : (j b : ℕ) → prints_of j b ≡ true → (j < 9296) × (b ≤ 5)
unfolding prints_of is_main
below j b e =
    let x = and_both (main_part (part_of j) && leb 1 b) (leb b 5) e in
    let m : main_part (part_of j) ≡ true = (and_both (main_part (part_of j)) (leb 1 b) x.0).0 in
    (by_test (ltb j 9296) (λ t. ltb-true j 9296 t) (λ t. absurd (never (sym m ∙ past j (ltb-false j 9296 t)))), leb-true b 5 x.1)

-- ---- the loop over a page
pub page-next :
    (run : AlignedRun) (n : ℕ) (p q : Page) (soft : List ℤ) (out after : List ℕ) → p.i < n → leb (p.place + 256) (length out) ≡ true → q.i ≡ p.i + 1 →
    paged_by q soft after ≡ line_of run (paged_by p soft out) → page_of run (n - q.i) (paged_by q soft after) ≡ page_of run (n - p.i) (paged_by p soft out)
unfolding paged_by
page-next run n p q soft out after h t e d =
    let k : n - p.i ≡ suc (n - q.i) = omega (arith, h, e) in
    ap (λ (x : Paged). page_of run (n - q.i) x) d ∙ sym (page_on run (n - q.i) (paged_by p soft out) t) ∙ ap (λ (m : ℕ). page_of run m (paged_by p soft out)) (sym k)

pub page-end :
    (run : AlignedRun) (n : ℕ) (p : Page) (soft : List ℤ) (out : List ℕ) → more_of n p.i (length out) p.place ≡ false →
    page_of run (n - p.i) (paged_by p soft out) ≡ paged_by p soft out
unfolding paged_by more_of
page-end run n p soft out e =
    by_test (leb (p.place + 256) (length out))
    (λ t.
    by_test (ltb p.i n)
    (λ u. absurd (never (sym (ap₂ (λ (a b : Bool). a && b) u t) ∙ e)))
    (λ u.
    let k : n - p.i ≡ 0 = omega (arith, ltb-false p.i n u) in
    ap (λ (m : ℕ). page_of run m (paged_by p soft out)) k ∙ page_done run (paged_by p soft out)))
    (λ t. page_stop run (n - p.i) (paged_by p soft out) t)

-- the line takes at most five values
pub few : (soft : List ℤ) (v b e : ℕ) → v ≤ length soft → e ≡ min (v + b) (length soft) → b ≤ 5 → length (take (e - v) (drop v soft)) ≤ 5
few soft v b e h m l =
    let t = ap length (taken soft v b e h m) in
    let k = length-take b (drop v soft) in
    omega (arith, t, k, l, min-le_left b (length (drop v soft)))
