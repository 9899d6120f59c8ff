-- Pages one after another give the lines of a run. Assumes nothing.
use Rattle.std.proofs.Common.{◌≡◌, ℕ, zero, suc, ◌+◌, ◌-◌, ◌%◌, ◌^◌, ◌<◌, ◌≤◌, true, false, leb, List, [], ◌++◌, length, take, drop, ℤ, sym, refl, ap, ◌∙◌, ap₂, append_assoc, append-nil, arith, length-append, length-take, length-take-le, take_at, le-leb, leb-false, leb-true}
use borrow.Author.Tests.{lt-leb}
use Rattle.laws.proofs.Tests.{by_test, if_either, never}
use Rattle.laws.specs.Choice.{if_yes, if_no}
use Rattle.receiver_slot.specs.declared.AlignedRun.{AlignedRun}
use Rattle.sync_step.specs.declared.Events.{Events}
use Rattle.receiver_slot.specs.declared.Runs.{Runs}
use Rattle.lines.specs.Place.{Wrote, written}
use Rattle.lines.specs.Lines.{event_line}
use Rattle.lines.proofs.Laws.{length_written, nothing, then as next-to}
use Rattle.bench_text.specs.Bench.{symbol_text, symbol_rest, run_text, run_rest, events_text, lines_of}
use Rattle.bench_text.specs.Pages.{Paged, line_of, page_of}
use Rattle.bench_text.specs.Claims.{taken_on, PageHolds, PageClaim, SplitClaim, Sent, told_by, turned, pages_from, run_on, answer_on, left_on, answer_left, leaves_page, leaves_buffer, AnswerClaim}
use Rattle.bench_text.proofs.Laws.{soft_short, event_short}
use Rattle.bench_text.proofs.Pages.{below, page_on, page_stop}

-- ---- one symbol's line is no longer than 256 bytes
symbol_short : (r : AlignedRun) (i : ℕ) (vs : List ℤ) → length (symbol_text r i vs) ≤ 256
unfolding symbol_text
symbol_short r i vs =
    if_either (λ (t : List ℕ). length t ≤ 256) _ _ _
    (λ y.
    let b = (below (r.j + i) r.bits y).1 in
    soft_short ((r.at + i) % 2 ^ 64) (r.j + i) (take r.bits vs) (omega (arith, b, length-take r.bits vs)))
    (λ y. omega arith)

-- it is written where there is room
line_holds : (r : AlignedRun) (p : Paged) → leb (p.place + 256) (length p.out) ≡ true →
    Wrote p.out p.place (symbol_text r p.next p.rest) (line_of r p).out (line_of r p).place
unfolding line_of
line_holds r p e =
    let s = symbol_short r p.next p.rest in
    let h = leb-true (p.place + 256) (length p.out) e in
    let f : p.place + length (symbol_text r p.next p.rest) ≤ length p.out = omega (arith, s, h) in
    record { fits = f; is = refl; behind = refl; long = length_written p.out p.place (symbol_text r p.next p.rest) f }

-- ---- a page
none_holds : (r : AlignedRun) (n : ℕ) (p : Paged) → p.place ≤ length p.out → taken_on r n p ≡ 0 → page_of r n p ≡ p →
    (leb (p.place + 256) (length p.out) ≡ true → 0 < n → ⊥) → PageHolds r n p
unfolding run_text run_rest
none_holds r n p h t e never-so =
    record {
      within = rw t (omega arith);
      next = rw (t, e) (omega arith);
      rest = rw (t, e);
      lines = rw (t, e) (nothing p.out p.place h);
      leads = λ u v. absurd (never-so u v);
    }

pub page_theorem : PageClaim
unfolding taken_on
page_theorem r zero p h = none_holds r 0 p h refl (page-stop-0 r p) (λ u v. omega (arith, v))
  where
    page-stop-0 : (r : AlignedRun) (p : Paged) → page_of r 0 p ≡ p
    page-stop-0 r p = unfold page_of in refl
page_theorem r (suc n) p h =
    by_test (leb (p.place + 256) (length p.out))
    (λ y.
    let t = if_yes _ (suc (taken_on r n (line_of r p))) 0 y in
    let w = line_holds r p y in
    let on = page_theorem r n (line_of r p) (omega (arith, w.fits, w.behind, w.long)) in
    taken r n p t (page_on r n p y) w on)
    (λ y. none_holds r (suc n) p h (if_no _ (suc (taken_on r n (line_of r p))) 0 y) (page_stop r (suc n) p y) (λ u v. never (sym u ∙ y)))
  where
    taken : (r : AlignedRun) (n : ℕ) (p : Paged) → taken_on r (suc n) p ≡ suc (taken_on r n (line_of r p)) → page_of r (suc n) p ≡ page_of r n (line_of r p) →
        Wrote p.out p.place (symbol_text r p.next p.rest) (line_of r p).out (line_of r p).place → PageHolds r n (line_of r p) → PageHolds r (suc n) p
    taken r n p t e w on =
        record {
          within = rw t (omega (arith, on.within));
          next = rw (t, e) (on.next ∙ unfold line_of in (omega arith));
          rest = rw (t, e) (on.rest ∙ unfold line_of run_rest in refl);
          lines = rw (t, e) (unfold run_text line_of in next-to w on.lines);
          leads = λ u v. rw t (omega arith);
        }

-- ---- a run's lines in two parts
pub split_theorem : SplitClaim
unfolding run_text run_rest
split_theorem r zero m i vs =
    let a : 0 + m ≡ m = omega arith in
    let b : i ≡ i + 0 = omega arith in
    ap (λ (n : ℕ). run_text r n i vs) a ∙ ap (λ (n : ℕ). run_text r m n vs) b
split_theorem r (suc k) m i vs =
    let a : suc k + m ≡ suc (k + m) = omega arith in
    let b : i + 1 + k ≡ i + suc k = omega arith in
    let us = symbol_rest r i vs in
    let t = symbol_text r i vs in
    ap (λ (n : ℕ). run_text r n i vs) a
    ∙ ap (λ (u : List ℕ). t ++ u) (split_theorem r k m (i + 1) us)
    ∙ sym (append_assoc t (run_text r k (i + 1) us) (run_text r m (i + 1 + k) (run_rest r k (i + 1) us)))
    ∙ ap (λ (n : ℕ). (t ++ run_text r k (i + 1) us) ++ run_text r m n (run_rest r k (i + 1) us)) b

-- ---- page after page
told-on : (o : List ℕ) (at : ℕ) (t l : List ℕ) (r : ℕ) → Wrote o at t l r → take r l ≡ take at o ++ t
unfolding written
told-on o at t l r w =
    let f = w.fits in
    let n : length (take at o ++ t) ≡ at + length t = length-append (take at o) t ∙ ap (λ (k : ℕ). k + length t) (length-take-le at o (omega (arith, f))) in
    ap₂ (λ (k : ℕ) (x : List ℕ). take k x) w.behind w.is ∙ take_at (take at o ++ t) (drop (at + length t) o) (at + length t) n

-- where a run is told to its end
record RunTold (r : AlignedRun) (m : ℕ) (s e : Sent) : Type 0 where
  pub told : told_by e ≡ told_by s ++ run_text r m s.page.next s.page.rest
  pub rest : e.page.rest ≡ run_rest r m s.page.next s.page.rest
  pub place : e.page.place ≤ length e.page.out
  pub long : length e.page.out ≡ length s.page.out

last_page : (r : AlignedRun) (k m t : ℕ) (s : Sent) → m ≡ r.count - s.page.next → t ≡ taken_on r m s.page → PageHolds r m s.page → t ≡ m →
    pages_from (suc k) r s ≡ record { sent = s.sent; page = page_of r m s.page } → RunTold r m s (pages_from (suc k) r s)
last_page r k m t s em et h e z =
    let w : Wrote s.page.out s.page.place (run_text r m s.page.next s.page.rest) (page_of r m s.page).out (page_of r m s.page).place = rw (sym et ∙ e) at h.lines in
    let d = told-on _ _ _ _ _ w in
    rw z
    record {
      told = ap (λ (x : List ℕ). s.sent ++ x) d ∙ sym (append_assoc s.sent (take s.page.place s.page.out) (run_text r m s.page.next s.page.rest));
      rest = h.rest ∙ ap (λ (n : ℕ). run_rest r n s.page.next s.page.rest) (sym et ∙ e);
      place = omega (arith, w.behind, w.fits, w.long);
      long = w.long;
    }

rest_split : (r : AlignedRun) (k m i : ℕ) (vs : List ℤ) → run_rest r (k + m) i vs ≡ run_rest r m (i + k) (run_rest r k i vs)
unfolding run_rest
rest_split r zero m i vs =
    let a : 0 + m ≡ m = omega arith in
    let b : i ≡ i + 0 = omega arith in
    ap (λ (n : ℕ). run_rest r n i vs) a ∙ ap (λ (n : ℕ). run_rest r m n vs) b
rest_split r (suc k) m i vs =
    let a : suc k + m ≡ suc (k + m) = omega arith in
    let b : i + 1 + k ≡ i + suc k = omega arith in
    let us = symbol_rest r i vs in
    ap (λ (n : ℕ). run_rest r n i vs) a ∙ rest_split r k m (i + 1) us ∙ ap (λ (n : ℕ). run_rest r m n (run_rest r k (i + 1) us)) b

-- a page and the pages behind it
next_page : (r : AlignedRun) (m t n : ℕ) (s : Sent) (p : Paged) (e : Sent) → m ≡ t + n →
    Wrote s.page.out s.page.place (run_text r t s.page.next s.page.rest) p.out p.place →
    p.next ≡ s.page.next + t → p.rest ≡ run_rest r t s.page.next s.page.rest → RunTold r n (turned s.sent p) e → RunTold r m s e
unfolding turned
next_page r m t n s p e em w en er h =
    let i = s.page.next in
    let vs = s.page.rest in
    let d = told-on _ _ _ _ _ w in
    let x : List ℕ = run_text r t i vs in
    let y : List ℕ = run_text r n (i + t) (run_rest r t i vs) in
    let a : s.sent ++ take p.place p.out ≡ told_by s ++ x = ap (λ (u : List ℕ). s.sent ++ u) d ∙ sym (append_assoc s.sent (take s.page.place s.page.out) x) in
    let b : (s.sent ++ take p.place p.out) ++ take 0 p.out ≡ s.sent ++ take p.place p.out = append-nil (s.sent ++ take p.place p.out) in
    let g : run_text r n p.next p.rest ≡ y = ap₂ (λ (j : ℕ) (us : List ℤ). run_text r n j us) en er in
    record {
      told = h.told ∙ ap₂ (λ (u v : List ℕ). u ++ v) (b ∙ a) g ∙ append_assoc (told_by s) x y ∙ ap (λ (u : List ℕ). told_by s ++ u) (sym (split_theorem r t n i vs) ∙ ap (λ (j : ℕ). run_text r j i vs) (sym em));
      rest = h.rest ∙ ap₂ (λ (j : ℕ) (us : List ℤ). run_rest r n j us) en er ∙ sym (rest_split r t n i vs) ∙ ap (λ (j : ℕ). run_rest r j i vs) (sym em);
      place = h.place;
      long = h.long ∙ w.long;
    }

a_page : (k : ℕ) (r : AlignedRun) (m : ℕ) (s : Sent) → m ≡ r.count - s.page.next → s.page.place ≤ length s.page.out →
    (leb r.count (page_of r m s.page).next ≡ false → RunTold r (r.count - (page_of r m s.page).next) (turned s.sent (page_of r m s.page)) (pages_from k r (turned s.sent (page_of r m s.page)))) →
    RunTold r m s (pages_from (suc k) r s)
unfolding pages_from
a_page k r m s em hp on =
    let h = page_theorem r m s.page hp in
    let p = page_of r m s.page in
    let t = taken_on r m s.page in
    let hw = h.within in
    let hn = h.next in
    by_test (leb r.count p.next)
    (λ y. last_page r k m t s em refl h (omega (arith, em, hw, hn, leb-true r.count p.next y)) (rw (← em) (if_yes _ _ _ y)))
    (λ y.
    let z = leb-false r.count p.next y in
    let v : m ≡ t + (r.count - p.next) = omega (arith, em, hw, hn, z) in
    rw (← em) (rw (if_no _ _ _ y) (next_page r m t (r.count - p.next) s p _ v h.lines hn h.rest (on y))))

-- pages of an empty buffer: each takes a symbol
fresh-run : (k : ℕ) (r : AlignedRun) (m : ℕ) (s : Sent) → m ≡ r.count - s.page.next → 1 ≤ k → m ≤ k → s.page.place ≡ 0 → 256 ≤ length s.page.out →
    RunTold r m s (pages_from k r s)
fresh-run zero r m s em h l e q = absurd (omega (arith, h))
fresh-run (suc k) r m s em h l e q =
    let g = page_theorem r m s.page (omega (arith, e)) in
    let gw = g.within in
    let gn = g.next in
    let w = g.lines in
    let u : leb (s.page.place + 256) (length s.page.out) ≡ true = le-leb (s.page.place + 256) (length s.page.out) (omega (arith, e, q)) in
    a_page k r m s em (omega (arith, e))
    (λ y.
    let p = page_of r m s.page in
    let z = leb-false r.count p.next y in
    let t : 0 < taken_on r m s.page = g.leads u (omega (arith, em, gw, gn, z)) in
    fresh-run k r (r.count - p.next) (turned s.sent p) (unfold turned in refl) (omega (arith, em, gw, gn, z, t, l)) (omega (arith, em, gw, gn, z, t, l)) (unfold turned in refl) (unfold turned in (omega (arith, w.long, q))))

-- .. and of one that is used further, whose first page may take none
a_run : (k : ℕ) (r : AlignedRun) (m : ℕ) (s : Sent) → m ≡ r.count - s.page.next → m < k → s.page.place ≤ length s.page.out → 256 ≤ length s.page.out →
    RunTold r m s (pages_from k r s)
a_run zero r m s em l hp q = absurd (omega (arith, l))
a_run (suc k) r m s em l hp q =
    let g = page_theorem r m s.page hp in
    let gw = g.within in
    let gn = g.next in
    let w = g.lines in
    a_page k r m s em hp
    (λ y.
    let p = page_of r m s.page in
    let z = leb-false r.count p.next y in
    fresh-run k r (r.count - p.next) (turned s.sent p) (unfold turned in refl) (omega (arith, em, gw, gn, z, l)) (omega (arith, em, gw, gn, z, l)) (unfold turned in refl) (unfold turned in (omega (arith, w.long, q))))

run-told : (k : ℕ) (r : AlignedRun) (vs : List ℤ) (sent : List ℕ) (place : ℕ) (out : List ℕ) → r.count < k → place ≤ length out → 256 ≤ length out →
    RunTold r r.count (record { sent = sent; page = record { next = 0; rest = vs; place = place; out = out } }) (run_on k r vs sent place out)
unfolding run_on
run-told k r vs sent place out h l q = a_run k r r.count _ (omega arith) h l q

-- ---- an answer's lines
events_fit : (es : Events) → length (events_text es) ≤ 768
unfolding events_text
events_fit es =
    let a = event_short es.first in
    let b = event_short es.second in
    let c = event_short es.third in
    omega (arith, a, b, c, length-append (event_line es.first ++ event_line es.second) (event_line es.third), length-append (event_line es.first) (event_line es.second))

pub answer_theorem : AnswerClaim
unfolding answer_on lines_of
answer_theorem k es rs soft sent place out ht hb h =
    let t = events_text es in
    let f = events_fit es in
    let g : place + length t ≤ length out = omega (arith, f, h) in
    let lw = length_written out place t g in
    let w : Wrote out place t (written out place t) (place + length t) = record { fits = g; is = refl; behind = refl; long = lw } in
    let o = written out place t in
    let x = run_on k rs.tail soft sent (place + length t) o in
    let a = run-told k rs.tail soft sent (place + length t) o ht (omega (arith, g, lw)) (omega (arith, h, lw)) in
    let al = a.long in
    let b = run-told k rs.body x.page.rest x.sent x.page.place x.page.out hb a.place (omega (arith, h, lw, al)) in
    let d = told-on _ _ _ _ _ w in
    let u : List ℕ = sent ++ take place out in
    let v : List ℕ = run_text rs.tail rs.tail.count 0 soft in
    let z : List ℕ = run_text rs.body rs.body.count 0 (run_rest rs.tail rs.tail.count 0 soft) in
    let first : sent ++ take (place + length t) o ≡ u ++ t = ap (λ (y : List ℕ). sent ++ y) d ∙ sym (append_assoc sent (take place out) t) in
    b.told ∙ ap₂ (λ (y : List ℕ) (us : List ℤ). y ++ run_text rs.body rs.body.count 0 us) a.told a.rest
    ∙ ap (λ (y : List ℕ). y ++ v ++ z) first
    ∙ ap (λ (y : List ℕ). y ++ z) (append_assoc u t v) ∙ append_assoc u (t ++ v) z

-- ---- the turns of the program: what was sent before does not bear on the page
pub sent_apart : (k : ℕ) (r : AlignedRun) (a b : List ℕ) (p : Paged) → (pages_from k r (record { sent = a; page = p })).page ≡ (pages_from k r (record { sent = b; page = p })).page
unfolding pages_from turned
sent_apart zero r a b p = refl
sent_apart (suc k) r a b p =
    let q = page_of r (r.count - p.next) p in
    let t = leb r.count q.next in
    by_test t
    (λ y. ap (λ (s : Sent). s.page) (if_yes t _ _ y) ∙ sym (ap (λ (s : Sent). s.page) (if_yes t _ _ y)))
    (λ y.
    ap (λ (s : Sent). s.page) (if_no t _ _ y)
    ∙ sent_apart k r (a ++ take q.place q.out) (b ++ take q.place q.out) (record { next = q.next; rest = q.rest; place = 0; out = q.out })
    ∙ sym (ap (λ (s : Sent). s.page) (if_no t _ _ y)))

-- the last page of a run, and one that is not
pub turn_last : (k : ℕ) (r : AlignedRun) (p q : Paged) → q ≡ page_of r (r.count - p.next) p → r.count ≤ q.next →
    (pages_from 0 r (record { sent = []; page = q })).page ≡ (pages_from (suc k) r (record { sent = []; page = p })).page
unfolding pages_from
turn_last k r p q e h =
    let u = page_of r (r.count - p.next) p in
    e ∙ sym (ap (λ (s : Sent). s.page) (if_yes (leb r.count u.next) _ _ (rw (← e) (le-leb r.count q.next h))))

pub turn_on : (k : ℕ) (r : AlignedRun) (p q : Paged) → q ≡ page_of r (r.count - p.next) p → q.next < r.count →
    (pages_from k r (record { sent = []; page = record { next = q.next; rest = q.rest; place = 0; out = q.out } })).page ≡ (pages_from (suc k) r (record { sent = []; page = p })).page
unfolding pages_from turned
turn_on k r p q e h =
    let u = page_of r (r.count - p.next) p in
    ap (λ (x : Paged). (pages_from k r (record { sent = []; page = record { next = x.next; rest = x.rest; place = 0; out = x.out } })).page) e
    ∙ sent_apart k r [] ([] ++ take u.place u.out) (record { next = u.next; rest = u.rest; place = 0; out = u.out })
    ∙ sym (ap (λ (s : Sent). s.page) (if_no (leb r.count u.next) _ _ (rw (← e) (lt-leb r.count q.next h))))

-- an answer by its parts: the events, and what both runs leave
second_run : (k : ℕ) (r : AlignedRun) (a : Sent) (vs : List ℤ) (to : ℕ) (out : List ℕ) → vs ≡ a.page.rest → to ≡ a.page.place → out ≡ a.page.out →
    left_on k r vs to out ≡ (run_on k r a.page.rest a.sent a.page.place a.page.out).page
unfolding run_on
second_run k r a vs to out x y z = rw (x, y, z) (sent_apart k r [] a.sent _)

pub answer_left_lem : (k : ℕ) (es : Events) (rs : Runs) (soft : List ℤ) (place : ℕ) (out o : List ℕ) (e : ℕ) (vs ws : List ℤ) (to end : ℕ) (l m : List ℕ) →
    Wrote out place (events_text es) o e → leaves_page (left_on k rs.tail soft e o) vs to l → leaves_page (left_on k rs.body vs to l) ws end m →
    leaves_buffer (answer_left k es rs soft place out) end m
unfolding answer_on
answer_left_lem k es rs soft place out o e vs ws to end l m w x y =
    let t = events_text es in
    let a = run_on k rs.tail soft [] (place + length t) (written out place t) in
    let p : left_on k rs.tail soft e o ≡ a.page = ap₂ (λ (i : ℕ) (u : List ℕ). left_on k rs.tail soft i u) w.behind w.is in
    let q = second_run k rs.body a vs to l (x.0 ∙ ap (λ (z : Paged). z.rest) p) (x.1 ∙ ap (λ (z : Paged). z.place) p) (x.2 ∙ ap (λ (z : Paged). z.out) p) in
    (y.1 ∙ ap (λ (z : Paged). z.place) q, y.2 ∙ ap (λ (z : Paged). z.out) q)
