-- Pages one after another give the lines of a run, and the lines of an answer.
use Rattle.std.specs.Prelude.{◌≡◌, ℕ, zero, suc, ◌+◌, ◌-◌, ◌<◌, ◌≤◌, true, leb, List, [], ◌++◌, length, take, ℤ, nat_le}
use Rattle.laws.specs.Choice.{when◌then◌else◌}
use Rattle.sync_step.specs.declared.Events.{Events}
use Rattle.receiver_slot.specs.declared.AlignedRun.{AlignedRun}
use Rattle.receiver_slot.specs.declared.Runs.{Runs}
use Rattle.lines.specs.Place.{Wrote, written}
use Rattle.bench_text.specs.Bench.{run_text, run_rest, events_text, lines_of}
use Rattle.bench_text.specs.Pages.{Paged, line_of, page_of}

-- how many of n symbols a page takes
unfoldable pub taken_on : AlignedRun → ℕ → Paged → ℕ
taken_on r zero p = 0
taken_on r (suc n) p = let on = suc (taken_on r n (line_of r p)) in when nat_le (p.place + 256) (length p.out) then on else 0

-- it holds their lines, one after the other, and all else of the buffer is as it was; what is left begins behind them
pub record PageHolds (r : AlignedRun) (n : ℕ) (p : Paged) : Type 0 where
  pub within : taken_on r n p ≤ n
  pub next : (page_of r n p).next ≡ p.next + taken_on r n p
  pub rest : (page_of r n p).rest ≡ run_rest r (taken_on r n p) p.next p.rest
  pub lines : Wrote p.out p.place (run_text r (taken_on r n p) p.next p.rest) (page_of r n p).out (page_of r n p).place
  -- with room for a line it takes a symbol
  pub leads : leb (p.place + 256) (length p.out) ≡ true → 0 < n → 0 < taken_on r n p

abbrev pub PageClaim : Type 0
PageClaim = (r : AlignedRun) (n : ℕ) (p : Paged) → p.place ≤ length p.out → PageHolds r n p

-- the lines of k + m symbols are those of the first k, and those of m behind them
abbrev pub SplitClaim : Type 0
SplitClaim = (r : AlignedRun) (k m i : ℕ) (vs : List ℤ) → run_text r (k + m) i vs ≡ run_text r k i vs ++ run_text r m (i + k) (run_rest r k i vs)

-- ---- page after page: what was sent, and the page that is not sent yet
pub record Sent : Type 0 where
  pub sent : List ℕ
  pub page : Paged

-- all that was told: what was sent, and what stands before the page's place
abbrev pub told_by : Sent → List ℕ
told_by s = s.sent ++ take s.page.place s.page.out

-- a page is sent, and its buffer is filled anew from the front
unfoldable pub turned : List ℕ → Paged → Sent
turned sent p =
    record { sent = sent ++ take p.place p.out; page = record { next = p.next; rest = p.rest; place = 0; out = p.out } }

-- a run in at most k pages: each is filled as far as there is room, and sent if symbols are left
unfoldable pub pages_from : ℕ → AlignedRun → Sent → Sent
pages_from zero r s = s
pages_from (suc k) r s =
    let p = page_of r (r.count - s.page.next) s.page in
    let on = pages_from k r (turned s.sent p) in
    when nat_le r.count p.next then record { sent = s.sent; page = p } else on

-- an answer, from a page's place on: the events, the run before, the run of this slot
unfoldable pub run_on : ℕ → AlignedRun → List ℤ → List ℕ → ℕ → List ℕ → Sent
run_on k r vs sent place out = pages_from k r (record { sent = sent; page = record { next = 0; rest = vs; place = place; out = out } })

unfoldable pub answer_on : ℕ → Events → Runs → List ℤ → List ℕ → ℕ → List ℕ → Sent
answer_on k es rs soft sent place out =
    let t = events_text es in
    let x = run_on k rs.tail soft sent (place + length t) (written out place t) in
    run_on k rs.body x.page.rest x.sent x.page.place x.page.out

-- what they leave in the page, which does not lie in what was sent before (proofs/Theorems.antt, `sent_apart`): the contracts of the bench program cite it
abbrev pub left_on : ℕ → AlignedRun → List ℤ → ℕ → List ℕ → Paged
left_on k r vs place out = (run_on k r vs [] place out).page

abbrev pub answer_left : ℕ → Events → Runs → List ℤ → ℕ → List ℕ → Paged
answer_left k es rs soft place out = (answer_on k es rs soft [] place out).page

-- values, place and buffer are those of a page
abbrev pub leaves_page : Paged → List ℤ → ℕ → List ℕ → Type 0
leaves_page p vs place out = (vs ≡ p.rest) × (place ≡ p.place) × (out ≡ p.out)

abbrev pub leaves_buffer : Paged → ℕ → List ℕ → Type 0
leaves_buffer p place out = (place ≡ p.place) × (out ≡ p.out)

-- where an answer begins in a buffer of 65,536: at the front, if there is no room for three lines
unfoldable pub room_at : ℕ → ℕ
room_at place = when nat_le place 64768 then place else 0

-- with room for three lines at the place, and a page more than either run has symbols, all that is told is what was, and the answer's lines behind it
abbrev pub AnswerClaim : Type 0
AnswerClaim =
    (k : ℕ) (es : Events) (rs : Runs) (soft : List ℤ) (sent : List ℕ) (place : ℕ) (out : List ℕ) →
    rs.tail.count < k → rs.body.count < k → place + 768 ≤ length out →
    told_by (answer_on k es rs soft sent place out) ≡ (sent ++ take place out) ++ lines_of es rs soft
