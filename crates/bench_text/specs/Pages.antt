-- A run's lines in a buffer that may be too small for all of them: page by page.
use Rattle.std.specs.Prelude.{ℕ, zero, suc, ◌+◌, Bool, ◌&&◌, List, length, drop, ℤ, nat_le, nat_lt}
use Rattle.laws.specs.Choice.{when◌then◌else◌}
use Rattle.receiver_slot.specs.declared.AlignedRun.{AlignedRun}
use Rattle.lines.specs.Place.{written}
use Rattle.bench_text.specs.declared.Page.{Page}
use Rattle.bench_text.specs.Bench.{symbol_text, symbol_rest}

-- the next symbol of the run, the soft values from its own on, the next place of the buffer, and the buffer
pub record Paged : Type 0 where
  pub next : ℕ
  pub rest : List ℤ
  pub place : ℕ
  pub out : List ℕ

unfoldable pub paged_by : Page → List ℤ → List ℕ → Paged
paged_by p soft out = record { next = p.i; rest = drop p.v soft; place = p.place; out = out }

-- the next symbol's line
unfoldable pub line_of : AlignedRun → Paged → Paged
line_of r p =
    let t = symbol_text r p.next p.rest in
    record { next = p.next + 1; rest = symbol_rest r p.next p.rest; place = p.place + length t; out = written p.out p.place t }

-- symbol i of n, and room for 256 bytes, which is more than any line has
unfoldable pub more_of : ℕ → ℕ → ℕ → ℕ → Bool
more_of n i room place = nat_lt i n && nat_le (place + 256) room

-- n symbols, as far as there is room
unfoldable pub page_of : AlignedRun → ℕ → Paged → Paged
page_of r zero p = p
page_of r (suc n) p = let on = page_of r n (line_of r p) in when nat_le (p.place + 256) (length p.out) then on else p
