use lib.ListN.{length, drop}
use mathlib.Core.List.{List, []}
use mathlib.Core.Path.{◌≡◌}
use Prim.Native.Nat.{ℕ, ◌-◌, ◌≤◌}
use lib.IntN.{ℤ}
use Rattle.receiver_slot.specs.declared.AlignedRun.{AlignedRun}
use Rattle.bench_text.specs.Pages.{Paged}
use Rattle.bench_text.specs.Claims.{pages_from}
use Rattle.bench.proofs.run.Given as goal

abbrev pub page : ℕ → List ℤ → ℕ → List ℕ → Paged
page i vs to out = record { next = i; rest = vs; place = to; out = out }

-- the page that so many turns lead to
abbrev pub led : ℕ → AlignedRun → Paged → Paged
led k r p = (pages_from k r (record { sent = []; page = p })).page

abbrev pub invariant-pages : goal.invariant-pages
invariant-pages l =
    record {
      value : l.p.v ≤ length l.soft;
      same : led (65536 - l.counter) l.r (page l.p.i (drop l.p.v l.soft) l.p.place l.out) ≡ led 65536 l.r (page 0 (drop l.initial.p.v l.soft) l.initial.p.place l.initial.out);
    }
