use Rattle.std.proofs.Common.{◌≡◌, ◌-◌, ◌≤◌, length}
use Rattle.bench_text.specs.Pages.{page_of, paged_by}
use Rattle.bench_text.proofs.ranged.fill.Given as goal

abbrev pub invariant-lines : goal.invariant-lines
invariant-lines l =
    record {
      value : l.q.v ≤ length l.soft;
      long : length l.out ≡ length l.initial.out;
      page : page_of l.run (l.run.count - l.q.i) (paged_by l.q l.soft l.out) ≡ page_of l.run (l.run.count - l.initial.q.i) (paged_by l.initial.q l.soft l.initial.out);
    }

abbrev pub decreases-lines : goal.decreases-lines
decreases-lines l = l.run.count - l.q.i
