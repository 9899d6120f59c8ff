-- A line, or none. Assumes nothing.
use Rattle.std.proofs.Common.{ℕ, ◌+◌, ◌-◌, ◌%◌, ◌^◌, length, take, drop, sym, refl, ◌∙◌, arith}
use native.Mathlib.Nat.{min-le_right}
use Rattle.bench_text.proofs.Pages.{taken, behind, few, printed, silent, below}
use Rattle.bench_text.proofs.Laws.{soft-wrote, soft_ok}
use Rattle.bench_text.proofs.ranged.line.Goals as goal

pub overflow_cast-j : goal.overflow_cast-j
overflow_cast-j c =
    let a = c.args in
    let b = below (a.run.j + a.p.i) a.run.bits (rw c.from.ensures at (sym c.prints.ensures ∙ c.if-prints.true)) in
    record { fits = omega (arith, b.0, c.from.ensures) }

pub unwrap-place-requires : goal.unwrap-place-requires
unwrap-place-requires c =
    let a = c.args in
    let g = c.requires in
    let S = c.soft in
    let E = rw c.from-then-prints.ensures at c.min-v.ensures in
    let b = below (a.run.j + a.p.i) a.run.bits (rw c.from.ensures at (sym c.prints.ensures ∙ c.if-prints.true)) in
    let f = few a.soft.now a.p.v a.run.bits c.min-v.result g.1 E b.1 in
    soft_ok a.out.now a.p.place ((a.run.at + a.p.i) % 2 ^ 64) (c.from.result + a.p.i) (take (c.min-v.result - a.p.v) (drop a.p.v a.soft.now)) S.result f g.2 S.ensures.0

pub returns-then-prints : goal.returns-then-prints
returns-then-prints c =
    let a = c.args in
    let g = c.requires in
    let S = c.soft in
    let e = c.min-v.result in
    let E = rw c.from-then-prints.ensures at c.min-v.ensures in
    let y = rw c.from.ensures at (sym c.prints.ensures ∙ c.if-prints.true) in
    let n : ℕ = (a.run.at + a.p.i) % 2 ^ 64 in
    let j : ℕ = a.run.j + a.p.i in
    let b = below j a.run.bits y in
    let t = taken a.soft.now a.p.v a.run.bits e g.1 E in
    let f = few a.soft.now a.p.v a.run.bits e g.1 E b.1 in
    let w = soft-wrote a.out.now a.p.place n n j (take (e - a.p.v) (drop a.p.v a.soft.now)) (take a.run.bits (drop a.p.v a.soft.now)) S.new.out S.result c.unwrap-place.result refl t f g.2 (rw c.from.ensures at S.ensures) c.unwrap-place.ensures in (
      printed a.run a.p a.soft.now a.out.now S.new.out c.unwrap-place.result e y w (behind a.soft.now a.p.v a.run.bits e g.1 E),
      refl,
      omega (arith, E, min-le_right (a.p.v + a.run.bits) (length a.soft.now)),
    )

pub returns-else-prints : goal.returns-else-prints
returns-else-prints c =
    let a = c.args in
    let y = rw c.from.ensures at (sym c.prints.ensures ∙ c.if-prints.false) in
    let e = silent a.run a.p a.soft.now a.out.now y (omega (arith, c.requires.2)) in
    (e, refl, c.requires.1)
