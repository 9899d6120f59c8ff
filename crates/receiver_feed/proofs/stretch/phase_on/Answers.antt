-- `receiver_feed::stretch::phase_on` meets its contract. Assumes nothing.
use Rattle.std.specs.Prelude.{Some}
use native.Mathlib.Omega.{arith}
use Prim.Native.Nat.{ℕ, ◌+◌, min}
use mathlib.Core.Path.{◌≡◌, ap}
use Rattle.receiver_feed.specs.Quiet.{phase_on}
use Rattle.receiver_feed.proofs.stretch.phase_on.Goals as goal

pub returns-in-None : goal.returns-in-None
unfolding phase_on
returns-in-None c = rw c.in-None.is

pub returns-then-c-lt9296 : goal.returns-then-c-lt9296
unfolding phase_on
returns-then-c-lt9296 c =
    let x = c.in-Some.x in
    let k = c.args.k in
    let e : x.count + k ≡ min (x.count + k) 9296 = omega (arith, c.if-c-lt9296.true) in
    rw c.in-Some.is (ap (λ (n : ℕ). Some (record { head = x.head; count = n })) e)

pub returns-else-c-lt9296 : goal.returns-else-c-lt9296
unfolding phase_on
returns-else-c-lt9296 c =
    let x = c.in-Some.x in
    let k = c.args.k in
    let e : 9296 ≡ min (x.count + k) 9296 = omega (arith, c.if-c-lt9296.false) in
    rw c.in-Some.is (ap (λ (n : ℕ). Some (record { head = x.head; count = n })) e)
