use Prim.Native.Nat.{◌+◌, ℕ}
use Rattle.laws.proofs.Tests.{if_either}
use Rattle.laws.specs.Choice.{cases, if_yes}
use Rattle.sync_lock.specs.Period.{added_of, counted_of, no_tally}
use Rattle.sync_lock.specs.declared.Tally.{Tally}
use borrow.Author.Rules.{rules}
use borrow.Author.Tests.{ltb-false}
use lib.Dec.{ltb}
use mathlib.Core.Bool.{true}
use mathlib.Core.Path.{◌∙◌, ◌≡◌, refl, sym}
use native.Mathlib.Nat.{zero-add}
use native.Mathlib.Omega.{arith}
use Rattle.sync_lock.proofs.ranged.counted.Goals as goal

-- at position 0 the accumulator itself is the peak, 0 too
first : (a : ℕ) → record { peak = a; place = 0; sum = a } ≡ added_of no_tally 0 a
unfolding added_of no_tally
first a =
    if_either (λ (r : Tally). record { peak = a; place = 0; sum = a } ≡ r) (ltb 0 a)
    (record { peak = a; place = 0; sum = 0 + a }) (record { peak = 0; place = 0; sum = 0 + a })
    (λ e. rw zero-add)
    (λ e. let z : a ≡ 0 = omega (arith, ltb-false 0 a e) in rw (z, zero-add))

pub returns-then-p-eq0 : goal.returns-then-p-eq0
unfolding counted_of
returns-then-p-eq0 c =
    let h : c.args.p ≡ 0 = search rules in
    first c.args.a ∙ rw h (sym (if_yes true (added_of no_tally 0 c.args.a) (added_of c.args.t 0 c.args.a) refl))

pub returns-then-t-a : goal.returns-then-t-a
unfolding counted_of added_of
returns-then-t-a c = search cases

pub returns-else-t-a : goal.returns-else-t-a
unfolding counted_of added_of
returns-else-t-a c = search cases
