-- `lines::put::number` meets its contract. Assumes nothing.
use mathlib.Core.List.{List}
use mathlib.Core.Path.{ap, subst, ◌∙◌}
use Prim.Native.Nat.{ℕ}
use native.Mathlib.Omega.{arith}
use lib.ListN.{length, length-drop}
use Rattle.lines.specs.Place.{Wrote}
use Rattle.lines.proofs.Digits.{sliced}
use Rattle.lines.proofs.put.number.Goals as goal

pub returns : goal.returns
returns c =
    let D = c.decimal-k in
    let T = c.text in
    let e = sliced D.result D.new.out D.array_long in (
      subst (λ (t : List ℕ). Wrote c.args.out.now c.args.at t T.new.out T.result) (e ∙ D.ensures.1) T.ensures,
      omega (arith, T.ensures.behind, ap length e, length-drop D.result D.new.out, D.array_long),
    )
