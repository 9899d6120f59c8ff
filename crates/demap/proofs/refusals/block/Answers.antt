-- `demap::refusals::block` meets its contract. Assumes nothing.
use Rattle.std.specs.Prelude.{Err}
use mathlib.Core.Bool.{not, ◌||◌}
use mathlib.Core.Path.{◌≡◌, refl, sym, ◌∙◌}
use Prim.Native.Nat.{ℕ, ◌*◌, ◌^◌, ◌≤◌, ◌<◌}
use native.Mathlib.Nat.{mul-zero, div-lt_iff_lt-mul}
use native.Mathlib.Omega.{arith}
use borrow.Author.Tests.{lt-ltb, le-ltb, ltb-true, ltb-false}
use lib.Dec.{ltb, eqb}
use lib.IntN.{ℤ}
use mir.Facts.{to_z-of_z}
use Rattle.laws.proofs.Tests.{by_test}
use Rattle.laws.specs.Choice.{if_yes, if_no}
use Rattle.refusal.specs.declared.Refusal.TheVariants.{Points}
use Rattle.demap.specs.Answers.{demap_refusal, block_refusal}
use Rattle.demap.proofs.refusals.block.Goals as goal

-- without bits any room will do, and the number of bits is refused
none : (n bits len : ℕ) (k : ℤ) (room : ℕ) → bits ≡ 0 → Err Points ≡ block_refusal n bits len k room
unfolding block_refusal demap_refusal
none n bits len k room e =
    rw e
    (sym (if_no (ltb room (n * 0)) _ _ (le-ltb room (n * 0) (rw (mul-zero n) (omega arith)))
    ∙ if_no (ltb 0 0) _ _ refl ∙ if_yes (ltb 0 1 || (ltb 5 0 || not (eqb len (2 * 2 ^ 0)))) _ _ refl))

not-over : (a b x y : ℕ) → (a < b → x < y) → y ≤ x → b ≤ a
not-over a b x y f h = by_test (ltb a b) (λ e. absurd (clash x y (f (ltb-true a b e)) h)) (λ e. ltb-false a b e)
  where
    clash : (x y : ℕ) → x < y → y ≤ x → ⊥
    clash x y h k = omega arith

pub returns-then-bits-eq0 : goal.returns-then-bits-eq0
returns-then-bits-eq0 c = none c.args.n c.args.bits c.args.len c.args.k c.args.room c.if-bits-eq0.true

pub returns-then-room-bits : goal.returns-then-room-bits
unfolding block_refusal
returns-then-room-bits c =
    let h = div-lt_iff_lt-mul {k = c.args.bits} {x = c.args.room} {y = c.args.n} (omega arith) in
    sym (if_yes _ _ _ (lt-ltb c.args.room (c.args.n * c.args.bits) (h.0 c.if-room-bits.true)))

pub returns : goal.returns
unfolding block_refusal
returns c =
    let h = div-lt_iff_lt-mul {k = c.args.bits} {x = c.args.room} {y = c.args.n} (omega arith) in
    (rw (to_z-of_z c.ranges.k) at c.single.ensures)
    ∙ sym (if_no _ _ _ (le-ltb c.args.room (c.args.n * c.args.bits) (not-over _ _ _ _ h.1 c.if-room-bits.false)))
