-- One turn of each loop: what is left to do from here is what is left after the turn's step. Assumes nothing.
use mathlib.Core.Path.{◌≡◌, refl}
use mathlib.Core.List.{List}
use Prim.Native.Nat.{ℕ, zero, suc, ◌+◌, ◌-◌, ◌<◌, ◌≤◌}
use native.Mathlib.Nat.{not-suc-le-zero}
use native.Mathlib.Numerals.{add-one}
use native.Mathlib.Omega.{arith}
use lib.Ieee.{Float, le, lt}
use Rattle.laws.proofs.Tests.{if_both}
use Rattle.solve_step.specs.Back.{rest_from, unknown_at, back_from}
use Rattle.solve_step.specs.Complex.{difference_of, product_of, squared_of, entry_at, with_entry, place}
use Rattle.solve_step.specs.Eliminate.{entry_swap, swap_from, entry_step, row_from, row_step, rows_from, column_step, reduce_from}
use Rattle.solve_step.specs.Pivot.{tiny, better_of, scan_from, judged_of, pivot_of}
use Rattle.solve_step.specs.declared.System.{System}
use Rattle.solve_step.specs.declared.complex.Complex.{Complex}
use Rattle.solve_step.specs.declared.pivot.Best.{Best}
use Rattle.solve_step.specs.declared.pivot.TooSmall.{TooSmall}
use Rattle.refusal.specs.declared.Refusal.TheVariants.{Pivot}
use Rattle.std.specs.Prelude.{Result, Ok, Err, IfOk}

-- a loop that counts to n, at i: one turn more is left than at i + 1
pub turns : (n i : ℕ) → i < n → n - i ≡ suc (n - suc i)
turns n i h = omega arith

-- and none is left at the end
pub ended : (n i : ℕ) → n ≤ i → n - i ≡ 0
ended n i h = omega arith

-- ---- the pivot
pub scan_turn : (a : List Float) (c r : ℕ) (b : Best) → r < 11
    → scan_from a c r b (11 - r) ≡ scan_from a c (r + 1) (better_of b r (squared_of (entry_at a (place r c)))) (11 - (r + 1))
unfolding scan_from
scan_turn a c r b h = rw (turns 11 r h, add-one)

pub scan_ended : (a : List Float) (c r : ℕ) (b : Best) → 11 ≤ r → scan_from a c r b (11 - r) ≡ b
unfolding scan_from
scan_ended a c r b h = rw (ended 11 r h)

pub better_in : (b : Best) (r : ℕ) (z : Float) → b.row < 11 → r < 11 → (better_of b r z).row < 11
unfolding better_of
better_in b r z h k = if_both (λ (x : Best). x.row < 11) (le b.size z) (record { row = r; size = z }) b k h

pub judged_in : (b : Best) → b.row < 11 → IfOk (judged_of b) (λ p. p.row < 11)
unfolding judged_of
judged_in b h = if_both (λ (r : Result Best TooSmall). IfOk r (λ p. p.row < 11)) (lt b.size tiny) (Err (record { size = b.size })) (Ok b) tt h

-- ---- rows
pub swap_turn : (a : List Float) (c p k : ℕ) → k < 11
    → swap_from a c p k (11 - k) ≡ swap_from (entry_swap a (place c k) (place p k)) c p (k + 1) (11 - (k + 1))
unfolding swap_from
swap_turn a c p k h = rw (turns 11 k h, add-one)

pub swap_ended : (a : List Float) (c p k : ℕ) → 11 ≤ k → swap_from a c p k (11 - k) ≡ a
unfolding swap_from
swap_ended a c p k h = rw (ended 11 k h)

pub row_turn : (a : List Float) (c r : ℕ) (f : Complex) (k : ℕ) → k < 11
    → row_from a c r f k (11 - k) ≡ row_from (entry_step a c r f k) c r f (k + 1) (11 - (k + 1))
unfolding row_from
row_turn a c r f k h = rw (turns 11 k h, add-one)

pub row_ended : (a : List Float) (c r : ℕ) (f : Complex) (k : ℕ) → 11 ≤ k → row_from a c r f k (11 - k) ≡ a
unfolding row_from
row_ended a c r f k h = rw (ended 11 k h)

pub rows_turn : (s : System) (c r : ℕ) → r < 11 → rows_from s c r (11 - r) ≡ rows_from (row_step s c r) c (r + 1) (11 - (r + 1))
unfolding rows_from
rows_turn s c r h = rw (turns 11 r h, add-one)

pub rows_ended : (s : System) (c r : ℕ) → 11 ≤ r → rows_from s c r (11 - r) ≡ s
unfolding rows_from
rows_ended s c r h = rw (ended 11 r h)

-- ---- columns
pub reduce_row : (s : System) (c : ℕ) (b : Best) → c < 11 → pivot_of s.a c ≡ Ok b
    → reduce_from s c (11 - c) ≡ reduce_from (column_step s c b.row) (c + 1) (11 - (c + 1))
unfolding reduce_from
reduce_row s c b h e = rw (turns 11 c h, add-one, reduce_from, e)

pub reduce_stop : (s : System) (c : ℕ) (x : TooSmall) → c < 11 → pivot_of s.a c ≡ Err x → reduce_from s c (11 - c) ≡ Err Pivot
unfolding reduce_from
reduce_stop s c x h e = rw (turns 11 c h, reduce_from, e)

pub reduce_ended : (s : System) (c : ℕ) → 11 ≤ c → reduce_from s c (11 - c) ≡ Ok s
unfolding reduce_from
reduce_ended s c h = rw (ended 11 c h)

-- ---- back substitution
pub rest_turn : (a x : List Float) (r k : ℕ) (s : Complex) → k < 11
    → rest_from a x r k s (11 - k) ≡ rest_from a x r (k + 1) (difference_of s (product_of (entry_at a (place r k)) (entry_at x k))) (11 - (k + 1))
unfolding rest_from
rest_turn a x r k s h = rw (turns 11 k h, add-one)

pub rest_ended : (a x : List Float) (r k : ℕ) (s : Complex) → 11 ≤ k → rest_from a x r k s (11 - k) ≡ s
unfolding rest_from
rest_ended a x r k s h = rw (ended 11 k h)

one_less : (r : ℕ) → suc r - 1 ≡ r
one_less r = omega arith

pub back_turn : (s : System) (x : List Float) (r : ℕ) → 0 < r
    → back_from s x r ≡ back_from s (with_entry x (r - 1) (unknown_at s.a s.b x (r - 1))) (r - 1)
unfolding back_from
back_turn s x zero h = absurd (not-suc-le-zero h)
back_turn s x (suc r) h = rw (one_less r)

pub back_ended : (s : System) (x : List Float) (r : ℕ) → r ≤ 0 → back_from s x r ≡ x
unfolding back_from
back_ended s x zero h = refl
back_ended s x (suc r) h = absurd (not-suc-le-zero h)
