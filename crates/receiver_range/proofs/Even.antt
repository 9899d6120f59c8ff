-- Angles of the CORDIC are even, and so is the turn from one to another. Assumes nothing.
use Rattle.std.specs.Prelude.{Option, None, Some}
use Rattle.carrier.specs.declared.Steps.{Steps}
use Prim.Native.Nat.{ℕ, zero, suc, ◌+◌, ◌-◌, ◌*◌, ◌%◌, ◌^◌, ◌≤◌}
use mathlib.Core.Bool.{Bool, true, ◌&&◌}
use mathlib.Core.List.{List, [], ◌∷◌}
use mathlib.Core.Path.{◌≡◌, refl, ap}
use native.Mathlib.Omega.{arith}
use borrow.Author.Tests.{leb-true, ltb-true}
use lib.Dec.{leb, ltb}
use lib.IntN.{ℤ, pos, ◌+ℤ◌, ◌-ℤ◌}
use lib.ListN.{get_or}
use lib.Signed.{◌≤ℤ◌}
use Rattle.laws.proofs.Linear.{dif_ud, le_ud, sum_ud, ud_le}
use Rattle.laws.proofs.Tests.{and_both, if_both, if_either}
use Rattle.fx.specs.Cordic.{cordic_angles, right_half, cordic_start, cordic_step, cordic_steps, cordic_of}
use Rattle.fx.specs.Fx.{signed_angle}
use Rattle.fx.specs.declared.Turn.{Turn}
use Rattle.angles.specs.Angles.{turn_from}
use Rattle.sync_heads.specs.declared.Head.{Head}
use Rattle.sync_heads.specs.declared.Word.{Word}
use Rattle.sync_heads.specs.declared.Word.TheVariants.{Ssync, Fsync, NotFsync}
use Rattle.carrier.specs.declared.Heard.{Heard}
use Rattle.carrier.specs.declared.Nco.{Nco}
use Rattle.carrier.specs.Carrier.{since_head, ssync_heard, trail_heard, word_heard, heard_of}
use Rattle.carrier.proofs.Kept.{word_coherent}
use Rattle.receiver_range.specs.Coherent.{NcoFits, TrailEven}

-- ---- the CORDIC: a step turns by its angle, one way or the other
total : ℕ → ℕ
total zero = 0
total (suc i) = total i + get_or cordic_angles i 0

step_parity : (t : Turn) (i a : ℕ) → a ≤ 2 ^ 32 → (cordic_step t i a).z % 2 ≡ (t.z + a) % 2
unfolding cordic_step
step_parity t i a h = if_both (λ (x : Turn). x.z % 2 ≡ (t.z + a) % 2) _ _ _ (omega arith) (omega (arith, h))

all_small : List ℕ → Bool
all_small [] = true
all_small (a ∷ l) = leb a (2 ^ 32) && all_small l

entry_small : (l : List ℕ) (i : ℕ) → all_small l ≡ true → get_or l i 0 ≤ 2 ^ 32
unfolding all_small
entry_small [] i e = omega arith
entry_small (a ∷ l) zero e = leb-true a (2 ^ 32) (and_both (leb a (2 ^ 32)) (all_small l) e).0
entry_small (a ∷ l) (suc i) e = entry_small l i (and_both (leb a (2 ^ 32)) (all_small l) e).1

angles_small : all_small cordic_angles ≡ true
unfolding all_small cordic_angles
angles_small = refl

angle_small : (i : ℕ) → get_or cordic_angles i 0 ≤ 2 ^ 32
angle_small i = entry_small cordic_angles i angles_small

steps_parity : (n : ℕ) (t : Turn) → (cordic_steps n t).z % 2 ≡ (t.z + total n) % 2
unfolding cordic_steps total
steps_parity zero t = ap (λ (k : ℕ). k % 2) (omega arith)
steps_parity (suc i) t =
    let s = cordic_steps i t in
    omega (arith, step_parity s i (get_or cordic_angles i 0) (angle_small i), steps_parity i t)

start_even : (re im : ℤ) → (cordic_start re im).z % 2 ≡ 0
unfolding cordic_start right_half
start_even re im = if_both (λ (x : Turn). x.z % 2 ≡ 0) _ _ _ refl refl

total-even : total 16 % 2 ≡ 0
unfolding cordic_angles total
total-even = refl

pub cordic_even : (re im : ℤ) → (cordic_of re im).angle % 2 ≡ 0
unfolding cordic_of
cordic_even re im = omega (arith, steps_parity 16 (cordic_start re im), start_even re im, total-even)

-- ---- a turn between even angles is at most 2^31 - 2
rest_even : (a b : ℕ) → a % 2 ≡ 0 → b % 2 ≡ 0 → ((b + (2 ^ 32 - a)) % 2 ^ 32) % 2 ≡ 0
rest_even a b h k = omega (arith, h, k)

signed-even : (v : ℕ) → v % 2 ≡ 0 → v ≤ 2 ^ 32 → signed_angle v ≤ℤ pos (2 ^ 31 - 2)
unfolding signed_angle
signed-even v h l =
    if_either (λ (z : ℤ). z ≤ℤ pos (2 ^ 31 - 2)) (ltb v (2 ^ 31)) _ _
    (λ e. le_ud (pos v) (pos (2 ^ 31 - 2)) (omega (arith, h, ltb-true v (2 ^ 31) e)))
    (λ e. le_ud (pos v -ℤ pos (2 ^ 32)) (pos (2 ^ 31 - 2)) (omega (arith, dif_ud (pos v) (pos (2 ^ 32)), l)))

turn_even : (a b : ℕ) → a % 2 ≡ 0 → b % 2 ≡ 0 → turn_from a b ≤ℤ pos (2 ^ 31 - 2)
unfolding turn_from
turn_even a b h k = signed-even ((b + (2 ^ 32 - a)) % 2 ^ 32) (rest_even a b h k) (omega arith)

-- ---- a head with an even angle is heard
more : (m n : ℤ) (k : ℕ) → m ≤ℤ pos (k * (2 ^ 31 - 2)) → n ≤ℤ pos (2 ^ 31 - 2) → (m +ℤ n) ≤ℤ pos ((k + 1) * (2 ^ 31 - 2))
more m n k h l = le_ud (m +ℤ n) (pos ((k + 1) * (2 ^ 31 - 2))) (omega (arith, sum_ud m n, ud_le h, ud_le l))

none_yet : pos 0 ≤ℤ pos (0 * (2 ^ 31 - 2))
none_yet = le_ud (pos 0) (pos (0 * (2 ^ 31 - 2))) (omega arith)

word_even : (n : Nco) (w : Word) (theta : ℕ) → theta % 2 ≡ 0 → TrailEven n.trail → TrailEven (word_heard n w theta).nco.trail
unfolding word_heard trail_heard ssync_heard since_head
word_even n Ssync theta h k = go n.trail k
  where
    go : (t : Option Steps) → TrailEven t → TrailEven (trail_heard n t theta).nco.trail
    go None e = record { last = h; high = none_yet }
    go (Some s) e =
        if_both (λ (x : Heard). TrailEven x.nco.trail) _ _ _
        (record { last = h; high = more s.sum (turn_from s.last_ss theta) s.steps e.high (turn_even s.last_ss theta e.last h) })
        (record { last = h; high = none_yet })
word_even n Fsync theta h k = k
word_even n NotFsync theta h k = k

pub heard_fits : (n : Nco) (h : Head) → h.theta % 2 ≡ 0 → NcoFits n → NcoFits (heard_of n h).nco
unfolding heard_of
heard_fits n h e c =
    record { coherent = word_coherent n h.word h.theta c.coherent; even = word_even n h.word h.theta e c.even }
