-- Points with zeros behind them, and what an accepted load tells. Assumes nothing.
use Prim.Native.Nat.{ℕ, suc, ◌+◌, ◌-◌, ◌*◌, ◌^◌, ◌≤◌, ◌<◌}
use mathlib.Core.Bool.{Bool, true, false, not, ◌||◌}
use mathlib.Core.List.{List, ◌∷◌, [], ◌++◌, append_assoc}
use mathlib.Core.Path.{◌≡◌, refl, sym, ◌∙◌}
use native.Mathlib.Numerals.{add-one}
use native.Mathlib.Omega.{arith}
use borrow.Author.Tests.{eqb-true, ltb-false}
use lib.Dec.{eqb, ltb}
use lib.IntN.{ℤ, pos, negsuc, nat_abs}
use lib.ListN.{get_or, length, replicate, set, take}
use lib.Pow.{pow_mono}
use lib.Seq.{length-take-le, set_at, take-length, take-suc}
use lib.Signed.{lt_z}
use Rattle.laws.proofs.Size.{pos_abs}
use Rattle.laws.proofs.Taken.{ok_no}
use Rattle.laws.proofs.Tests.{neither, never}
use Rattle.std.specs.Prelude.{Ok}
use Rattle.demap.specs.Answers.{bad_points, bad_scale}
use Rattle.receiver.specs.declared.Receiver.{Receiver}
use Rattle.receiver.specs.Answers.{points_refusal}

-- ---- points with zeros behind them
pub filled_next : (l : List ℤ) (k : ℕ) → k < length l → length l ≤ 64 →
    set (take k l ++ replicate (64 - k) (pos 0)) k (get_or l k (pos 0)) ≡ take (k + 1) l ++ replicate (64 - (k + 1)) (pos 0)
filled_next l k h m =
    let e : 64 - k ≡ suc (64 - suc k) = omega arith in
    rw (e, add-one k, take-suc l k (pos 0) h)
    (set_at (take k l) (pos 0) (replicate (64 - suc k) (pos 0)) (get_or l k (pos 0)) k (length-take-le k l (omega arith))
    ∙ sym (append_assoc (take k l) (get_or l k (pos 0) ∷ []) (replicate (64 - suc k) (pos 0))))

pub filled_end : (l : List ℤ) → take (length l) l ++ replicate (64 - length l) (pos 0) ≡ l ++ replicate (64 - length l) (pos 0)
filled_end l = rw (take-length l)

-- ---- a load of points that is taken
few : (bits : ℕ) → bits ≤ 5 → 2 * 2 ^ bits ≤ 64
few bits h = let p : 2 ^ bits ≤ 2 ^ 5 = pow_mono h in omega arith

not_false : (t : Bool) → not t ≡ false → t ≡ true
not_false true e = refl
not_false false e = sym e

most : (k : ℤ) → lt_z k (pos 0) ≡ false → lt_z (pos (2 ^ 24)) k ≡ false → nat_abs k ≤ 2 ^ 24
most (pos n) d e = ltb-false (2 ^ 24) n e
most (negsuc n) d e = absurd (never d)

pub points_taken : (r : Receiver) (bits len : ℕ) (k : ℤ) → points_refusal r bits len k ≡ Ok tt → (len ≤ 64) × (k ≡ pos (nat_abs k)) × (nat_abs k ≤ 2 ^ 24)
unfolding points_refusal
points_taken r bits len k h =
    let a = ok_no (bad_points bits len) _ _ h in
    let b = ok_no (bad_scale k) _ _ a.1 in
    let p = neither (ltb bits 1) (ltb 5 bits || not (eqb len (2 * 2 ^ bits))) a.0 in
    let q = neither (ltb 5 bits) (not (eqb len (2 * 2 ^ bits))) p.1 in
    let m = eqb-true len (2 * 2 ^ bits) (not_false (eqb len (2 * 2 ^ bits)) q.1) in
    let s = neither (lt_z k (pos 0)) (lt_z (pos (2 ^ 24)) k) b.0 in
    (omega (arith, m, few bits (ltb-false 5 bits q.0)), pos_abs k s.0, most k s.0 s.1)
