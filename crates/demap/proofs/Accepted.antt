-- What a demap that is taken knows. Assumes nothing.
use Rattle.std.specs.Prelude.{Ok}
use mathlib.Core.Bool.{Bool, true, false, not, ◌||◌}
use mathlib.Core.Path.{◌≡◌, refl}
use Prim.Native.Nat.{ℕ, ◌*◌, ◌^◌, ◌≤◌, ◌<◌}
use native.Mathlib.Omega.{arith}
use borrow.Author.Tests.{ltb-false, eqb-true}
use lib.Dec.{ltb, eqb}
use lib.IntN.{ℤ, pos, negsuc, nat_abs}
use lib.Signed.{lt_z}
use Rattle.laws.proofs.Taken.{ok_no}
use Rattle.laws.proofs.Tests.{never, neither}
use Rattle.refusal.specs.declared.Refusal.TheVariants.{Stores, Points, Scale}
use Rattle.demap.specs.Answers.{bad_points, bad_scale, demap_refusal, block_refusal}

not_false : (t : Bool) → not t ≡ false → t ≡ true
not_false true e = refl
not_false false e = absurd (never e)

scale_size : (k : ℤ) (n : ℕ) → lt_z k (pos 0) ≡ false → lt_z (pos n) k ≡ false → nat_abs k ≤ n
scale_size (pos a) n l h = ltb-false n a h
scale_size (negsuc a) n l h = absurd (never l)

pub record Accepted (bits len : ℕ) (k : ℤ) (room : ℕ) : Type 0 where
  pub fits : bits ≤ room
  pub some : 0 < bits
  pub few : bits ≤ 5
  pub points : len ≡ 2 * 2 ^ bits
  pub scale : nat_abs k ≤ 2 ^ 24
  pub not_below : lt_z k (pos 0) ≡ false

pub accepted : (bits len : ℕ) (k : ℤ) (room : ℕ) → demap_refusal bits len k room ≡ Ok tt → Accepted bits len k room
unfolding demap_refusal
accepted bits len k room h =
    let p = ok_no (ltb room bits) Stores _ h in
    let q = ok_no (bad_points bits len) Points _ p.1 in
    let r = ok_no (bad_scale k) Scale _ q.1 in
    let b = neither (ltb bits 1) (ltb 5 bits || not (eqb len (2 * 2 ^ bits))) q.0 in
    let l = neither (ltb 5 bits) (not (eqb len (2 * 2 ^ bits))) b.1 in
    let s = neither (lt_z k (pos 0)) (lt_z (pos (2 ^ 24)) k) r.0 in
    record {
      fits = ltb-false room bits p.0;
      some = omega (arith, ltb-false bits 1 b.0);
      few = ltb-false 5 bits l.0;
      points = eqb-true len (2 * 2 ^ bits) (not_false (eqb len (2 * 2 ^ bits)) l.1);
      scale = scale_size k (2 ^ 24) s.0 s.1;
      not_below = s.0;
    }

-- ---- a block
pub block_accepted : (n bits len : ℕ) (k : ℤ) (room : ℕ) → block_refusal n bits len k room ≡ Ok tt → (n * bits ≤ room) × Accepted bits len k bits
unfolding block_refusal
block_accepted n bits len k room h =
    let t = ok_no (ltb room (n * bits)) Stores (demap_refusal bits len k bits) h in
    (ltb-false room (n * bits) t.0, accepted bits len k bits t.1)
