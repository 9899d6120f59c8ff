-- `capture::Points::loaded` meets its contract. Assumes nothing.
use mathlib.Core.Path.{◌≡◌, ap, ◌∙◌}
use Prim.Native.Nat.{ℕ, ◌*◌, ◌^◌, ◌%◌, ◌≤◌}
use native.Mathlib.Omega.{arith}
use lib.ListN.{take}
use lib.Pow.{pow_mono}
use Rattle.capture.proofs.Points.loaded.Goals as goal

few : (b : ℕ) → b ≤ 5 → (2 * 2 ^ b % 2 ^ 64 ≡ 2 * 2 ^ b) × (2 * 2 ^ b ≤ 64)
few b h = let p : 2 ^ b ≤ 32 = pow_mono {i = b} {j = 5} h in (omega arith, omega arith)

pub shared_ref_as_front-result : goal.shared_ref_as_front-result
shared_ref_as_front-result c =
    let m : c.min.result ≤ 5 = omega (arith, c.min.ensures) in omega (arith, few c.min.result m)

pub returns : goal.returns
returns c =
    let m : c.min.result ≤ 5 = omega (arith, c.min.ensures) in
    ap (λ (k : ℕ). take k c.args.self.now.numbers) ((few c.min.result m).0 ∙ ap (λ (b : ℕ). 2 * 2 ^ b) c.min.ensures)
