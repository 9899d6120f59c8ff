-- ℤ's product over sums and differences, which lib.IntN lacks. Assumes nothing.
use Rattle.std.proofs.Common.{◌≡◌, ℕ, zero, suc, ℤ, pos, negsuc, ◌+ℤ◌, ◌-ℤ◌, ◌*ℤ◌, neg_ℤ, sym, ap, ◌∙◌, ap₂}
use lib.IntN.{+ℤ-suc_ℤ, +ℤ-pred_ℤ, +ℤ_idr, +ℤ_idl, +ℤ_assoc, suc_ℤ-*ℤ, pred_ℤ-*ℤ, zero-*ℤ, *ℤ-zero, *ℤ-negsuc, *ℤ_comm, neg_ℤ-neg_ℤ}

dist_pos : (a c : ℤ) (n : ℕ) → (a +ℤ pos n) *ℤ c ≡ a *ℤ c +ℤ pos n *ℤ c
dist_pos a c zero = ap (λ (z : ℤ). z *ℤ c) (+ℤ_idr a) ∙ sym (ap (λ (z : ℤ). a *ℤ c +ℤ z) (zero-*ℤ c) ∙ +ℤ_idr (a *ℤ c))
dist_pos a c (suc n) =
    ap (λ (z : ℤ). z *ℤ c) (+ℤ-suc_ℤ a (pos n)) ∙ suc_ℤ-*ℤ (a +ℤ pos n) c ∙ ap (λ (z : ℤ). z +ℤ c) (dist_pos a c n)
    ∙ +ℤ_assoc (a *ℤ c) (pos n *ℤ c) c
    ∙ ap (λ (z : ℤ). a *ℤ c +ℤ z) (sym (suc_ℤ-*ℤ (pos n) c))

dist_neg : (a c : ℤ) (n : ℕ) → (a +ℤ negsuc n) *ℤ c ≡ a *ℤ c +ℤ negsuc n *ℤ c
dist_neg a c zero =
    ap (λ (z : ℤ). z *ℤ c) (+ℤ-pred_ℤ a (pos zero)) ∙ pred_ℤ-*ℤ (a +ℤ pos zero) c ∙ ap (λ (z : ℤ). z -ℤ c) (dist_pos a c zero)
    ∙ +ℤ_assoc (a *ℤ c) (pos zero *ℤ c) (neg_ℤ c)
    ∙ ap (λ (z : ℤ). a *ℤ c +ℤ z) (sym (pred_ℤ-*ℤ (pos zero) c))
dist_neg a c (suc n) =
    ap (λ (z : ℤ). z *ℤ c) (+ℤ-pred_ℤ a (negsuc n)) ∙ pred_ℤ-*ℤ (a +ℤ negsuc n) c ∙ ap (λ (z : ℤ). z -ℤ c) (dist_neg a c n)
    ∙ +ℤ_assoc (a *ℤ c) (negsuc n *ℤ c) (neg_ℤ c)
    ∙ ap (λ (z : ℤ). a *ℤ c +ℤ z) (sym (pred_ℤ-*ℤ (negsuc n) c))

pub dist : (a b c : ℤ) → (a +ℤ b) *ℤ c ≡ a *ℤ c +ℤ b *ℤ c
dist a (pos n) c = dist_pos a c n
dist a (negsuc n) c = dist_neg a c n

pub mul_neg : (a b : ℤ) → a *ℤ neg_ℤ b ≡ neg_ℤ (a *ℤ b)
mul_neg a (pos zero) = *ℤ-zero a ∙ sym (ap neg_ℤ (*ℤ-zero a))
mul_neg a (pos (suc n)) = *ℤ-negsuc a n
mul_neg a (negsuc n) = sym (ap neg_ℤ (*ℤ-negsuc a n) ∙ neg_ℤ-neg_ℤ (a *ℤ pos (suc n)))

pub neg_mul : (a b : ℤ) → neg_ℤ a *ℤ b ≡ neg_ℤ (a *ℤ b)
neg_mul a b = *ℤ_comm (neg_ℤ a) b ∙ mul_neg b a ∙ ap neg_ℤ (*ℤ_comm b a)

pub dist_sub : (a b c : ℤ) → (a -ℤ b) *ℤ c ≡ a *ℤ c -ℤ b *ℤ c
dist_sub a b c = dist a (neg_ℤ b) c ∙ ap (λ (z : ℤ). a *ℤ c +ℤ z) (neg_mul b c)

pub twice : (x : ℤ) → pos 2 *ℤ x ≡ x +ℤ x
twice x = dist (pos 1) (pos 1) x ∙ ap₂ ◌+ℤ◌ (one x) (one x)
  where
    one : (x : ℤ) → pos 1 *ℤ x ≡ x
    one x = suc_ℤ-*ℤ (pos zero) x ∙ ap (λ (z : ℤ). z +ℤ x) (zero-*ℤ x) ∙ +ℤ_idl x

-- (a - b)² = (a² - ba) - (ab - b²)
pub square : (a b : ℤ) → (a -ℤ b) *ℤ (a -ℤ b) ≡ (a *ℤ a -ℤ b *ℤ a) -ℤ (a *ℤ b -ℤ b *ℤ b)
square a b = dist_sub a b (a -ℤ b) ∙ ap₂ ◌-ℤ◌ (*ℤ_comm a (a -ℤ b) ∙ dist_sub a b a) (*ℤ_comm b (a -ℤ b) ∙ dist_sub a b b)
