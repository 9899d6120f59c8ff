-- Laws of the digests. Assumes nothing.
use Rattle.std.proofs.Common.{◌≡◌, ℕ, ◌+◌, ◌*◌, ◌/◌, ◌%◌, ◌^◌, ◌<◌, List, length, get_or, refl, sym, ap, ◌∙◌, add-one, arith}
use Rattle.std.proofs.lemmas.List.{get_or-map}
use Rattle.digest.specs.Digest.{mixed_of, digest_to}

-- ---- the product by halves
wrapped : (a n q : ℕ) → (a % 2 ^ 64 + n) % 2 ^ 64 ≡ (a + n + 2 ^ 64 * q) % 2 ^ 64
wrapped a n q = omega arith

pub halves : (d n : ℕ) → ((d % 2 ^ 32 * 2654435761 + d / 2 ^ 32 * 2654435761 % 2 ^ 32 * 2 ^ 32) % 2 ^ 64 + n) % 2 ^ 64 ≡ mixed_of d n
unfolding mixed_of
halves d n =
    let h : ℕ = d / 2 ^ 32 in
    let a : ℕ = d % 2 ^ 32 * 2654435761 + h * 2654435761 % 2 ^ 32 * 2 ^ 32 in
    let e : a + n + 2 ^ 64 * (h * 2654435761 / 2 ^ 32) ≡ 2654435761 * d + n = omega arith in
    wrapped a n (h * 2654435761 / 2 ^ 32) ∙ ap (λ (x : ℕ). x % 2 ^ 64) e

-- ---- one more entry
pub digest_more : {T : Type 0} (f : T → ℕ) (l : List T) (k d : ℕ) (v : T) → k < length l → v ≡ get_or l k v → d ≡ digest_to f l k → mixed_of d (f v) ≡ digest_to f l (k + 1)
unfolding digest_to
digest_more f l k d v h g e = rw (e, add-one k) (ap (λ (x : ℕ). mixed_of (digest_to f l k) x) (ap f g ∙ sym (get_or-map f l k v 0 h)))

pub digest_none : {T : Type 0} (f : T → ℕ) (l : List T) → 0 ≡ digest_to f l 0
unfolding digest_to
digest_none f l = refl
