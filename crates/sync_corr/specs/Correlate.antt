-- Correlation: document 01, "Position n correlates symbols n to n+23 with both words; its size is the larger `mag_approx`."
use Rattle.refusal.specs.declared.Refusal.{Refusal}
use Rattle.refusal.specs.declared.Refusal.TheVariants.{Words}
use Rattle.std.specs.Prelude.{ℕ, zero, suc, ◌+◌, ◌*◌, max, Bool, true, ◌&&◌, List, eqb, ℤ, pos, nat_abs, ◌+ℤ◌, ◌-ℤ◌, ◌*ℤ◌, get_or, Result, Ok, Err}
use Rattle.laws.specs.Choice.{when◌then◌else◌}
use Rattle.fx.specs.Fx.{mag_approx}
use Rattle.sync_corr.specs.declared.Corr.{Corr}
use Rattle.sync_corr.specs.declared.Both.{Both}

-- number j of a list of pairs: I of pair k at 2k, Q at 2k + 1
unfoldable pub at : List ℤ → ℕ → ℤ
at l j = get_or l j (pos 0)

-- the sum over n pairs of r times the conjugate of w: its real part, r_i w_i + r_q w_q
unfoldable pub corr_re : List ℤ → List ℤ → ℕ → ℤ
corr_re r w zero = pos 0
corr_re r w (suc k) = corr_re r w k +ℤ ((at r (2 * k) *ℤ at w (2 * k)) +ℤ (at r (2 * k + 1) *ℤ at w (2 * k + 1)))

-- .. and its imaginary part, r_q w_i - r_i w_q
unfoldable pub corr_im : List ℤ → List ℤ → ℕ → ℤ
corr_im r w zero = pos 0
corr_im r w (suc k) = corr_im r w k +ℤ ((at r (2 * k + 1) *ℤ at w (2 * k)) -ℤ (at r (2 * k) *ℤ at w (2 * k + 1)))

-- of 24 symbols with a word
unfoldable pub corr : List ℤ → List ℤ → Corr
corr r w = record { re = corr_re r w 24; im = corr_im r w 24 }

unfoldable pub both_of : List ℤ → List ℤ → List ℤ → Both
both_of r f s = record { f = corr r f; s = corr r s }

-- "its size is the larger `mag_approx`"
unfoldable pub size_of : Both → ℕ
size_of b = max (mag_approx b.f.re b.f.im) (mag_approx b.s.re b.s.im)

-- the first n numbers are 1 or -1
unfoldable pub ones_to : List ℤ → ℕ → Bool
ones_to w zero = true
ones_to w (suc n) = ones_to w n && eqb (nat_abs (at w n)) 1

-- "an entry .. isn't 1 or -1" refuses
unfoldable pub ones_of : List ℤ → Bool
ones_of w = ones_to w 48

unfoldable pub correlate_answer : List ℤ → List ℤ → Result Corr Refusal
correlate_answer r w = when ones_of w then Ok (corr r w) else Err Words
