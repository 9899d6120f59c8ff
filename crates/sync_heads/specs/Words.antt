-- The word of a head.
use Rattle.std.specs.Prelude.{Bool, ℤ, pos, ◌+ℤ◌, ◌-ℤ◌, ◌*ℤ◌, neg_ℤ, int_lt}
use Rattle.laws.specs.Choice.{when◌then◌else◌}
use Rattle.fx.specs.Fx.{mag_approx}
use Rattle.sync_corr.specs.declared.Corr.{Corr}
use Rattle.sync_corr.specs.declared.Both.{Both}
use Rattle.sync_heads.specs.declared.Said.{Said}
use Rattle.sync_heads.specs.declared.Word.TheVariants.{Ssync, Fsync, NotFsync}

-- the real part of a times the conjugate of b: its sign tells whether they point the same way
unfoldable pub side_of : Corr → Corr → ℤ
side_of a b = (a.re *ℤ b.re) +ℤ (a.im *ℤ b.im)

-- the size with the S word less that with the F word
unfoldable pub margin_of : Both → ℤ
margin_of b = pos (mag_approx b.s.re b.s.im) -ℤ pos (mag_approx b.f.re b.f.im)

unfoldable pub negated : Corr → Corr
negated c = record { re = neg_ℤ c.re; im = neg_ℤ c.im }

-- an F word is NotFsync if it points against the last Ssync head, and its correlation is told with the sign taken off
unfoldable pub said_of : Bool → Both → Corr → Said
said_of ssync b last =
    when ssync
    then record { word = Ssync; corr = b.s }
    else when int_lt (side_of b.f last) (pos 0)
    then record { word = NotFsync; corr = negated b.f }
    else record { word = Fsync; corr = b.f }
