-- A block of rotated symbols, and a slot of corrected ones.
use Rattle.std.specs.Prelude.{ℕ, zero, suc, ◌+◌, ◌*◌, ◌/◌, Bool, ◌&&◌, List, eqb, leb, ℤ, pos, length, get_or, set}
use Rattle.laws.specs.Choice.{when◌then◌else◌}
use Rattle.carrier.specs.Carrier.{started_nco, rotated_of, advanced_nco}
use Rattle.carrier.specs.declared.Nco.{Nco}

-- a carrier, and the symbols it has rotated
pub record Turned : Type 0 where
  pub nco : Nco
  pub out : List ℤ

abbrev pub turned : Nco → List ℤ → Turned
turned n out = record { nco = n; out = out }

-- symbol k of xs
unfoldable pub rotated_one : List ℤ → List ℤ → ℕ → Turned → Turned
rotated_one xs table k t =
    let x = rotated_of table t.nco.phase (get_or xs (2 * k) (pos 0)) (get_or xs (2 * k + 1) (pos 0)) in
    turned (advanced_nco t.nco) (set (set t.out (2 * k) x.i) (2 * k + 1) x.q)

-- the first n of them
unfoldable pub rotated_all : List ℤ → List ℤ → ℕ → Turned → Turned
rotated_all xs table zero t = t
rotated_all xs table (suc k) t = rotated_one xs table k (rotated_all xs table k t)

abbrev pub rotates : List ℤ → List ℤ → List ℤ → Bool
rotates xs table out = eqb (length table) 1024 && leb (length xs) (length out)

unfoldable pub rotated_phase : ℤ → List ℤ → List ℤ → List ℤ → ℕ
rotated_phase freq xs table out = when rotates xs table out then (rotated_all xs table (length xs / 2) (turned (started_nco 0 freq) out)).nco.phase else 0

unfoldable pub rotated_out : ℤ → List ℤ → List ℤ → List ℤ → List ℤ
rotated_out freq xs table out = when rotates xs table out then (rotated_all xs table (length xs / 2) (turned (started_nco 0 freq) out)).out else out
