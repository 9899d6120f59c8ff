-- `wire::entry` meets its contract. Assumes nothing.
use Rattle.std.proofs.Common.{ℕ, ◌≡◌, ◌+◌, ◌*◌, ◌^◌, Fits, w16, refl, arith}
use Rattle.wire.proofs.Laws.{read_signed}
use Rattle.wire.proofs.entry.Goals as goal

pub returns : goal.returns
returns c =
    let low : ℕ = c.args.low in
    let high : ℕ = c.args.high in
    let f : Fits w16 (low + 256 * high) = record { fits = omega (arith, c.ranges.low.fits, c.ranges.high.fits) } in
    let e : low + high * 256 ≡ low + 256 * high = omega arith in
    read_signed w16 (2 ^ 15) (low + 256 * high) c.from_le_bytes.result f refl refl (rw e at c.from_le_bytes.ensures)
