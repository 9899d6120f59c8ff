-- `fields::ranged::pair_at` meets its contract. Assumes nothing.
use Rattle.std.proofs.Common.{◌≡◌, ℕ, ◌+◌, ◌*◌, ◌%◌, ◌^◌, get_or, Fits, w16, refl, arith}
use Rattle.wire.proofs.Laws.{read_signed}
use Rattle.fields.specs.Fields.{pair_at, pair_of}
use Rattle.fields.proofs.ranged.pair_at.Goals as goal

pub returns : goal.returns
unfolding pair_at pair_of
returns c =
    let low : ℕ = get_or c.args.bytes.now c.args.k 0 in
    let high : ℕ = get_or c.args.bytes.now (c.args.k + 1) 0 in
    let u : ℕ = (low + 256 * high) % 2 ^ 16 in
    let f : Fits w16 u = record { fits = omega arith } in
    let e : low + high * 256 ≡ u = omega (arith, c.fits-bytes c.args.k, c.fits-bytes (c.args.k + 1)) in
    read_signed w16 (2 ^ 15) u c.from_le_bytes.result f refl refl (rw e at c.from_le_bytes.ensures)
