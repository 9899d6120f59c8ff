-- `phase::ranged::corrected` meets its contract. Assumes nothing.
use Prim.Native.Nat.{◌+◌, ◌*◌, ◌<◌, ◌^◌}
use native.Mathlib.Omega.{arith}
use lib.IntN.{pos}
use lib.ListN.{get_or}
use lib.Signed.{mag}
use mir.Facts.{to_z-of_z}
use mir.Syntax.{w16, w64}
use Rattle.laws.proofs.Size.{sfits_abs, back}
use Rattle.phase.specs.Phase.{corrected_of, symbol_at}
use Rattle.phase.proofs.ranged.corrected.Goals as goal

pub returns : goal.returns
unfolding corrected_of symbol_at
returns c =
    let s = c.args.s in
    let w = c.requires.0 in
    let p = c.phase_at-phi in
    let g = c.gain_at-gain in
    let ed = to_z-of_z (sfits_abs w64 s.delta (omega (arith, w.delta))) in
    let eg = to_z-of_z (sfits_abs w64 s.gain (omega (arith, w.gain))) in
    let em = to_z-of_z (sfits_abs w64 s.gamma (omega (arith, w.gamma))) in
    let st = c.args.store.now in
    let j = c.args.j in
    let i : mag (get_or st (2 * j) (pos 0)) < 2 ^ 15 = search in
    let q : mag (get_or st (2 * j + 1) (pos 0)) < 2 ^ 15 = search in
    rw (
      c.scaled.ensures,
      back w16 (get_or st (2 * j) (pos 0)) i,
      back w16 (get_or st (2 * j + 1) (pos 0)) q,
      to_z-of_z {w = w64} (record { sfits = g.type_inv }),
      rw (eg, em) at g.ensures.0,
      rw ed at p.ensures,
    )
