-- `lines::put::text` meets its contract. Assumes nothing.
use mathlib.Core.Path.{◌≡◌, refl}
use Prim.Native.Nat.{◌+◌, ◌-◌}
use native.Mathlib.Omega.{arith}
use lib.ListN.{length}
use Rattle.std.proofs.lemmas.Slice.{put_mid-paste}
use Rattle.lines.proofs.Laws.{copied}
use Rattle.lines.proofs.put.text.Goals as goal

pub returns : goal.returns
returns c =
    let a = c.args in
    let k = a.at + length a.t.now - a.at in
    copied a.out.now a.at a.t.now _ _ c.requires
    (put_mid-paste a.at k a.out.now c.copy_from_slice.new.self a.t.now (length a.t.now) c.copy_from_slice.ensures.after (omega arith) refl) refl
