-- Laws of the definitions of phase_replay that its proofs cite. Assumes nothing.
use mathlib.Core.List.{List}
use mathlib.Core.Path.{◌≡◌, sym}
use Prim.Native.Nat.{ℕ, ◌≤◌}
use native.Mathlib.Omega.{arith}
use lib.IntN.{ℤ}
use lib.ListN.{length, get_or-eq_default}
use Rattle.laws.proofs.Lists.{length-firsts}
use Rattle.wire.specs.Wire.{byte_at, packed_of, numbers_of}
use Rattle.fields.specs.Fields.{at, four_told}
use Rattle.phase_replay.specs.Replay.{Lent, Reads, answers, answer_of, answer_bytes}

-- ---- a call that there is not
pub answer_none : (op : ℕ) (p : List ℕ) (table store : List ℤ) → Reads op → 13 ≤ op → four_told 255 0 0 0 ≡ answer_of op p table store
unfolding answer_of
answer_none op p table store r h =
    let a = r.0 in
    let b = r.1 in
    let d = r.2 in
    let far : 16 ≤ op = omega arith in
    sym (get_or-eq_default (answers p table store) (four_told 255 0 0 0) far)

-- ---- an answer has 192 bytes, as a call has
pub length_answer : (d : Lent) (s : List ℕ) → length (answer_bytes d s) ≡ 192
unfolding answer_bytes packed_of
length_answer d s = let p = numbers_of s in length-firsts (byte_at (answer_of (at p 0) p d.table d.store)) 192
