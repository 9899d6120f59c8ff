-- Laws of the definitions of demap_replay that its proofs cite. Assumes nothing.
use mathlib.Core.List.{List, ◌++◌}
use mathlib.Core.Path.{◌≡◌, sym}
use Prim.Native.Nat.{ℕ, ◌≤◌}
use native.Mathlib.Omega.{arith}
use lib.ListN.{length, get_or-eq_default, replicate}
use Rattle.laws.proofs.Lists.{length-firsts}
use Rattle.wire.specs.Wire.{byte_at, packed_of, numbers_of}
use Rattle.fields.specs.Fields.{at}
use Rattle.demap_replay.specs.Kept.{turned}
use Rattle.demap_replay.specs.Told.{single_told}
use Rattle.demap_replay.specs.Replay.{Desk, reads, writes, learneds, nominals, read_of, turn_of, learned_of, nominal_of, answer_bytes}

-- a call that there is not
pub read_none : (op : ℕ) (p : List ℕ) (d : Desk) → 20 ≤ op → single_told 255 0 0 ≡ read_of op p d
unfolding read_of
read_none op p d h = sym (get_or-eq_default (replicate 12 (single_told 255 0 0) ++ reads p d) (single_told 255 0 0) h)

-- a call that writes nothing
pub slices_none : (op : ℕ) (p : List ℕ) (d : Desk) → 12 ≤ op → (turned d.kept (read_of op p d) ≡ turn_of op p d) × (d.learned ≡ learned_of op p d) × (d.nominal ≡ nominal_of op p d)
unfolding turn_of learned_of nominal_of
slices_none op p d h =
    let g : 11 ≤ op = omega arith in (
      sym (get_or-eq_default (writes p d) (turned d.kept (read_of op p d)) h),
      sym (get_or-eq_default (learneds p d) d.learned g),
      sym (get_or-eq_default (nominals p d) d.nominal h),
    )

-- ---- an answer has 192 bytes, as a call has
pub length_answer : (d : Desk) (s : List ℕ) → length (answer_bytes d s) ≡ 192
unfolding answer_bytes packed_of
length_answer d s = let p = numbers_of s in length-firsts (byte_at (turn_of (at p 0) p d).told) 192
