-- A part as 24 numbers: 0, its numbers, and zeros behind them. A negative number is 2^64 more.
use Rattle.std.specs.Prelude.{ℕ, zero, suc, List, [], ◌∷◌, ◌++◌, get_or, replicate}
use Rattle.digest.specs.Digest.{digest_of}
use Rattle.fields.specs.Fields.{at, four_told}
use Rattle.slot_wire.specs.Slots.{word_number, slot_shown}
use Rattle.phase_wire.specs.Told.{nco_told, phase_told}
use Rattle.sync_wire.specs.Told.{run_told, heads_told}
use Rattle.frame_line.specs.declared.Meta.{Meta}
use Rattle.frame_line.specs.declared.Metas.{Metas}
use Rattle.frame_wire.specs.Line.{last_shown}
use Rattle.receiver.specs.declared.Receiver.{Receiver}

unfoldable pub window_told : Receiver → List ℕ
window_told r = four_told 0 (digest_of r.front.sync.win) 0 0

-- one of the five that wait
unfoldable pub meta_at_of : Metas → ℕ → Meta
meta_at_of w zero = w.first
meta_at_of w (suc zero) = w.second
meta_at_of w (suc (suc zero)) = w.third
meta_at_of w (suc (suc (suc zero))) = w.fourth
meta_at_of w (suc (suc (suc (suc k)))) = w.fifth

-- how many wait, the last position, and the one that is asked for
unfoldable pub waiting_told : Receiver → ℕ → List ℕ
waiting_told r k =
    let x = last_shown r.back.last in
    let m = meta_at_of r.back.metas k in
    let y = slot_shown m.slot in
    (0 ∷ r.back.metas.count ∷ x.known ∷ x.at ∷ 0 ∷ m.at ∷ word_number m.word ∷ y.known ∷ y.number ∷ y.frame ∷ m.j ∷ []) ++ replicate 13 0

unfoldable pub points_told : Receiver → List ℕ
points_told r = four_told 0 r.points.bits r.points.k (digest_of r.points.points)

-- in the order of the parts; 255 where there is no such part
abbrev pub parts : List ℕ → Receiver → List (List ℕ)
parts p r =
    nco_told 0 r.front.nco 0 0
    ∷ phase_told 0 r.front.phase
    ∷ run_told r.front.sync.run
    ∷ heads_told r.front.sync.run
    ∷ window_told r
    ∷ waiting_told r (at p 4)
    ∷ points_told r
    ∷ []

unfoldable pub part_told : ℕ → List ℕ → Receiver → List ℕ
part_told k p r = get_or (parts p r) k (four_told 255 0 0 0)
