-- "Slot map: 24 sync, 32 pilot, then 66 times 136 main and 4 TMCC."
use Rattle.std.specs.Prelude.{ℕ, zero, suc, ◌+◌, ◌-◌, ◌≤◌, ◌<◌, length, List, [], ◌∷◌, ltb, Result, Ok, Err}
use Rattle.laws.specs.Choice.{when◌then◌else◌}
use Rattle.refusal.specs.declared.Refusal.{Refusal}
use Rattle.refusal.specs.declared.Refusal.TheVariants.{Arithmetic}
use Rattle.frame_map.specs.declared.SlotPart.{SlotPart}
use Rattle.frame_map.specs.declared.SlotPart.TheVariants.{Sync, Pilot, Main, Tmcc}

-- the kinds of symbols
pub data Kind : Type 0 where
  sync : Kind
  pilot : Kind
  main : Kind
  tmcc : Kind

-- a field of the slot: so many symbols of one kind
pub record Field : Type 0 where
  pub kind : Kind
  pub size : ℕ

infix 20 ◌of◌
abbrev pub ◌of◌ : ℕ → Kind → Field
n of k = record { kind = k; size = n }

-- n times 136 main and 4 TMCC
unfoldable pub runs : ℕ → List Field
runs zero = []
runs (suc n) = (136 of main) ∷ (4 of tmcc) ∷ runs n

-- the 134 fields in turn
unfoldable pub fields : List Field
fields = (24 of sync) ∷ (32 of pilot) ∷ runs 66

-- how many symbols of each kind came before
pub record Seen : Type 0 where
  pub syncs : ℕ
  pub pilots : ℕ
  pub mains : ℕ
  pub tmccs : ℕ

unfoldable pub none_seen : Seen
none_seen = record { syncs = 0; pilots = 0; mains = 0; tmccs = 0 }

-- .. and the symbols of one more field
unfoldable pub also_seen : Seen → Field → Seen
also_seen s f =
    elim f.kind [
      | sync ↦ record { syncs = s.syncs + f.size; pilots = s.pilots; mains = s.mains; tmccs = s.tmccs }
      | pilot ↦ record { syncs = s.syncs; pilots = s.pilots + f.size; mains = s.mains; tmccs = s.tmccs }
      | main ↦ record { syncs = s.syncs; pilots = s.pilots; mains = s.mains + f.size; tmccs = s.tmccs }
      | tmcc ↦ record { syncs = s.syncs; pilots = s.pilots; mains = s.mains; tmccs = s.tmccs + f.size }
    ]

-- symbol j of a field of this kind, after those
unfoldable pub indexed : Kind → Seen → ℕ → SlotPart
indexed sync s j = Sync (s.syncs + j)
indexed pilot s j = Pilot (s.pilots + j)
indexed main s j = Main (s.mains + j)
indexed tmcc s j = Tmcc (s.tmccs + j)

-- place j of the fields, each in turn; "slot index over 9,295" gives 6
unfoldable pub part_in : List Field → Seen → ℕ → Result SlotPart Refusal
part_in [] s j = Err Arithmetic
part_in (f ∷ fs) s j = let rest = part_in fs (also_seen s f) (j - f.size) in when ltb j f.size then Ok (indexed f.kind s j) else rest

unfoldable pub part_of : ℕ → Result SlotPart Refusal
part_of j = part_in fields none_seen j

-- behind sync and pilots
unfoldable pub start_seen : Seen
start_seen = also_seen (also_seen none_seen (24 of sync)) (32 of pilot)

-- ---- where the fields stand
-- the first place of field i, and the places of all
unfoldable pub start_of : List Field → ℕ → ℕ
start_of fs zero = 0
start_of [] (suc i) = 0
start_of (f ∷ fs) (suc i) = f.size + start_of fs i

unfoldable pub places_of : List Field → ℕ
places_of [] = 0
places_of (f ∷ fs) = f.size + places_of fs

-- place j lies in field i
pub record LiesIn (fs : List Field) (j i : ℕ) : Type 0 where
  pub field : i < length fs
  pub from : start_of fs i ≤ j
  pub below : j < start_of fs (suc i)
