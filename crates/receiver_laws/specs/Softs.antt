-- What the soft bits of a call say of its aligned symbols.
use Rattle.std.specs.Prelude.{ℕ, ◌+◌, ◌-◌, ◌^◌, ◌≤◌, ◌<◌, List, ◌∷◌, ◌++◌, ◌≡◌, ℤ, pos, nat_abs, get_or, length, ◌<ℤ◌, Ok}
use Rattle.demap.specs.Demap.{Nearest, bit_of}
use Rattle.frame_map.specs.declared.SlotPart.TheVariants.{Main}
use Rattle.frame_map.specs.Map.{part_of}
use Rattle.frame.specs.declared.AlignedSymbol.{AlignedSymbol}
use Rattle.frame.specs.declared.Back.{Back}
use Rattle.phase.specs.declared.WholeSlot.{WholeSlot}
use Rattle.receiver_slot.specs.declared.Points.{Points}
use Rattle.receiver_slot.specs.Slot.{aligned_all, corrected_all, points_for, soft_all}
use Rattle.receiver_slot.specs.Aligned.{Between}

-- ---- one soft bit: value v of the bit at place j, most significant first, of a symbol demapped with 2^bits points
pub record BitTrue (bits : ℕ) (points : List ℤ) (yi yq : ℤ) (j : ℕ) (v : ℤ) : Type 0 where
  -- "Each soft bit is within ±127"
  pub within : nat_abs v ≤ 127
  -- "a positive one means that every nearest point has that bit 0, a negative one that every nearest has 1"
  pub positive : pos 0 <ℤ v → (l : ℕ) → Nearest yi yq points (2 ^ bits) l → bit_of (bits - 1 - j) l ≡ 0
  pub negative : v <ℤ pos 0 → (l : ℕ) → Nearest yi yq points (2 ^ bits) l → bit_of (bits - 1 - j) l ≡ 1

-- value i of a call's soft values is that of the bit at this place, most significant first, of this main symbol among the aligned ones: it stands behind the
-- values of all symbols before
pub record ValueOf (p : Points) (given : List AlignedSymbol) (a : AlignedSymbol) (place i : ℕ) : Type 0 where
  pub before : List AlignedSymbol
  pub after : List AlignedSymbol
  pub in_turn : given ≡ before ++ (a ∷ after)
  pub main : ℕ
  pub is_main : part_of a.meta.j ≡ Ok (Main main)
  pub below : place < (points_for p a.meta).bits
  pub index : i ≡ length (soft_all p before) + place

-- value i is one of a main symbol's, and true of the very bit that it is the value of
pub record SoftTrue (p : Points) (given : List AlignedSymbol) (i : ℕ) : Type 0 where
  pub of : AlignedSymbol
  pub place : ℕ
  pub value_of : ValueOf p given of place i
  pub true_of : (a : AlignedSymbol) (j : ℕ) → ValueOf p given a j i →
      BitTrue (points_for p a.meta).bits (points_for p a.meta).points a.z.i a.z.q j (get_or (soft_all p given) i (pos 0))

-- ---- the soft values of a slot fit the buffer of 44,880
abbrev pub FitClaim : Type 0
FitClaim =
    (p : Points) (b : Back) (w : WholeSlot) (table store f s : List ℤ) → p.bits ≤ 5 → Between b.metas →
    length (soft_all p (aligned_all b (corrected_all 9296 w table store) f s)) ≤ 44880
