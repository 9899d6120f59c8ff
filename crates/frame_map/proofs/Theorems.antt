-- What the slot map is. Each statement stands above its proof. Assumes nothing.
use Rattle.std.specs.Prelude.{Ok}
use mathlib.Core.List.{List, [], ◌∷◌}
use mathlib.Core.Path.{◌≡◌, refl, ap, ◌∙◌}
use Prim.Native.Nat.{ℕ, zero, suc, ◌+◌, ◌-◌, ◌*◌, ◌/◌, ◌%◌, ◌≤◌, ◌<◌}
use native.Mathlib.Nat.{not-suc-le-zero, le_of_suc-le-suc}
use native.Mathlib.Omega.{arith}
use borrow.Author.Tests.{ltb-true, ltb-false}
use lib.Dec.{ltb}
use lib.ListN.{length}
use Rattle.laws.proofs.Tests.{by_test}
use Rattle.frame_map.proofs.Laws.{main_run, tmcc_run, part_behind}
use Rattle.frame_map.specs.Map.{Field, fields, runs, part_of, start_of, places_of, LiesIn}
use Rattle.frame_map.specs.declared.SlotPart.TheVariants.{Main, Tmcc}

-- ---- THE SLOT HAS 134 FIELDS AND 9,296 PLACES
pub fields_theorem : (length fields ≡ 134) × (places_of fields ≡ 9296)
unfolding fields runs places_of
fields_theorem = (refl, refl)

-- ---- EVERY PLACE LIES IN EXACTLY ONE FIELD, of any list of fields
pub record OneField (fs : List Field) (j : ℕ) : Type 0 where
  pub index : ℕ
  pub lies : LiesIn fs j index
  pub only : (i : ℕ) → LiesIn fs j i → i ≡ index

first_start : (fs : List Field) → start_of fs 0 ≡ 0
unfolding start_of
first_start fs = refl

pub one_field : (fs : List Field) (j : ℕ) → j < places_of fs → OneField fs j
unfolding start_of places_of
one_field [] j h = absurd (not-suc-le-zero h)
one_field (f ∷ fs) j h =
    by_test (ltb j f.size)
    (λ t.
    let l = ltb-true j f.size t in
    record {
      index = 0;
      lies = record { field = omega arith; from = omega arith; below = omega (arith, l, first_start fs) };
      only = first-only l;
    })
    (λ t.
    let l = ltb-false j f.size t in
    let r = one_field fs (j - f.size) (omega (arith, h, l)) in
    record {
      index = suc r.index;
      lies = record { field = omega (arith, r.lies.field); from = omega (arith, r.lies.from, l); below = omega (arith, r.lies.below, l) };
      only = later-only l r.only;
    })
  where
    first-only : j < f.size → (i : ℕ) → LiesIn (f ∷ fs) j i → i ≡ 0
    first-only l zero k = refl
    first-only l (suc i) k = absurd (omega (arith, l, k.from))

    later-only : {m : ℕ} → f.size ≤ j → ((i : ℕ) → LiesIn fs (j - f.size) i → i ≡ m) → (i : ℕ) → LiesIn (f ∷ fs) j i → i ≡ suc m
    later-only l o zero k = absurd (omega (arith, l, k.below, first_start fs))
    later-only l o (suc i) k = ap suc (o i (record { field = le_of_suc-le-suc k.field; from = omega (arith, k.from, l); below = omega (arith, k.below, l) }))

pub slot_theorem : (j : ℕ) → j < 9296 → OneField fields j
slot_theorem j h = one_field fields j (omega (arith, h, fields_theorem.1))

-- ---- MAIN INDICES RUN 0..8,975 AND TMCC INDICES 0..263, in the order of the places: index m has this place, and a later place has a later index
pub main_theorem : (m : ℕ) → m < 8976 → part_of (56 + (m / 136 * 140 + m % 136)) ≡ Ok (Main m)
main_theorem m h =
    let x = m / 136 * 140 + m % 136 in
    let d : x / 140 ≡ m / 136 = omega (arith, h) in
    let r : x % 140 ≡ m % 136 = omega (arith, h) in
    part_behind (56 + x) (omega arith) ∙ rw (back x) (main_run x (omega (arith, h)) (omega (arith, r)) ∙ ap (λ (k : ℕ). Ok (Main k)) (omega (arith, d, r)))
  where
    back : (x : ℕ) → 56 + x - 56 ≡ x
    back x = omega arith

pub tmcc_theorem : (t : ℕ) → t < 264 → part_of (56 + (t / 4 * 140 + 136 + t % 4)) ≡ Ok (Tmcc t)
tmcc_theorem t h =
    let x = t / 4 * 140 + 136 + t % 4 in
    let d : x / 140 ≡ t / 4 = omega (arith, h) in
    let r : x % 140 ≡ 136 + t % 4 = omega (arith, h) in
    part_behind (56 + x) (omega arith) ∙ rw (back x) (tmcc_run x (omega (arith, h)) (omega (arith, r)) ∙ ap (λ (k : ℕ). Ok (Tmcc k)) (omega (arith, d, r)))
  where
    back : (x : ℕ) → 56 + x - 56 ≡ x
    back x = omega arith

pub main_order : (m n : ℕ) → m < n → 56 + (m / 136 * 140 + m % 136) < 56 + (n / 136 * 140 + n % 136)
main_order m n h = omega (arith, h)

pub tmcc_order : (t u : ℕ) → t < u → 56 + (t / 4 * 140 + 136 + t % 4) < 56 + (u / 4 * 140 + 136 + u % 4)
tmcc_order t u h = omega (arith, h)
