-- Laws of the definitions of in_force: what is known where nothing refuses, and that an empty part was refused. Assumes nothing.
use Rattle.std.specs.Prelude.{Ok, Err}
use mathlib.Core.Bool.{Bool, true, false, not, ◌&&◌, ◌||◌}
use mathlib.Core.List.{List}
use mathlib.Core.Path.{◌≡◌, refl}
use Prim.Native.Nat.{ℕ, ◌+◌, ◌-◌, ◌*◌, ◌^◌, ◌≤◌}
use native.Mathlib.Numerals.{add-one}
use native.Mathlib.Omega.{arith}
use borrow.Author.Tests.{eqb-true, ne_eqb}
use lib.Dec.{eqb}
use lib.IntN.{ℤ, pos, nat_abs}
use lib.ListN.{length, get_or, take, drop}
use lib.Signed.{le_z}
use Rattle.demap.proofs.Blocks.{part_long}
use Rattle.laws.proofs.Taken.{ok_yes, ok_no}
use Rattle.laws.proofs.Tests.{and_both, by_test, if_both, neither}
use Rattle.laws.specs.Choice.{when◌then◌else◌, if_yes, if_no, minus}
use Rattle.refusal.specs.declared.Refusal.TheVariants.{Points, Arithmetic}
use Rattle.learn.proofs.Laws.{between, not_false, good-bits, labels_few, learn_ok}
use Rattle.learn.specs.Learning.{learned_slice}
use Rattle.learn.specs.Ranges.{learn_in_range, LearnOk}
use Rattle.learn.specs.Sets.{Bits, bad_bits, set_of}
use Rattle.learn.specs.declared.Learn.{Learn}
use Rattle.in_force.specs.Answers.{next_refusal, sets_refusal, points_in_force, part_in_force, empty_refusal}
use Rattle.in_force.specs.InForce.{slices_learned, force_in_range}
use Rattle.in_force.specs.declared.InForce.{InForce}

-- ---- the slice set by set
pub slices_none : (l : Learn) (learned : List ℤ) → learned ≡ slices_learned l 0 learned
unfolding slices_learned
slices_none l learned = refl

pub slices_step : (l : Learn) (n : ℕ) (learned : List ℤ) → learned_slice l (n + 1) (slices_learned l n learned) ≡ slices_learned l (n + 1) learned
unfolding slices_learned
slices_step l n learned = rw (add-one n)

-- ---- the part that is chosen, of n labels
pub chosen : (learned nominal : List ℤ) (flags : List Bool) (bits n : ℕ) (xs : List ℤ) → n ≡ 2 ^ bits →
    sets_refusal (length learned) (length nominal) bits ≡ Ok tt → (when get_or flags (bits - 1) false then learned else nominal) ≡ xs →
    Ok (take (2 * n) (drop (2 * (n - 2)) xs)) ≡ points_in_force learned nominal flags bits
unfolding points_in_force set_of
chosen learned nominal flags bits n xs k z e = rw (z, k, ← e)

-- ---- no refusal: what is then known
pub noise_small : (f : InForce) → force_in_range f ≡ true → nat_abs f.n0 ≤ 2 ^ 34
unfolding force_in_range
noise_small f e =
    let a = le_z (minus (2 ^ 33)) f.n0 && le_z f.n0 (pos (2 ^ 33 + 2 ^ 31)) in
    let b = a && le_z (pos 0) f.k in
    let p = and_both b (le_z f.k (pos (2 ^ 24))) e in
    let q = and_both a (le_z (pos 0) f.k) p.0 in
    let r = and_both (le_z (minus (2 ^ 33)) f.n0) (le_z f.n0 (pos (2 ^ 33 + 2 ^ 31))) q.0 in
    between f.n0 (2 ^ 33 - 1) (2 ^ 33 + 2 ^ 31) (2 ^ 34) r.0 r.1 (omega arith) (omega arith)

pub record NextTaken (f : InForce) (l : Learn) (len : ℕ) : Type 0 where
  pub long : len ≡ 124
  pub noise : nat_abs f.n0 ≤ 2 ^ 34
  pub learn : LearnOk l

pub next_taken : (f : InForce) (l : Learn) (len : ℕ) → next_refusal f l len ≡ Ok tt → NextTaken f l len
unfolding next_refusal
next_taken f l len e =
    let p = ok_yes (eqb len 124) _ Points e in
    let q = ok_yes (force_in_range f) _ Arithmetic p.1 in
    record {
      long = eqb-true len 124 p.0;
      noise = noise_small f q.0;
      learn = learn_ok l (ok_yes (learn_in_range l) _ Arithmetic q.1).0;
    }

pub record SetsTaken (learned nominal bits : ℕ) : Type 0 where
  pub learned_long : learned ≡ 124
  pub nominal_long : nominal ≡ 124
  pub bits_ok : Bits bits

pub sets_taken : (learned nominal bits : ℕ) → sets_refusal learned nominal bits ≡ Ok tt → SetsTaken learned nominal bits
unfolding sets_refusal
sets_taken learned nominal bits e =
    let a = not (eqb learned 124) in
    let b = not (eqb nominal 124) in
    let p = neither a (b || bad_bits bits) (ok_no (a || (b || bad_bits bits)) Points _ e).0 in
    let q = neither b (bad_bits bits) p.1 in
    record {
      learned_long = eqb-true learned 124 (not_false (eqb learned 124) p.0);
      nominal_long = eqb-true nominal 124 (not_false (eqb nominal 124) q.0);
      bits_ok = good-bits bits q.1;
    }

-- ---- an empty part was refused, since a set has at least four numbers
part_some : (bits : ℕ) (xs : List ℤ) → Bits bits → length xs ≡ 124 → 1 ≤ length (set_of bits xs)
unfolding set_of
part_some bits xs b h =
    let m = labels_few bits b in
    let e = part_long (2 * (2 ^ bits - 2)) (2 * 2 ^ bits) xs (omega (arith, m, h)) in
    omega (arith, e, m)

sets_either : {X : Type 0} (m n bits : ℕ) → (sets_refusal m n bits ≡ Ok tt → X) → (sets_refusal m n bits ≡ Err Points → X) → X
unfolding sets_refusal
sets_either m n bits ok err =
    let w = not (eqb m 124) || (not (eqb n 124) || bad_bits bits) in
    by_test w (λ y. err (if_yes w (Err Points) (Ok tt) y)) (λ y. ok (if_no w (Err Points) (Ok tt) y))

pub refused_empty : (learned nominal : List ℤ) (flags : List Bool) (bits : ℕ) →
    empty_refusal (part_in_force learned nominal flags bits) ≡ sets_refusal (length learned) (length nominal) bits
unfolding part_in_force points_in_force empty_refusal
refused_empty learned nominal flags bits =
    let part : List ℤ = set_of bits (when get_or flags (bits - 1) false then learned else nominal) in
    sets_either (length learned) (length nominal) bits
    (λ z.
    let k = sets_taken (length learned) (length nominal) bits z in
    let l : 1 ≤ length part = if_both (λ (xs : List ℤ). 1 ≤ length (set_of bits xs)) (get_or flags (bits - 1) false) learned nominal (part_some bits learned k.bits_ok k.learned_long) (part_some bits nominal k.bits_ok k.nominal_long) in
    rw z (if_no (eqb (length part) 0) (Err Points) (Ok tt) (ne_eqb (length part) 0 (λ e. omega (arith, e, l)))))
    (λ z. rw z (if_yes (eqb 0 0) (Err Points) (Ok tt) refl))
