-- What the soft bits of a call say: specs/Softs. Each statement stands above its proof. Assumes nothing.
use Prim.Native.Nat.{ℕ, ◌-◌, ◌≤◌, ◌<◌, zero-le}
use Rattle.demap.proofs.Theorems.{Tells, bits_theorem, demap_theorem}
use Rattle.demap.specs.Answers.{demap_buffer, demap_refusal}
use Rattle.demap.specs.Demap.{label_metric, soft_at, soft_bits}
use Rattle.frame.specs.declared.AlignedSymbol.{AlignedSymbol}
use Rattle.refusal.specs.declared.Refusal.{Refusal}
use Rattle.std.specs.Prelude.{Result, Ok, Err}
use Rattle.frame_map.specs.declared.SlotPart.{SlotPart}
use Rattle.frame_map.specs.declared.SlotPart.TheVariants.{Sync, Pilot, Main, Tmcc}
use Rattle.frame_map.specs.Map.{part_of}
use Rattle.laws.proofs.Linear.{le_ud}
use Rattle.laws.proofs.Lists.{getD-firsts, length-firsts}
use Rattle.laws.proofs.Tests.{by_test}
use Rattle.receiver_slot.specs.declared.Points.{Points}
use Rattle.receiver_slot.specs.Slot.{points_for, soft_all, soft_of}
use Rattle.receiver_slot.proofs.Softs as slot
use Rattle.receiver_slot.proofs.Steps.{soft_append}
use Rattle.receiver_laws.specs.Softs.{BitTrue, FitClaim, SoftTrue, ValueOf}
use borrow.Author.Tests.{ltb-false, ltb-true}
use lib.Dec.{ltb}
use lib.IntN.{ℤ, pos}
use lib.ListN.{get_or, length, length-append}
use lib.Seq.{get_or-append-add}
use mathlib.Core.List.{List, [], ◌∷◌, ◌++◌}
use mathlib.Core.Path.{◌∙◌, ◌≡◌, ap, refl, subst, sym}
use native.Mathlib.Nat.{not-suc-le-zero}
use native.Mathlib.Omega.{arith}

-- what the demapper's theorems tell is what is claimed
told : {yi yq : ℤ} {points : List ℤ} {bits j : ℕ} {v : ℤ} → Tells yi yq points bits j v → BitTrue bits points yi yq j v
told t = record { within = t.within; positive = t.zero_bit; negative = t.one_bit }

-- ---- OF A SINGLE DEMAP each value is true
pub bit_true : (yi yq : ℤ) (points : List ℤ) (bits : ℕ) (k : ℤ) (out : List ℤ) → demap_refusal bits (length points) k (length out) ≡ Ok tt →
    (j : ℕ) → j < bits → BitTrue bits points yi yq j (get_or (demap_buffer yi yq points bits k out) j (pos 0))
bit_true yi yq points bits k out e j h = told (demap_theorem yi yq points bits k out e j h)

-- ---- OF A CALL each soft value is that of a bit of a main symbol
-- a value behind those of the first symbol
further : (p : Points) (a b : AlignedSymbol) (rest : List AlignedSymbol) (place i : ℕ) (vs : List ℤ) → ((l : List AlignedSymbol) → soft_all p (a ∷ l) ≡ vs ++ soft_all p l)
    → length vs ≤ i → ValueOf p rest b place (i - length vs) → ValueOf p (a ∷ rest) b place i
further p a b rest place i vs e h t =
    record {
      before = a ∷ t.before;
      after = t.after;
      in_turn = ap (λ (l : List AlignedSymbol). a ∷ l) t.in_turn;
      main = t.main;
      is_main = t.is_main;
      below = t.below;
      index = omega (arith, h, t.index, ap (λ (l : List ℤ). length l) (e t.before), length-append vs (soft_all p t.before));
    }

-- only a main symbol has values
own : (p : Points) (a : AlignedSymbol) (rest : List AlignedSymbol) (i : ℕ) (part : Result SlotPart Refusal) → part_of a.meta.j ≡ part
    → i < length (soft_of part (points_for p a.meta) a.z) → ValueOf p (a ∷ rest) a i i
unfolding soft_of soft_bits soft_all
own p a rest i (Ok (Sync k)) e h = absurd (not-suc-le-zero h)
own p a rest i (Ok (Pilot k)) e h = absurd (not-suc-le-zero h)
own p a rest i (Ok (Main m)) e h =
    let q = points_for p a.meta in
    record {
      before = [];
      after = rest;
      in_turn = refl;
      main = m;
      is_main = e;
      below = omega (arith, h, length-firsts (soft_at (label_metric a.z.i a.z.q q.points) q.bits (pos q.k)) q.bits);
      index = omega arith;
    }
own p a rest i (Ok (Tmcc k)) e h = absurd (not-suc-le-zero h)
own p a rest i (Err n) e h = absurd (not-suc-le-zero h)

record Valued (p : Points) (given : List AlignedSymbol) (i : ℕ) : Type 0 where
  of : AlignedSymbol
  place : ℕ
  value_of : ValueOf p given of place i

valued : (p : Points) (given : List AlignedSymbol) (i : ℕ) → i < length (soft_all p given) → Valued p given i
unfolding soft_all
valued p [] i h = absurd (not-suc-le-zero h)
valued p (a ∷ rest) i h =
    let vs = soft_of (part_of a.meta.j) (points_for p a.meta) a.z in
    by_test (ltb i (length vs))
    (λ t. record { of = a; place = i; value_of = own p a rest i (part_of a.meta.j) refl (ltb-true i (length vs) t) })
    (λ t.
    let l = ltb-false i (length vs) t in
    let v = valued p rest (i - length vs) (omega (arith, h, l, length-append vs (soft_all p rest))) in
    record { of = v.of; place = v.place; value_of = further p a v.of rest v.place i vs (λ l. refl) l v.value_of })

-- ---- and it is true of the bit that it is the value of
-- a value of the first symbol, which is a main one
first : (p : Points) (a : AlignedSymbol) (rest : List AlignedSymbol) (j m : ℕ) → part_of a.meta.j ≡ Ok (Main m) → j < (points_for p a.meta).bits →
    BitTrue (points_for p a.meta).bits (points_for p a.meta).points a.z.i a.z.q j (get_or (soft_all p (a ∷ rest)) j (pos 0))
unfolding soft_all soft_of soft_bits
first p a rest j m e h =
    let q = points_for p a.meta in
    let f = label_metric a.z.i a.z.q q.points in
    rw (e, getD-firsts (soft_at f q.bits (pos q.k)) (pos 0) q.bits (soft_all p rest) j h)
    (told (bits_theorem a.z.i a.z.q q.points q.bits (pos q.k) (le_ud (pos 0) (pos q.k) zero-le) j h))

value_is : (p : Points) (given : List AlignedSymbol) (a : AlignedSymbol) (j i : ℕ) (t : ValueOf p given a j i) →
    get_or (soft_all p given) i (pos 0) ≡ get_or (soft_all p (a ∷ t.after)) j (pos 0)
value_is p given a j i t =
    ap (λ (l : List AlignedSymbol). get_or (soft_all p l) i (pos 0)) t.in_turn
    ∙ ap (λ (l : List ℤ). get_or l i (pos 0)) (soft_append p t.before (a ∷ t.after))
    ∙ ap (λ (n : ℕ). get_or (soft_all p t.before ++ soft_all p (a ∷ t.after)) n (pos 0)) t.index
    ∙ get_or-append-add (soft_all p t.before) (soft_all p (a ∷ t.after)) j (pos 0)

true_of : (p : Points) (given : List AlignedSymbol) (i : ℕ) (a : AlignedSymbol) (j : ℕ) → ValueOf p given a j i →
    BitTrue (points_for p a.meta).bits (points_for p a.meta).points a.z.i a.z.q j (get_or (soft_all p given) i (pos 0))
true_of p given i a j t =
    subst (λ (v : ℤ). BitTrue (points_for p a.meta).bits (points_for p a.meta).points a.z.i a.z.q j v) (sym (value_is p given a j i t))
    (first p a t.after j t.main t.is_main t.below)

pub softs_true : (p : Points) (given : List AlignedSymbol) (i : ℕ) → i < length (soft_all p given) → SoftTrue p given i
softs_true p given i h =
    let v = valued p given i h in
    record { of = v.of; place = v.place; value_of = v.value_of; true_of = true_of p given i }

-- ---- THE SOFT VALUES OF A SLOT fit the buffer: it has 8,976 main symbols, and of the five that wait the oldest is one
pub softs_fit : FitClaim
softs_fit = slot.softs_fit
