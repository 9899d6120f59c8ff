-- The soft values of a slot fit a buffer of 44,880. Assumes nothing.
use Prim.Native.Nat.{ℕ, zero, suc, ◌+◌, ◌-◌, ◌*◌, ◌/◌, ◌%◌, ◌≤◌, ◌<◌, min}
use Rattle.angles.specs.declared.Symbol.{Symbol}
use Rattle.demap.specs.Demap.{label_metric, soft_at, soft_bits}
use Rattle.frame.specs.Align.{joined_to, restarted_back, started_back}
use Rattle.frame.specs.declared.AlignedSymbol.{AlignedSymbol}
use Rattle.frame.specs.declared.Back.{Back}
use Rattle.frame_line.specs.declared.Meta.{Meta}
use Rattle.frame_line.specs.declared.Metas.{Metas}
use Rattle.frame_line.specs.Line.{gap_at, meta_of, no_metas}
use Rattle.frame_line.specs.Waiting.{waiting_of}
use Rattle.refusal.specs.declared.Refusal.{Refusal}
use Rattle.std.specs.Prelude.{Result, Ok, Err}
use Rattle.frame_map.proofs.Laws.{main_run, part_behind, part_pilot, part_sync, tmcc_run}
use Rattle.frame_map.specs.declared.SlotPart.{SlotPart}
use Rattle.frame_map.specs.declared.SlotPart.TheVariants.{Sync, Pilot, Main, Tmcc}
use Rattle.frame_map.specs.Map.{part_of}
use Rattle.laws.proofs.Lists.{length-firsts}
use Rattle.laws.proofs.Tests.{by_test, if_both}
use Rattle.laws.specs.Ranges.{firsts}
use Rattle.phase.specs.declared.WholeSlot.{WholeSlot}
use Rattle.phase.specs.Phase.{corrected_of}
use Rattle.receiver_slot.specs.declared.Points.{Points}
use Rattle.receiver_slot.specs.Slot.{aligned_all, corrected_all, points_for, soft_all, soft_of}
use borrow.Author.Tests.{ltb-false, ltb-true}
use lib.Dec.{lit≤, ltb}
use lib.IntN.{ℤ, pos}
use lib.ListN.{length, length-append}
use mathlib.Core.List.{List, [], ◌∷◌, ◌++◌}
use mathlib.Core.Path.{◌≡◌, ap, refl}
use native.Mathlib.Omega.{arith}
use Rattle.receiver_slot.specs.Steps.{soft_to}
use Rattle.receiver_slot.specs.Aligned.{Between, comes_out, metas_in}
use Rattle.receiver_slot.specs.Aligned.Between.{five, none}
use Rattle.receiver_slot.proofs.Aligned.{aligned_are}

-- ---- THE SOFT VALUES OF A SLOT fit the buffer: it has 8,976 main symbols, and of the five that wait the oldest is one
one_main : Result SlotPart Refusal → ℕ
one_main (Ok (Sync k)) = 0
one_main (Ok (Pilot k)) = 0
one_main (Ok (Main k)) = 1
one_main (Ok (Tmcc k)) = 0
one_main (Err n) = 0

mains_in : List Meta → ℕ
mains_in [] = 0
mains_in (m ∷ ms) = one_main (part_of m.j) + mains_in ms

mains_append : (xs ys : List Meta) → mains_in (xs ++ ys) ≡ mains_in xs + mains_in ys
unfolding mains_in
mains_append [] ys = omega arith
mains_append (x ∷ xs) ys = omega (arith, mains_append xs ys)

-- main symbols before place n
mains_to : ℕ → ℕ
mains_to n = (n - 56) / 140 * 136 + min ((n - 56) % 140) 136

one_more : (n : ℕ) → n < 9296 → mains_to (suc n) ≡ mains_to n + one_main (part_of n)
unfolding mains_to one_main
one_more n h =
    by_test (ltb n 24) (λ t. rw (part_sync n (ltb-true n 24 t)) (omega (arith, ltb-true n 24 t)))
    (λ t.
    by_test (ltb n 56) (λ u. rw (part_pilot n (ltb-false n 24 t) (ltb-true n 56 u)) (omega (arith, ltb-true n 56 u)))
    (λ u.
    let x = n - 56 in
    let l = ltb-false n 56 u in
    by_test (ltb (x % 140) 136)
    (λ v. let k = ltb-true (x % 140) 136 v in rw (part_behind n l, main_run x (omega (arith, h, l)) k) (omega (arith, k, l)))
    (λ v. let k = ltb-false (x % 140) 136 v in rw (part_behind n l, tmcc_run x (omega (arith, h, l)) k) (omega (arith, k, l)))))

mains_to_lem : (g : ℕ → Meta) (n : ℕ) → ((j : ℕ) → (g j).j ≡ j) → n ≤ 9296 → mains_in (firsts g n) ≡ mains_to n
unfolding mains_in firsts
mains_to_lem g zero e h = unfold mains_to in omega arith
mains_to_lem g (suc n) e h =
    omega (
      arith,
      mains_append (firsts g n) (g n ∷ []),
      mains_to_lem g n e (omega (arith, h)),
      one_more n (omega (arith, h)),
      ap {B = ℕ} (λ (j : ℕ). one_main (part_of j)) (e n),
    )

one_fits : (part : Result SlotPart Refusal) (q : Points) (z : Symbol) → q.bits ≤ 5 → length (soft_of part q z) ≤ 5 * one_main part
unfolding soft_of soft_bits one_main
one_fits (Ok (Sync k)) q z h = omega arith
one_fits (Ok (Pilot k)) q z h = omega arith
one_fits (Ok (Main k)) q z h = omega (arith, h, length-firsts (soft_at (label_metric z.i z.q q.points) q.bits (pos q.k)) q.bits)
one_fits (Ok (Tmcc k)) q z h = omega arith
one_fits (Err n) q z h = omega arith

all_fit : (p : Points) (given : List AlignedSymbol) → ((m : Meta) → (points_for p m).bits ≤ 5) → length (soft_all p given) ≤ 5 * mains_in (metas_in given)
unfolding soft_all mains_in metas_in
all_fit p [] h = omega arith
all_fit p (a ∷ rest) h =
    let vs = soft_of (part_of a.meta.j) (points_for p a.meta) a.z in
    omega (arith, one_fits (part_of a.meta.j) (points_for p a.meta) a.z (h a.meta), all_fit p rest h, length-append vs (soft_all p rest))

-- one of the last five: place 9,291; the others are TMCC
last_main : mains_to 9291 + 1 ≡ mains_to 9296
unfolding mains_to
last_main = omega arith

last_five : (a b c d e : Meta) → a.j ≡ 9291 → b.j ≡ 9292 → c.j ≡ 9293 → d.j ≡ 9294 → e.j ≡ 9295
    → mains_to 9291 + mains_in (a ∷ b ∷ c ∷ d ∷ e ∷ []) ≡ mains_to 9296
unfolding mains_in
last_five a b c d e i j k l m =
    rw (i, j, k, l, m)
    (omega (arith, one_more 9291 (lit≤ tt), one_more 9292 (lit≤ tt), one_more 9293 (lit≤ tt), one_more 9294 (lit≤ tt), one_more 9295 (lit≤ tt)))

few_wait : (w : Metas) → Between w → mains_in (waiting_of w) ≤ 1
unfolding waiting_of mains_in
few_wait w (none e) = rw e (omega arith)
few_wait w (five e i j k l m) =
    rw e (omega (arith, last_main, last_five w.first w.second w.third w.fourth w.fifth i j k l m))

few_joined : (b : Back) (at : ℕ) → Between b.metas → mains_in (waiting_of (joined_to b at).metas) ≤ 1
unfolding joined_to restarted_back started_back no_metas
few_joined b at h =
    if_both (λ (x : Back). mains_in (waiting_of x.metas) ≤ 1) (gap_at b.last at) (restarted_back b) b (few_wait no_metas (none refl)) (few_wait b.metas h)

pub between_few : (w : Metas) → Between w → w.count ≤ 5
between_few w (none e) = omega (arith, e)
between_few w (five e i j k l m) = omega (arith, e)

points_fit_lem : (p : Points) → p.bits ≤ 5 → (m : Meta) → (points_for p m).bits ≤ 5
unfolding points_for
points_fit_lem p h m = h

pub softs_fit : (p : Points) (b : Back) (w : WholeSlot) (table store f s : List ℤ) → p.bits ≤ 5 → Between b.metas
    → length (soft_all p (aligned_all b (corrected_all 9296 w table store) f s)) ≤ 44880
unfolding comes_out mains_to
softs_fit p b w table store f s h k =
    let given = aligned_all b (corrected_all 9296 w table store) f s in
    let ws = waiting_of (joined_to b w.head.at).metas in
    let g : ℕ → Meta = λ (j : ℕ). meta_of (corrected_of w table store j) in
    omega (
      arith,
      all_fit p given (points_fit_lem p h),
      ap mains_in (aligned_are b w table store f s (between_few b.metas k)),
      mains_append ws (firsts g 9291),
      few_joined b w.head.at k,
      mains_to_lem g 9291 (place w table store) (lit≤ tt),
    )
  where
    place : (w : WholeSlot) (table store : List ℤ) (j : ℕ) → (meta_of (corrected_of w table store j)).j ≡ j
    place w table store j = unfold meta_of corrected_of in refl

pub soft_fits : (p : Points) (b : Back) (w : WholeSlot) (table store f s : List ℤ) → p.bits ≤ 5 → Between b.metas → length (soft_to 9296 p b w table store f s) ≤ 44880
unfolding soft_to
soft_fits p b w table store f s h k = softs_fit p b w table store f s h k
