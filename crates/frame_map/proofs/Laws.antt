-- The fields behind sync and pilots, by division. Assumes nothing.
use Rattle.std.specs.Prelude.{Ok, Err}
use mathlib.Core.Bool.{true}
use mathlib.Core.List.{List}
use mathlib.Core.Path.{◌≡◌, refl, sym, ap, ap₂, ◌∙◌}
use Prim.Native.Nat.{ℕ, zero, suc, ◌+◌, ◌-◌, ◌*◌, ◌/◌, ◌%◌, ◌≤◌, ◌<◌}
use native.Mathlib.Omega.{arith}
use borrow.Author.Tests.{ltb-true, ltb-false, lt-ltb, le-ltb}
use lib.Dec.{ltb}
use lib.IntN.{ℤ, pos, nat_abs}
use lib.ListN.{get_or}
use Rattle.laws.proofs.Tests.{by_test}
use Rattle.sync_corr.proofs.Laws.{one_at}
use Rattle.sync_corr.specs.Correlate as corr
use Rattle.sync_corr.specs.Correlate.{ones_of}
use Rattle.laws.specs.Choice.{when◌then◌else◌, if_yes, if_no}
use Rattle.refusal.specs.declared.Refusal.TheVariants.{Arithmetic}
use Rattle.frame_map.specs.Map.{◌of◌, Seen, also_seen, indexed, part_in, part_of, fields, runs, start_seen, none_seen}
use Rattle.frame_map.specs.Map.Kind.{main, tmcc}
use Rattle.frame_map.specs.declared.SlotPart.{SlotPart}
use Rattle.frame_map.specs.declared.SlotPart.TheVariants.{Sync, Pilot, Main, Tmcc}

-- symbol x of n runs of 140, after s: its run and its place in the run
abbrev by_run : Seen → ℕ → SlotPart
by_run s x = when ltb (x % 140) 136 then Main (s.mains + (x / 140 * 136 + x % 140)) else Tmcc (s.tmccs + (x / 140 * 4 + (x % 140 - 136)))

main_first : (s : Seen) (x : ℕ) → x < 136 → Main (s.mains + x) ≡ by_run s x
main_first s x h =
    sym (if_yes (ltb (x % 140) 136) _ _ (lt-ltb (x % 140) 136 (omega (arith, h))) ∙ ap Main (omega (arith, h)))

tmcc_first : (s : Seen) (x : ℕ) → 136 ≤ x → x < 140 → Tmcc (s.tmccs + (x - 136)) ≡ by_run s x
tmcc_first s x h k =
    sym (if_no (ltb (x % 140) 136) _ _ (le-ltb (x % 140) 136 (omega (arith, h, k))) ∙ ap Tmcc (omega (arith, h, k)))

tmcc_later : (s : Seen) (x : ℕ) → 136 ≤ x → x - 136 < 4 → Tmcc ((also_seen s (136 of main)).tmccs + (x - 136)) ≡ by_run s x
unfolding also_seen
tmcc_later s x h k = tmcc_first s x h (omega (arith, h, k))

-- one run later
seen_run : Seen → Seen
seen_run s = also_seen (also_seen s (136 of main)) (4 of tmcc)

run-later : (s : Seen) (x : ℕ) → 140 ≤ x → by_run (seen_run s) (x - 136 - 4) ≡ by_run s x
unfolding seen_run also_seen
run-later s x h =
    let y = x - 136 - 4 in
    let e : y % 140 ≡ x % 140 = omega (arith, h) in
    let d : y / 140 + 1 ≡ x / 140 = omega (arith, h) in
    rw e (ap₂ (λ (a b : SlotPart). when ltb (x % 140) 136 then a else b) (ap Main (omega (arith, d))) (ap Tmcc (omega (arith, d))))

pub runs_law : (n : ℕ) (s : Seen) (x : ℕ) → x < 140 * n → part_in (runs n) s x ≡ Ok (by_run s x)
unfolding part_in runs indexed seen_run
runs_law zero s x h = absurd (omega (arith, h))
runs_law (suc n) s x h =
    by_test (ltb x 136)
    (λ t. if_yes (ltb x 136) _ _ t ∙ ap Ok (main_first s x (ltb-true x 136 t)))
    (λ t.
    if_no (ltb x 136) _ _ t
    ∙ by_test (ltb (x - 136) 4)
    (λ u. if_yes (ltb (x - 136) 4) _ _ u ∙ ap Ok (tmcc_later s x (ltb-false x 136 t) (ltb-true (x - 136) 4 u)))
    (λ u.
    let l : 140 ≤ x = omega (arith, ltb-false x 136 t, ltb-false (x - 136) 4 u) in
    if_no (ltb (x - 136) 4) _ _ u ∙ runs_law n (seen_run s) (x - 136 - 4) (omega (arith, h, l)) ∙ ap Ok (run-later s x l)))

-- past the last run there is nothing
runs_past : (n : ℕ) (s : Seen) (x : ℕ) → 140 * n ≤ x → part_in (runs n) s x ≡ Err Arithmetic
unfolding part_in runs seen_run
runs_past zero s x h = refl
runs_past (suc n) s x h =
    if_no (ltb x 136) _ _ (le-ltb x 136 (omega (arith, h))) ∙ if_no (ltb (x - 136) 4) _ _ (le-ltb (x - 136) 4 (omega (arith, h)))
    ∙ runs_past n (seen_run s) (x - 136 - 4) (omega (arith, h))

-- ---- the whole slot
pub main_run : (x : ℕ) → x < 9240 → x % 140 < 136 → part_in (runs 66) start_seen x ≡ Ok (Main (x / 140 * 136 + x % 140))
unfolding start_seen also_seen none_seen
main_run x h t = runs_law 66 start_seen x (omega (arith, h)) ∙ ap Ok (if_yes (ltb (x % 140) 136) _ _ (lt-ltb (x % 140) 136 t) ∙ ap Main (omega arith))

pub tmcc_run : (x : ℕ) → x < 9240 → 136 ≤ x % 140 → part_in (runs 66) start_seen x ≡ Ok (Tmcc (x / 140 * 4 + (x % 140 - 136)))
unfolding start_seen also_seen none_seen
tmcc_run x h t = runs_law 66 start_seen x (omega (arith, h)) ∙ ap Ok (if_no (ltb (x % 140) 136) _ _ (le-ltb (x % 140) 136 t) ∙ ap Tmcc (omega arith))

pub part_sync : (j : ℕ) → j < 24 → part_of j ≡ Ok (Sync j)
unfolding part_of fields part_in indexed none_seen
part_sync j h = if_yes (ltb j 24) _ _ (lt-ltb j 24 h) ∙ ap (λ (k : ℕ). Ok (Sync k)) (omega arith)

pub part_pilot : (j : ℕ) → 24 ≤ j → j < 56 → part_of j ≡ Ok (Pilot (j - 24))
unfolding part_of fields part_in indexed none_seen also_seen
part_pilot j l h = if_no (ltb j 24) _ _ (le-ltb j 24 l) ∙ if_yes (ltb (j - 24) 32) _ _ (lt-ltb (j - 24) 32 (omega (arith, l, h))) ∙ ap (λ (k : ℕ). Ok (Pilot k)) (omega arith)

pub part_behind : (j : ℕ) → 56 ≤ j → part_of j ≡ part_in (runs 66) start_seen (j - 56)
unfolding part_of fields part_in start_seen
part_behind j l =
    if_no (ltb j 24) _ _ (le-ltb j 24 (omega (arith, l))) ∙ if_no (ltb (j - 24) 32) _ _ (le-ltb (j - 24) 32 (omega (arith, l)))
    ∙ ap (part_in (runs 66) start_seen) (omega (arith, l))

pub part_past : (j : ℕ) → 9296 ≤ j → part_of j ≡ Err Arithmetic
part_past j l = part_behind j (omega (arith, l)) ∙ runs_past 66 start_seen (j - 56) (omega (arith, l))

-- ---- an entry of a word
pub entry-one : (w : List ℤ) → ones_of w ≡ true → (j : ℕ) → j < 48 → nat_abs (get_or w j (pos 0)) ≡ 1
unfolding corr.at
entry-one w h j l = one_at w h j l
