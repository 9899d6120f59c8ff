-- Where sync symbols stand, and what a symbol that is not refused may rely on. Assumes nothing.
use Rattle.std.specs.Prelude.{Result, Ok, Err}
use Prim.Native.Nat.{ℕ, ◌+◌, ◌-◌, ◌%◌, ◌^◌, ◌≤◌, min}
use native.Mathlib.Omega.{arith}
use mathlib.Core.Bool.{true, false, not, ◌&&◌}
use mathlib.Core.List.{List}
use mathlib.Core.Path.{◌≡◌, refl, sym, ◌∙◌}
use borrow.Author.Tests.{le-leb, lt-leb, leb-true, leb-false, ltb-true, ltb-false}
use lib.Dec.{leb, ltb}
use lib.IntN.{ℤ}
use Rattle.laws.specs.Choice.{when◌then◌else◌}
use Rattle.laws.proofs.Taken.{ok_yes, ok_no}
use Rattle.laws.proofs.Tests.{by_test, and_both, if_both, never}
use Rattle.fx.specs.Answers.{wide}
use Rattle.sync_corr.specs.Correlate.{ones_of}
use Rattle.phase.specs.declared.Corrected.{Corrected}
use Rattle.eq_train.proofs.Theorems.{in_range_ok}
use Rattle.eq.specs.declared.Equaliser.{Equaliser}
use Rattle.eq.specs.Eq.{started_eq, pushed_eq, trains_eq}
use Rattle.eq.specs.Ranges.{eq_in_range}
use Rattle.eq.proofs.Laws.{open_sums}
use Rattle.refusal.specs.declared.Refusal.{Refusal}
use Rattle.refusal.specs.declared.Refusal.TheVariants.{Words, Arithmetic, Position, Counts}
use Rattle.frame_map.specs.declared.SlotPart.{SlotPart}
use Rattle.frame_map.specs.declared.SlotPart.TheVariants.{Pilot, Main, Tmcc}
use Rattle.frame_map.specs.Map.{part_of}
use Rattle.frame_map.proofs.Laws.{part_sync, part_pilot, part_behind, part_past, main_run, tmcc_run}
use Rattle.frame_line.specs.declared.Meta.{Meta}
use Rattle.frame_line.specs.Line.{gap_at}
use Rattle.frame_line.specs.Ranges.{metas_in_range, last_in_range}
use Rattle.frame.specs.declared.Back.{Back}
use Rattle.frame.specs.Align.{started_back, restarted_back, joined_to, trained_part, trained_at, is_sync}
use Rattle.frame.specs.Ranges.{back_in_range, TakeOk, PushOk}
use Rattle.frame.specs.Answers.{trains_back, full_back, push_refusal}

-- ---- places
-- what holds of every other part holds of the part at a place behind the first 24
off : (P : Result SlotPart Refusal → Type 0) (j : ℕ) → 24 ≤ j → ((k : ℕ) → P (Ok (Pilot k))) → ((k : ℕ) → P (Ok (Main k))) → ((k : ℕ) → P (Ok (Tmcc k))) → P (Err Arithmetic) → P (part_of j)
off P j h p m t r =
    by_test (ltb j 56) (λ u. rw (part_pilot j h (ltb-true j 56 u)) (p (j - 24)))
    (λ u.
    let x = j - 56 in
    let a = part_behind j (ltb-false j 56 u) in
    by_test (ltb j 9296)
    (λ v.
    by_test (ltb (x % 140) 136) (λ w. rw (a ∙ main_run x (omega (arith, ltb-true j 9296 v)) (ltb-true (x % 140) 136 w)) (m _))
    (λ w. rw (a ∙ tmcc_run x (omega (arith, ltb-true j 9296 v)) (ltb-false (x % 140) 136 w)) (t _)))
    (λ v. rw (part_past j (ltb-false j 9296 v)) r))

pub sync_places : (j : ℕ) → is_sync (part_of j) ≡ ltb j 24
unfolding is_sync
sync_places j =
    by_test (ltb j 24) (λ t. rw (part_sync j (ltb-true j 24 t), t))
    (λ t. off (λ p. is_sync p ≡ false) j (ltb-false j 24 t) (λ k. refl) (λ k. refl) (λ k. refl) refl ∙ sym t)

-- only a sync symbol trains
pub untrained : (e : Equaliser) (m : Meta) (f s : List ℤ) → 24 ≤ m.j → trained_at e m f s ≡ e
unfolding trained_at trained_part
untrained e m f s h = off (λ p. trained_part p e m f s ≡ e) m.j h (λ k. refl) (λ k. refl) (λ k. refl) refl

-- a line that one more symbol fills
pub line_full : (n : ℕ) → leb 11 (n + 1) ≡ leb 10 n
line_full n =
    by_test (leb 10 n) (λ t. le-leb 11 (n + 1) (omega (arith, leb-true 10 n t)) ∙ sym t)
    (λ t. lt-leb 11 (n + 1) (omega (arith, leb-false 10 n t)) ∙ sym t)

-- ---- what is in range
pub record Ranged (b : Back) : Type 0 where
  pub eq : eq_in_range b.eq ≡ true
  pub metas : metas_in_range b.metas ≡ true
  pub last : last_in_range b.last ≡ true

pub ranged : (b : Back) → back_in_range b ≡ true → Ranged b
unfolding back_in_range
ranged b h =
    let e = eq_in_range b.eq in
    let w = metas_in_range b.metas in
    let k = and_both (e && w) (last_in_range b.last) h in
    let m = and_both e w k.0 in
    record { eq = m.0; metas = m.1; last = k.1 }

-- a gap leaves an equaliser in range
joined_ranged : (b : Back) (at : ℕ) → eq_in_range b.eq ≡ true → eq_in_range (joined_to b at).eq ≡ true
unfolding joined_to restarted_back started_back started_eq eq_in_range when◌then◌else◌
joined_ranged b at h = if_both (λ x. eq_in_range x.eq ≡ true) (gap_at b.last at) (restarted_back b) b refl h

-- a symbol can be taken where the oldest needs no room or has it
take_ok : (b : Back) (c : Corrected) (f s : List ℤ) → ones_of f ≡ true → ones_of s ≡ true → eq_in_range b.eq ≡ true → full_back b ≡ false → TakeOk b c f s
unfolding full_back trains_back trains_eq pushed_eq
take_ok b c f s hf hs r h =
    let e = b.eq in
    let full = leb 4194304 e.sums.count in
    record {
      aligned = λ five. record {
        first = hf;
        second = hs;
        train = λ j. record {
          sums = λ t.
              let o = and_both e.opened (leb 11 (min (e.filled + 1) 11)) t in
              let l : leb 11 (e.filled + 1) ≡ true = le-leb 11 (e.filled + 1) (omega (arith, leb-true 11 (min (e.filled + 1) 11) o.1)) in
              in_range_ok e.sums (open_sums e r o.0)
              (by_test full
              (λ u. absurd (never (rw (le-leb 5 b.metas.count five, sync_places b.metas.first.j, j, o.0, l, u) at h)))
              (λ u. leb-false 4194304 e.sums.count u));
        };
      };
    }

-- what is known of a symbol that is not refused
pub record Accepted (b : Back) (c : Corrected) (f s : List ℤ) : Type 0 where
  pub first : ones_of f ≡ true
  pub second : ones_of s ≡ true
  pub back : back_in_range b ≡ true
  pub place : ltb c.j 9296 ≡ true
  pub before : leb (2 ^ 62) c.at ≡ false
  pub room : full_back (joined_to b c.at) ≡ false

pub accepted : (b : Back) (c : Corrected) (f s : List ℤ) → push_refusal b c f s ≡ Ok tt → Accepted b c f s
unfolding push_refusal
accepted b c f s h =
    let p = ok_yes (ones_of f && ones_of s) _ Words h in
    let q = ok_yes (back_in_range b && ltb c.j 9296 && not (wide c.gain)) _ Arithmetic p.1 in
    let r = ok_no (leb (2 ^ 62) c.at) Position _ q.1 in
    let w = and_both (ones_of f) (ones_of s) p.0 in
    let g = and_both (back_in_range b) (ltb c.j 9296) (and_both (back_in_range b && ltb c.j 9296) (not (wide c.gain)) q.0).0 in
    record { first = w.0; second = w.1; back = g.0; place = g.1; before = r.0; room = (ok_no (full_back (joined_to b c.at)) Counts _ r.1).0 }

pub push_ok : (b : Back) (c : Corrected) (f s : List ℤ) → push_refusal b c f s ≡ Ok tt → PushOk b c f s
push_ok b c f s h =
    let a = accepted b c f s h in
    let r = ranged b a.back in
    record { last = r.last; taken = take_ok (joined_to b c.at) c f s a.first a.second (joined_ranged b c.at r.eq) a.room }
