-- A receiver that starts is coherent, and loads and training calls keep it so. Assumes nothing.
use Rattle.std.specs.Prelude.{Option, None, Some}
use Rattle.phase.specs.declared.Held.{Held}
use Prim.Native.Nat.{ℕ, ◌*◌, ◌^◌, ◌≤◌}
use mathlib.Core.Bool.{true, false, not, ◌||◌}
use mathlib.Core.List.{List}
use mathlib.Core.Logic.{inl, inr}
use mathlib.Core.Path.{◌≡◌, refl, sym}
use native.Mathlib.Omega.{arith}
use borrow.Author.Tests.{ltb-false}
use lib.Dec.{eqb, ltb}
use lib.IntN.{ℤ, pos, negsuc, nat_abs}
use lib.ListN.{length, length-replicate, get_or-replicate}
use lib.Signed.{lt_z}
use Rattle.laws.proofs.Tests.{never, neither}
use Rattle.carrier.specs.Carrier.{started_nco}
use Rattle.carrier.proofs.Theorems.{start_coherent}
use Rattle.sync_heads.specs.Ranges.{record_in_range}
use Rattle.sync_range.specs.Coherent.{rotated}
use Rattle.sync_range.proofs.Steps.{started_coherent as sync-started}
use Rattle.demap.specs.Answers.{bad_points, bad_scale}
use Rattle.sums.specs.Sums.{empty_sums}
use Rattle.eq_train.proofs.Theorems.{empty_sound}
use Rattle.eq.specs.declared.Equaliser.{Equaliser}
use Rattle.eq.specs.Eq.{started_eq, with_sums, loaded_eq}
use Rattle.eq_range.specs.Coherent.{Coherent as CoherentEq}
use Rattle.eq_range.proofs.Kept.{started_coherent as eq-started, open_coherent, closed_coherent, loaded_coherent}
use Rattle.frame_line.specs.Line.{no_metas}
use Rattle.frame.specs.declared.Back.{Back}
use Rattle.frame.specs.Align.{started_back}
use Rattle.receiver_slot.specs.declared.Points.{Points}
use Rattle.receiver.specs.declared.Kept.{Kept}
use Rattle.receiver.specs.declared.Receiver.{Receiver}
use Rattle.receiver.specs.Started.{started, no_points, new_kept, kept_of}
use Rattle.receiver.specs.Answers.{loaded_points, with_points, with_eq}
use Rattle.receiver_range.specs.Coherent.{BackFits, CountFits, RightFits, PointsFit, CoherentReceiver}

-- ---- starts
pub started_coherent : (at : ℕ) (k : Kept) → record_in_range k.last ≡ true → PointsFit k.points → CoherentReceiver (started at k)
unfolding started started_back started_eq no_metas started_nco
started_coherent at k e p =
    record {
      nco = record { coherent = start_coherent k.phase k.freq; even = tt };
      sync = sync-started rotated at k.last e;
      phase = tt;
      eq = eq-started k.taps k.from;
      right = λ o. absurd (never (sym o));
      count = λ o. absurd (never (sym o));
      back = record { none = refl; empty = refl; last = refl };
      points = p;
    }

-- a new receiver
pub new_coherent : (at : ℕ) (step : ℤ) → CoherentReceiver (started at (new_kept step))
unfolding new_kept no_points record_in_range
new_coherent at step = started_coherent at (new_kept step) refl (record { bits = omega arith; k = omega arith })

-- one restarted, at any position
pub restart_coherent : (r : Receiver) (at : ℕ) → CoherentReceiver r → CoherentReceiver (started at (kept_of r))
unfolding kept_of
restart_coherent r at c = started_coherent at (kept_of r) c.sync.course.last c.points

-- ---- a constellation
scale_few : (k : ℤ) → bad_scale k ≡ false → nat_abs k ≤ 2 ^ 24
scale_few (pos a) e = ltb-false (2 ^ 24) a (neither (lt_z (pos a) (pos 0)) (lt_z (pos (2 ^ 24)) (pos a)) e).1
scale_few (negsuc a) e = absurd (never e)

pub loaded_points_fit : (bits : ℕ) (points : List ℤ) (k : ℤ) → bad_points bits (length points) ≡ false → bad_scale k ≡ false → PointsFit (loaded_points bits points k)
unfolding loaded_points
loaded_points_fit bits points k b e =
    let n = neither (ltb bits 1) (ltb 5 bits || not (eqb (length points) (2 * 2 ^ bits))) b in
    record { bits = ltb-false 5 bits (neither (ltb 5 bits) (not (eqb (length points) (2 * 2 ^ bits))) n.1).0; k = scale_few k e }

pub points_coherent : (r : Receiver) (p : Points) → PointsFit p → CoherentReceiver r → CoherentReceiver (with_points r p)
unfolding with_points
points_coherent r p f c = record { nco = c.nco; sync = c.sync; phase = c.phase; eq = c.eq; right = c.right; count = c.count; back = c.back; points = f }

-- ---- another equaliser, with a line as full
-- .. is all that the alignment looks at
back_kept : (s : Option Held) (b : Back) (e : Equaliser) → e.filled ≡ b.eq.filled → BackFits s b →
    BackFits s (record { eq = e; metas = b.metas; last = b.last })
back_kept None b e h u = record { none = u.none; empty = rw h u.empty; last = u.last }
back_kept (Some x) b e h (inl u) = inl (record { none = u.none; empty = rw h u.empty; last = u.last })
back_kept (Some x) b e h (inr j) =
    inr
    (record {
      five = j.five;
      full = rw h j.full;
      before = j.before;
      next = j.next;
      last = j.last;
      low = j.low;
      first = j.first;
      second = j.second;
      third = j.third;
      fourth = j.fourth;
      fifth = j.fifth;
    })

eq_coherent : (r : Receiver) (e : Equaliser) → CoherentReceiver r → e.filled ≡ r.back.eq.filled → CoherentEq e → (e.opened ≡ true → RightFits e.sums) →
    (e.opened ≡ true → CountFits (with_eq r e).back) → CoherentReceiver (with_eq r e)
unfolding with_eq
eq_coherent r e c h k f g =
    record { nco = c.nco; sync = c.sync; phase = c.phase; eq = k; right = f; count = g; back = back_kept r.front.phase r.back e h c.back; points = c.points }

-- taps
pub taps_coherent : (r : Receiver) (taps : List ℤ) (frame : ℕ) → CoherentReceiver r → CoherentReceiver (with_eq r (loaded_eq r.back.eq taps frame))
unfolding loaded_eq with_eq
taps_coherent r taps frame c = eq_coherent r (loaded_eq r.back.eq taps frame) c refl (loaded_coherent r.back.eq taps frame c.eq) c.right
    (λ o. let k = c.count o in record { slots = k.slots; count = k.count; none = k.none })

-- sums opened, and ended
empty_right : (frame : ℕ) → RightFits (empty_sums frame)
unfolding empty_sums
empty_right frame = record { long = length-replicate {A = ℤ} 22 (pos 0); small = λ k h. rw (get_or-replicate {A = ℤ} 22 k (pos 0) (pos 0) h) (omega arith) }

pub open_sums_coherent : (r : Receiver) (frame : ℕ) → CoherentReceiver r → CoherentReceiver (with_eq r (with_sums r.back.eq true (empty_sums frame)))
unfolding with_sums with_eq empty_sums
open_sums_coherent r frame c =
    eq_coherent r (with_sums r.back.eq true (empty_sums frame)) c refl (open_coherent r.back.eq (empty_sums frame) c.eq (empty_sound frame)) (λ o. empty_right frame)
    (λ o. record { slots = 0; count = inl refl; none = λ e. refl })

pub end_sums_coherent : (r : Receiver) → CoherentReceiver r → CoherentReceiver (with_eq r (with_sums r.back.eq false (empty_sums 0)))
unfolding with_sums
end_sums_coherent r c =
    eq_coherent r (with_sums r.back.eq false (empty_sums 0)) c refl (closed_coherent r.back.eq c.eq) (λ o. absurd (never (sym o))) (λ o. absurd (never (sym o)))
