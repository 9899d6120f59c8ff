-- What the heads that a reading tells are: the last of them is the reading's own, of its position and with the course's slot. Assumes nothing.
use Rattle.std.specs.Prelude.{None, Some}
use Prim.Native.Nat.{ℕ, ◌%◌, ◌≤◌}
use mathlib.Core.Bool.{Bool, true, false}
use mathlib.Core.Path.{◌≡◌, refl}
use native.Mathlib.Omega.{arith}
use lib.IntN.{ℤ, pos, nat_abs}
use lib.Signed.{◌≤ℤ◌}
use Rattle.laws.proofs.Linear.{le_ud}
use Rattle.laws.proofs.Size.{abs_neg}
use Rattle.laws.proofs.Tests.{if_both, if_either}
use Rattle.fx.specs.Cordic.{cordic_of}
use Rattle.fx.proofs.Theorems.{cordic_theorem}
use Rattle.sync_corr.specs.Rows.{Bounded}
use Rattle.sync_corr.specs.declared.Both.{Both}
use Rattle.sync_corr.specs.declared.Corr.{Corr}
use Rattle.sync_heads.specs.declared.Course.{Course}
use Rattle.sync_heads.specs.declared.Head.{Head}
use Rattle.sync_heads.specs.declared.Parity.{Parity}
use Rattle.sync_heads.specs.declared.Reading.{Reading}
use Rattle.sync_heads.specs.declared.Said.{Said}
use Rattle.sync_heads.specs.declared.Stage.TheVariants.{First, Known}
use Rattle.sync_heads.specs.declared.Taken.{Taken}
use Rattle.sync_heads.specs.declared.Told.{Told}
use Rattle.sync_heads.specs.Ranges.{slot_in_range}
use Rattle.sync_heads.specs.Words.{said_of, negated}
use Rattle.sync_heads.specs.Heads.{head_of, ssync_of, fsync_of, ssync_taken, fsync_taken, known_of, both_heads, first_of, read_of}
use Rattle.sync_range.specs.Coherent.{rotated, corr_most}
use Rattle.receiver_range.specs.Coherent.{HeadFits}
use Rattle.receiver_range.proofs.Even.{cordic_even}

-- ---- a head as told
pub record HeadOf (r : Reading) (c : Course) (h : Head) : Type 0 where
  pub at_is : h.at ≡ r.at
  pub corr : (m : ℕ) → Bounded m r.both.f → Bounded m r.both.s → Bounded m h.corr
  pub amp : h.amp ≡ (cordic_of h.corr.re h.corr.im).size
  pub slot : h.slot ≡ c.slot
  pub none : h.nco_phase ≡ 0
  pub even : h.theta % 2 ≡ 0

negated_bounded : (m : ℕ) (c : Corr) → Bounded m c → Bounded m (negated c)
unfolding negated
negated_bounded m c h = record { re = omega (arith, abs_neg c.re, h.re); im = omega (arith, abs_neg c.im, h.im) }

said_bounded : (ssync : Bool) (b : Both) (last : Corr) (m : ℕ) → Bounded m b.f → Bounded m b.s → Bounded m (said_of ssync b last).corr
unfolding said_of
said_bounded ssync b last m hf hs =
    if_both (λ (w : Said). Bounded m w.corr) ssync _ _ hs (if_both (λ (w : Said). Bounded m w.corr) _ _ _ (negated_bounded m b.f hf) hf)

head_of_lem : (ssync : Bool) (last : Corr) (r : Reading) (c : Course) → HeadOf r c (head_of (said_of ssync r.both last) r.at c.slot)
unfolding head_of
head_of_lem ssync last r c = record { at_is = refl; corr = said_bounded ssync r.both last; amp = refl; slot = refl; none = refl; even = cordic_even _ _ }

-- its size is the CORDIC's of parts within 98,328
amp_size : (re im : ℤ) → nat_abs re ≤ 98328 → nat_abs im ≤ 98328 → (pos 0 ≤ℤ (cordic_of re im).size) × ((cordic_of re im).size ≤ℤ pos 179130)
amp_size re im hr hi = let s = cordic_theorem re im 98328 hr hi in rw s.is (le_ud (pos 0) (pos s.size) (omega arith), le_ud (pos s.size) (pos 179130) (omega (arith, s.most)))

pub head_fits : (r : Reading) (c : Course) (h : Head) → Bounded (corr_most rotated) r.both.f → Bounded (corr_most rotated) r.both.s →
    slot_in_range c.slot ≡ true → HeadOf r c h → HeadFits h
head_fits r c h hf hs l o =
    let b = o.corr 98328 hf hs in
    let a = amp_size h.corr.re h.corr.im b.re b.im in
    record { corr = b; low = rw o.amp a.0; high = rw o.amp a.1; slot = rw o.slot l; none = o.none; even = o.even }

-- ---- an F head: told, or lost
data FTold (r : Reading) (t : Told) : Type 0 where
  silent : t.lost ≡ true → t.head ≡ None → FTold r t
  told : (h : Head) → t.lost ≡ false → t.head ≡ Some h → HeadOf r t.course h → FTold r t

fsync_told : (n : ℕ) (c : Course) (r : Reading) (last : Corr) → FTold r (fsync_of n c r last)
unfolding fsync_of
fsync_told n c r last = if_either (FTold r) _ _ _ (λ e. silent refl refl) (λ e. told _ refl refl (head_of_lem false last r _))

-- ---- a reading with the parity known: one head, or a loss
pub data TellsOne (r : Reading) (k : Taken) : Type 0 where
  mute : k.lost ≡ true → k.first ≡ None → k.second ≡ None → TellsOne r k
  sole : (h : Head) → k.lost ≡ false → k.first ≡ Some h → k.second ≡ None → HeadOf r k.course h → TellsOne r k

ssync_tells : (odd : Bool) (c : Course) (r : Reading) → TellsOne r (ssync_taken odd c r)
unfolding ssync_taken ssync_of
ssync_tells odd c r = sole _ refl refl refl (head_of_lem true r.both.s r _)

fsync_tells : (n : ℕ) (odd : Bool) (last : Corr) (c : Course) (r : Reading) → TellsOne r (fsync_taken n odd last c r)
unfolding fsync_taken
fsync_tells n odd last c r = go (fsync_told n c r last)
  where
    go : FTold r (fsync_of n c r last) → TellsOne r (fsync_taken n odd last c r)
    go (silent e z) = mute e z refl
    go (told h e z o) = sole h e z refl o

pub known_tells : (n : ℕ) (p : Parity) (c : Course) (r : Reading) → TellsOne r (read_of n (Known p) c r)
unfolding read_of known_of
known_tells n p c r = if_both (TellsOne r) p.due _ _ (ssync_tells p.odd c r) (fsync_tells n p.odd p.last c r)

-- ---- head one: one head, head zero too, or a loss
pub data TellsTwo (r : Reading) (k : Taken) : Type 0 where
  missed : (g : Head) → g.theta % 2 ≡ 0 → k.lost ≡ true → k.first ≡ Some g → k.second ≡ None → TellsTwo r k
  alone : (h : Head) → k.lost ≡ false → k.first ≡ Some h → k.second ≡ None → HeadOf r k.course h → TellsTwo r k
  pair : (g h : Head) → g.theta % 2 ≡ 0 → k.lost ≡ false → k.first ≡ Some g → k.second ≡ Some h → HeadOf r k.course h → TellsTwo r k

both_tells : (n : ℕ) (z : Reading) (c : Course) (r : Reading) → TellsTwo r (both_heads n z c r)
unfolding both_heads fsync_taken ssync_of head_of
both_tells n z c r = go (fsync_told n (ssync_of c z).course r z.both.s)
  where
    go : FTold r (fsync_of n (ssync_of c z).course r z.both.s) → TellsTwo r (both_heads n z c r)
    go (silent e y) = missed _ (cordic_even _ _) e refl y
    go (told h e y o) = pair _ h (cordic_even _ _) e refl y o

silent_tells : (c : Course) (r : Reading) → TellsTwo r (ssync_taken true c r)
unfolding ssync_taken ssync_of
silent_tells c r = alone _ refl refl refl (head_of_lem true r.both.s r _)

pub first_tells : (n : ℕ) (z : Reading) (c : Course) (r : Reading) → TellsTwo r (read_of n (First z) c r)
unfolding read_of first_of
first_tells n z c r = if_both (TellsTwo r) _ _ _ (silent_tells c r) (both_tells n z c r)

-- ---- from head one on the parity is known
pub record Knows (k : Taken) : Type 0 where
  pub parity : Parity
  pub known : k.stage ≡ Known parity

pub known_knows : (n : ℕ) (p : Parity) (c : Course) (r : Reading) → Knows (read_of n (Known p) c r)
unfolding read_of known_of ssync_taken fsync_taken
known_knows n p c r = if_both Knows p.due _ _ (record { parity = _; known = refl }) (record { parity = _; known = refl })

pub first-knows : (n : ℕ) (z : Reading) (c : Course) (r : Reading) → Knows (read_of n (First z) c r)
unfolding read_of first_of ssync_taken both_heads fsync_taken
first-knows n z c r = if_both Knows _ _ _ (record { parity = _; known = refl }) (record { parity = _; known = refl })
