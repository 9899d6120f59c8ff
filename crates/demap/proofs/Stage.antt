-- The state of the loop over the bits, of which those from b on are done, and its steps: over plain lists, for any number of bits. Assumes
-- nothing.
use mathlib.Core.Bool.{true}
use mathlib.Core.List.{List, ◌++◌}
use mathlib.Core.Path.{◌≡◌, refl, sym, ap, ap₂, ◌∙◌}
use Prim.Native.Nat.{ℕ, suc, ◌+◌, ◌-◌, ◌^◌, ◌≤◌, ◌<◌}
use native.Mathlib.Nat.{le_refl}
use native.Mathlib.Numerals.{add-one}
use native.Mathlib.Omega.{arith}
use lib.IntN.{ℤ, pos}
use lib.ListN.{length, set, drop}
use lib.Pow.{pow-lt, pow_pos, pow_mono}
use lib.Signed.{lt_z}
use Rattle.laws.proofs.Lists.{firsts-step, length-fill, getD-firsts, firsts-ext}
use Rattle.laws.proofs.Tests.{if_both}
use Rattle.laws.specs.Choice.{when◌then◌else◌, if_yes}
use Rattle.laws.specs.Ranges.{min_z, least_of, firsts}
use Rattle.demap.proofs.Fold.{pow2, kept_least, folded_size, bit_law, half_gap_ext, gap_ext}
use Rattle.demap.specs.Demap.{least_metric, gap_of, soft_of, soft_at, soft_bits}
use Rattle.demap.specs.Folds.{Small, entry, fold, half_gap, folded}

-- f are the metrics, old is the buffer before
pub record Stage (f : ℕ → ℤ) (bits : ℕ) (k : ℤ) (old : List ℤ) (b : ℕ) (m out : List ℤ) : Type 0 where
  pub long : length m ≡ 32
  pub table : (l : ℕ) → l < 2 ^ (bits - (bits - b)) → entry m l ≡ folded f bits (bits - b) l
  pub done : out ≡ firsts (soft_at f bits k) (bits - b) ++ drop (bits - b) old

pub stage_start : (bits : ℕ) (k : ℤ) (old m : List ℤ) (b : ℕ) → bits ≤ b → length m ≡ 32 → Stage (entry m) bits k old b m old
unfolding folded firsts
stage_start bits k old m b h e =
    let z : bits - b ≡ 0 = omega arith in
    record { long = e; table = rw z (λ l q. refl); done = rw z }

pub stage_skip : {f : ℕ → ℤ} {bits : ℕ} {k : ℤ} {old m out : List ℤ} (b : ℕ) → bits ≤ b → Stage f bits k old (suc b) m out → Stage f bits k old b m out
stage_skip {bits = bits} b h s =
    let e : bits - b ≡ bits - suc b = omega arith in
    record { long = s.long; table = rw e s.table; done = rw e s.done }

-- what a step finds in the table
full : {f : ℕ → ℤ} {bits : ℕ} {k : ℤ} {old m out : List ℤ} (b : ℕ) → b < bits → Stage f bits k old (suc b) m out → (l : ℕ) → l < 2 ^ b + 2 ^ b →
    entry m l ≡ folded f bits (bits - suc b) l
full {bits = bits} b h s l q =
    let e : bits - (bits - suc b) ≡ suc b = omega arith in
    s.table l (rw (e, pow2 b) q)

pub stage_size : {f : ℕ → ℤ} {bits : ℕ} {k : ℤ} {old m out : List ℤ} (b : ℕ) → b < bits → ((l : ℕ) → l < 2 ^ bits → Small (f l)) →
    Stage f bits k old (suc b) m out → (l : ℕ) → l < 2 ^ b + 2 ^ b → Small (entry m l)
stage_size {f = f} {bits = bits} b h small s l q =
    let e : bits - (bits - suc b) ≡ suc b = omega arith in
    rw (full b h s l q) (folded_size f bits (bits - suc b) (2 ^ 33) (omega arith) small l (rw (e, pow2 b) q))

low : (l h : ℕ) → l < h → l < h + h
low l h q = omega arith

top : (l h : ℕ) → l < h → h + l < h + h
top l h q = omega arith

inside : (bits b n : ℕ) → b < bits → bits ≤ n → bits - suc b < n
inside bits b n h k = omega arith

-- a turn: m2 and v are what `level` gives
pub stage_step : {f : ℕ → ℤ} {bits : ℕ} {k : ℤ} {old m out : List ℤ} (b : ℕ) (m2 : List ℤ) (v : ℤ) → b < bits → bits ≤ 5 → bits ≤ length old →
    Stage f bits k old (suc b) m out → m2 ≡ firsts (fold (entry m) (2 ^ b)) (2 ^ b) ++ drop (2 ^ b) m → v ≡ soft_of (half_gap (entry m) (2 ^ b)) k →
    Stage f bits k old b m2 (set out (bits - 1 - b) v)
unfolding folded soft_at fold
stage_step {f = f} {bits = bits} {k = k} {old = old} {m = m} {out = out} b m2 v h five room s em ev =
    let d = bits - suc b in
    let h2 = 2 ^ b in
    let e1 : bits - b ≡ suc d = omega arith in
    let e2 : bits - suc d ≡ b = omega arith in
    let e3 : bits - 1 - b ≡ d = omega arith in
    let e4 : bits - 1 - d ≡ b = omega arith in
    let p : 2 ^ b ≤ 2 ^ 5 = pow_mono {j = 5} (omega arith) in
    let small : 2 ^ b ≤ length m = omega (arith, s.long) in
    let g : half_gap (entry m) h2 ≡ gap_of f (2 ^ bits) b = half_gap_ext (entry m) (folded f bits d) h2 (pow_pos b) (full b h s) ∙ sym (bit_law f bits b h) in
    let sv : v ≡ soft_at f bits k d = ev ∙ rw (g, e4) in
    record {
      long = rw em (length-fill (fold (entry m) h2) m h2 small ∙ s.long);
      table = rw (e1, e2)
          (λ l q.
          rw em
          (getD-firsts (fold (entry m) h2) (pos 0) h2 (drop h2 m) l q
          ∙ ap₂ (λ (x y : ℤ). min_z x y) (full b h s l (low l h2 q)) (full b h s (h2 + l) (top l h2 q))));
      done = rw (e1, e3, ← (add-one d), s.done) (firsts-step (soft_at f bits k) old d v sv (inside bits b (length old) h room));
    }

-- ---- the end
one_left : (g : ℕ → ℤ) → least_metric g 1 ≡ g 0
unfolding least_metric least_of min_z
one_left g = if_yes true (when lt_z (g 0) (g 0) then g 0 else g 0) (g 0) refl ∙ if_both (λ (z : ℤ). z ≡ g 0) (lt_z (g 0) (g 0)) (g 0) (g 0) refl refl

pub stage_least : {f : ℕ → ℤ} {bits : ℕ} {k : ℤ} {old m out : List ℤ} → Stage f bits k old 0 m out → entry m 0 ≡ least_metric f (2 ^ bits)
stage_least {f = f} {bits = bits} s =
    let e1 : bits - 0 ≡ bits = omega arith in
    let e2 : bits - bits ≡ 0 = omega arith in
    (rw e1 at (s.table 0 (pow_pos (bits - (bits - 0))))) ∙ sym (kept_least f bits bits (le_refl bits) ∙ rw e2 (one_left (folded f bits bits)))

pub stage_done : {f : ℕ → ℤ} {bits : ℕ} {k : ℤ} {old m out : List ℤ} → Stage f bits k old 0 m out → out ≡ soft_bits f bits k ++ drop bits old
unfolding soft_bits
stage_done {bits = bits} s =
    let e1 : bits - 0 ≡ bits = omega arith in
    rw e1 at s.done

pub stage_room : {f : ℕ → ℤ} {bits : ℕ} {k : ℤ} {old m out : List ℤ} {b : ℕ} → bits ≤ length old → Stage f bits k old b m out → length out ≡ length old
stage_room {f = f} {bits = bits} {k = k} {old = old} {b = b} h s = rw s.done (length-fill (soft_at f bits k) old (bits - b) (omega arith))

-- ---- metrics that agree on the labels give the same soft bits
pub soft_bits_ext : (f g : ℕ → ℤ) (bits : ℕ) (k : ℤ) → ((l : ℕ) → l < 2 ^ bits → f l ≡ g l) → soft_bits f bits k ≡ soft_bits g bits k
unfolding soft_bits soft_at
soft_bits_ext f g bits k h =
    firsts-ext (soft_at f bits k) (soft_at g bits k) bits
    (λ j l. ap (λ (z : ℤ). soft_of z k) (gap_ext f g (2 ^ bits) (bits - 1 - j) (pow_pos bits) (pow-lt (omega arith)) h))
