-- What one head leaves of a coherent trail, what coherent gives, and what a head is refused with. Assumes nothing.
use Rattle.std.specs.Prelude.{Option, None, Some, Result, Ok, ⊤}
use mathlib.Core.Path.{◌≡◌, refl, sym, ◌∙◌}
use mathlib.Core.Bool.{Bool, true, false, ◌||◌}
use Prim.Native.Nat.{ℕ, ◌+◌, ◌-◌, ◌*◌, ◌^◌, ◌≤◌, ◌<◌}
use native.Mathlib.Omega.{arith}
use borrow.Author.Tests.{le-leb, ltb-true}
use lib.Dec.{T, ltb, leb}
use lib.IntN.{ℤ, pos, negsuc, ◌+ℤ◌}
use lib.Signed.{mag, le_z}
use Rattle.laws.proofs.Linear.{up, dn, sum_ud, neg_ud, ud_le, le_ud}
use Rattle.laws.proofs.Taken.{ok_yes, ok_no}
use Rattle.laws.proofs.Tests.{never, neither, if_both, if_either}
use Rattle.laws.specs.Choice.{minus, if_yes, if_no}
use Rattle.angles.proofs.Laws.{turn_size}
use Rattle.angles.specs.Angles.{turn_from}
use Rattle.fx.specs.Answers.{wide}
use Rattle.refusal.specs.Refusals.{code_of}
use Rattle.refusal.specs.declared.Refusal.{Refusal}
use Rattle.refusal.specs.declared.Refusal.TheVariants.{Arithmetic, Position}
use Rattle.sync_heads.specs.Given.{given_refusal}
use Rattle.sync_heads.specs.declared.Head.{Head}
use Rattle.sync_heads.specs.declared.Word.{Word}
use Rattle.sync_heads.specs.declared.Word.TheVariants.{Ssync, Fsync, NotFsync}
use Rattle.carrier.specs.Answers.{rotate_refusal, head_refusal}
use Rattle.carrier.specs.Carrier.{since_head, ssync_heard, trail_heard, word_heard}
use Rattle.carrier.specs.Coherent.{StepsFit, TrailFits, Coherent}
use Rattle.carrier.specs.Ranges.{steps_in_range, trail_in_range, nco_in_range}
use Rattle.carrier.specs.declared.Heard.{Heard}
use Rattle.carrier.specs.declared.Nco.{Nco}
use Rattle.carrier.specs.declared.Steps.{Steps}

-- ---- one more difference keeps the sum within what the number of differences allows
-- a number from -2^31 to 2^31 - 1
turn_low : (z : ℤ) → mag z < 2 ^ 31 → dn z ≤ up z + 2 ^ 31
turn_low (pos a) h = omega arith
turn_low (negsuc a) h = omega arith

turn_high : (z : ℤ) → mag z < 2 ^ 31 → up z ≤ dn z + (2 ^ 31 - 1)
turn_high (pos a) h = omega arith
turn_high (negsuc a) h = omega arith

first_fits : (last : ℕ) → StepsFit (since_head last)
unfolding since_head
first_fits last = record { few = omega arith; low = record { le = tt }; high = record { le = tt } }

more_fits : (s : Steps) (theta : ℕ) → StepsFit s → s.steps + 1 < 60 →
    StepsFit (record { last_ss = theta; sum = s.sum +ℤ turn_from s.last_ss theta; steps = s.steps + 1 })
more_fits s theta f l =
    let t = turn_from s.last_ss theta in
    let h = turn_size s.last_ss theta in
    let k = sum_ud s.sum t in
    record {
      few = omega (arith, l);
      low =
          le_ud (minus ((s.steps + 1) * 2 ^ 31)) (s.sum +ℤ t)
          (omega (arith, k, ud_le f.low, turn_low t h, neg_ud (pos (s.steps * 2 ^ 31)), neg_ud (pos ((s.steps + 1) * 2 ^ 31))));
      high = le_ud (s.sum +ℤ t) (pos ((s.steps + 1) * (2 ^ 31 - 1))) (omega (arith, k, ud_le f.high, turn_high t h));
    }

-- ---- a head
ssync_coherent : (n : Nco) (s : Steps) (theta : ℕ) → StepsFit s → Coherent (ssync_heard n s theta).nco
unfolding ssync_heard
ssync_coherent n s theta f =
    if_either (λ (x : Heard). Coherent x.nco) (ltb (s.steps + 1) 60) _ _
    (λ e. record { trail = more_fits s theta f (ltb-true (s.steps + 1) 60 e) })
    (λ e. record { trail = first_fits theta })

trail_coherent : (n : Nco) (t : Option Steps) (theta : ℕ) → TrailFits t → Coherent (trail_heard n t theta).nco
unfolding trail_heard
trail_coherent n None theta f = record { trail = first_fits theta }
trail_coherent n (Some s) theta f = ssync_coherent n s theta f

pub word_coherent : (n : Nco) (w : Word) (theta : ℕ) → Coherent n → Coherent (word_heard n w theta).nco
unfolding word_heard
word_coherent n Ssync theta c = trail_coherent n n.trail theta c.trail
word_coherent n Fsync theta c = c
word_coherent n NotFsync theta c = c

-- ---- the ranges
passes : (t : Bool) → T t → t ≡ true
passes true h = refl
passes false h = absurd h

steps_within_lem : (s : Steps) → StepsFit s → steps_in_range s ≡ true
unfolding steps_in_range
steps_within_lem s f =
    let low = le_ud (minus 126701535232) s.sum (omega (arith, ud_le f.low, neg_ud (pos (s.steps * 2 ^ 31)), f.few)) in
    let high = le_ud s.sum (pos 126701535173) (omega (arith, ud_le f.high, f.few)) in
    rw (le-leb s.steps 59 f.few, passes (le_z (minus 126701535232) s.sum) low.le, passes (le_z s.sum (pos 126701535173)) high.le)

pub trail_within_lem : (t : Option Steps) → TrailFits t → trail_in_range t ≡ true
unfolding trail_in_range
trail_within_lem None f = refl
trail_within_lem (Some s) f = steps_within_lem s f

-- ---- refusals of a carrier in range: 6 is for a head's own `amp` alone
pub rotate_not_6 : (n : Nco) (len : ℕ) → nco_in_range n ≡ true → code_of (rotate_refusal n len) ≡ 6 → ⊥
unfolding rotate_refusal
rotate_not_6 n len e = if_both Not6 _ _ _ (if_either Not6 (nco_in_range n) _ _ (λ t z. omega arith) (λ t. absurd (never (sym e ∙ t)))) (λ z. omega arith)
  where
    Not6 : Result ⊤ Refusal → Type 0
    Not6 x = code_of x ≡ 6 → ⊥

pub head_6 : (n : Nco) (h : Head) → nco_in_range n ≡ true → code_of (head_refusal n h) ≡ 6 → wide h.amp ≡ true
unfolding head_refusal given_refusal
head_6 n h e =
    if_either Wide (nco_in_range n) _ _
    (λ t. if_either Wide (wide h.amp) _ _ (λ u z. u) (λ u. if_both Wide _ _ _ (λ z. absurd (seven z)) (λ z. absurd (none z))))
    (λ t. absurd (never (sym e ∙ t)))
  where
    Wide : Result ⊤ Refusal → Type 0
    Wide x = code_of x ≡ 6 → wide h.amp ≡ true

    seven : ◌≡◌ {A = ℕ} 7 6 → ⊥
    seven z = omega arith

    none : ◌≡◌ {A = ℕ} 0 6 → ⊥
    none z = omega arith

-- a head that is refused, and one that is taken
pub head-refused : (n : Nco) (h : Head) → (wide h.amp || leb (2 ^ 62) h.at) ≡ true → head_refusal n h ≡ Ok tt → ⊥
unfolding head_refusal given_refusal
head-refused n h e z =
    let a = ok_yes (nco_in_range n) _ Arithmetic z in
    let b = ok_no (wide h.amp) Arithmetic _ a.1 in
    let c = ok_no (leb (2 ^ 62) h.at) Position (Ok tt) b.1 in
    never (sym e ∙ rw (b.0, c.0))

pub head_taken : (n : Nco) (h : Head) → nco_in_range n ≡ true → (wide h.amp || leb (2 ^ 62) h.at) ≡ false → head_refusal n h ≡ Ok tt
unfolding head_refusal given_refusal
head_taken n h c e = let k = neither (wide h.amp) (leb (2 ^ 62) h.at) e in rw (if_yes _ _ _ c, if_no _ _ _ k.0, if_no _ _ _ k.1)
