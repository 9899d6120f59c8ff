-- What calls learn, what the learned points are, and which points are in force. Each statement stands above its proof; the parts that are long
-- are in Kept and Parts. The number of bits is left open throughout. Assumes nothing.
use Rattle.std.specs.Prelude.{None, Some, Result, Ok, Err, IsOkAnd, ⊤}
use mathlib.Core.Bool.{Bool, true, false, not, ◌&&◌, ◌||◌}
use mathlib.Core.List.{List, [], ◌∷◌, append-nil}
use mathlib.Core.Logic.{inl, inr}
use mathlib.Core.Path.{◌≡◌, refl, sym, ap, ◌∙◌}
use Prim.Native.Nat.{ℕ, suc, ◌+◌, ◌-◌, ◌*◌, ◌/◌, ◌^◌, ◌≤◌, ◌<◌}
use native.Mathlib.Nat.{pow-suc}
use native.Mathlib.Omega.{arith}
use borrow.Author.Tests.{ltb-true, lt-ltb, le-ltb, eq-eqb, eqb-false}
use lib.Dec.{T, eqb, leb, ltb}
use lib.IntN.{ℤ, pos, nat_abs, ◌+ℤ◌}
use lib.ListN.{length, get_or}
use lib.Signed.{le_z, ◌≤ℤ◌, le_z_yes}
use Rattle.laws.proofs.Floor.{IsFloor, floor_is}
use Rattle.laws.proofs.Linear.{le_ud, size_ud}
use Rattle.laws.proofs.Lists.{getD-firsts}
use Rattle.laws.proofs.Tests.{never, and_both, if_both, if_either, if_ap, if_cong}
use Rattle.laws.specs.Choice.{when◌then◌else◌, if_yes, if_no, minus}
use Rattle.laws.specs.Ranges.{firsts}
use Rattle.fx.proofs.Theorems.{Saturates, sat16_theorem}
use Rattle.fx.specs.Fx.{div_round, sat16_of}
use Rattle.refusal.proofs.Answered.{answered_either, answered_both}
use Rattle.refusal.specs.Refusals.{code_of, answered, written, state_after}
use Rattle.refusal.specs.declared.Refusal.{Refusal}
use Rattle.refusal.specs.declared.Refusal.TheVariants.{Points, Arithmetic, Counts}
use Rattle.refusal.specs.declared.Refused.{Refused}
use Rattle.demap.proofs.Blocks.{part_long}
use Rattle.demap.proofs.Theorems.{scale_theorem}
use Rattle.demap.specs.Demap.{scale_of}
use Rattle.learn.proofs.Between.{mean_low, mean_high}
use Rattle.learn.proofs.Laws.{labels_few, place_below, piloted_at_lem, all_of, pilot_taken, noise_taken, points_taken}
use Rattle.learn.specs.Answers.{bad_best, pilot_refusal, pilot_answer, noise_refusal, noise_answer, points_refusal, points_answer, points_slice, figured, figure_answer}
use Rattle.learn.specs.Learning.{sum_at, count_at, new_learn, all_piloted, set_learned, mean_of, mean_at, set_means, learned_slice, mean_noise}
use Rattle.learn.specs.Ranges.{learn_in_range}
use Rattle.learn.specs.Sets.{Bits, bad_bits, place_of, first_place, set_start, set_size, set_of}
use Rattle.learn.specs.declared.Figured.{Figured}
use Rattle.learn.specs.declared.Learn.{Learn}
use Rattle.in_force.proofs.Laws.{next_taken, sets_taken}
use Rattle.in_force.specs.Answers.{next_refusal, next_answer, next_slice, sets_refusal, points_in_force}
use Rattle.in_force.specs.InForce.{default_force, set_flags, slices_learned, noise_after, renewed_of, force_in_range}
use Rattle.in_force.specs.declared.InForce.{InForce}
use Rattle.in_force.specs.declared.Renewed.{Renewed}
use Rattle.learn_range.specs.Calls.{Call, learn_of, learn_after, CallFits, CallsFit, Sound, CallsKeep, RefusedFor, Next, force_after, AllCoherent, FramesKeep}
use Rattle.learn_range.specs.Calls.{pilot, noise}
use Rattle.learn_range.specs.Coherent.{From, Part, Coherent}
use Rattle.learn_range.proofs.Kept.{passes, new_coherent, piloted-coherent, sampled_coherent, coherent_in_range, sum_first, sum-second, sum-other, count-here, count-other}
use Rattle.learn_range.proofs.Parts.{part_ext, part_firsts, set_fits, learned-long, learned-else, learned-here, slices-long, slices-here, slices-kept}

-- ---- THE SETS stand one behind the other, from 0 on, and end at 124: they start at 0, 4, 12, 28 and 60
pub sets_theorem : (bits : ℕ) → Bits bits → (set_start 1 ≡ 0) × (set_start (suc bits) ≡ set_start bits + set_size bits) × (set_start 6 ≡ 124)
sets_theorem bits b = (refl, omega (arith, labels_few bits b, pow-suc 2 bits), refl)

pub starts_theorem : (set_start 1 ≡ 0) × (set_start 2 ≡ 4) × (set_start 3 ≡ 12) × (set_start 4 ≡ 28) × (set_start 5 ≡ 60)
starts_theorem = (refl, refl, refl, refl, refl)

-- ---- COHERENT: a call of a coherent `Learn`, refused or not, leaves a coherent one
pub answer_coherent : (l : Learn) (c : Call) → Coherent l → CallFits c → Coherent (learn_of l c)
unfolding learn_of pilot_answer noise_answer
answer_coherent l (pilot bits t zi zq) c f =
    answered_either (λ r. Coherent (state_after r)) (pilot_refusal l bits t) l _
    (λ e. let k = pilot_taken l bits t e in piloted-coherent l (place_of bits t) zi zq c (place_below bits t k.bits_ok) k.room f.0 f.1)
    (λ why e. c)
answer_coherent l (noise yi yq best) c f =
    answered_either (λ r. Coherent (state_after r)) (noise_refusal l best) l _
    (λ e. let k = noise_taken l best e in sampled_coherent l yi yq best c k.room f.0 f.1 k.best_ok)
    (λ why e. c)

pub answers_coherent : (l : Learn) (cs : List Call) → Coherent l → CallsFit cs → Coherent (learn_after l cs)
unfolding learn_after
answers_coherent l [] c f = c
answers_coherent l (a ∷ cs) c f = answers_coherent (learn_of l a) cs (answer_coherent l a c f.0) f.1

-- what refuses with this is its test, and neither an accepted one nor another refusal is it
by_its_test : {T S : Type 0} (r : Result ⊤ Refusal) (s : S) (a : T) → RefusedFor (answered r s a) Arithmetic → r ≡ Err Arithmetic
by_its_test (Ok x) s a h = absurd h
by_its_test (Err why) s a h = ap (λ (x : Refusal). Err x) h

six : (r : Result ⊤ Refusal) → r ≡ Err Arithmetic → code_of r ≡ 6
six r e = ap (λ (x : Result ⊤ Refusal). code_of x) e

not_taken : ◌≡◌ {A = Result ⊤ Refusal} (Ok tt) (Err Arithmetic) → ⊥
not_taken e = let n : ◌≡◌ {A = ℕ} 0 6 = six (Ok tt) e in omega (arith, n)

not_points : ◌≡◌ {A = Result ⊤ Refusal} (Err Points) (Err Arithmetic) → ⊥
not_points e = let n : ◌≡◌ {A = ℕ} 4 6 = six (Err Points) e in omega (arith, n)

not_counts : ◌≡◌ {A = Result ⊤ Refusal} (Err Counts) (Err Arithmetic) → ⊥
not_counts e = let n : ◌≡◌ {A = ℕ} 8 6 = six (Err Counts) e in omega (arith, n)

-- in range, 6 comes of the arguments alone
pilot_6 : (l : Learn) (bits t : ℕ) → learn_in_range l ≡ true → pilot_refusal l bits t ≡ Err Arithmetic → 31 < t
unfolding pilot_refusal
pilot_6 l bits t e =
    let P : Result ⊤ Refusal → Type 0 = λ x. x ≡ Err Arithmetic → 31 < t in
    if_both P (bad_bits bits) (Err Points) _ (λ z. absurd (not_points z))
    (if_either P (learn_in_range l) _ (Err Arithmetic)
    (λ q.
    if_either P (ltb 31 t) (Err Arithmetic) _ (λ r z. ltb-true 31 t r)
    (λ r. if_both P (leb 67108864 (count_at l.count (place_of bits t))) (Err Counts) (Ok tt) (λ z. absurd (not_counts z)) (λ z. absurd (not_taken z))))
    (λ q. absurd (never (sym e ∙ q))))

noise_6 : (l : Learn) (best : ℤ) → learn_in_range l ≡ true → noise_refusal l best ≡ Err Arithmetic → bad_best best ≡ true
unfolding noise_refusal
noise_6 l best e =
    let P : Result ⊤ Refusal → Type 0 = λ x. x ≡ Err Arithmetic → bad_best best ≡ true in
    if_either P (learn_in_range l) _ (Err Arithmetic)
    (λ q.
    if_either P (bad_best best) (Err Arithmetic) _ (λ r z. r)
    (λ r. if_both P (leb 67108864 l.samples) (Err Counts) (Ok tt) (λ z. absurd (not_counts z)) (λ z. absurd (not_taken z))))
    (λ q. absurd (never (sym e ∙ q)))

points_6 : (l : Learn) (bits len : ℕ) → learn_in_range l ≡ true → points_refusal l bits len ≡ Err Arithmetic → ⊥
unfolding points_refusal
points_6 l bits len e =
    let P : Result ⊤ Refusal → Type 0 = λ x. x ≡ Err Arithmetic → ⊥ in
    if_both P (not (eqb len 124) || bad_bits bits) (Err Points) _ not_points
    (if_either P (learn_in_range l) (Ok tt) (Err Arithmetic) (λ q. not_taken) (λ q. absurd (never (sym e ∙ q))))

-- the noise figure that is answered: the mean, if there is a sample
pub figure_theorem : (l : Learn) → Coherent l → figure_answer l ≡ (when eqb l.samples 0 then figured l None else figured l (Some (mean_noise l)))
unfolding figure_answer
figure_theorem l c = if_yes (learn_in_range l) _ _ (coherent_in_range l c)

figure_6 : (l : Learn) → Coherent l → RefusedFor (figure_answer l) Arithmetic → ⊥
figure_6 l c =
    rw (figure_theorem l c)
    (if_both (λ (x : Result Figured (Refused Learn)). RefusedFor x Arithmetic → ⊥) (eqb l.samples 0) (figured l None) (figured l (Some (mean_noise l))) (λ z. z) (λ z. z))

pub sound : (l : Learn) → Coherent l → Sound l
unfolding pilot_answer noise_answer points_answer
sound l c =
    let e = coherent_in_range l c in
    record {
      coherent = c;
      in_range = e;
      pilots = λ bits t zi zq h. pilot_6 l bits t e (by_its_test (pilot_refusal l bits t) l _ h);
      noises = λ yi yq best h. noise_6 l best e (by_its_test (noise_refusal l best) l _ h);
      points = λ bits learned h. points_6 l bits (length learned) e (by_its_test (points_refusal l bits (length learned)) l _ h);
      figure = figure_6 l c;
    }

-- ---- CALLS: whatever is learned by calls from `new` on is coherent and in range, and no call finds a number of it out of range
pub calls_keep : CallsKeep
calls_keep cs f = sound (learn_after new_learn cs) (answers_coherent new_learn cs new_coherent f)

-- ---- A PILOT adds to the two sums and the count of its own label, and to nothing else
pub record Added (l m : Learn) (a : ℕ) (zi zq : ℤ) : Type 0 where
  pub first : sum_at m.sum (2 * a) ≡ sum_at l.sum (2 * a) +ℤ zi
  pub second : sum_at m.sum (2 * a + 1) ≡ sum_at l.sum (2 * a + 1) +ℤ zq
  pub count : count_at m.count a ≡ count_at l.count a + 1
  pub other_sums : (i : ℕ) → (i / 2 ≡ a → ⊥) → sum_at m.sum i ≡ sum_at l.sum i
  pub other_counts : (b : ℕ) → (b ≡ a → ⊥) → count_at m.count b ≡ count_at l.count b

pub pilot_theorem : (l : Learn) (bits t : ℕ) (zi zq : ℤ) → Coherent l → pilot_refusal l bits t ≡ Ok tt →
    Added l (state_after (pilot_answer l bits t zi zq)) (place_of bits t) zi zq
unfolding pilot_answer
pilot_theorem l bits t zi zq c e =
    let h = place_below bits t (pilot_taken l bits t e).bits_ok in
    let a = place_of bits t in
    rw e
    (record {
      first = sum_first l a zi zq c h;
      second = sum-second l a zi zq c h;
      count = count-here l a zi zq c h;
      other_sums = sum-other l a zi zq c h;
      other_counts = count-other l a zi zq c h;
    })

-- ---- A SET IS LEARNED where every label of it has a pilot, and nowhere else
pub learned_theorem : (l : Learn) (bits : ℕ) → set_learned l bits ≡ true → (a : ℕ) → a < 2 ^ bits → 0 < count_at l.count (first_place bits + a)
unfolding set_learned
learned_theorem l bits e a h = piloted_at_lem l.count (first_place bits) (2 ^ bits) a e h

pub learned_if : (l : Learn) (bits : ℕ) → ((a : ℕ) → a < 2 ^ bits → 0 < count_at l.count (first_place bits + a)) → set_learned l bits ≡ true
unfolding set_learned all_piloted
learned_if l bits h =
    all_of (λ (i : ℕ). ltb 0 (count_at l.count (first_place bits + i))) (2 ^ bits)
    (λ a k. lt-ltb 0 (count_at l.count (first_place bits + a)) (h a k))

-- ---- A MEAN of n numbers, rounded: the floor of (2 sum + n) / 2n, as a 16-bit number
pub record IsMean (sum : ℤ) (n : ℕ) (v : ℤ) : Type 0 where
  pub quotient : ℤ
  pub floor : IsFloor (sum +ℤ sum +ℤ pos n) (2 * n) quotient
  pub saturated : Saturates (minus 32768) (pos 32767) quotient v

pub mean_theorem : (sum : ℤ) (n : ℕ) → 0 < n → IsMean sum n (mean_of sum n)
unfolding mean_of div_round
mean_theorem sum n h =
    record {
      quotient = div_round sum (pos n);
      floor = floor_is (sum +ℤ sum +ℤ pos n) (2 * n) (omega arith);
      saturated = sat16_theorem (div_round sum (pos n));
    }

-- a half goes up: of two numbers of sum -3 the mean is -1
pub half_theorem : mean_of (minus 3) 2 ≡ minus 1
unfolding mean_of div_round sat16_of when◌then◌else◌
half_theorem = refl

-- the saturation does nothing where the numbers are of 16 bits: their mean is of 16 bits too
pub exact_theorem : (sum : ℤ) (n : ℕ) → 0 < n → From (n * 2 ^ 15) (n * (2 ^ 15 - 1)) sum →
    IsFloor (sum +ℤ sum +ℤ pos n) (2 * n) (mean_of sum n) × Part (mean_of sum n)
exact_theorem sum n h f =
    let low = mean_low sum n (2 ^ 15) h f.low in
    let high = mean_high sum n (2 ^ 15 - 1) h f.high in
    let e : mean_of sum n ≡ div_round sum (pos n) = same ((sat16_theorem (div_round sum (pos n))).inside low high) in
    rw e (floored, record { low = low; high = high })
  where
    same : sat16_of (div_round sum (pos n)) ≡ div_round sum (pos n) → mean_of sum n ≡ div_round sum (pos n)
    same e = unfold mean_of in e

    floored : IsFloor (sum +ℤ sum +ℤ pos n) (2 * n) (div_round sum (pos n))
    floored = unfold div_round in floor_is (sum +ℤ sum +ℤ pos n) (2 * n) (omega arith)

-- ---- THE POINTS of a set that is asked for: if the call is taken and the set is learned, its part of the slice holds the means of its labels,
-- and the rest of the slice is as it was
pub record Put (s n : ℕ) (f : ℕ → ℤ) (before after : List ℤ) : Type 0 where
  pub long : length after ≡ length before
  pub inside : (i : ℕ) → i < n → get_or after (s + i) (pos 0) ≡ f (s + i)
  pub below : (j : ℕ) → j < s → get_or after j (pos 0) ≡ get_or before j (pos 0)
  pub above : (j : ℕ) → s + n ≤ j → get_or after j (pos 0) ≡ get_or before j (pos 0)

pub points_theorem : (l : Learn) (bits : ℕ) (learned : List ℤ) → points_refusal l bits (length learned) ≡ Ok tt → set_learned l bits ≡ true →
    Put (set_start bits) (set_size bits) (mean_at l.sum l.count) learned (points_slice l bits learned)
unfolding points_slice
points_theorem l bits learned e t =
    let k = points_taken l bits (length learned) e in
    rw e
    (record {
      long = learned-long l bits learned k.bits_ok k.long ∙ sym k.long;
      inside = learned-here l bits learned k.bits_ok k.long t;
      below = λ j h. learned-else l bits learned k.bits_ok k.long j (inl h);
      above = λ j h. learned-else l bits learned k.bits_ok k.long j (inr h);
    })

-- .. otherwise all of it is as it was
pub points_kept : (l : Learn) (bits : ℕ) (learned : List ℤ) → set_learned l bits ≡ false → points_slice l bits learned ≡ learned
unfolding points_slice learned_slice
points_kept l bits learned t =
    kept (points_refusal l bits (length learned)) learned (learned_slice l bits learned) (if_no (set_learned l bits) _ learned t)
  where
    kept : (r : Result ⊤ Refusal) (xs ys : List ℤ) → ys ≡ xs → written r xs ys ≡ xs
    kept (Ok x) xs ys h = h
    kept (Err why) xs ys h = refl

-- .. and number i of a learned set, of a `Learn` that came from calls, is the rounded mean of its label's pilots
pub set_theorem : (l : Learn) (bits : ℕ) → Coherent l → Bits bits → set_learned l bits ≡ true → (i : ℕ) → i < set_size bits →
    let j = set_start bits + i in
    let n = count_at l.count (j / 2) in
    (0 < n) × IsFloor (sum_at l.sum j +ℤ sum_at l.sum j +ℤ pos n) (2 * n) (mean_at l.sum l.count j) × Part (mean_at l.sum l.count j)
unfolding mean_at
set_theorem l bits c b t i h =
    let j = set_start bits + i in
    let e : j / 2 ≡ first_place bits + i / 2 = omega (arith, labels_few bits b) in
    let n : 0 < count_at l.count (j / 2) = rw e (learned_theorem l bits t (i / 2) (omega arith)) in
    let m = exact_theorem (sum_at l.sum j) (count_at l.count (j / 2)) n (c.sums j (omega (arith, set_fits bits b))) in
    (n, m.0, m.1)

-- ---- THE NOISE FIGURE of a `Learn` that came from calls is the rounded mean of its samples, from -2^33 to 2^33 + 2^31
pub noise_theorem : (l : Learn) → Coherent l → 0 < l.samples →
    IsFloor (l.noise +ℤ l.noise +ℤ pos l.samples) (2 * l.samples) (mean_noise l) × From (2 ^ 33) (2 ^ 33 + 2 ^ 31) (mean_noise l)
unfolding mean_noise
noise_theorem l c h =
    (floored, record { low = mean_low l.noise l.samples (2 ^ 33) h c.noise.low; high = mean_high l.noise l.samples (2 ^ 33 + 2 ^ 31) h c.noise.high })
  where
    floored : IsFloor (l.noise +ℤ l.noise +ℤ pos l.samples) (2 * l.samples) (div_round l.noise (pos l.samples))
    floored = unfold div_round in floor_is (l.noise +ℤ l.noise +ℤ pos l.samples) (2 * l.samples) (omega arith)

-- ---- IN FORCE before the first frame: the noise figure 52,556 has the scale 81,722
pub default_theorem : (default_force.n0 ≡ pos 52556) × (default_force.k ≡ pos 81722)
unfolding default_force scale_of div_round when◌then◌else◌
default_theorem = (refl, refl)

-- ---- FRAMES: after any frames that learned by calls the numbers in force are in range, and such a frame is not refused with 6
tests : (f : InForce) → From (2 ^ 33) (2 ^ 33 + 2 ^ 31) f.n0 → (pos 0 ≤ℤ f.k) × (nat_abs f.k ≤ 2 ^ 24) → force_in_range f ≡ true
unfolding force_in_range
tests f n k =
    rw (
      passes (le_z (minus (2 ^ 33)) f.n0) n.low.le,
      passes (le_z f.n0 (pos (2 ^ 33 + 2 ^ 31))) n.high.le,
      passes (le_z (pos 0) f.k) k.0.le,
      passes (le_z f.k (pos (2 ^ 24))) (le_ud f.k (pos (2 ^ 24)) (omega (arith, size_ud f.k, k.1))).le,
    )

default_in_range : force_in_range default_force ≡ true
unfolding default_force
default_in_range = tests default_force (record { low = record { le = tt }; high = record { le = tt } }) (scale_theorem (pos 52556))

figure_in_range : (f : InForce) → force_in_range f ≡ true → From (2 ^ 33) (2 ^ 33 + 2 ^ 31) f.n0
unfolding force_in_range
figure_in_range f e =
    let a = le_z (minus (2 ^ 33)) f.n0 in
    let b = le_z f.n0 (pos (2 ^ 33 + 2 ^ 31)) in
    let p = and_both (a && b && le_z (pos 0) f.k) (le_z f.k (pos (2 ^ 24))) e in
    let q = and_both (a && b) (le_z (pos 0) f.k) p.0 in
    let r = and_both a b q.0 in
    record { low = le_z_yes (holds a r.0); high = le_z_yes (holds b r.1) }
  where
    holds : (t : Bool) → t ≡ true → T t
    holds true e = tt
    holds false e = absurd (never (sym e))

renewed_in_range : (f : InForce) (l : Learn) (frame : ℕ) → force_in_range f ≡ true → Coherent l → force_in_range (renewed_of f l frame) ≡ true
unfolding renewed_of noise_after
renewed_in_range f l frame e c =
    tests (renewed_of f l frame)
    (if_either (From (2 ^ 33) (2 ^ 33 + 2 ^ 31)) (eqb l.samples 0) f.n0 (mean_noise l) (λ t. figure_in_range f e)
    (λ t. (noise_theorem l c (above l.samples (eqb-false l.samples 0 t))).1))
    (scale_theorem (noise_after l f.n0))
  where
    above : (n : ℕ) → (n ≡ 0 → ⊥) → 0 < n
    above n h = omega arith

pub next_in_range : (f : InForce) (l : Learn) (frame : ℕ) (slice : List ℤ) → force_in_range f ≡ true → Coherent l →
    force_in_range (state_after (next_answer f l frame slice)).in_force ≡ true
unfolding next_answer
next_in_range f l frame slice e c =
    answered_both (λ (r : Result Renewed (Refused Renewed)). force_in_range (state_after r).in_force ≡ true) (next_refusal f l (length slice)) _ _ (renewed_in_range f l frame e c) (λ why. e)

next_6 : (f : InForce) (l : Learn) (len : ℕ) → force_in_range f ≡ true → learn_in_range l ≡ true → next_refusal f l len ≡ Err Arithmetic → ⊥
unfolding next_refusal
next_6 f l len e c =
    let P : Result ⊤ Refusal → Type 0 = λ x. x ≡ Err Arithmetic → ⊥ in
    if_both P (eqb len 124) _ (Err Points)
    (if_either P (force_in_range f) _ (Err Arithmetic)
    (λ q. if_either P (learn_in_range l) (Ok tt) (Err Arithmetic) (λ r. not_taken) (λ r. absurd (never (sym c ∙ r))))
    (λ q. absurd (never (sym e ∙ q))))
    not_points

frames_in_range : (f : InForce) (ns : List Next) → force_in_range f ≡ true → AllCoherent ns → force_in_range (force_after f ns) ≡ true
unfolding force_after
frames_in_range f [] e c = e
frames_in_range f (n ∷ ns) e c = frames_in_range (state_after (next_answer f n.learn n.frame n.slice)).in_force ns (next_in_range f n.learn n.frame n.slice e c.0) c.1

frames_scaled : (f : InForce) (ns : List Next) → f.k ≡ scale_of f.n0 → (force_after f ns).k ≡ scale_of (force_after f ns).n0
unfolding force_after next_answer renewed_of
frames_scaled f [] e = e
frames_scaled f (n ∷ ns) e =
    frames_scaled (state_after (next_answer f n.learn n.frame n.slice)).in_force ns
    (answered_both (λ (r : Result Renewed (Refused Renewed)). (state_after r).in_force.k ≡ scale_of (state_after r).in_force.n0) (next_refusal f n.learn (length n.slice)) _ _ refl (λ why. e))

default_scaled : default_force.k ≡ scale_of default_force.n0
unfolding default_force
default_scaled = refl

pub frames_keep : FramesKeep
unfolding next_answer
frames_keep ns c =
    let f = force_after default_force ns in
    let e = frames_in_range default_force ns default_in_range c in
    record {
      in_range = e;
      scaled = frames_scaled default_force ns default_scaled;
      nexts = λ l frame slice d h.
          next_6 f l (length slice) e (coherent_in_range l d) (by_its_test (next_refusal f l (length slice)) _ _ h);
    }

-- ---- THE CHOOSER gives 2^bits points, or the refusal of its test
pub part_theorem : (learned nominal : List ℤ) (flags : List Bool) (bits : ℕ) → sets_refusal (length learned) (length nominal) bits ≡ Ok tt →
    IsOkAnd (points_in_force learned nominal flags bits) (λ part. length part ≡ 2 * 2 ^ bits)
unfolding points_in_force set_of
part_theorem learned nominal flags bits e =
    let k = sets_taken (length learned) (length nominal) bits e in
    let fits = set_fits bits k.bits_ok in
    rw e
    (if_both (λ (xs : List ℤ). length (set_of bits xs) ≡ 2 * 2 ^ bits) (get_or flags (bits - 1) false) learned nominal
    (part_long (set_start bits) (set_size bits) learned (rw k.learned_long fits)) (part_long (set_start bits) (set_size bits) nominal (rw k.nominal_long fits)))

pub empty_theorem : (learned nominal : List ℤ) (flags : List Bool) (bits : ℕ) (why : Refusal) → sets_refusal (length learned) (length nominal) bits ≡ Err why →
    points_in_force learned nominal flags bits ≡ Err why
unfolding points_in_force
empty_theorem learned nominal flags bits why n = rw n

-- ---- WHICH POINTS are in force after a frame that is taken: of a set that is learned on it the means, of any other the nominal points,
-- whatever was learned before
no_refusal : (m n bits : ℕ) → m ≡ 124 → n ≡ 124 → Bits bits → sets_refusal m n bits ≡ Ok tt
unfolding sets_refusal
no_refusal m n bits h k b =
    if_no _ (Err Points) (Ok tt) (rw (eq-eqb m 124 h, eq-eqb n 124 k, le-ltb bits 1 b.some, le-ltb 5 bits b.few))

flag_is : (l : Learn) (bits : ℕ) → Bits bits → get_or (set_flags l) (bits - 1) false ≡ set_learned l bits
unfolding set_flags
flag_is l bits b =
    let f : ℕ → Bool = λ (i : ℕ). set_learned l (i + 1) in
    ap (λ (xs : List Bool). get_or xs (bits - 1) false) (sym (append-nil (firsts f 5)))
    ∙ getD-firsts f false 5 [] (bits - 1) (omega (arith, b)) ∙ ap (set_learned l) (back (bits) b.some)
  where
    back : (n : ℕ) → 1 ≤ n → n - 1 + 1 ≡ n
    back n h = omega arith

means_there : (l : Learn) (learned : List ℤ) (bits : ℕ) → length learned ≡ 124 → Bits bits → set_learned l bits ≡ true →
    set_of bits (slices_learned l 5 learned) ≡ set_means l bits
unfolding set_of set_means
means_there l learned bits h b t =
    part_firsts (set_start bits) (set_size bits) (slices_learned l 5 learned) (mean_at l.sum l.count)
    (rw (slices-long l 5 learned (omega arith) h) (set_fits bits b))
    (slices-here l 5 learned (omega arith) h bits b b.few t)

in_force : (l : Learn) (learned nominal : List ℤ) (bits : ℕ) → length learned ≡ 124 → length nominal ≡ 124 → Bits bits →
    points_in_force (slices_learned l 5 learned) nominal (set_flags l) bits ≡ Ok (when set_learned l bits then set_means l bits else set_of bits nominal)
unfolding points_in_force
in_force l learned nominal bits h k b =
    let xs = slices_learned l 5 learned in
    rw (no_refusal (length xs) (length nominal) bits (slices-long l 5 learned (omega arith) h) k b, flag_is l bits b)
    (ap (λ (ys : List ℤ). Ok ys)
    (if_ap (set_of bits) (set_learned l bits) xs nominal
    ∙ if_cong (set_learned l bits) (set_of bits xs) (set_of bits nominal) (set_means l bits) (set_of bits nominal) (means_there l learned bits h b) (λ t. refl)))

pub force_theorem : (f : InForce) (l : Learn) (frame : ℕ) (learned nominal : List ℤ) (bits : ℕ) → next_refusal f l (length learned) ≡ Ok tt →
    length nominal ≡ 124 → Bits bits →
    points_in_force (next_slice f l learned) nominal (state_after (next_answer f l frame learned)).in_force.learned bits
    ≡ Ok (when set_learned l bits then set_means l bits else set_of bits nominal)
unfolding next_slice next_answer renewed_of
force_theorem f l frame learned nominal bits e h b =
    rw e (in_force l learned nominal bits (next_taken f l (length learned) e).long h b)

-- .. and the slice keeps the part of a set that is not learned
pub slice_theorem : (f : InForce) (l : Learn) (learned : List ℤ) (bits : ℕ) → next_refusal f l (length learned) ≡ Ok tt → Bits bits →
    set_of bits (next_slice f l learned) ≡ (when set_learned l bits then set_means l bits else set_of bits learned)
unfolding next_slice
slice_theorem f l learned bits e b =
    let h = (next_taken f l (length learned) e).long in
    let xs = slices_learned l 5 learned in
    rw e
    (if_either (λ (ys : List ℤ). set_of bits xs ≡ ys) (set_learned l bits) (set_means l bits) (set_of bits learned) (means_there l learned bits h b)
    (λ t. kept h t))
  where
    kept : length learned ≡ 124 → set_learned l bits ≡ false → set_of bits (slices_learned l 5 learned) ≡ set_of bits learned
    kept h t =
        unfold set_of in
        part_ext (set_start bits) (set_size bits) (slices_learned l 5 learned) learned (rw (slices-long l 5 learned (omega arith) h) (set_fits bits b)) (rw h (set_fits bits b))
        (slices-kept l 5 learned (omega arith) h bits b b.few t)
