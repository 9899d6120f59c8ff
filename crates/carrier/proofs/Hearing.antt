-- Ssync heads heard one after another: what each makes of the differences, and that the phase has no part in it. Assumes nothing.
use Rattle.std.specs.Prelude.{Option, None, Some, Result}
use Rattle.carrier.specs.declared.Steps.{Steps}
use mathlib.Core.Path.{◌≡◌, refl, sym, ap, ◌∙◌}
use mathlib.Core.Bool.{Bool, true, false}
use mathlib.Core.List.{List, [], ◌∷◌, ◌++◌}
use Prim.Native.Nat.{ℕ, ◌+◌, ◌≤◌, ◌<◌}
use native.Mathlib.Omega.{arith}
use borrow.Author.Tests.{lt-ltb, le-ltb}
use lib.Dec.{ltb}
use lib.IntN.{ℤ, pos, ◌+ℤ◌, +ℤ_idr, +ℤ_assoc}
use lib.ListN.{length, replicate}
use Rattle.laws.proofs.Tests.{by_test}
use Rattle.refusal.proofs.Answered.{answered_both}
use Rattle.refusal.specs.declared.Refused.{Refused}
use Rattle.laws.specs.Choice.{if_yes, if_no}
use Rattle.angles.specs.Angles.{turn_from}
use Rattle.sync_heads.specs.declared.Word.{Word}
use Rattle.sync_heads.specs.declared.Word.TheVariants.{Ssync, Fsync, NotFsync}
use Rattle.carrier.specs.Answers.{rotate_refusal, rotate_answer}
use Rattle.carrier.specs.Calls.{rotated_nco, nco_of}
use Rattle.carrier.specs.Calls.{rotate}
use Rattle.carrier.specs.Carrier.{started_nco, advanced_nco, rotated_of, tuned, since_head, ssync_heard, trail_heard, word_heard}
use Rattle.carrier.specs.Settings.{nco_heard, sets_heard, turns_of, last_of, since_nco, word_angles}
use Rattle.carrier.specs.declared.Heard.{Heard}
use Rattle.carrier.specs.declared.Nco.{Nco}
use Rattle.carrier.specs.declared.Rotated.{Rotated}

-- ---- differences
-- a carrier with k differences of this sum
abbrev pub Counted : ℕ → ℤ → ℕ → ℤ → ℕ → Nco
Counted p f last sum k = record { phase = p; freq = f; trail = Some (record { last_ss = last; sum = sum; steps = k }) }

counts : (p : ℕ) (f : ℤ) (last : ℕ) (z : ℤ) (k theta : ℕ) → k + 1 < 60 →
    word_heard (Counted p f last z k) Ssync theta ≡ record { nco = Counted p f theta (z +ℤ turn_from last theta) (k + 1); set = false }
unfolding word_heard trail_heard ssync_heard
counts p f last z k theta l = if_yes _ _ _ (lt-ltb (k + 1) 60 l)

sets : (p : ℕ) (f : ℤ) (last : ℕ) (z : ℤ) (k theta : ℕ) → 60 ≤ k + 1 →
    word_heard (Counted p f last z k) Ssync theta ≡ record { nco = Counted p (tuned f (z +ℤ turn_from last theta)) theta (pos 0) 0; set = true }
unfolding word_heard trail_heard ssync_heard since_head
sets p f last z k theta l = if_no _ _ _ (le-ltb (k + 1) 60 l)

-- up to 59 of them
pub wait_go : (p : ℕ) (f : ℤ) (last : ℕ) (z : ℤ) (k : ℕ) (rest : List ℕ) → k + length rest ≤ 59 →
    ((nco_heard (Counted p f last z k) rest).freq ≡ f) × (sets_heard (Counted p f last z k) rest ≡ replicate (length rest) false)
unfolding nco_heard sets_heard
wait_go p f last z k [] l = (refl, refl)
wait_go p f last z k (a ∷ rest) l =
    let e = counts p f last z k a (omega arith) in
    let g = wait_go p f a (z +ℤ turn_from last a) (k + 1) rest (omega arith) in
    (ap (λ (x : Heard). (nco_heard x.nco rest).freq) e ∙ g.0, ap (λ (x : Heard). x.set ∷ sets_heard x.nco rest) e ∙ ap (λ (l : List Bool). false ∷ l) g.1)

-- the sixtieth
pub set_go : (p : ℕ) (f : ℤ) (last : ℕ) (z : ℤ) (k a : ℕ) (rest : List ℕ) → k + 1 + length rest ≡ 60 →
    (nco_heard (Counted p f last z k) (a ∷ rest) ≡ Counted p (tuned f (z +ℤ turns_of last (a ∷ rest))) (last_of last (a ∷ rest)) (pos 0) 0)
    × (sets_heard (Counted p f last z k) (a ∷ rest) ≡ replicate (length rest) false ++ (true ∷ []))
unfolding nco_heard sets_heard turns_of last_of
set_go p f last z k a [] l = let e = sets p f last z k a (omega arith) in (ap (λ (x : Heard). x.nco) e ∙ rw (+ℤ_idr (turn_from last a)), ap (λ (x : Heard). x.set ∷ []) e)
set_go p f last z k a (b ∷ bs) l =
    let e = counts p f last z k a (omega arith) in
    let g = set_go p f a (z +ℤ turn_from last a) (k + 1) b bs (omega arith) in (
      ap (λ (x : Heard). nco_heard x.nco (b ∷ bs)) e ∙ g.0 ∙
          ap (λ (y : ℤ). Counted p (tuned f y) (last_of b bs) (pos 0) 0) (+ℤ_assoc z (turn_from last a) (turns_of a (b ∷ bs))),
      ap (λ (x : Heard). x.set ∷ sets_heard x.nco (b ∷ bs)) e ∙ ap (λ (l : List Bool). false ∷ l) g.1,
    )

-- a start, and one Ssync head
pub first-heard : (p : ℕ) (f : ℤ) (theta : ℕ) → word_heard (started_nco p f) Ssync theta ≡ record { nco = since_nco p f theta; set = false }
unfolding word_heard started_nco trail_heard since_nco since_head
first-heard p f theta = refl

-- ---- phases
-- a carrier with another phase
abbrev pub at_phase : ℕ → Nco → Nco
at_phase p n = record { phase = p; freq = n.freq; trail = n.trail }

trail_phase : (p : ℕ) (n : Nco) (t : Option Steps) (theta : ℕ) → (trail_heard (at_phase p n) t theta).nco ≡ at_phase p (trail_heard n t theta).nco
unfolding trail_heard ssync_heard
trail_phase p n None theta = refl
trail_phase p n (Some s) theta =
    by_test (ltb (s.steps + 1) 60)
    (λ e. ap (λ (x : Heard). x.nco) (if_yes _ _ _ e) ∙ sym (ap (λ (x : Heard). at_phase p x.nco) (if_yes _ _ _ e)))
    (λ e. ap (λ (x : Heard). x.nco) (if_no _ _ _ e) ∙ sym (ap (λ (x : Heard). at_phase p x.nco) (if_no _ _ _ e)))

pub heard_phase : (p : ℕ) (n : Nco) (angles : List ℕ) → nco_heard (at_phase p n) angles ≡ at_phase p (nco_heard n angles)
unfolding nco_heard word_heard
heard_phase p n [] = refl
heard_phase p n (a ∷ rest) = ap (λ (m : Nco). nco_heard m rest) (trail_phase p n n.trail a) ∙ heard_phase p (trail_heard n n.trail a).nco rest

-- a symbol changes the phase alone
pub rotate_phase : (n : Nco) (xi xq : ℤ) (table : List ℤ) → nco_of n (rotate xi xq table) ≡ at_phase (nco_of n (rotate xi xq table)).phase n
unfolding nco_of rotate_answer advanced_nco
rotate_phase n xi xq table =
    answered_both (λ (x : Result Rotated (Refused Nco)). rotated_nco x ≡ at_phase (rotated_nco x).phase n)
    (rotate_refusal n (length table)) n (record { nco = advanced_nco n; symbol = rotated_of table n.phase xi xq }) refl (λ why. refl)

-- ---- lists of angles
pub heard_append : (n : Nco) (xs ys : List ℕ) → nco_heard n (xs ++ ys) ≡ nco_heard (nco_heard n xs) ys
unfolding nco_heard
heard_append n [] ys = refl
heard_append n (x ∷ xs) ys = heard_append (word_heard n Ssync x).nco xs ys

pub word_angles_lem : (n : Nco) (w : Word) (theta : ℕ) → (word_heard n w theta).nco ≡ nco_heard n (word_angles w theta)
unfolding nco_heard word_angles
word_angles_lem n Ssync theta = refl
word_angles_lem n Fsync theta = unfold word_heard in refl
word_angles_lem n NotFsync theta = unfold word_heard in refl
