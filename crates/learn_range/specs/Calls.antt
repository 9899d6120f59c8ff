-- Calls one after another, from `new` or from the default on.
use Rattle.std.specs.Prelude.{◌≡◌, true, List, [], ◌∷◌, ℕ, ◌<◌, ℤ, Result, IsErrAnd}
use Rattle.refusal.specs.Refusals.{state_after}
use Rattle.refusal.specs.declared.Refusal.{Refusal}
use Rattle.refusal.specs.declared.Refusal.TheVariants.{Arithmetic}
use Rattle.refusal.specs.declared.Refused.{Refused}
use Rattle.demap.specs.Demap.{scale_of}
use Rattle.learn.specs.declared.Learn.{Learn}
use Rattle.learn.specs.Answers.{bad_best, pilot_answer, noise_answer, points_answer, figure_answer}
use Rattle.learn.specs.Learning.{new_learn}
use Rattle.learn.specs.Ranges.{learn_in_range}
use Rattle.in_force.specs.declared.InForce.{InForce}
use Rattle.in_force.specs.Answers.{next_answer}
use Rattle.in_force.specs.InForce.{default_force, force_in_range}
use Rattle.learn_range.specs.Coherent.{Coherent, Part}

-- ---- a pilot, by bits and index, or a noise sample; `points` and `n0` leave the state as it is
pub data Call : Type 0 where
  pilot : ℕ → ℕ → ℤ → ℤ → Call
  noise : ℤ → ℤ → ℤ → Call

-- what a call leaves
unfoldable pub learn_of : Learn → Call → Learn
learn_of l (pilot bits t zi zq) = state_after (pilot_answer l bits t zi zq)
learn_of l (noise yi yq best) = state_after (noise_answer l yi yq best)

-- .. and after several
unfoldable pub learn_after : Learn → List Call → Learn
learn_after l [] = l
learn_after l (c ∷ cs) = learn_after (learn_of l c) cs

-- what is asked of a call: symbols of 16-bit numbers; bits, index and `best` may be any
abbrev pub CallFits : Call → Type 0
CallFits (pilot bits t zi zq) = Part zi × Part zq
CallFits (noise yi yq best) = Part yi × Part yq

abbrev pub CallsFit : List Call → Type 0
CallsFit [] = Unit {0}
CallsFit (c ∷ cs) = CallFits c × CallsFit cs

-- ---- what is true of a `Learn` that came from calls
-- an answer is this refusal
abbrev pub RefusedFor : {T S : Type 0} → Result T (Refused S) → Refusal → Type 0
RefusedFor answer why = IsErrAnd answer (λ refused. refused.why ≡ why)

pub record Sound (l : Learn) : Type 0 where
  pub coherent : Coherent l
  pub in_range : learn_in_range l ≡ true
  -- 6 comes of the arguments alone
  pub pilots : (bits t : ℕ) (zi zq : ℤ) → RefusedFor (pilot_answer l bits t zi zq) Arithmetic → 31 < t
  pub noises : (yi yq best : ℤ) → RefusedFor (noise_answer l yi yq best) Arithmetic → bad_best best ≡ true
  pub points : (bits : ℕ) (learned : List ℤ) → RefusedFor (points_answer l bits learned) Arithmetic → ⊥
  pub figure : RefusedFor (figure_answer l) Arithmetic → ⊥

abbrev pub CallsKeep : Type 0
CallsKeep = (cs : List Call) → CallsFit cs → Sound (learn_after new_learn cs)

-- ---- frames one after another, each with what it learned, its number and the slice that is lent
pub record Next : Type 0 where
  pub learn : Learn
  pub frame : ℕ
  pub slice : List ℤ

unfoldable pub force_after : InForce → List Next → InForce
force_after f [] = f
force_after f (n ∷ ns) = force_after (state_after (next_answer f n.learn n.frame n.slice)).in_force ns

abbrev pub AllCoherent : List Next → Type 0
AllCoherent [] = Unit {0}
AllCoherent (n ∷ ns) = Coherent n.learn × AllCoherent ns

-- what is in force after any frames that learned by calls is in range, with the scale of its noise figure, and the next such frame is not
-- refused with 6
pub record ForceSound (f : InForce) : Type 0 where
  pub in_range : force_in_range f ≡ true
  pub scaled : f.k ≡ scale_of f.n0
  pub nexts : (l : Learn) (frame : ℕ) (slice : List ℤ) → Coherent l → RefusedFor (next_answer f l frame slice) Arithmetic → ⊥

abbrev pub FramesKeep : Type 0
FramesKeep = (ns : List Next) → AllCoherent ns → ForceSound (force_after default_force ns)
