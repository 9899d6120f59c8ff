-- Ssync heads one after another, by their angles.
use Rattle.std.specs.Prelude.{Bool, ◌||◌, List, [], ◌∷◌, ◌++◌, ℕ, ◌^◌, leb, ℤ, pos, ◌+ℤ◌, Some}
use Rattle.laws.specs.Choice.{when◌then◌else◌}
use Rattle.fx.specs.Answers.{wide}
use Rattle.angles.specs.Angles.{turn_from}
use Rattle.sync_heads.specs.declared.Head.{Head}
use Rattle.sync_heads.specs.declared.Word.{Word}
use Rattle.sync_heads.specs.declared.Word.TheVariants.{Ssync, Fsync, NotFsync}
use Rattle.carrier.specs.declared.Nco.{Nco}
use Rattle.carrier.specs.Carrier.{word_heard}
use Rattle.carrier.specs.Calls.{Call}
use Rattle.carrier.specs.Calls.{rotate, hear, restart}

-- the carrier after Ssync heads of these angles
unfoldable pub nco_heard : Nco → List ℕ → Nco
nco_heard n [] = n
nco_heard n (theta ∷ rest) = nco_heard (word_heard n Ssync theta).nco rest

-- .. and for each whether it has set the step
unfoldable pub sets_heard : Nco → List ℕ → List Bool
sets_heard n [] = []
sets_heard n (theta ∷ rest) = (word_heard n Ssync theta).set ∷ sets_heard (word_heard n Ssync theta).nco rest

-- the sum of the turns from angle to angle, from `last` on
unfoldable pub turns_of : ℕ → List ℕ → ℤ
turns_of last [] = pos 0
turns_of last (theta ∷ rest) = turn_from last theta +ℤ turns_of theta rest

-- the last angle
unfoldable pub last_of : ℕ → List ℕ → ℕ
last_of last [] = last
last_of last (theta ∷ rest) = last_of theta rest

-- a carrier that has heard an Ssync head of angle `last`, and since then has no difference: it was its first, or it has set the step
unfoldable pub since_nco : ℕ → ℤ → ℕ → Nco
since_nco phase freq last = record { phase = phase; freq = freq; trail = Some (record { last_ss = last; sum = pos 0; steps = 0 }) }

-- ---- the angles that calls let a carrier hear: those of the Ssync heads that are not refused
unfoldable pub word_angles : Word → ℕ → List ℕ
word_angles Ssync theta = theta ∷ []
word_angles Fsync theta = []
word_angles NotFsync theta = []

unfoldable pub head_angles : Head → List ℕ
head_angles h = when wide h.amp || leb (2 ^ 62) h.at then [] else word_angles h.word h.theta

unfoldable pub angles_of : List Call → List ℕ
angles_of [] = []
angles_of (rotate xi xq table ∷ cs) = angles_of cs
angles_of (hear h ∷ cs) = head_angles h ++ angles_of cs
angles_of (restart ∷ cs) = angles_of cs

-- symbols and heads only
abbrev pub NoRestart : List Call → Type 0
NoRestart [] = Unit {0}
NoRestart (rotate xi xq table ∷ cs) = NoRestart cs
NoRestart (hear h ∷ cs) = NoRestart cs
NoRestart (restart ∷ cs) = ⊥
