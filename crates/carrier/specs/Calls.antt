-- Calls one after another, from a new carrier on.
use Rattle.std.specs.Prelude.{◌≡◌, true, List, [], ◌∷◌, ℕ, ℤ, Result, Ok, Err, IsOk}
use Rattle.refusal.specs.Refusals.{state_after}
use Rattle.refusal.specs.declared.Refusal.TheVariants.{Arithmetic}
use Rattle.refusal.specs.declared.Refused.{Refused}
use Rattle.fx.specs.Answers.{wide}
use Rattle.sync_heads.specs.declared.Head.{Head}
use Rattle.carrier.specs.declared.Nco.{Nco}
use Rattle.carrier.specs.declared.Rotated.{Rotated}
use Rattle.carrier.specs.declared.Heard.{Heard}
use Rattle.carrier.specs.Carrier.{started_nco}
use Rattle.carrier.specs.Ranges.{nco_in_range}
use Rattle.carrier.specs.Answers.{rotate_answer, head_answer, restart_answer}
use Rattle.carrier.specs.Coherent.{Coherent}

-- a symbol's two parts, with the carrier table that is lent; a head; or a restart
pub data Call : Type 0 where
  rotate : ℤ → ℤ → List ℤ → Call
  hear : Head → Call
  restart : Call

-- the carrier that an answer hands back: a refused call's as it was received
abbrev pub rotated_nco : Result Rotated (Refused Nco) → Nco
rotated_nco (Ok x) = x.nco
rotated_nco (Err x) = x.state

abbrev pub heard_nco : Result Heard (Refused Nco) → Nco
heard_nco (Ok x) = x.nco
heard_nco (Err x) = x.state

-- the carrier that a call on n answers
unfoldable pub nco_of : Nco → Call → Nco
nco_of n (rotate xi xq table) = rotated_nco (rotate_answer n xi xq table)
nco_of n (hear h) = heard_nco (head_answer n h)
nco_of n restart = state_after (restart_answer n)

-- .. and after several
unfoldable pub nco_after : Nco → List Call → Nco
nco_after n [] = n
nco_after n (c ∷ cs) = nco_after (nco_of n c) cs

-- ---- what each call makes of a coherent carrier
pub record Keeps : Type 0 where
  -- a start, with any phase and step
  pub started : (phase : ℕ) (freq : ℤ) → Coherent (started_nco phase freq)
  -- an entry's answer, a refusal too
  pub answered : (n : Nco) (c : Call) → Coherent n → Coherent (nco_of n c)
  -- the ranges
  pub in_range : (n : Nco) → Coherent n → nco_in_range n ≡ true

-- ---- what is true of a carrier that came from calls
pub record Sound (n : Nco) : Type 0 where
  pub coherent : Coherent n
  pub in_range : nco_in_range n ≡ true
  -- no symbol finds a number out of range, no head but by its own `amp`, and a restart is taken
  pub rotates : (xi xq : ℤ) (table : List ℤ) (x : Refused Nco) → rotate_answer n xi xq table ≡ Err x → x.why ≡ Arithmetic → ⊥
  pub hears : (h : Head) (x : Refused Nco) → head_answer n h ≡ Err x → x.why ≡ Arithmetic → wide h.amp ≡ true
  pub restarts : IsOk (restart_answer n)

-- .. that is, of any carrier that starts, with any phase and step, and that any calls then leave
abbrev pub CallsKeep : Type 0
CallsKeep = (phase : ℕ) (freq : ℤ) (cs : List Call) → Sound (nco_after (started_nco phase freq) cs)
