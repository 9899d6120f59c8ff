-- Calls one after another, with one slot store.
use Rattle.phase.specs.declared.Held.{Held}
use Rattle.std.specs.Prelude.{ℕ, ◌*◌, ◌<◌, ◌≡◌, List, [], ◌∷◌, ℤ, pos, get_or, Option, None, Some}
use Rattle.angles.specs.declared.Symbol.{Symbol}
use Rattle.refusal.specs.Refusals.{state_after}
use Rattle.sync_heads.specs.declared.Head.{Head}
use Rattle.phase.specs.Phase.{pushed_of, stored_of}
use Rattle.phase.specs.Answers.{push_answer, push_store, head_answer, headed_phase, restart_answer}

-- a symbol, a head, or a restart
pub data Call : Type 0 where
  push : Symbol → Call
  hear : Head → Call
  restart : Call

-- a slot phase and its store
pub record At : Type 0 where
  pub phase : Option Held
  pub store : List ℤ

abbrev pub at : Option Held → List ℤ → At
at s store = record { phase = s; store = store }

-- what a call leaves
unfoldable pub call_of : At → Call → At
call_of s (push x) = at (state_after (push_answer s.phase s.store)) (push_store s.phase x.i x.q s.store)
call_of s (hear h) = at (headed_phase (head_answer s.phase h)) s.store
call_of s restart = at (state_after (restart_answer s.phase)) s.store

-- .. and after several
unfoldable pub after_all : At → List Call → At
after_all s [] = s
after_all s (c ∷ cs) = after_all (call_of s c) cs

-- a slot of which n symbols came
abbrev pub held : Head → ℕ → Option Held
held h n = Some (record { head = h; count = n })

-- accepted symbols, one after another
unfoldable pub pushed_all : At → List Symbol → At
pushed_all s [] = s
pushed_all s (x ∷ xs) = pushed_all (at (pushed_of s.phase) (stored_of s.phase x.i x.q s.store)) xs

-- two stores hold the same where the held slot's symbols stand
abbrev pub AgreeOn : Option Held → List ℤ → List ℤ → Type 0
AgreeOn None a b = Unit {0}
AgreeOn (Some x) a b = (k : ℕ) → k < 2 * x.count → get_or a k (pos 0) ≡ get_or b k (pos 0)
