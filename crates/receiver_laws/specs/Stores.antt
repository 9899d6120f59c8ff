-- "The slot store holding anything": what it holds matters only up to what was pushed since the head.
use Rattle.phase.specs.declared.Held.{Held}
use Rattle.std.specs.Prelude.{ℕ, List, ◌≡◌, ℤ, length, Option}
use Rattle.phase_range.specs.Calls.{AgreeOn}
use Rattle.receiver.specs.declared.Receiver.{Receiver}
use Rattle.receiver.specs.Symbol.{Input, Lent}
use Rattle.receiver.specs.Answers.{receiver_left, symbol_answer, symbol_lent, symbol_refusal}

-- two slot stores that hold the same where the held slot's symbols stand
pub record Agree (s : Option Held) (a b : List ℤ) : Type 0 where
  pub first : length a ≡ 18592
  pub second : length b ≡ 18592
  pub held : AgreeOn s a b

-- one lent store for the other
abbrev pub lent : List ℕ → List ℤ → List ℤ → Lent
lent acc soft store = record { acc = acc; store = store; soft = soft }

-- a symbol's call with either is refused or accepted alike, is answered alike, and leaves the same but for the stores, which agree again
pub record Alike (r : Receiver) (x : Input) (acc : List ℕ) (soft a b : List ℤ) : Type 0 where
  pub refusal : symbol_refusal r x (lent acc soft a) ≡ symbol_refusal r x (lent acc soft b)
  pub answer : symbol_answer r x (lent acc soft a) ≡ symbol_answer r x (lent acc soft b)
  pub acc_is : (symbol_lent r x (lent acc soft a)).acc ≡ (symbol_lent r x (lent acc soft b)).acc
  pub soft_is : (symbol_lent r x (lent acc soft a)).soft ≡ (symbol_lent r x (lent acc soft b)).soft
  pub agree : Agree (receiver_left (symbol_answer r x (lent acc soft a))).front.phase (symbol_lent r x (lent acc soft a)).store (symbol_lent r x (lent acc soft b)).store
