-- How often whole slots train: stretches whose slot indexes run 0, 1, 2, .. from their first symbol on.
use Rattle.std.specs.Prelude.{ℕ, suc, ◌+◌, ◌*◌, ◌%◌, ◌≤◌, ◌<◌, ◌^◌, true, false, List, [], ◌∷◌, ◌++◌, ◌≡◌, ℤ, length, get_or, Option, None, Some}
use Rattle.fx.specs.Answers.{wide}
use Rattle.sync_corr.specs.Correlate.{ones_of}
use Rattle.phase.specs.declared.Corrected.{Corrected}
use Rattle.sums.specs.declared.Sums.{Sums}
use Rattle.eq.specs.Answers.{close_answer}
use Rattle.frame.specs.Align.{new_back}
use Rattle.frame.specs.Stretch.{unbroken}
use Rattle.frame_range.specs.Coherent.{Short}
use Rattle.frame_calls.specs.Calls.{Call, pushes, restarts, opens, CallsFit, after_calls, sums_ended}
use Rattle.frame_calls.specs.Received.{since, trained_by}

-- "A slot or period is 9,296 symbols" (Slot sync and carrier)
abbrev pub Runs : List Corrected → Type 0
Runs xs = (i : ℕ) (c : Corrected) → i < length xs → (get_or xs i c).j ≡ i % 9296

-- with sums open from the start, or from before the eleventh symbol, the first 9,296 symbols of a stretch train 19 times (sync 5 to 23); each
-- further 9,296, from the eleventh symbol on, train 24 times
pub record SlotsTrain : Type 0 where
  pub first : (frame n : ℕ) (xs : List Corrected) → Runs xs → n ≤ 10 → length xs ≡ 9296 → trained_by (since frame n) xs ≡ 19
  pub later : (frame n : ℕ) (xs ys : List Corrected) → Runs (xs ++ ys) → n ≤ length xs → 10 ≤ length xs → length ys ≡ 9296
      → trained_by (since frame n) (xs ++ ys) ≡ trained_by (since frame n) xs + 24
  -- together
  pub all : (frame k : ℕ) (xs : List Corrected) → Runs xs → length xs ≡ suc k * 9296 → trained_by (since frame 0) xs ≡ 19 + 24 * k

-- ---- such a stretch by calls
unfoldable pub push_all : List Corrected → List ℤ → List ℤ → List Call
push_all [] f s = []
push_all (c ∷ cs) f s = pushes c f s ∷ push_all cs f s

-- arguments that are not refused
pub record Fine (c : Corrected) : Type 0 where
  pub short : Short c
  pub place : c.j < 9296
  pub gain : wide c.gain ≡ false
  pub before : c.at < 2 ^ 62

abbrev pub AllFine : List Corrected → Type 0
AllFine [] = Unit {0}
AllFine (c ∷ cs) = Fine c × AllFine cs

-- whatever came before: restarted, opened and given k + 1 slots in a row, 451 at most, it ends with 19 + 24 k trainings
pub record SlotsEnd (x : Option Sums) (frame k : ℕ) : Type 0 where
  pub sums : Sums
  pub ended : x ≡ Some sums
  pub of : sums.frame ≡ frame
  pub count : sums.count ≡ 19 + 24 * k

abbrev pub SlotsClaim : Type 0
SlotsClaim = (cs : List Call) (frame k : ℕ) (xs : List Corrected) (f s : List ℤ) → CallsFit cs → ones_of f ≡ true → ones_of s ≡ true → AllFine xs
    → unbroken None xs ≡ true → Runs xs → length xs ≡ suc k * 9296 → k ≤ 450
    → SlotsEnd (sums_ended (close_answer (after_calls new_back (cs ++ restarts ∷ opens frame ∷ push_all xs f s)).eq)) frame k
