-- Every list of calls: a receiver stands as the history of its calls says. Assumes nothing.
use Prim.Native.Nat.{ℕ}
use Rattle.guarantee.proofs.Follow.{Steps, symbol_steps}
use Rattle.guarantee.proofs.Loads.{end-steps, open-steps, own-restart, points-steps, taps-steps, wrong-restart}
use Rattle.guarantee.proofs.Taken.{begins_tied}
use Rattle.guarantee.proofs.Tied.{Tied}
use Rattle.guarantee.specs.Calls.{Call, CallFits, CallsFit, System, after_call, after_calls, begins}
use Rattle.guarantee.specs.Calls.{symbol, points, taps, opens, ends, restarts, own, wrong}
use Rattle.guarantee.specs.History.{History, begins_with, happen_all, happens}
use Rattle.receiver.specs.Started.{new_kept}
use Rattle.receiver_range.proofs.Starts.{new_coherent}
use lib.IntN.{ℤ}
use lib.ListN.{length}
use mathlib.Core.List.{List, [], ◌∷◌, ◌++◌}
use mathlib.Core.Path.{◌≡◌}

pub call_steps : (s : System) (h : History) (c : Call) → Tied s h → CallFits c → Steps s h c
call_steps s h (symbol x a b soft) t f = symbol_steps s h x a b soft t f
call_steps s h (points bits ps k) t f = points-steps s h t bits ps k
call_steps s h (taps ts frame) t f = taps-steps s h t ts frame
call_steps s h (opens frame) t f = open-steps s h t frame
call_steps s h ends t f = end-steps s h t
call_steps s h (restarts at own) t f = own-restart s h t at
call_steps s h (restarts at (wrong acc e)) t f = wrong-restart s h t at acc e

pub calls_tied : (s : System) (h : History) (cs : List Call) → Tied s h → CallsFit cs → Tied (after_calls s cs) (happen_all h cs)
unfolding after_calls happen_all
calls_tied s h [] t f = t
calls_tied s h (c ∷ cs) t f = calls_tied (after_call s c) (happens h c) cs (call_steps s h c t f.0).tied f.1

-- from a new receiver on
pub new_tied : (at : ℕ) (step : ℤ) (store : List ℤ) → length store ≡ 18592 → Tied (begins at (new_kept step) store) (begins_with at (new_kept step))
new_tied at step store e = begins_tied at (new_kept step) store e (new_coherent at step)

-- a list's first calls fit, and its next
pub fit_before : (before : List Call) (c : Call) (rest : List Call) → CallsFit (before ++ (c ∷ rest)) → CallsFit before × CallFits c
fit_before [] c rest f = (tt, f.0)
fit_before (b ∷ before) c rest f = let g = fit_before before c rest f.1 in ((f.0, g.0), g.1)
