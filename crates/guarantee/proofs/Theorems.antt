-- DEMAND 3: the claim of specs/Demand.antt. Assumes nothing.
use Prim.Native.Nat.{ℕ, ◌-◌}
use Rattle.guarantee.proofs.Answers.{answers}
use Rattle.guarantee.proofs.Lists.{calls_tied, fit_before, new_tied}
use Rattle.guarantee.proofs.Locks.{lock-now-told, relocks}
use Rattle.guarantee.proofs.Losses.{losses}
use Rattle.guarantee.proofs.Outs.{slots-told}
use Rattle.guarantee.proofs.Prefix.{premise_earlier}
use Rattle.guarantee.proofs.Quiet.{before-lock, none-refused}
use Rattle.guarantee.proofs.Softs as Bits
use Rattle.guarantee.proofs.Tied.{Tied}
use Rattle.guarantee.specs.Calls.{Call, CallFits, CallsFit, System, after_calls, begins, told_by}
use Rattle.guarantee.specs.Demand.{CallClaims, DemandClaim, SingleClaim}
use Rattle.guarantee.specs.History.{History, begins_with, happen_all}
use Rattle.laws.specs.Choice.{if_yes}
use Rattle.refusal.specs.declared.Refusal.TheVariants.{Stores}
use Rattle.std.specs.Prelude.{Ok, Err}
use Rattle.receiver.specs.Answers.{new_acc, new_answer}
use Rattle.receiver.specs.Started.{new_kept, started}
use Rattle.sync_history.specs.History.{Premise}
use Rattle.sync_tie.specs.Pushes.{Push, size_at}
use borrow.Author.Tests.{eq-eqb}
use lib.Dec.{eqb}
use lib.IntN.{ℤ}
use lib.ListN.{length, replicate}
use mathlib.Core.List.{List}
use mathlib.Core.Path.{◌∙◌, ◌≡◌, ap, subst}

-- one call of a receiver that stands as its history says
call_claims : (s : System) (h : History) → Tied s h → (c : Call) → CallFits c → (rest : List Call) → CallClaims h s c (told_by s c) rest
call_claims s h t c f rest =
    record {
      answers = answers s h t c f rest;
      losses = losses s h t c f rest;
      before-lock = before-lock s h t c f rest;
      lock = lock-now-told s h t c f rest;
      slots = slots-told s h t c f rest;
      relocks = relocks s h t c f rest;
      earlier =
          λ place P Q qs es e p. premise_earlier place P Q qs es (subst (λ (ps : List Push). Premise 9296 place P Q (size_at ps) (length ps - 23)) e p);
      soft_bits = Bits.soft_bits s h t c f rest;
      refused = none-refused s h t c f;
    }

-- an accepted new receiver
new_is : (at : ℕ) (step : ℤ) (acc : List ℕ) → length acc ≡ 9296 →
    (new_answer at step acc ≡ Ok (started at (new_kept step))) × (new_acc acc ≡ replicate 9296 0)
unfolding new_answer new_acc
new_is at step acc e =
    let q = eq-eqb (length acc) 9296 e in
    let k = started at (new_kept step) in
    let z : List ℕ = replicate (length acc) 0 in (
      if_yes (eqb (length acc) 9296) (Ok k) (Err (record { why = Stores; state = k })) q,
      if_yes (eqb (length acc) 9296) z acc q ∙ ap (λ (n : ℕ). replicate n 0) e,
    )

pub demand_3 : DemandClaim
demand_3 at step store cs long fit =
    record {
      new = new_is at step;
      each =
          λ before c rest e.
          let f = fit_before before c rest (subst CallsFit e fit) in
          let t = calls_tied (begins at (new_kept step) store) (begins_with at (new_kept step)) before (new_tied at step store long) f.0 in
          call_claims (after_calls (begins at (new_kept step) store) before) (happen_all (begins_with at (new_kept step)) before) t c f.1 rest;
    }

-- "soft bits of a single demap are meant too"
pub single : SingleClaim
single = Bits.single
