-- The entries of crate sync, as the story has them. Assumes nothing.
use Rattle.std.specs.Prelude.{Result, Ok, Err, IsOk, ⊤}
use Rattle.std.proofs.Common.{◌≡◌, refl, sym}
use Rattle.laws.proofs.Tests.{never}
use Rattle.refusal.specs.Refusals.{answered}
use Rattle.refusal.specs.declared.Refusal.{Refusal}
use Rattle.sync.specs.Answers.{accepted_acc, accepted_push, push_acc, push_answer, push_refusal, restart_acc, restart_answer, restart_refusal}
use Rattle.sync_tie.specs.Claims.{EntryClaim, EntryIs, RestartClaim, RestartIs}
use Rattle.sync_tie.specs.Tie.{push_on}
use lib.ListN.{length}

-- an answer is taken where its test let the call through
by_answer : {T S X : Type 0} (r : Result ⊤ Refusal) (s : S) (a : T) → IsOk (answered r s a) → (r ≡ Ok tt → X) → X
by_answer (Ok x) s a e f = f refl
by_answer (Err why) s a e f = absurd (never (sym e))

pub entry_is : EntryClaim
unfolding push_answer push_acc accepted_push accepted_acc push_on
entry_is s p acc e =
    by_answer (push_refusal (length acc) p.f p.w s.run) s _ e (λ r. record { sync = rw r refl; events = rw r refl; stored = rw r refl })

pub restart_is : RestartClaim
unfolding restart_answer restart_acc
restart_is s at acc e = by_answer (restart_refusal (length acc) at s.run) s _ e (λ r. record { sync = rw r refl; stored = rw r refl })
