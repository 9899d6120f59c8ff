-- Calls keep a carrier coherent, so its numbers stay in range; how large a rotated symbol is; when the step is set, and to what. Assumes
-- nothing.
use mathlib.Core.Path.{◌≡◌, refl, sym, ap, ◌∙◌}
use mathlib.Core.Bool.{Bool, true, false, ◌||◌}
use mathlib.Core.List.{List, [], ◌∷◌, ◌++◌}
use Prim.Native.Nat.{ℕ, ◌+◌, ◌%◌, ◌^◌, ◌≤◌, ◌<◌}
use native.Mathlib.Omega.{arith}
use borrow.Author.Tests.{ltb-true, ltb-false}
use lib.Dec.{ltb, leb}
use lib.IntN.{ℤ, pos, nat_abs, +ℤ_idl}
use lib.ListN.{length, get_or, replicate, get_or-eq_default}
use Rattle.std.specs.Prelude.{Result, Ok, is_ok}
use Rattle.refusal.proofs.Answered.{answered_both, answered_either, refused_by}
use Rattle.refusal.specs.Refusals.{answered, code_of, number_of, state_after}
use Rattle.refusal.specs.declared.Refused.{Refused}
use Rattle.laws.proofs.Tests.{by_test, if_both, if_either}
use Rattle.laws.specs.Choice.{if_yes}
use Rattle.fx.specs.Answers.{wide}
use Rattle.fx.specs.Fx.{round_index, cos_sin_at}
use Rattle.sync_heads.specs.declared.Head.{Head}
use Rattle.sync_heads.specs.declared.Word.{Word}
use Rattle.sync_heads.specs.declared.Word.TheVariants.{Ssync, Fsync, NotFsync}
use Rattle.carrier.specs.Answers.{rotate_refusal, rotate_answer, head_refusal, head_answer, restart_answer}
use Rattle.carrier.specs.Calls.{Call, Keeps, Sound, CallsKeep, rotated_nco, heard_nco, nco_of, nco_after}
use Rattle.carrier.specs.Calls.{rotate, hear, restart}
use Rattle.carrier.specs.Carrier.{started_nco, rotated_of, advanced_nco, tuned, word_heard, heard_of}
use Rattle.carrier.specs.Coherent.{Coherent}
use Rattle.carrier.specs.Ranges.{nco_in_range}
use Rattle.carrier.specs.Settings.{nco_heard, sets_heard, turns_of, last_of, since_nco, head_angles, angles_of, NoRestart}
use Rattle.carrier.specs.declared.Heard.{Heard}
use Rattle.carrier.specs.declared.Nco.{Nco}
use Rattle.carrier.specs.declared.Rotated.{Rotated}
use Rattle.carrier.proofs.Laws.{turned_small}
use Rattle.carrier.proofs.Kept.{word_coherent, trail_within_lem, rotate_not_6, head_6, head-refused, head_taken}
use Rattle.carrier.proofs.Hearing.{wait_go, set_go, first-heard, at_phase, heard_phase, rotate_phase, heard_append, word_angles_lem}

-- ---- COHERENT: a carrier that starts, with any phase and step, is coherent
pub start_coherent : (phase : ℕ) (freq : ℤ) → Coherent (started_nco phase freq)
unfolding started_nco
start_coherent phase freq = record { trail = tt }

-- any call of a coherent carrier, refused or not, leaves a coherent one
pub answer_coherent : (n : Nco) (c : Call) → Coherent n → Coherent (nco_of n c)
unfolding nco_of rotate_answer advanced_nco head_answer heard_of restart_answer
answer_coherent n (rotate xi xq table) c =
    answered_both (λ (x : Result Rotated (Refused Nco)). Coherent (rotated_nco x)) (rotate_refusal n (length table)) n
    (record { nco = advanced_nco n; symbol = rotated_of table n.phase xi xq }) (record { trail = c.trail }) (λ why. c)
answer_coherent n (hear h) c =
    answered_both (λ (x : Result Heard (Refused Nco)). Coherent (heard_nco x)) (head_refusal n h) n (heard_of n h) (word_coherent n h.word h.theta c) (λ why. c)
answer_coherent n restart c = if_both (λ (x : Result Nco (Refused Nco)). Coherent (state_after x)) _ _ _ (start_coherent n.phase n.freq) c

-- .. and so do several
pub answers_coherent : (n : Nco) (cs : List Call) → Coherent n → Coherent (nco_after n cs)
unfolding nco_after
answers_coherent n [] c = c
answers_coherent n (a ∷ cs) c = answers_coherent (nco_of n a) cs (answer_coherent n a c)

-- a coherent carrier is in range
pub coherent_in_range : (n : Nco) → Coherent n → nco_in_range n ≡ true
unfolding nco_in_range
coherent_in_range n c = trail_within_lem n.trail c.trail

pub keeps : Keeps
keeps = record { started = start_coherent; answered = answer_coherent; in_range = coherent_in_range }

-- in range, it is refused nothing with 6 but a head with an `amp` of size over 2^60
pub sound : (n : Nco) → Coherent n → Sound n
unfolding rotate_answer head_answer restart_answer
sound n c =
    let e = coherent_in_range n c in
    record {
      coherent = c;
      in_range = e;
      rotates = λ xi xq table x a z. rotate_not_6 n (length table) e (ap code_of (refused_by _ _ _ x a) ∙ ap number_of z);
      hears = λ h x a z. head_6 n h e (ap code_of (refused_by _ _ _ x a) ∙ ap number_of z);
      restarts = ap is_ok (if_yes _ _ _ e);
    }

-- ---- CALLS: a carrier that starts, and that any calls then leave, is coherent and in range, and is not refused with 6
pub calls_keep : CallsKeep
calls_keep phase freq cs =
    let n = nco_after (started_nco phase freq) cs in
    sound n (answers_coherent (started_nco phase freq) cs (start_coherent phase freq))

-- ---- RESTART: a carrier started anew with the phase and step that it had
pub restart_starts : (n : Nco) → nco_in_range n ≡ true → restart_answer n ≡ Ok (started_nco n.phase n.freq)
unfolding restart_answer
restart_starts n e = if_yes _ _ _ e

-- ---- ROTATED: by any table of 16-bit entries and any phase, a symbol of signed bytes becomes one of parts within 4,096, and within 4,097
-- together
pub rotated_small : (table : List ℤ) (phase : ℕ) (xi xq : ℤ) → ((j : ℕ) → j < length table → nat_abs (get_or table j (pos 0)) ≤ 32768) →
    nat_abs xi ≤ 128 → nat_abs xq ≤ 128 →
    (nat_abs (rotated_of table phase xi xq).i ≤ 4096) × (nat_abs (rotated_of table phase xi xq).q ≤ 4096) ×
    (nat_abs (rotated_of table phase xi xq).i + nat_abs (rotated_of table phase xi xq).q ≤ 4097)
unfolding rotated_of cos_sin_at
rotated_small table phase xi xq h hi hq =
    let p = cos_sin_at table (round_index phase) in
    let s = turned_small p xi xq (entry (round_index phase)) (entry ((round_index phase + 768) % 1024)) hi hq in
    (s.re, s.im, s.both)
  where
    -- past the end the table reads 0
    entry : (j : ℕ) → nat_abs (get_or table j (pos 0)) ≤ 32768
    entry j =
        by_test (ltb j (length table)) (λ e. h j (ltb-true j (length table) e))
        (λ e. rw (get_or-eq_default table (pos 0) (ltb-false j (length table) e)) (omega arith))

-- ---- SETTING
-- after an Ssync head that was the first since a start, or that has set the step, up to 59 further ones leave the step and set nothing ..
pub since_waits : (p : ℕ) (f : ℤ) (last : ℕ) (rest : List ℕ) → length rest ≤ 59 →
    ((nco_heard (since_nco p f last) rest).freq ≡ f) × (sets_heard (since_nco p f last) rest ≡ replicate (length rest) false)
unfolding since_nco
since_waits p f last rest l = wait_go p f last (pos 0) 0 rest (omega arith)

-- .. and the sixtieth sets it by the sum of the 60 turns: "each 60 further Ssync heads do so again"
pub since_sets : (p : ℕ) (f : ℤ) (last : ℕ) (rest : List ℕ) → length rest ≡ 60 →
    (nco_heard (since_nco p f last) rest ≡ since_nco p (tuned f (turns_of last rest)) (last_of last rest))
    × (sets_heard (since_nco p f last) rest ≡ replicate 59 false ++ (true ∷ []))
unfolding since_nco
since_sets p f last [] l = absurd (none l)
  where
    none : ◌≡◌ {A = ℕ} 0 60 → ⊥
    none e = omega arith
since_sets p f last (a ∷ rest) l =
    let g = set_go p f last (pos 0) 0 a rest (omega arith) in
    let e : length rest ≡ 59 = omega arith in
    (rw (+ℤ_idl (turns_of last (a ∷ rest))) at g.0, rw e at g.1)

-- so up to 60 Ssync heads after a start or restart leave the step and set nothing ..
pub start_waits : (p : ℕ) (f : ℤ) (angles : List ℕ) → length angles ≤ 60 →
    ((nco_heard (started_nco p f) angles).freq ≡ f) × (sets_heard (started_nco p f) angles ≡ replicate (length angles) false)
unfolding nco_heard sets_heard
start_waits p f [] l = unfold started_nco in (refl, refl)
start_waits p f (a ∷ rest) l =
    let e = first-heard p f a in
    let g = since_waits p f a rest (omega arith) in
    (ap (λ (x : Heard). (nco_heard x.nco rest).freq) e ∙ g.0, ap (λ (x : Heard). x.set ∷ sets_heard x.nco rest) e ∙ ap (λ (l : List Bool). false ∷ l) g.1)

-- .. and "the 61st Ssync head after a restart makes 60 differences and sets the step"
pub start_sets : (p : ℕ) (f : ℤ) (a : ℕ) (rest : List ℕ) → length rest ≡ 60 →
    (nco_heard (started_nco p f) (a ∷ rest) ≡ since_nco p (tuned f (turns_of a rest)) (last_of a rest))
    × (sets_heard (started_nco p f) (a ∷ rest) ≡ replicate 60 false ++ (true ∷ []))
unfolding nco_heard sets_heard
start_sets p f a rest l =
    let e = first-heard p f a in
    let g = since_sets p f a rest l in
    (ap (λ (x : Heard). nco_heard x.nco rest) e ∙ g.0, ap (λ (x : Heard). x.set ∷ sets_heard x.nco rest) e ∙ ap (λ (l : List Bool). false ∷ l) g.1)

-- ---- OTHER WORDS: a head that is no Ssync, refused or not, changes nothing
pub others_unheard : (n : Nco) (h : Head) → (h.word ≡ Ssync → ⊥) → head_answer n h ≡ answered (head_refusal n h) n (record { nco = n; set = false })
unfolding head_answer heard_of word_heard
others_unheard n h other = ap (answered (head_refusal n h) n) (word-other h.word other)
  where
    word-other : (w : Word) → (w ≡ Ssync → ⊥) → word_heard n w h.theta ≡ record { nco = n; set = false }
    word-other Ssync u = absurd (u refl)
    word-other Fsync u = refl
    word-other NotFsync u = refl

-- ---- ANGLES: whatever symbols and other heads come between, step and trail are what the angles of the Ssync heads alone make of them
-- an Ssync head that is not refused answers as `nco_heard` and `sets_heard` go on
pub ssync_answers : (n : Nco) (h : Head) → nco_in_range n ≡ true → (wide h.amp || leb (2 ^ 62) h.at) ≡ false → h.word ≡ Ssync →
    head_answer n h ≡ Ok (word_heard n Ssync h.theta)
unfolding head_answer heard_of
ssync_answers n h c e w = rw (head_taken n h c e, w)

hear_angles : (n : Nco) (h : Head) → Coherent n → nco_of n (hear h) ≡ nco_heard n (head_angles h)
unfolding nco_of head_answer heard_of head_angles
hear_angles n h c =
    if_either (λ (l : List ℕ). heard_nco (head_answer n h) ≡ nco_heard n l) (wide h.amp || leb (2 ^ 62) h.at) _ _
    (λ e.
    answered_either (λ (x : Result Heard (Refused Nco)). heard_nco x ≡ nco_heard n []) (head_refusal n h) n (heard_of n h)
    (λ z. absurd (head-refused n h e z)) (λ why z. none))
    (λ e. rw (head_taken n h (coherent_in_range n c) e) (word_angles_lem n h.word h.theta))
  where
    none : n ≡ nco_heard n []
    none = unfold nco_heard in refl

by_angles : (n : Nco) (cs : List Call) → Coherent n → NoRestart cs → nco_after n cs ≡ at_phase (nco_after n cs).phase (nco_heard n (angles_of cs))
unfolding nco_after angles_of
by_angles n [] c r = unfold nco_heard in refl
by_angles n (rotate xi xq table ∷ cs) c r =
    let m = nco_of n (rotate xi xq table) in
    let q = (nco_after m cs).phase in
    by_angles m cs (answer_coherent n (rotate xi xq table) c) r ∙ ap (λ (x : Nco). at_phase q (nco_heard x (angles_of cs))) (rotate_phase n xi xq table) ∙
    ap (at_phase q) (heard_phase m.phase n (angles_of cs))
by_angles n (hear h ∷ cs) c r =
    let m = nco_of n (hear h) in
    let q = (nco_after m cs).phase in
    by_angles m cs (answer_coherent n (hear h) c) r ∙
    ap (at_phase q) (ap (λ (x : Nco). nco_heard x (angles_of cs)) (hear_angles n h c) ∙ sym (heard_append n (head_angles h) (angles_of cs)))
by_angles n (restart ∷ cs) c r = absurd r

pub angles_alone : (n : Nco) (cs : List Call) → Coherent n → NoRestart cs →
    ((nco_after n cs).freq ≡ (nco_heard n (angles_of cs)).freq) × ((nco_after n cs).trail ≡ (nco_heard n (angles_of cs)).trail)
angles_alone n cs c r = let e = by_angles n cs c r in (ap (λ (x : Nco). x.freq) e, ap (λ (x : Nco). x.trail) e)

-- so up to 60 such heads among the calls leave the step of a carrier that starts ..
pub calls_wait : (p : ℕ) (f : ℤ) (cs : List Call) → NoRestart cs → length (angles_of cs) ≤ 60 → (nco_after (started_nco p f) cs).freq ≡ f
calls_wait p f cs r l = (angles_alone (started_nco p f) cs (start_coherent p f) r).0 ∙ (start_waits p f (angles_of cs) l).0

-- .. and the 61st sets it
pub calls_set : (p : ℕ) (f : ℤ) (cs : List Call) (a : ℕ) (rest : List ℕ) → NoRestart cs → angles_of cs ≡ a ∷ rest → length rest ≡ 60 →
    (nco_after (started_nco p f) cs).freq ≡ tuned f (turns_of a rest)
unfolding since_nco
calls_set p f cs a rest r e l =
    (angles_alone (started_nco p f) cs (start_coherent p f) r).0 ∙ rw e (ap (λ (x : Nco). x.freq) (start_sets p f a rest l).0)
