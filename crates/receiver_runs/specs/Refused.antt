-- Refused calls among accepted ones, at 9,296, with what document 01, "Refusals", says of each. The Rust refuses nothing.
use Rattle.std.specs.Prelude.{ℕ, ◌+◌, ◌-◌, ◌^◌, Bool, true, false, List, [], ◌∷◌, ◌++◌, ℤ, pos, replicate, Option, None, Some, is_some}
use Rattle.sync_lock.specs.declared.Lock.TheVariants.{Locked}
use Rattle.sync_heads.specs.declared.Word.TheVariants.{Ssync, Fsync}
use Rattle.sync_heads.specs.declared.Stage.TheVariants.{Known}
use Rattle.sync_heads.specs.declared.Head.{Head}
use Rattle.frame_line.specs.declared.Meta.{Meta}
use Rattle.frame_line.specs.declared.Metas.{Metas}
use Rattle.frame_line.specs.Line.{no_metas}
use Rattle.refusal.specs.Refusals.{state_after}
use Rattle.receiver.specs.declared.Receiver.{Receiver}
use Rattle.receiver.specs.Symbol.{Input, Lent, next_of, full}
use Rattle.receiver.specs.Answers.{code_in, receiver_left, receiver_ended, sums_ended, new_answer, symbol_answer, symbol_lent, points_answer, with_points, taps_answer, open_answer, end_answer, restart_answer, restart_acc}

-- ---- calls, as they are made
pub data Try : Type 0 where
  -- with the own stores, or with others
  symbol : Input → Try
  misfit : Input → Lent → Try
  points : ℕ → List ℤ → ℤ → Try
  taps : List ℤ → ℕ → Try
  opens : ℕ → Try
  ends : Try
  restarts : ℕ → Try
  misrestarts : ℕ → List ℕ → Try
  -- another state is handed in from now on
  hands : Receiver → Try

-- the number, 0 for an accepted call, whether sums were ended, and where the next symbol then stands
pub record Said : Type 0 where
  pub refusal : ℕ
  pub ended : Bool
  pub next : ℕ

unfoldable pub said : ℕ → Bool → Receiver → Said
said refusal ended r = record { refusal = refusal; ended = ended; next = next_of r }

unfoldable pub with_acc : Lent → List ℕ → Lent
with_acc l acc = record { acc = acc; store = l.store; soft = l.soft }

unfoldable pub tried : Receiver → Lent → List Try → List Said
tried r l [] = []
tried r l (symbol x ∷ ts) = let a = symbol_answer r x l in let on = receiver_left a in said (code_in a) false on ∷ tried on (symbol_lent r x l) ts
tried r l (misfit x other ∷ ts) = let a = symbol_answer r x other in let on = receiver_left a in said (code_in a) false on ∷ tried on l ts
tried r l (points bits ps k ∷ ts) = let a = points_answer r bits ps k in let on = state_after a in said (code_in a) false on ∷ tried on l ts
tried r l (taps vs frame ∷ ts) = let a = taps_answer r vs frame in let on = state_after a in said (code_in a) false on ∷ tried on l ts
tried r l (opens frame ∷ ts) = let a = open_answer r frame in let on = state_after a in said (code_in a) false on ∷ tried on l ts
tried r l (ends ∷ ts) = let a = end_answer r in let on = receiver_ended a in said (code_in a) (is_some (sums_ended a)) on ∷ tried on l ts
tried r l (restarts at ∷ ts) =
    let a = restart_answer r at l.acc in
    let on = state_after a in
    said (code_in a) false on ∷ tried on (with_acc l (restart_acc r at l.acc)) ts
tried r l (misrestarts at acc ∷ ts) = let a = restart_answer r at acc in let on = state_after a in said (code_in a) false on ∷ tried on l ts
tried r l (hands other ∷ ts) = tried other l ts

-- ---- what they are given
unfoldable pub stores : ℕ → ℕ → ℕ → Lent
stores acc store soft = record { acc = replicate acc 0; store = replicate store (pos 0); soft = replicate soft (pos 85) }

-- a symbol with words of ones but for the last entry of the S word, and a table of so many
unfoldable pub input : ℤ → ℕ → Input
input last len =
    record { xi = pos 3; xq = pos 4; f = replicate 48 (pos 1); s = replicate 47 (pos 1) ++ (last ∷ []); table = replicate len (pos 32767) }

unfoldable pub good : Input
good = input (pos 1) 1024

unfoldable pub fresh : Receiver
fresh = state_after (new_answer (2 ^ 62 - 3) (pos 0) (stores 9296 0 0).acc)

-- a width that no load takes
unfoldable pub spoilt : Receiver
spoilt = with_points fresh (record { bits = 6; points = replicate 64 (pos 0); k = 0 })

unfoldable pub bpsk : List ℤ
bpsk = pos 724 ∷ pos 724 ∷ pos 0 ∷ pos 0 ∷ []

-- ---- the list, from a receiver that may hear three more symbols
unfoldable pub tries : List Try
tries =
    misfit good (stores 9295 18592 44880)
    ∷ misfit good (stores 9296 18593 44880)
    ∷ misfit good (stores 9296 18592 44879)
    ∷ symbol good
    ∷ symbol (input (pos 0) 1024)
    ∷ opens 5
    ∷ symbol (input (pos 1) 1023)
    ∷ symbol (input (pos 0) 1023)
    ∷ points 6 bpsk (pos 0)
    ∷ points 1 bpsk (pos (2 ^ 24 + 1))
    ∷ points 1 bpsk (pos (2 ^ 24))
    ∷ symbol good
    ∷ restarts (2 ^ 62 - 2)
    ∷ misrestarts (2 ^ 62) (replicate 9297 0)
    ∷ symbol good
    ∷ symbol good
    ∷ symbol (input (pos 1) 1025)
    ∷ ends
    ∷ ends
    ∷ restarts (2 ^ 62 + 5)
    ∷ symbol good
    ∷ hands spoilt
    ∷ symbol good
    ∷ misfit (input (pos 2) 1024) (stores 9296 18592 44880)
    ∷ points 1 bpsk (pos 0)
    ∷ taps (replicate 22 (pos 0)) 9
    ∷ opens 1
    ∷ ends
    ∷ restarts 0
    ∷ []

abbrev pub refused : ℕ → ℕ → Said
refused n next = record { refusal = n; ended = false; next = next }

unfoldable pub tries_said : List Said
tries_said =
    refused 1 (2 ^ 62 - 3)
    ∷ refused 1 (2 ^ 62 - 3)
    ∷ refused 1 (2 ^ 62 - 3)
    ∷ refused 0 (2 ^ 62 - 2)
    ∷ refused 2 (2 ^ 62 - 2)
    ∷ refused 0 (2 ^ 62 - 2)
    ∷ refused 3 (2 ^ 62 - 2)
    ∷ refused 2 (2 ^ 62 - 2)
    ∷ refused 4 (2 ^ 62 - 2)
    ∷ refused 5 (2 ^ 62 - 2)
    ∷ refused 0 (2 ^ 62 - 2)
    ∷ refused 0 (2 ^ 62 - 1)
    ∷ refused 7 (2 ^ 62 - 1)
    ∷ refused 1 (2 ^ 62 - 1)
    ∷ refused 0 (2 ^ 62)
    ∷ refused 7 (2 ^ 62)
    ∷ refused 3 (2 ^ 62)
    ∷ record { refusal = 0; ended = true; next = 2 ^ 62 }
    ∷ refused 0 (2 ^ 62)
    ∷ refused 0 (2 ^ 62 + 5)
    ∷ refused 7 (2 ^ 62 + 5)
    ∷ refused 6 (2 ^ 62 - 3)
    ∷ refused 2 (2 ^ 62 - 3)
    ∷ refused 6 (2 ^ 62 - 3)
    ∷ refused 6 (2 ^ 62 - 3)
    ∷ refused 6 (2 ^ 62 - 3)
    ∷ refused 6 (2 ^ 62 - 3)
    ∷ refused 6 (2 ^ 62 - 3)
    ∷ []

-- ---- 8, at a slot of 64
unfoldable pub held_head : Head
held_head = record { at = 1005; word = Ssync; corr = record { re = pos 9; im = pos 0 }; theta = 0; amp = pos 9; slot = None; nco_phase = 0 }

unfoldable pub waits : ℕ → Meta
waits k = record { at = 1000 + k; j = 59 + k; word = Fsync; slot = None }

-- locked at place 45 with a whole slot held, which the next symbol completes; sums of this count are open
unfoldable pub brimming : Metas → Option ℕ → ℕ → ℕ → Receiver
brimming waiting last filled count =
    record {
      front = record {
        nco = fresh.front.nco;
        sync = record {
          win = fresh.front.sync.win;
          run = record {
            base = 0;
            t = 1092;
            tally = fresh.front.sync.run.tally;
            lock = Locked 45 0;
            stage = Known (record { odd = false; due = false; last = held_head.corr });
            course = fresh.front.sync.run.course;
          };
        };
        phase = Some (record { head = held_head; count = 64 });
      };
      back = record {
        eq = record {
          line = replicate 22 (pos 0);
          filled = filled;
          taps = fresh.back.eq.taps;
          from = fresh.back.eq.from;
          opened = true;
          sums = record { frame = 2; count = count; r = replicate 132 (pos 0); p = replicate 22 (pos 0) };
        };
        metas = waiting;
        last = last;
      };
      points = fresh.points;
    }

-- a later slot, behind one of which five symbols wait; the first slot after a restart
unfoldable pub later : ℕ → Bool
later count =
    let five : Metas = record { count = 5; first = waits 0; second = waits 1; third = waits 2; fourth = waits 3; fifth = waits 4 } in
    full 64 (brimming five (Some 1004) 11 count) good (stores 64 128 0)

unfoldable pub first : ℕ → Bool
first count = full 64 (brimming no_metas None 0 count) good (stores 64 128 0)

-- 24 trainings, and 19, must fit below 4,194,304
unfoldable pub counts : List Bool
counts = later 4194280 ∷ later 4194281 ∷ later 4194304 ∷ first 4194285 ∷ first 4194286 ∷ first 4194304 ∷ []

unfoldable pub counts_full : List Bool
counts_full = false ∷ true ∷ true ∷ false ∷ true ∷ true ∷ []
