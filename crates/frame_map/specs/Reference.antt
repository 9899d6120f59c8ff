-- "Sync symbols train against word × 724, negated for NotFsync."
use Rattle.refusal.specs.declared.Refusal.TheVariants.{Arithmetic, Words}
use Rattle.refusal.specs.declared.Refusal.{Refusal}
use Rattle.std.specs.Prelude.{ℕ, ◌+◌, ◌*◌, ◌&&◌, List, ltb, ℤ, pos, neg_ℤ, ◌*ℤ◌, get_or, Result, Ok, Err}
use Rattle.laws.specs.Choice.{when◌then◌else◌}
use Rattle.angles.specs.declared.Symbol.{Symbol}
use Rattle.sync_corr.specs.Correlate.{ones_of}
use Rattle.sync_heads.specs.declared.Word.{Word}
use Rattle.sync_heads.specs.declared.Word.TheVariants.{Ssync, Fsync, NotFsync}

-- of an entry of the F word and one of the S word, that of the slot's own word, times 724
unfoldable pub scaled_of : Word → ℤ → ℤ → ℤ
scaled_of Ssync f s = s *ℤ pos 724
scaled_of Fsync f s = f *ℤ pos 724
scaled_of NotFsync f s = neg_ℤ (f *ℤ pos 724)

-- pair k of it
unfoldable pub reference_of : Word → ℕ → List ℤ → List ℤ → Symbol
reference_of word k f s =
    record {
      i = scaled_of word (get_or f (2 * k) (pos 0)) (get_or s (2 * k) (pos 0));
      q = scaled_of word (get_or f (2 * k + 1) (pos 0)) (get_or s (2 * k + 1) (pos 0));
    }

-- 2, an entry of the two words that is not 1 or -1; 6, "sync index over 23"
unfoldable pub reference_answer : Word → ℕ → List ℤ → List ℤ → Result Symbol Refusal
reference_answer word k f s = when ones_of f && ones_of s then when ltb k 24 then Ok (reference_of word k f s) else Err Arithmetic else Err Words
