-- The waiting symbols are a queue. Each statement stands above its proof. Assumes nothing.
use Prim.Native.Nat.{ℕ, zero, suc, ◌+◌, ◌≤◌, ◌<◌}
use native.Mathlib.Omega.{arith}
use mathlib.Core.List.{[], ◌∷◌, ◌++◌}
use mathlib.Core.Path.{◌≡◌, refl}
use lib.ListN.{length, length-take, take}
use Rattle.laws.specs.Choice.{when◌then◌else◌}
use Rattle.frame_line.specs.declared.Meta.{Meta}
use Rattle.frame_line.specs.declared.Metas.{Metas}
use Rattle.frame_line.specs.Line.{no_metas, placed_at, joined, moved}
use Rattle.frame_line.specs.Waiting.{waiting_of}

-- ---- AT FIRST NONE WAIT
pub none_wait : waiting_of no_metas ≡ []
unfolding waiting_of no_metas
none_wait = refl

-- ---- AS MANY WAIT AS ARE COUNTED
pub waiting_length : (w : Metas) → w.count ≤ 5 → length (waiting_of w) ≡ w.count
unfolding waiting_of
waiting_length w h = omega (arith, length-take w.count (w.first ∷ w.second ∷ w.third ∷ w.fourth ∷ w.fifth ∷ []))

-- ---- ONE THAT JOINS STANDS BEHIND THE OTHERS
behind : (n : ℕ) (a b c d e m : Meta) → n < 5
    → take (n + 1) (placed_at n 0 m a ∷ placed_at n 1 m b ∷ placed_at n 2 m c ∷ placed_at n 3 m d ∷ placed_at n 4 m e ∷ []) ≡ take n (a ∷ b ∷ c ∷ d ∷ e ∷ []) ++ m ∷ []
unfolding placed_at when◌then◌else◌
behind zero a b c d e m h = refl
behind (suc zero) a b c d e m h = refl
behind (suc (suc zero)) a b c d e m h = refl
behind (suc (suc (suc zero))) a b c d e m h = refl
behind (suc (suc (suc (suc zero)))) a b c d e m h = refl
behind (suc (suc (suc (suc (suc n))))) a b c d e m h = absurd (omega (arith, h))

pub joined_theorem : (w : Metas) (m : Meta) → w.count < 5 → waiting_of (joined w m) ≡ waiting_of w ++ m ∷ []
unfolding waiting_of joined
joined_theorem w m h = behind w.count w.first w.second w.third w.fourth w.fifth m h

-- ---- OF FIVE THE OLDEST GOES
pub moved_theorem : (w : Metas) (m : Meta) → w.count ≡ 5 → w.first ∷ waiting_of (moved w m) ≡ waiting_of w ++ m ∷ []
unfolding waiting_of moved
moved_theorem w m h = rw h
