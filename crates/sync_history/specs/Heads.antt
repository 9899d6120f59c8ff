-- Words, marks and numbers of the heads after a lock, and the loss by markers, on the readings alone: b i are the correlations of reading i, counted from
-- 0. No state is recorded here. 01: "Head parity, the majority of -8..8 and frame markers follow `head_at`, `word_head`, `new_frame`".
use Rattle.sync_heads.specs.Numbers.{slot_in, last_head}
use Rattle.sync_heads.specs.declared.FrameHead.{FrameHead}
use Rattle.sync_heads.specs.declared.SlotNumber.{SlotNumber}
use Rattle.std.specs.Prelude.{ℕ, zero, suc, ◌+◌, ◌-◌, ◌*◌, ◌/◌, ◌%◌, ◌^◌, ◌<◌, min, Bool, true, false, not, ◌&&◌, ◌≡◌, eqb, leb, ltb, ℤ, pos, nat_abs, ◌+ℤ◌, Option, None, Some}
use Rattle.std.specs.Int.Signed.{lt_z}
use Rattle.laws.specs.Choice.{when◌then◌else◌, minus}
use Rattle.fx.specs.Cordic.{cordic_of}
use Rattle.sync_corr.specs.declared.Corr.{Corr}
use Rattle.sync_corr.specs.declared.Both.{Both}
use Rattle.sync_heads.specs.declared.Word.{Word}
use Rattle.sync_heads.specs.declared.Word.TheVariants.{Ssync, Fsync, NotFsync}
use Rattle.sync_heads.specs.declared.Head.{Head}
use Rattle.sync_heads.specs.Words.{margin_of, side_of, negated}
use Rattle.sync_heads.specs.Frames.{frame_of}
use Rattle.sync_history.specs.History.{first_to}

-- held within -8..8
unfoldable pub clamped : ℤ → ℤ
clamped z = when lt_z z (minus 8) then minus 8 else when lt_z (pos 8) z then pos 8 else z

-- "a frame 120 slots": a head is expected to be marked if it stands a whole number of frames, at least one, after the first marked head f
unfoldable pub expected : ℕ → ℕ → Bool
expected f i = ltb f i && eqb ((i - f) % 120) 0

-- "the two marker counters stay at 2^32 - 1"
unfoldable pub capped : ℕ → ℕ
capped k = min (2 ^ 32 - 1) k

module _ (b : ℕ → Both) where
  -- ---- words
  -- "head 0 carries SSync when its S-minus-F margin is the larger", and with it the even heads; if head one's margin is larger the odd heads do
  abbrev pub ssync_odd : Bool
  ssync_odd = lt_z (margin_of (b 0)) (margin_of (b 1))

  unfoldable pub parity : ℕ
  parity = when ssync_odd then 1 else 0

  unfoldable pub ssync_at : ℕ → Bool
  ssync_at i = eqb (i % 2) parity

  -- the others are F heads, but a head zero with "no SSync before it"
  unfoldable pub f_at : ℕ → Bool
  f_at i = ltb 0 i && not (ssync_at i)

  -- "the sign against the previous SSync head", which is the head before
  unfoldable pub positive_at : ℕ → Bool
  positive_at i = not (lt_z (side_of (b i).f (b (i - 1)).s) (pos 0))

  unfoldable pub word_at : ℕ → Word
  word_at i = when ssync_at i then Ssync else when positive_at i then Fsync else NotFsync

  -- the correlation with its word, the sign taken off
  unfoldable pub corr_at : ℕ → Corr
  corr_at i = when ssync_at i then (b i).s else when positive_at i then (b i).f else negated (b i).f

  -- ---- marks
  -- "the majority of -8..8": that of the F heads before head i, each with its sign, 1 or -1
  unfoldable pub majority : ℕ → ℤ
  majority zero = pos 0
  majority (suc i) = when f_at i then clamped (majority i +ℤ (when positive_at i then pos 1 else minus 1)) else majority i

  -- an F head is marked by a sign against a majority of size 2 or more
  unfoldable pub marked_at : ℕ → Bool
  marked_at i = f_at i && leb 2 (nat_abs (majority i)) && (when positive_at i then lt_z (majority i) (pos 0) else lt_z (pos 0) (majority i))

  -- head f is the first marked one: there the numbers begin
  pub record Begins (f : ℕ) : Type 0 where
    pub marked : marked_at f ≡ true
    pub first : (j : ℕ) → j < f → marked_at j ≡ false

  -- .. the same, as a function: the first marked one of the first i heads
  abbrev pub first_mark : ℕ → Option ℕ
  first_mark i = first_to marked_at i

  -- ---- the loss by markers
  -- with the first marked head f, head i is expected to be marked and is not
  pub record Missed (f i : ℕ) : Type 0 where
    pub due : expected f i ≡ true
    pub unmarked : marked_at i ≡ false

  -- "two missed markers in a row lose": head i, and the one a frame before it
  pub record MarkerLoss (i : ℕ) : Type 0 where
    pub first : ℕ
    pub begins : Begins first
    pub before : ℕ
    pub frame : i ≡ before + 120
    pub was : Missed first before
    pub now : Missed first i

  -- .. the same, as functions
  unfoldable pub missed_since : Option ℕ → ℕ → Bool
  missed_since None i = false
  missed_since (Some f) i = expected f i && not (marked_at i)

  unfoldable pub missed_at : ℕ → Bool
  missed_at i = missed_since (first_mark i) i

  unfoldable pub markers_lose : ℕ → Bool
  markers_lose i = missed_since (first_mark i) (i - 120) && missed_at i

  -- ---- what the two counters count, of the first i heads
  -- a mark where none is expected, once the numbers have begun
  unfoldable pub stray_since : Option ℕ → ℕ → Bool
  stray_since None i = false
  stray_since (Some f) i = marked_at i && not (expected f i)

  unfoldable pub stray_at : ℕ → Bool
  stray_at i = stray_since (first_mark i) i

  unfoldable pub strays_to : ℕ → ℕ
  strays_to zero = 0
  strays_to (suc i) = strays_to i + (when stray_at i then 1 else 0)

  unfoldable pub misses_to : ℕ → ℕ
  misses_to zero = 0
  misses_to (suc i) = misses_to i + (when missed_at i then 1 else 0)

-- ---- numbers: n is the period, `start` the position of reading 0, `kept` the frame record from before the lock
module _ (n start : ℕ) (kept : Option FrameHead) (b : ℕ → Both) where
  -- readings stand a period apart
  unfoldable pub position_at : ℕ → ℕ
  position_at i = start + i * n

  -- the first marked head f follows the record from before, by the whole frames since then; each 120 heads make one frame more. "Frame numbers are
  -- u32 and wrap."
  unfoldable pub frame_at : ℕ → ℕ → ℕ
  frame_at f i = (frame_of n (position_at f) kept + (i - f) / 120) % 2 ^ 32

  -- head i counts from the first marked one, modulo 120; before there are no numbers
  unfoldable pub slot_since : Option ℕ → ℕ → Option SlotNumber
  slot_since None i = None
  slot_since (Some f) i = slot_in ((i - f) % 120) (frame_at f i)

  unfoldable pub slot_at : ℕ → Option SlotNumber
  slot_at i = slot_since (first_mark b (suc i)) i

  -- the last frame head up to head i, and the frame record: that of the last frame head among the first i heads
  abbrev pub frame_head : ℕ → ℕ → ℕ
  frame_head f i = f + (i - f) / 120 * 120

  unfoldable pub record_since : Option ℕ → ℕ → Option FrameHead
  record_since None i = kept
  record_since (Some f) i = last_head (position_at (frame_head f (i - 1))) (frame_at f (i - 1))

  unfoldable pub record_to : ℕ → Option FrameHead
  record_to i = record_since (first_mark b i) i

  -- ---- heads as told
  unfoldable pub head_at : ℕ → Head
  head_at i =
      let c = corr_at b i in
      let p = cordic_of c.re c.im in
      record { at = position_at i; word = word_at b i; corr = c; theta = p.angle; amp = p.size; slot = slot_at i; nco_phase = 0 }

  -- the heads that reading i tells, in order: head zero "waits for head one, and stays silent if it is no Ssync"; a reading that loses tells none
  unfoldable pub first_told : ℕ → Option Head
  first_told zero = None
  first_told (suc zero) = when ssync_at b 0 then Some (head_at 0) else Some (head_at 1)
  first_told (suc (suc i)) = when markers_lose b (suc (suc i)) then None else Some (head_at (suc (suc i)))

  unfoldable pub second_told : ℕ → Option Head
  second_told zero = None
  second_told (suc zero) = when ssync_at b 0 then Some (head_at 1) else None
  second_told (suc (suc i)) = None
