-- What the private functions promise: the alignment after n symbols of a slot, and places of the buffer.
use Rattle.std.specs.Prelude.{ℕ, zero, suc, ◌+◌, ◌-◌, ◌*◌, ◌/◌, ◌%◌, ◌≤◌, ◌^◌, ◌≡◌, List, [], ◌∷◌, ◌++◌, eqb, ℤ, pos, length, take, drop, Some}
use Rattle.laws.specs.Choice.{when◌then◌else◌}
use Rattle.laws.specs.Ranges.{firsts}
use Rattle.phase.specs.declared.WholeSlot.{WholeSlot}
use Rattle.phase.specs.Phase.{corrected_of}
use Rattle.sync_heads.specs.declared.Head.{Head}
use Rattle.eq_fir.specs.Fir.{line_after}
use Rattle.eq_fir.specs.Rows.{Bytes, Ends, output_by}
use Rattle.frame_map.specs.Map.{part_of}
use Rattle.phase.specs.Ranges.{WholeOk}
use Rattle.frame_line.specs.declared.Meta.{Meta}
use Rattle.frame_line.specs.declared.Metas.{Metas}
use Rattle.frame.specs.declared.Back.{Back}
use Rattle.frame.specs.declared.Pushed.{Pushed}
use Rattle.frame.specs.Align.{joined_to, pushed_back}
use Rattle.frame.specs.Stretch.{after_all}
use Rattle.receiver_slot.specs.declared.Points.{Points}
use Rattle.receiver_slot.specs.declared.AlignedRun.{AlignedRun}
use Rattle.receiver_slot.specs.declared.Runs.{Runs}
use Rattle.receiver_slot.specs.declared.Stretch.{Stretch}
use Rattle.receiver_slot.specs.Slot.{corrected_all, aligned_all, soft_all, soft_of, no_run}
use Rattle.receiver_slot.specs.Ranges.{PointsOk}

-- the back after n symbols, what the next one makes of it, and the soft bits of all that came out
unfoldable pub back_at : ℕ → Back → WholeSlot → List ℤ → List ℤ → List ℤ → List ℤ → Back
back_at n b w table store f s = after_all b (corrected_all n w table store) f s

unfoldable pub pushed_at : ℕ → Back → WholeSlot → List ℤ → List ℤ → List ℤ → List ℤ → Pushed
pushed_at n b w table store f s = pushed_back (back_at n b w table store f s) (corrected_of w table store n) f s

unfoldable pub soft_to : ℕ → Points → Back → WholeSlot → List ℤ → List ℤ → List ℤ → List ℤ → List ℤ
soft_to n p b w table store f s = soft_all p (aligned_all b (corrected_all n w table store) f s)

-- values from place o of a buffer on
unfoldable pub put_at : ℕ → List ℤ → List ℤ → List ℤ
put_at o values buffer = take o buffer ++ (values ++ drop (o + length values) buffer)

-- the runs by those that wait and the slot's position
unfoldable pub tail_of : Points → Metas → AlignedRun
tail_of p w = when eqb w.count 0 then no_run else record { at = w.first.at; j = w.first.j; count = w.count; bits = p.bits }

unfoldable pub runs_from : Points → Back → ℕ → Runs
runs_from p b at = record { tail = tail_of p (joined_to b at).metas; body = record { at = at; j = 0; count = 9291; bits = p.bits } }

-- ---- once nothing trains any more
-- the line behind symbols 29 to 28 + k, and the soft bits of those that they let out
unfoldable pub line_on : ℕ → List ℤ → WholeSlot → List ℤ → List ℤ → List ℤ
line_on zero line w table store = line
line_on (suc k) line w table store =
    let y = (corrected_of w table store (29 + k)).y in
    line_after (line_on k line w table store) y.i y.q

unfoldable pub soft_on : ℕ → Points → List ℤ → List ℤ → WholeSlot → List ℤ → List ℤ → List ℤ
soft_on zero p rows line w table store = []
soft_on (suc k) p rows line w table store =
    soft_on k p rows line w table store ++ soft_of (part_of (24 + k)) p (output_by rows (line_on (suc k) line w table store))

-- ---- the same in groups of symbols: their lines stand in one list
-- a line, with two zeros more
unfoldable pub behind_of : List ℤ → List ℤ
behind_of line = line ++ (pos 0 ∷ pos 0 ∷ [])

-- the symbols 29 + k to 28 + k + n in front of it, the newest first
unfoldable pub ahead_on : ℕ → ℕ → List ℤ → WholeSlot → List ℤ → List ℤ → List ℤ
ahead_on k zero behind w table store = behind
ahead_on k (suc n) behind w table store =
    let y = (corrected_of w table store (29 + (k + n))).y in
    y.i ∷ y.q ∷ ahead_on k n behind w table store

-- what the first m of them give, as pairs: number j
unfoldable pub out_on : ℕ → List ℤ → List ℤ → WholeSlot → List ℤ → List ℤ → ℕ → ℤ
out_on k rows line w table store j =
    let z = output_by rows (ahead_on k (j / 2 + 1) (behind_of line) w table store) in
    when eqb (j % 2) 0 then z.i else z.q

unfoldable pub outs_on : ℕ → ℕ → List ℤ → List ℤ → WholeSlot → List ℤ → List ℤ → List ℤ
outs_on k m rows line w table store = firsts (out_on k rows line w table store) (2 * m)

-- the groups but for the last, 135 symbols from 9,132 on: the 32 symbols that let out pilots, then 136 main symbols and 4 of TMCC at a time
unfoldable pub stretch_of : ℕ → Stretch
stretch_of g = when eqb g 0 then record { from = 0; symbols = 32; mains = 0 } else record { from = 140 * g - 108; symbols = 140; mains = 136 }

-- what a group of n symbols needs, the first m of which let out main symbols
pub record GroupOk (line z rows : List ℤ) (w : WholeSlot) (p : Points) (k n m o : ℕ) (table store soft : List ℤ) : Type 0 where
  pub line_long : length line ≡ 22
  pub outs : 2 * m ≤ length z
  pub bytes : Bytes rows
  pub whole : WholeOk w
  pub accepted : w.head.at + 9296 ≤ 2 ^ 62
  pub points : PointsOk p
  pub cosines : length table ≡ 1024
  pub held : length store ≡ 18592
  pub within : 29 + (k + n) ≤ 9296
  pub few : n ≤ 140
  pub fewer : m ≤ n
  pub most : m ≤ 136
  pub room : o + m * p.bits ≤ length soft

-- what symbol j of a head's slot comes out with
unfoldable pub meta_at : Head → ℕ → Meta
meta_at h j = record { at = h.at + j; j = j; word = h.word; slot = h.slot }

-- the back behind a whole slot, by one within it and the line
unfoldable pub ended_of : Back → List ℤ → Head → Back
ended_of b line h =
    record {
      eq = record { line = line; filled = 11; taps = b.eq.taps; from = b.eq.from; opened = b.eq.opened; sums = b.eq.sums };
      metas = record {
        count = 5;
        first = meta_at h 9291;
        second = meta_at h 9292;
        third = meta_at h 9293;
        fourth = meta_at h 9294;
        fifth = meta_at h 9295;
      };
      last = Some (h.at + 9295);
    }

-- what the rest of a slot needs
pub record RestOk (line rows : List ℤ) (w : WholeSlot) (p : Points) (place : ℕ) (table store soft : List ℤ) : Type 0 where
  pub line_long : length line ≡ 22
  pub bytes : Bytes rows
  pub ends : Ends rows
  pub whole : WholeOk w
  pub accepted : w.head.at + 9296 ≤ 2 ^ 62
  pub points : PointsOk p
  pub cosines : length table ≡ 1024
  pub held : length store ≡ 18592
  pub room : place + length (soft_on 9267 p rows line w table store) ≤ length soft
