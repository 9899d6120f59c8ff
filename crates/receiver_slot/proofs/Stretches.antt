-- A group of symbols, done at once, leaves line and soft bits as its symbols do one after another. Assumes nothing.
use Prim.Native.Nat.{ℕ, zero, suc, ◌+◌, ◌-◌, ◌*◌, ◌/◌, ◌%◌, ◌≤◌, ◌<◌}
use mathlib.Core.Bool.{false}
use mathlib.Core.List.{List, [], ◌∷◌, ◌++◌, append_assoc, append-nil}
use mathlib.Core.Path.{◌≡◌, refl, ap, ap₂, subst, sym, ◌∙◌}
use native.Mathlib.Nat.{add-suc, add-zero}
use native.Mathlib.Omega.{arith}
use borrow.Author.Tests.{eq-eqb, eqb-true, ne_eqb}
use lib.Dec.{eqb, lit≤}
use lib.IntN.{ℤ, pos}
use lib.ListN.{drop, get_or, length, length-append, length-drop, length-take, take}
use lib.Seq.{take_at, take-take}
use Rattle.laws.proofs.Lists.{getD-firsts}
use Rattle.laws.proofs.Tests.{by_test, never}
use Rattle.laws.specs.Choice.{if_no, if_yes}
use Rattle.laws.specs.Ranges.{firsts}
use Rattle.angles.specs.declared.Symbol.{Symbol}
use Rattle.demap.specs.Demap.{block_bits, label_metric, soft_bits, symbol_metric}
use Rattle.demap.proofs.Blocks.{length_block}
use Rattle.phase.specs.declared.WholeSlot.{WholeSlot}
use Rattle.phase.specs.Phase.{corrected_of}
use Rattle.eq_fir.specs.Fir.{line_after}
use Rattle.eq_fir.specs.Rows.{Ends, output_by}
use Rattle.eq_fir.proofs.Windows.{output_short}
use Rattle.frame_map.specs.Map.{part_of}
use Rattle.frame_map.proofs.Laws.{main_run, part_behind, part_pilot, tmcc_run}
use Rattle.receiver_slot.specs.declared.Points.{Points}
use Rattle.receiver_slot.specs.declared.Stretch.{Stretch}
use Rattle.receiver_slot.specs.Slot.{soft_of}
use Rattle.receiver_slot.specs.Steps.{GroupOk, RestOk, ahead_on, behind_of, line_on, out_on, outs_on, put_at, soft_on, stretch_of}
use Rattle.receiver_slot.proofs.Ahead.{outs_long}
use Rattle.receiver_slot.proofs.Rest.{line_long, softs-room}
use Rattle.receiver_slot.proofs.Steps.{put_length, put_more, put_none}

-- ---- which symbols have soft bits
abbrev bits_of : Points → Symbol → List ℤ
bits_of p z = soft_bits (label_metric z.i z.q p.points) p.bits (pos p.k)

soft_main : (p : Points) (j : ℕ) (z : Symbol) → 56 ≤ j → j < 9296 → (j - 56) % 140 < 136 → soft_of (part_of j) p z ≡ bits_of p z
unfolding soft_of
soft_main p j z l h k = rw (part_behind j l, main_run (j - 56) (omega (arith, h, l)) k)

soft_pilot : (p : Points) (j : ℕ) (z : Symbol) → 24 ≤ j → j < 56 → soft_of (part_of j) p z ≡ []
unfolding soft_of
soft_pilot p j z l h = rw (part_pilot j l h)

soft_tmcc : (p : Points) (j : ℕ) (z : Symbol) → 56 ≤ j → j < 9296 → 136 ≤ (j - 56) % 140 → soft_of (part_of j) p z ≡ []
unfolding soft_of
soft_tmcc p j z l h k = rw (part_behind j l, tmcc_run (j - 56) (omega (arith, h, l)) k)

-- the first m symbols from 29 + k on let out main symbols, the others of n none
pub record Group (p : Points) (k n m : ℕ) : Type 0 where
  pub fewer : m ≤ n
  pub mains : (t : ℕ) → t < m → (z : Symbol) → soft_of (part_of (24 + (k + t))) p z ≡ bits_of p z
  pub nones : (t : ℕ) → t < n - m → (z : Symbol) → soft_of (part_of (24 + (k + m + t))) p z ≡ []

-- where group g begins
abbrev pub start_of : ℕ → ℕ
start_of g = 140 * g - 108

-- group g, and that the next one begins behind it
pub record Held (p : Points) (g : ℕ) (s : Stretch) : Type 0 where
  pub from : s.from ≡ start_of g
  pub next : s.from + s.symbols ≡ start_of (g + 1)
  pub few : s.symbols ≤ 140
  pub most : s.mains ≤ 136
  pub group : Group p s.from s.symbols s.mains

pilots : (p : Points) → Held p 0 (record { from = 0; symbols = 32; mains = 0 })
pilots p =
    record {
      from = refl;
      next = refl;
      few = lit≤ tt;
      most = lit≤ tt;
      group = record {
        fewer = lit≤ tt;
        mains = λ t h z. absurd (no t h);
        nones = λ t h z. soft_pilot p (24 + (0 + 0 + t)) z (omega arith) (omega (arith, h));
      };
    }
  where
    no : (t : ℕ) → t < 0 → ⊥
    no t h = omega arith

runs : (p : Points) (g : ℕ) → 0 < g → g < 66 → Held p g (record { from = 140 * g - 108; symbols = 140; mains = 136 })
runs p g l h =
    record {
      from = refl;
      next = omega (arith, l);
      few = lit≤ tt;
      most = lit≤ tt;
      group = record {
        fewer = lit≤ tt;
        mains = λ t k z. soft_main p (24 + (140 * g - 108 + t)) z (omega (arith, l)) (omega (arith, h, k)) (omega (arith, l, k));
        nones = λ t k z. soft_tmcc p (24 + (140 * g - 108 + 136 + t)) z (omega (arith, l)) (omega (arith, h, k)) (omega (arith, l, k));
      };
    }

pub held : (p : Points) (g : ℕ) (s : Stretch) → g < 66 → s ≡ stretch_of g → Held p g s
unfolding stretch_of
held p g s h e =
    by_test (eqb g 0)
    (λ t. subst (Held p g) (sym (e ∙ if_yes (eqb g 0) _ _ t)) (subst (λ (i : ℕ). Held p i (record { from = 0; symbols = 32; mains = 0 })) (sym (eqb-true g 0 t)) (pilots p)))
    (λ t. subst (Held p g) (sym (e ∙ if_no (eqb g 0) _ _ t)) (runs p g (some g t) h))
  where
    some : (g : ℕ) → eqb g 0 ≡ false → 0 < g
    some zero t = absurd (never t)
    some (suc g) t = omega arith

pub last_run : (p : Points) → Group p 9132 135 135
last_run p =
    record {
      fewer = lit≤ tt;
      mains = λ t k z. soft_main p (24 + (9132 + t)) z (omega arith) (omega (arith, k)) (omega (arith, k));
      nones = λ t k z. absurd (no t k);
    }
  where
    no : (t : ℕ) → t < 135 - 135 → ⊥
    no t h = omega arith

module _ (p : Points) (rows line : List ℤ) (w : WholeSlot) (table store : List ℤ) where
  abbrev lines : ℕ → List ℤ
  lines k = line_on k line w table store

  abbrev softs : ℕ → List ℤ
  softs k = soft_on k p rows line w table store

  -- ---- the line
  group-line : length line ≡ 22 → (k n : ℕ) → lines (k + n) ≡ take 22 (ahead_on k n (behind_of (lines k)) w table store)
  unfolding ahead_on behind_of line_on line_after
  group-line h k zero = rw (add-zero k) (sym (take_at (lines k) (pos 0 ∷ pos 0 ∷ []) 22 (line_long p rows line w table store h k)))
  group-line h k (suc n) =
      let x = ahead_on k n (behind_of (lines k)) w table store in
      let y = (corrected_of w table store (29 + (k + n))).y in
      rw (add-suc k n) (ap (λ (l : List ℤ). y.i ∷ y.q ∷ take 20 l) (group-line h k n) ∙ ap (λ (l : List ℤ). y.i ∷ y.q ∷ l) (take-take 20 22 x (lit≤ tt)))

  -- ---- what symbol t gives
  group-out : length line ≡ 22 → Ends rows → (k t : ℕ) → output_by rows (ahead_on k (t + 1) (behind_of (lines k)) w table store) ≡ output_by rows (lines (suc (k + t)))
  group-out h e k t =
      let f : k + (t + 1) ≡ suc (k + t) = omega arith in
      output_short rows (ahead_on k (t + 1) (behind_of (lines k)) w table store) e ∙ ap (output_by rows) (sym (group-line h k (t + 1))) ∙ ap (λ (j : ℕ). output_by rows (lines j)) f

  outs-at : (k m j : ℕ) → j < 2 * m → get_or (outs_on k m rows (lines k) w table store) j (pos 0) ≡ out_on k rows (lines k) w table store j
  unfolding outs_on
  outs-at k m j h =
      let f = out_on k rows (lines k) w table store in
      sym (ap (λ (l : List ℤ). get_or l j (pos 0)) (append-nil (firsts f (2 * m)))) ∙ getD-firsts f (pos 0) (2 * m) [] j h

  out-i : length line ≡ 22 → Ends rows → (k t : ℕ) → out_on k rows (lines k) w table store (2 * t) ≡ (output_by rows (lines (suc (k + t)))).i
  unfolding out_on
  out-i h e k t =
      let f : 2 * t / 2 ≡ t = omega arith in
      if_yes (eqb (2 * t % 2) 0) _ _ (eq-eqb (2 * t % 2) 0 (omega arith))
      ∙ ap (λ (m : ℕ). (output_by rows (ahead_on k (m + 1) (behind_of (lines k)) w table store)).i) f ∙ ap (λ (z : Symbol). z.i) (group-out h e k t)

  out-q : length line ≡ 22 → Ends rows → (k t : ℕ) → out_on k rows (lines k) w table store (2 * t + 1) ≡ (output_by rows (lines (suc (k + t)))).q
  unfolding out_on
  out-q h e k t =
      let f : (2 * t + 1) / 2 ≡ t = omega arith in
      if_no (eqb ((2 * t + 1) % 2) 0) _ _ (ne_eqb ((2 * t + 1) % 2) 0 (omega arith))
      ∙ ap (λ (m : ℕ). (output_by rows (ahead_on k (m + 1) (behind_of (lines k)) w table store)).q) f ∙ ap (λ (z : Symbol). z.q) (group-out h e k t)

  -- ---- the soft bits
  abbrev block : ℕ → ℕ → ℕ → List ℤ
  block k m t = block_bits (outs_on k m rows (lines k) w table store) p.points p.bits (pos p.k) t

  block-next : length line ≡ 22 → Ends rows → (k m t : ℕ) → t < m → block k m (suc t) ≡ block k m t ++ bits_of p (output_by rows (lines (suc (k + t))))
  unfolding block_bits symbol_metric
  block-next h e k m t g =
      rw (outs-at k m (2 * t) (omega (arith, g)), outs-at k m (2 * t + 1) (omega (arith, g)), out-i h e k t, out-q h e k t)

  softs-next : (j : ℕ) → softs (suc j) ≡ softs j ++ soft_of (part_of (24 + j)) p (output_by rows (lines (suc j)))
  unfolding soft_on
  softs-next j = refl

  soft-mains : length line ≡ 22 → Ends rows → (k n m : ℕ) → Group p k n m → (t : ℕ) → t ≤ m → softs (k + t) ≡ softs k ++ block k m t
  unfolding block_bits
  soft-mains h e k n m c zero g = rw (add-zero k) (sym (append-nil (softs k)))
  soft-mains h e k n m c (suc t) g =
      let z = output_by rows (lines (suc (k + t))) in
      ap softs (add-suc k t) ∙ softs-next (k + t) ∙ ap₂ ◌++◌ (soft-mains h e k n m c t (omega (arith, g))) (c.mains t g z)
      ∙ append_assoc (softs k) (block k m t) (bits_of p z) ∙ ap (λ (l : List ℤ). softs k ++ l) (sym (block-next h e k m t g))

  soft-nones : (k u : ℕ) → ((t : ℕ) → t < u → (z : Symbol) → soft_of (part_of (24 + (k + t))) p z ≡ []) → softs (k + u) ≡ softs k
  soft-nones k zero c = rw (add-zero k)
  soft-nones k (suc u) c =
      ap softs (add-suc k u) ∙ softs-next (k + u) ∙ ap₂ ◌++◌ (soft-nones k u (λ t h. c t (omega (arith, h)))) (c u (omega arith) (output_by rows (lines (suc (k + u))))) ∙ append-nil (softs k)

  group-soft : length line ≡ 22 → Ends rows → (k n m : ℕ) → Group p k n m → softs (k + n) ≡ softs k ++ block k m m
  group-soft h e k n m c =
      let f : k + n ≡ k + m + (n - m) = omega (arith, c.fewer) in
      ap softs f ∙ soft-nones (k + m) (n - m) c.nones ∙ soft-mains h e k n m c m (omega arith)

-- ---- how far the rest of a slot is: line l, place o and buffer soft are those behind k symbols
pub record Done (p : Points) (rows line : List ℤ) (w : WholeSlot) (table store : List ℤ) (k place o : ℕ) (l soft old : List ℤ) : Type 0 where
  pub line_is : l ≡ line_on k line w table store
  pub place_is : o ≡ place + length (soft_on k p rows line w table store)
  pub soft_is : soft ≡ put_at place (soft_on k p rows line w table store) old

module _ {p : Points} {rows line : List ℤ} {w : WholeSlot} {table store : List ℤ} {place : ℕ} {old : List ℤ} (r : RestOk line rows w p place table store old) where
  pub done_none : Done p rows line w table store 0 place place line old old
  unfolding line_on soft_on
  done_none = record { line_is = refl; place_is = omega arith; soft_is = sym (put_none place old) }

  long-so-far : (k : ℕ) → k ≤ 9267 → place + length (soft_on k p rows line w table store) ≤ length old
  long-so-far k h = omega (arith, softs-room p rows line w table store k h, r.room)

  group-long : (k n m : ℕ) → Group p k n m → length (soft_on (k + n) p rows line w table store) ≡ length (soft_on k p rows line w table store) + m * p.bits
  group-long k n m c =
      let b = block p rows line w table store k m m in
      ap {B = ℕ} (λ (l : List ℤ). length l) (group-soft p rows line w table store r.line_long r.ends k n m c)
      ∙ length-append (soft_on k p rows line w table store) b
      ∙ ap {B = ℕ} (λ (i : ℕ). length (soft_on k p rows line w table store) + i) (length_block (outs_on k m rows (line_on k line w table store) w table store) p.points p.bits (pos p.k) m)

  module _ {k o : ℕ} {l soft : List ℤ} (d : Done p rows line w table store k place o l soft old) where
    pub done-length : k ≤ 9267 → length soft ≡ length old
    done-length h = ap {B = ℕ} (λ (x : List ℤ). length x) d.soft_is ∙ put_length place (soft_on k p rows line w table store) old (long-so-far k h)

    -- the group fits
    pub group-ok : (n m : ℕ) (z : List ℤ) → Group p k n m → k + n ≤ 9267 → n ≤ 140 → m ≤ 136 → length z ≡ 272 → GroupOk l z rows w p k n m o table store soft
    group-ok n m z c h f s q =
        record {
          line_long = ap {B = ℕ} (λ (x : List ℤ). length x) d.line_is ∙ line_long p rows line w table store r.line_long k;
          outs = omega (arith, s, q);
          bytes = r.bytes;
          whole = r.whole;
          accepted = r.accepted;
          points = r.points;
          cosines = r.cosines;
          held = r.held;
          within = omega (arith, h);
          few = f;
          fewer = c.fewer;
          most = s;
          room = omega (arith, d.place_is, done-length (omega (arith, h)), long-so-far (k + n) h, group-long k n m c);
        }

    -- .. and is done
    pub group-done : (n m o₂ : ℕ) (l₂ soft₂ : List ℤ) → Group p k n m → k ≤ 9267 → o₂ ≡ o + m * p.bits → l₂ ≡ take 22 (ahead_on k n (behind_of l) w table store) →
        soft₂ ≡ put_at o (block_bits (outs_on k m rows l w table store) p.points p.bits (pos p.k) m) soft → Done p rows line w table store (k + n) place o₂ l₂ soft₂ old
    group-done n m o₂ l₂ soft₂ c h e f g =
        let s = soft_on k p rows line w table store in
        let x = line_on k line w table store in
        let b = block_bits (outs_on k m rows x w table store) p.points p.bits (pos p.k) m in
        record {
          line_is = f ∙ ap (λ (y : List ℤ). take 22 (ahead_on k n (behind_of y) w table store)) d.line_is ∙ sym (group-line p rows line w table store r.line_long k n);
          place_is = omega (arith, e, d.place_is, group-long k n m c);
          soft_is = g ∙ ap (λ (y : List ℤ). put_at o (block_bits (outs_on k m rows y w table store) p.points p.bits (pos p.k) m) soft) d.line_is
              ∙ ap₂ (λ (i : ℕ) (y : List ℤ). put_at i b y) d.place_is d.soft_is
              ∙ put_more place s b old (omega (arith, r.room))
              ∙ ap (λ (y : List ℤ). put_at place y old) (sym (group-soft p rows line w table store r.line_long r.ends k n m c));
        }

-- where group g begins and ends
module _ {p : Points} {rows line : List ℤ} {w : WholeSlot} {table store : List ℤ} {place o : ℕ} {l soft old : List ℤ} {g : ℕ} {s : Stretch} (h : Held p g s) where
  pub at-start : Done p rows line w table store (start_of g) place o l soft old → Done p rows line w table store s.from place o l soft old
  at-start d = subst (λ (i : ℕ). Done p rows line w table store i place o l soft old) (sym h.from) d

  pub at-end : Done p rows line w table store (s.from + s.symbols) place o l soft old → Done p rows line w table store (start_of (g + 1)) place o l soft old
  at-end d = subst (λ (i : ℕ). Done p rows line w table store i place o l soft old) h.next d

-- the lent numbers, 2 m of which were written, are as many as before
pub outs_kept : (k m : ℕ) (rows line : List ℤ) (w : WholeSlot) (table store old z : List ℤ) → length old ≡ 272 → m ≤ 136 → z ≡ outs_on k m rows line w table store ++ drop (2 * m) (take 272 old) → length z ≡ 272
outs_kept k m rows line w table store old z h g e =
    ap {B = ℕ} (λ (x : List ℤ). length x) e
    ∙ omega (arith, h, g, length-append (outs_on k m rows line w table store) (drop (2 * m) (take 272 old)), outs_long k m rows line w table store, length-drop (2 * m) (take 272 old), length-take 272 old)
