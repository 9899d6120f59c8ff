-- What specs/Claims.antt claims. Assumes nothing.
use mathlib.Core.List.{List, [], ◌∷◌, ◌++◌, append-nil}
use mathlib.Core.Path.{◌≡◌, refl, sym, ap, ap₂, subst, ◌∙◌}
use Prim.Native.Nat.{ℕ, ◌+◌, ◌*◌, ◌^◌, ◌%◌, ◌≤◌}
use native.Mathlib.Omega.{arith}
use borrow.Author.Tests.{eq-eqb}
use lib.IntN.{ℤ}
use lib.ListN.{length, drop, length-drop}
use lib.Seq.{drop-append-le, take_at}
use Rattle.laws.proofs.Lists.{length-firsts}
use Rattle.std.specs.Prelude.{Result, Ok, Err, ⊤, IsOk, IsErr}
use Rattle.laws.proofs.Tests.{never}
use Rattle.laws.specs.Choice.{if_yes}
use Rattle.refusal.specs.declared.Refusal.{Refusal}
use Rattle.refusal.specs.Refusals.{written}
use Rattle.capture.specs.declared.Heading.{Heading}
use Rattle.capture.specs.Bytes.{short_at}
use Rattle.capture.specs.Bodies.{table_of, bits_of, points_from, points_of, padded, header_refusal, told, loaded_of, accepted_heading, header_of, answer_refusal, header_answer, header_table}
use Rattle.capture.specs.Capture.{Capture, heading_points, acting_of, ends_of, loaded_capture, behind, capture_of}
use Rattle.capture.specs.Blocks.{played_of, ended_of, blockwise, joined, EvenBut, Reaches}
use Rattle.capture.specs.Claims.{AnswerIs, PointsTold, HeaderKept, BlocksTell}
use Rattle.capture.proofs.Laws.{fitting, header_whole, told_was_ok}
use Rattle.capture.proofs.Prefix.{header-kept, table_kept}
use Rattle.capture.proofs.Shares.{tells}

pub header_told : HeaderKept
header_told b more h = (header-kept b more h, table_kept b more h)

-- a heading that is not refused: symbols start at an even byte, within the bytes, and whole ones are declared
record Start (b : List ℕ) (h : Heading) : Type 0 where
  within : h.from ≤ length b
  at : h.from % 2 ≡ 0
  declared : h.declared % 2 ≡ 0

accepted_starts : (b : List ℕ) → header_refusal b ≡ Ok Prim.tt → Start b (accepted_heading b)
unfolding accepted_heading
accepted_starts b e =
    let w = header_whole b e in
    let f = fitting b w.contents in
    record { within = w.long; at = omega (arith, f.points.odd); declared = f.symbols }

starts : (b : List ℕ) (h : Heading) → header_of b ≡ Ok h → Start b h
unfolding header_of
starts b h e =
    let t = told_was_ok (header_refusal b) (accepted_heading b) h (sym e) in
    subst (λ (h : Heading). Start b h) (sym t.1) (accepted_starts b t.0)

-- what is left of the first block keeps the cut between symbols
tail_even : (b : List ℕ) (bs : List (List ℕ)) (n : ℕ) → n % 2 ≡ 0 → n ≤ length b → EvenBut (b ∷ bs) → EvenBut (drop n b ∷ bs)
tail_even b [] n e h v = Prim.tt
tail_even b (c ∷ bs) n e h v = (rw (length-drop n b) (omega (arith, v.0)), v.1)

-- all but the symbols is the first block's
kept : (b : List ℕ) (bs : List (List ℕ)) → Reaches b bs → (header_of (b ++ joined bs) ≡ header_of b) × (table_of (b ++ joined bs) ≡ table_of b)
unfolding joined
kept b [] r = (ap header_of (append-nil b), ap table_of (append-nil b))
kept b (c ∷ bs) r = header_told b (joined (c ∷ bs)) r

played : (b : List ℕ) (bs : List (List ℕ)) (h : Heading) → Start b h → EvenBut (b ∷ bs) →
    let parts = drop h.from b ∷ bs in
    let rest = drop h.from (b ++ joined bs) in
    loaded_capture h (table_of b) (played_of h.declared parts) (ended_of h.declared parts)
    ≡ loaded_capture h (table_of b) (acting_of h.declared rest) (ends_of h.declared rest)
unfolding joined
played b bs h s v =
    let t = tells h.declared (drop h.from b ∷ bs) s.declared (tail_even b bs h.from s.at s.within v) in
    let e = drop-append-le h.from b (joined bs) s.within in
    rw e (ap₂ (λ (x : List ℤ) (y : Result ⊤ Refusal). loaded_capture h (table_of b) x y) t.0 t.1)

behind_same : (r : Result Heading Refusal) (f g : Heading → Capture) → ((h : Heading) → r ≡ Ok h → f h ≡ g h) → behind r f ≡ behind r g
behind_same (Ok h) f g e = ap (λ (c : Capture). Ok c) (e h refl)
behind_same (Err why) f g e = refl

pub blocks_tell : BlocksTell
unfolding blockwise capture_of
blocks_tell b bs r v =
    let k = kept b bs r in
    rw (k.0, k.1) (behind_same (header_of b) _ _ (λ h e. played b bs h (starts b h e) v))

-- ---- the entry's answer
room_is : (n : ℕ) (s : List ℕ) → n ≡ 1024 → answer_refusal n s ≡ header_refusal s
unfolding answer_refusal
room_is n s e = if_yes _ _ _ (eq-eqb n 1024 e)

table_if : (r : Result ⊤ Refusal) (h : Heading) (t u : List ℤ) → (IsOk (told r h) → written r t u ≡ u) × (IsErr (told r h) → written r t u ≡ t)
table_if (Ok x) h t u = (λ k. refl, λ k. absurd (never (sym k)))
table_if (Err why) h t u = (λ k. absurd (never (sym k)), λ k. refl)

pub answer_is : AnswerIs
unfolding header_answer header_table header_of
answer_is s t e =
    let a = table_if (header_refusal s) (accepted_heading s) t (table_of s) in rw (room_is (length t) s e) (refl, a.0, a.1)

accepted_points : (s : List ℕ) → heading_points (accepted_heading s) ≡ points_of s
unfolding heading_points accepted_heading loaded_of padded points_of points_from
accepted_points s = take_at (points_of s) _ (2 * 2 ^ bits_of s) (length-firsts (λ (i : ℕ). short_at s (2178 + 2 * i)) (2 * 2 ^ bits_of s))

pub points-told : PointsTold
unfolding header_of
points-told s h e =
    ap heading_points (told_was_ok (header_refusal s) (accepted_heading s) h (sym e)).1 ∙ accepted_points s
