-- The first 2,310 bytes tell all that stands before the symbols. Assumes nothing.
use mathlib.Core.Bool.{false}
use mathlib.Core.List.{List, ◌++◌}
use mathlib.Core.Path.{◌≡◌, refl, ap}
use Prim.Native.Nat.{ℕ, ◌+◌, ◌-◌, ◌*◌, ◌^◌, ◌≤◌, ◌<◌}
use native.Mathlib.Omega.{arith}
use borrow.Author.Tests.{le-leb, le-ltb}
use lib.Dec.{ltb}
use lib.ListN.{length, get_or, length-append, get_or-append}
use Rattle.laws.proofs.Lists.{firsts-ext}
use Rattle.laws.proofs.Tests.{if_cong}
use Rattle.std.specs.Prelude.{Result, Ok, Err, ⊤}
use Rattle.refusal.specs.declared.Refusal.{Refusal}
use Rattle.capture.specs.declared.Heading.{Heading}
use Rattle.capture.specs.declared.entries.Kind.{Kind}
use Rattle.capture.specs.declared.entries.Kind.TheVariants.{Words, Table, Points, Symbols}
use Rattle.capture.specs.Bytes.{number_at, short_at, byte_at}
use Rattle.capture.specs.Contents.{place_of, length_of, entry_fits, contents_fit}
use Rattle.capture.specs.Bodies.{word_from, f_word, s_word, words_fit, table_of, bits_of, points_from, points_of, scale_of, points_refusal, bodies_refusal, header_refusal, told, words_of, loaded_of, accepted_heading, header_of}
use Rattle.capture.proofs.Laws.{Listable, fitting, fits, header_whole}

module _ (b m : List ℕ) (h : 2310 ≤ length b) where
  abbrev s : List ℕ
  s = b ++ m

  long : (n : ℕ) → n ≤ 2310 → n ≤ length (b ++ m)
  long n k = omega (arith, length-append b m)

  byte-kept : (k : ℕ) → k < 2310 → get_or (b ++ m) k 0 ≡ get_or b k 0
  byte-kept k l = get_or-append b m 0 k (omega arith)

  number-kept : (k : ℕ) → k + 4 ≤ 2310 → number_at (b ++ m) k ≡ number_at b k
  unfolding number_at
  number-kept k l =
      rw (byte-kept k (omega arith), byte-kept (k + 1) (omega arith), byte-kept (k + 2) (omega arith), byte-kept (k + 3) (omega arith))

  short-kept : (k : ℕ) → k + 2 ≤ 2310 → short_at (b ++ m) k ≡ short_at b k
  unfolding short_at
  short-kept k l = rw (byte-kept k (omega arith), byte-kept (k + 1) (omega arith))

  signed-kept : (k : ℕ) → k < 2310 → byte_at (b ++ m) k ≡ byte_at b k
  unfolding byte_at
  signed-kept k l = rw (byte-kept k l)

  -- contents
  near : (kind : Kind) → place_of kind < 4
  near Words = omega arith
  near Table = omega arith
  near Points = omega arith
  near Symbols = omega arith

  length-kept : (kind : Kind) → length_of (b ++ m) kind ≡ length_of b kind
  unfolding length_of
  length-kept kind = number-kept (1 + 8 * place_of kind + 4) (omega (arith, near kind))

  entry_kept : (kind : Kind) → entry_fits (b ++ m) kind ≡ entry_fits b kind
  unfolding entry_fits
  entry_kept kind =
      let n : ℕ = place_of kind in
      let l : n < 4 = near kind in
      rw (
        length-kept kind,
        byte-kept (1 + 8 * n) (omega arith),
        byte-kept (1 + 8 * n + 1) (omega arith),
        byte-kept (1 + 8 * n + 2) (omega arith),
        byte-kept (1 + 8 * n + 3) (omega arith),
      )

  contents-kept : contents_fit (b ++ m) ≡ contents_fit b
  unfolding contents_fit
  contents-kept =
      rw (
        le-leb 33 (length (b ++ m)) (long 33 (omega arith)),
        le-leb 33 (length b) (omega arith),
        byte-kept 0 (omega arith),
        entry_kept Words,
        entry_kept Table,
        entry_kept Points,
        entry_kept Symbols,
      )

  -- bodies
  word_kept : (k : ℕ) → k + 48 ≤ 2310 → word_from (b ++ m) k ≡ word_from b k
  unfolding word_from
  word_kept k l = firsts-ext (λ (i : ℕ). byte_at (b ++ m) (k + i)) (λ (i : ℕ). byte_at b (k + i)) 48 (λ i g. signed-kept (k + i) (omega arith))

  words-kept : words_fit (b ++ m) ≡ words_fit b
  unfolding words_fit f_word s_word
  words-kept = rw (word_kept 33 (omega arith), word_kept 81 (omega arith))

  pub table_kept : table_of (b ++ m) ≡ table_of b
  unfolding table_of
  table_kept = firsts-ext (λ (i : ℕ). short_at (b ++ m) (129 + 2 * i)) (λ (i : ℕ). short_at b (129 + 2 * i)) 1024 (λ i g. short-kept (129 + 2 * i) (omega arith))

  bits-kept : bits_of (b ++ m) ≡ bits_of b
  unfolding bits_of
  bits-kept = byte-kept 2177 (omega arith)

  scale_kept : (p : ℕ) → Listable p → scale_of (b ++ m) p ≡ scale_of b p
  unfolding scale_of
  scale_kept p l = number-kept (2177 + p - 4) (omega (arith, l.most))

  points_kept : (n : ℕ) → n ≤ 64 → points_from (b ++ m) n ≡ points_from b n
  unfolding points_from
  points_kept n l = firsts-ext (λ (i : ℕ). short_at (b ++ m) (2178 + 2 * i)) (λ (i : ℕ). short_at b (2178 + 2 * i)) n (λ i g. short-kept (2178 + 2 * i) (omega arith))

  within : (n : ℕ) → n ≤ 2310 → (ltb (length (b ++ m)) n ≡ false) × (ltb (length b) n ≡ false)
  within n l = (le-ltb (length (b ++ m)) n (long n l), le-ltb (length b) n (omega arith))

  points-refusal-kept : (p : ℕ) → Listable p → points_refusal (b ++ m) p ≡ points_refusal b p
  unfolding points_refusal
  points-refusal-kept p l =
      let a = within 2177 (omega arith) in
      let c = within (2177 + p) (omega (arith, l.most)) in
      rw (a.0, a.1, c.0, c.1, bits-kept, scale_kept p l)

  bodies_kept : (p : ℕ) → Listable p → bodies_refusal (b ++ m) p ≡ bodies_refusal b p
  unfolding bodies_refusal
  bodies_kept p l = let a = within 129 (omega arith) in rw (a.0, a.1, words-kept, points-refusal-kept p l)

  refusal-kept : header_refusal (b ++ m) ≡ header_refusal b
  unfolding header_refusal
  refusal-kept =
      rw (contents-kept, length-kept Points)
      (if_cong (contents_fit b) _ _ _ _ (λ t. bodies_kept (length_of b Points) (fitting b t).points) (λ t. refl))

  accepted-kept : header_refusal b ≡ Ok Prim.tt → accepted_heading (b ++ m) ≡ accepted_heading b
  unfolding accepted_heading words_of loaded_of f_word s_word points_of
  accepted-kept e =
      let w = header_whole b e in
      let f = fits (bits_of b) (length_of b Points) w.fits in
      rw (
        word_kept 33 (omega arith),
        word_kept 81 (omega arith),
        bits-kept,
        points_kept (2 * 2 ^ bits_of b) (omega (arith, f.few)),
        length-kept Points,
        length-kept Symbols,
        scale_kept (length_of b Points) (fitting b w.contents).points,
      )

  told-kept : (r : Result ⊤ Refusal) → (r ≡ Ok Prim.tt → accepted_heading (b ++ m) ≡ accepted_heading b) → told r (accepted_heading (b ++ m)) ≡ told r (accepted_heading b)
  told-kept (Ok u) e = ap (λ (h : Heading). Ok h) (e refl)
  told-kept (Err why) e = refl

  pub header-kept : header_of (b ++ m) ≡ header_of b
  unfolding header_of
  header-kept = rw refusal-kept (told-kept (header_refusal b) accepted-kept)
