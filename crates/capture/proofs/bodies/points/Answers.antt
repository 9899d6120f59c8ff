-- `capture::bodies::points` meets its contract. Assumes nothing.
use mathlib.Core.Bool.{true}
use mathlib.Core.Path.{◌≡◌, sym, ◌∙◌}
use Prim.Native.Nat.{ℕ, ◌+◌, ◌*◌, ◌%◌, ◌^◌, ◌≤◌}
use native.Mathlib.Omega.{arith}
use borrow.Author.Tests.{lt-ltb, le-ltb}
use Rattle.laws.specs.Choice.{if_yes, if_no}
use Rattle.capture.specs.Bodies.{bits_of, points_of, scale_of, points_fit, points_refusal, loaded_of, points_answer}
use Rattle.capture.proofs.Laws.{fits, points_short, points_judged, told_ok, told_err}
use Rattle.capture.proofs.bodies.points.Goals as goal

-- how many numbers the points have
many : (b p : ℕ) → points_fit b p ≡ true → (2 * 2 ^ b % 2 ^ 64 ≡ 2 * 2 ^ b) × (2 * 2 ^ b ≤ 64) × (p ≡ 5 + 4 * 2 ^ b) × (b ≤ 5)
many b p h = let f = fits b p h in (omega (arith, f.few), omega (arith, f.few), f.is, f.most)

pub returns-then-bytes-end : goal.returns-then-bytes-end
unfolding points_answer
returns-then-bytes-end c =
    let s = c.args.bytes.now in
    let p = c.args.p in
    told_err (points_refusal s p) (loaded_of s p) _ (points_short s p c.if-bytes-end.true)

pub returns-then-not-points_fit : goal.returns-then-not-points_fit
unfolding points_answer bits_of
returns-then-not-points_fit c =
    let s = c.args.bytes.now in
    let p = c.args.p in
    let f = sym c.points_fit.ensures ∙ c.if-not-points_fit.true in
    told_err (points_refusal s p) (loaded_of s p) _ (points_judged s p c.if-bytes-end.false ∙ if_no _ _ _ f)

pub returns-then-k-gt16777216 : goal.returns-then-k-gt16777216
unfolding points_answer bits_of scale_of
returns-then-k-gt16777216 c =
    let s = c.args.bytes.now in
    let p = c.args.p in
    let f = sym c.points_fit.ensures ∙ c.if-not-points_fit.false in
    let k = rw c.number-k.ensures at c.if-k-gt16777216.true in
    told_err (points_refusal s p) (loaded_of s p) _ (points_judged s p c.if-bytes-end.false ∙ if_yes _ _ _ f ∙ if_yes _ _ _ (lt-ltb 16777216 _ k))

pub overflow_shl-bits : goal.overflow_shl-bits
overflow_shl-bits c =
    let f = many _ _ (sym c.points_fit.ensures ∙ c.if-not-points_fit.false) in omega (arith, f.3)

pub padded-requires : goal.padded-requires
padded-requires c =
    let f = many _ _ (sym c.points_fit.ensures ∙ c.if-not-points_fit.false) in
    (omega (arith, f), omega (arith, f, c.if-bytes-end.false))

pub returns : goal.returns
unfolding points_answer loaded_of bits_of scale_of points_of
returns c =
    let s = c.args.bytes.now in
    let p = c.args.p in
    let f = sym c.points_fit.ensures ∙ c.if-not-points_fit.false in
    let k = rw c.number-k.ensures at c.if-k-gt16777216.false in
    rw (c.padded.ensures, (many _ _ f).0, c.number-k.ensures)
    (told_ok (points_refusal s p) (loaded_of s p) (points_judged s p c.if-bytes-end.false ∙ if_yes _ _ _ f ∙ if_no _ _ _ (le-ltb 16777216 _ k)))
