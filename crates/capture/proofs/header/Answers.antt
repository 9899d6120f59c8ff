-- `capture::header` meets its contract. Assumes nothing.
use mathlib.Core.Path.{sym, ◌∙◌}
use Prim.Native.Nat.{ℕ}
use lib.ListN.{length}
use native.Mathlib.Omega.{arith}
use Rattle.std.proofs.lemmas.Result.{err_from_is_err_and}
use Rattle.capture.specs.declared.entries.Kind.TheVariants.{Points}
use Rattle.capture.specs.Contents.{length_of}
use Rattle.capture.specs.Bodies.{words_refusal, words_of, words_answer, points_refusal, loaded_of, points_answer, accepted_heading}
use Rattle.capture.proofs.Laws.{fitting, contents_taken, told_was_ok, told_was_err, room_no, answer_contents, answer_bodies, bodies_by_words, bodies_no_words, points-whole, refused_header, accepted_header}
use Rattle.capture.proofs.header.Goals as goal

pub returns-then-table-ne1024 : goal.returns-then-table-ne1024
returns-then-table-ne1024 c =
    let t = c.args.table.now in
    let s = c.args.bytes.now in
    refused_header t s _ (room_no (length t) s c.if-table-ne1024.true)

pub returns-in_err-lengths : goal.returns-in_err-lengths
returns-in_err-lengths c =
    let t = c.args.table.now in
    let s = c.args.bytes.now in
    let p = err_from_is_err_and c.from_residual.result c.from_residual.ensures.1 in
    rw (p.1, p.2) (refused_header t s _ (answer_contents (length t) s _ c.if-table-ne1024.false (sym c.in_err-lengths.was ∙ c.contents.ensures)))

pub returns-in_err-words : goal.returns-in_err-words
unfolding words_answer
returns-in_err-words c =
    let t = c.args.table.now in
    let s = c.args.bytes.now in
    let p = err_from_is_err_and c.from_residual-in_err-words.result c.from_residual-in_err-words.ensures.1 in
    let l = contents_taken s _ (sym c.in_ok-lengths.was ∙ c.contents.ensures) in
    let w = told_was_err (words_refusal s) (words_of s) _ (sym c.in_err-words.was ∙ c.words.ensures) in
    rw (p.1, p.2)
    (refused_header t s _ (answer_bodies (length t) s c.if-table-ne1024.false l.0 ∙ bodies_no_words s (length_of s Points) _ w))

pub points-requires : goal.points-requires
points-requires c =
    let s = c.args.bytes.now in
    let l = contents_taken s _ (sym c.in_ok-lengths.was ∙ c.contents.ensures) in
    rw l.1 (fitting s l.0).points.least

pub returns-in_err-points : goal.returns-in_err-points
unfolding words_answer points_answer
returns-in_err-points c =
    let t = c.args.table.now in
    let s = c.args.bytes.now in
    let p = err_from_is_err_and c.from_residual-in_err-points.result c.from_residual-in_err-points.ensures.1 in
    let l = contents_taken s _ (sym c.in_ok-lengths.was ∙ c.contents.ensures) in
    let w = told_was_ok (words_refusal s) (words_of s) _ (sym c.in_ok-words.was ∙ c.words.ensures) in
    let n : ℕ = length_of s Points in
    let q = told_was_err (points_refusal s n) (loaded_of s n) _ (rw l.1 at (sym c.in_err-points.was ∙ c.points.ensures)) in
    rw (p.1, p.2)
    (refused_header t s _ (answer_bodies (length t) s c.if-table-ne1024.false l.0 ∙ bodies_by_words s n w.0 ∙ q))

pub table-requires : goal.table-requires
unfolding points_answer
table-requires c =
    let s = c.args.bytes.now in
    let l = contents_taken s _ (sym c.in_ok-lengths.was ∙ c.contents.ensures) in
    let n : ℕ = length_of s Points in
    let q = told_was_ok (points_refusal s n) (loaded_of s n) _ (rw l.1 at (sym c.in_ok-points.was ∙ c.points.ensures)) in
    (omega (arith, (points-whole s n q.0).0), c.if-table-ne1024.false)

pub returns : goal.returns
unfolding words_answer points_answer accepted_heading
returns c =
    let t = c.args.table.now in
    let s = c.args.bytes.now in
    let l = contents_taken s _ (sym c.in_ok-lengths.was ∙ c.contents.ensures) in
    let w = told_was_ok (words_refusal s) (words_of s) _ (sym c.in_ok-words.was ∙ c.words.ensures) in
    let n : ℕ = length_of s Points in
    let q = told_was_ok (points_refusal s n) (loaded_of s n) _ (rw l.1 at (sym c.in_ok-points.was ∙ c.points.ensures)) in
    rw (l.1, w.1, q.1, c.table.ensures)
    (accepted_header t s (answer_bodies (length t) s c.if-table-ne1024.false l.0 ∙ bodies_by_words s n w.0 ∙ q.0))
