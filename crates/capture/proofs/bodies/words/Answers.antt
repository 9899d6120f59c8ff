-- `capture::bodies::words` meets its contract. Assumes nothing.
use Rattle.capture.specs.Bodies.{f_word, s_word, words_fit, words_refusal, words_of, words_answer}
use Rattle.capture.proofs.Laws.{words_short, words_right, words_wrong, told_ok, told_err}
use Rattle.capture.proofs.bodies.words.Goals as goal

pub returns-then-bytes-lt129 : goal.returns-then-bytes-lt129
unfolding words_answer
returns-then-bytes-lt129 c =
    let s = c.args.bytes.now in told_err (words_refusal s) (words_of s) _ (words_short s c.if-bytes-lt129.true)

pub returns-then-ones : goal.returns-then-ones
unfolding words_answer words_of words_fit f_word s_word
returns-then-ones c =
    let s = c.args.bytes.now in
    let f = c.word-f.ensures in
    let w = c.word-s.ensures in
    let t = rw (c.ones.ensures, c.ones-2.ensures, f, w) at c.if-ones.true in
    rw (f, w) (told_ok (words_refusal s) (words_of s) (words_right s c.if-bytes-lt129.false t))

pub returns-else-ones : goal.returns-else-ones
unfolding words_answer words_of words_fit f_word s_word
returns-else-ones c =
    let s = c.args.bytes.now in
    let t = rw (c.ones.ensures, c.ones-2.ensures, c.word-f.ensures, c.word-s.ensures) at c.if-ones.false in
    told_err (words_refusal s) (words_of s) _ (words_wrong s c.if-bytes-lt129.false t)
