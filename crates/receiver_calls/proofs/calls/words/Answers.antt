-- `receiver_calls::calls::words` meets its contract. Assumes nothing.
use Rattle.receiver_calls.specs.Calls.{words_call}
use Rattle.receiver_calls.proofs.calls.words.Goals as goal

pub returns : goal.returns
unfolding words_call
returns c = rw (c.plain.ensures, c.with_words.ensures, c.ones_at-s.ensures, c.ones_at-f.ensures, c.packed-bytes.ensures)
