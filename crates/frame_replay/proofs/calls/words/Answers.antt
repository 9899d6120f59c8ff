-- `frame_replay::calls::words` meets its contract. Assumes nothing.
use Rattle.frame_replay.specs.Calls.{words_call}
use Rattle.frame_replay.proofs.calls.words.Goals as goal

pub returns : goal.returns
unfolding words_call
returns c = rw (c.plain.ensures, c.with_words-n.ensures, c.ones_at-s.ensures, c.ones_at-f.ensures, c.packed-bytes.ensures)
