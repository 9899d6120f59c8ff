-- `receiver::load_taps` meets its contract. Assumes nothing.
use Rattle.receiver.specs.Answers.{taps_answer}
use Rattle.receiver.proofs.load_taps.Goals as goal

pub returns : goal.returns
unfolding taps_answer
returns c = rw (c.eq_answer.ensures, c.loaded.ensures)
