-- `receiver::open_sums` meets its contract. Assumes nothing.
use Rattle.receiver.specs.Answers.{open_answer}
use Rattle.receiver.proofs.open_sums.Goals as goal

pub returns : goal.returns
unfolding open_answer
returns c = rw (c.eq_answer.ensures, c.with_sums.ensures, c.new.ensures)
