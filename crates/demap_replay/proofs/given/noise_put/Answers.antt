-- `demap_replay::given::noise_put` meets its contract. Assumes nothing.
use Rattle.demap_replay.specs.Given.{noise_put}
use mir.Facts.{to_z-of_z}
use Rattle.demap_replay.proofs.given.noise_put.Goals as goal

pub returns : goal.returns
unfolding noise_put
returns c = rw (to_z-of_z c.ranges.noise)
