-- `receiver_feed::turns::goes_on` meets its contract. Assumes nothing.
use Rattle.receiver_feed.proofs.turns.goes_on.Goals as goal

pub returns-in-On : goal.returns-in-On
returns-in-On c = rw c.in-On.is

pub returns-in-Told : goal.returns-in-Told
returns-in-Told c = rw c.in-Told.is

pub returns-in-Refused : goal.returns-in-Refused
returns-in-Refused c = rw c.in-Refused.is
