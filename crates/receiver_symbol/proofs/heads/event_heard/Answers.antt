-- `receiver_symbol::heads::event_heard` meets its contract. Assumes nothing.
use Rattle.receiver.specs.Heads.{event_heard}
use Rattle.receiver_symbol.specs.Parts.{HearOk}
use mathlib.Core.Path.{subst}
use Rattle.receiver_symbol.proofs.heads.event_heard.Goals as goal

pub head_heard-requires : goal.head_heard-requires
head_heard-requires c = subst (HearOk c.args.l) c.in-Head.is c.requires

pub returns-in-Nothing : goal.returns-in-Nothing
unfolding event_heard
returns-in-Nothing c = rw c.in-Nothing.is

pub returns-in-Head : goal.returns-in-Head
returns-in-Head c = rw c.in-Head.is c.head_heard.ensures

pub returns-in-Period : goal.returns-in-Period
unfolding event_heard
returns-in-Period c = rw c.in-Period.is

pub returns-in-Lost : goal.returns-in-Lost
unfolding event_heard
returns-in-Lost c = rw c.in-Lost.is
