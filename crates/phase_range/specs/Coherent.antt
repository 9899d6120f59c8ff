-- The joint invariant of a slot phase: docs/RANGES.md, "Phase", with its ties.
use Rattle.std.specs.Prelude.{◌+◌, ◌≤◌, ◌<◌, ◌^◌, nat_abs, Option, None, Some}
use Rattle.phase.specs.declared.Held.{Held}

pub record HeldSound (x : Held) : Type 0 where
  pub amp : nat_abs x.head.amp ≤ 2 ^ 60
  pub place : x.head.at < 2 ^ 62
  pub count : x.count ≤ 9296
  -- each counted symbol stood below 2^62
  pub room : x.head.at + x.count ≤ 2 ^ 62

abbrev pub Coherent : Option Held → Type 0
Coherent None = Unit {0}
Coherent (Some x) = HeldSound x
