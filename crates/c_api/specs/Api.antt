-- How the answers of fx cross to C: docs/DECISIONS.md, F.3. Refusal 0 is an accepted call; after any other the values are 0.
use Rattle.fx.specs.declared.Polar.{Polar}
use Rattle.fx.specs.declared.CosSin.{CosSin}
use Rattle.refusal.specs.declared.Refusal.{Refusal}
use Rattle.refusal.specs.Refusals.{number_of}
use Rattle.fx.specs.declared.Parts.{Parts}
use Rattle.std.specs.Prelude.{ℤ, pos, Result, Ok, Err}
use Rattle.c_api.specs.declared.Number.{Number}
use Rattle.c_api.specs.declared.Numbers.{Numbers}

-- an accepted value, two accepted values
abbrev pub one : ℤ → Number
one v = record { value = v; refusal = 0 }

abbrev pub two : ℤ → ℤ → Numbers
two a b = record { first = a; second = b; refusal = 0 }

-- a refusal, of a value or of two
abbrev pub none : Refusal → Number
none why = record { value = pos 0; refusal = number_of why }

abbrev pub none2 : Refusal → Numbers
none2 why = record { first = pos 0; second = pos 0; refusal = number_of why }

-- an answer that crosses as one number, of a type that has one; as two
unfoldable pub crossed : {T : Type 0} → (T → ℤ) → Result T Refusal → Number
crossed value (Ok v) = one (value v)
crossed value (Err why) = none why

unfoldable pub crossed_two : {T : Type 0} → (T → ℤ) → (T → ℤ) → Result T Refusal → Numbers
crossed_two first second (Ok v) = two (first v) (second v)
crossed_two first second (Err why) = none2 why

-- a number of any width crosses as the i64 of its value
abbrev pub number : Result ℤ Refusal → Number
number a = crossed (λ v. v) a

-- angle, size
abbrev pub polar_numbers : Result Polar Refusal → Numbers
polar_numbers a = crossed_two (λ p. pos p.angle) (λ p. p.size) a

-- the two parts
abbrev pub part_numbers : Result Parts Refusal → Numbers
part_numbers a = crossed_two (λ p. p.re) (λ p. p.im) a

-- cosine, sine
abbrev pub phasor_numbers : Result CosSin Refusal → Numbers
phasor_numbers a = crossed_two (λ p. p.cos) (λ p. p.sin) a
