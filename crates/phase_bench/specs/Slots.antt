-- A slot of corrected symbols.
use Rattle.std.specs.Prelude.{ℕ, zero, suc, ◌+◌, ◌*◌, ◌≤◌, ◌^◌, Bool, ◌&&◌, List, eqb, ℤ, pos, length, set, Option, None, Some}
use Rattle.laws.specs.Choice.{when◌then◌else◌}
use Rattle.phase.specs.Phase.{corrected_of}
use Rattle.phase.specs.Ranges.{WholeOk}
use Rattle.phase.specs.Answers.{head_answer, headed_due}
use Rattle.phase.specs.declared.WholeSlot.{WholeSlot}
use Rattle.sync_heads.specs.declared.Head.{Head}
use Rattle.sync_heads.specs.declared.Word.TheVariants.{Ssync}

-- corrected symbols, phases and gains
pub record Places : Type 0 where
  pub y : List ℤ
  pub phi : List ℕ
  pub gain : List ℤ

abbrev pub places : List ℤ → List ℕ → List ℤ → Places
places y phi gain = record { y = y; phi = phi; gain = gain }

-- symbol j of a slot
unfoldable pub corrected_one : WholeSlot → List ℤ → List ℤ → ℕ → Places → Places
corrected_one w table store j p =
    let c = corrected_of w table store j in
    places (set (set p.y (2 * j) c.y.i) (2 * j + 1) c.y.q) (set p.phi j c.phi) (set p.gain j c.gain)

-- the first n of them
unfoldable pub corrected_all : WholeSlot → List ℤ → List ℤ → ℕ → Places → Places
corrected_all w table store zero p = p
corrected_all w table store (suc j) p = corrected_one w table store j (corrected_all w table store j p)

-- a head of which only position, angle and magnitude matter
unfoldable pub head_of : ℕ → ℕ → ℤ → Head
head_of at theta amp =
    record { at = at; word = Ssync; corr = record { re = pos 0; im = pos 0 }; theta = theta; amp = amp; slot = None; nco_phase = 0 }

-- the slot between two of them
unfoldable pub due_between : ℕ → ℤ → ℕ → ℤ → Option WholeSlot
due_between theta amp next last = headed_due (head_answer (Some (record { head = head_of 0 theta amp; count = 9296 })) (head_of 9296 next last))

-- what a slot that is due has
abbrev pub DueOk : Option WholeSlot → Type 0
DueOk None = Unit {0}
DueOk (Some w) = WholeOk w × (w.head.at + 9296 ≤ 2 ^ 62)

-- lengths that fit a slot
abbrev pub fitting : List ℤ → List ℤ → Places → Bool
fitting table store p =
    eqb (length table) 1024 && eqb (length store) 18592 && eqb (length p.y) 18592 && eqb (length p.phi) 9296 && eqb (length p.gain) 9296

-- 0; 1, a length is another; 6, a magnitude is too wide, so that no slot is due
unfoldable pub corrected_code : Option WholeSlot → Bool → ℕ
corrected_code None fit = 6
corrected_code (Some w) fit = when fit then 0 else 1

unfoldable pub corrected_places : Option WholeSlot → List ℤ → List ℤ → Places → Places
corrected_places None table store p = p
corrected_places (Some w) table store p = when fitting table store p then corrected_all w table store 9296 p else p
