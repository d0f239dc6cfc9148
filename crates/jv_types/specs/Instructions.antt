-- Which instructions of the definitions `Instructions` are, and how one is found by its pc.
use Rattle.std.specs.Prelude.{◌≡◌, ◌<◌, ◌≤◌, ℕ, List, [], ◌∷◌, Bool, if◌then◌else◌, ◌==◌, Option, Some, None, length, position, get_or}
use Rattle.jv_types.specs.Instruction.{instruction_of}
use Rattle.jv_types.specs.declared.instructions.Insn.{Insn}
use Rattle.jv_model.specs.Code as model

abbrev pub placed_of : Insn → model.Placed ℕ
placed_of insn = record {
  pc = insn.pc;
  next = insn.next;
  instruction = instruction_of insn.instruction;
}

-- no more places than the code of a method has bytes
abbrev pub most_places : ℕ
most_places = 65535

-- what stands in the table for a place at which no instruction begins
abbrev pub no_number : ℕ
no_number = 65535

abbrev pub number_of : ℕ → Option ℕ
number_of number = if number == no_number then None else Some number

-- the instruction begins at that pc
abbrev pub starts_at : ℕ → model.Placed ℕ → Bool
starts_at pc placed = placed.pc == pc

-- they follow each other, from a place on
abbrev pub Follows : {A : Type 0} → ℕ → List (model.Placed A) → Type 0
Follows place [] = Unit {0}
Follows place (placed ∷ others) =
    (placed.pc ≡ place) × (placed.pc < placed.next) × Follows placed.next others

-- where the last of the instructions from a place on ends
abbrev pub end_from : ℕ → List (model.Placed ℕ) → ℕ
end_from place [] = place
end_from place (placed ∷ others) = end_from placed.next others

abbrev pub end_of : List (model.Placed ℕ) → ℕ
end_of instructions = end_from 0 instructions

-- The instructions follow each other from place 0 on, and the table has the number of each at its
-- pc, and nothing elsewhere.
pub record IsTable (instructions : List (model.Placed ℕ)) (numbers : List ℕ) : Type 0 where
  pub order : Follows 0 instructions
  pub finds :
      (pc : ℕ) → number_of (get_or numbers pc no_number) ≡ position (starts_at pc) instructions
  pub few : length instructions ≤ length numbers
  pub whole : end_of instructions ≡ length numbers
  pub short : length numbers ≤ most_places
