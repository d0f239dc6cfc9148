-- Which program a body is, and what is found of one.
use Rattle.std.specs.Prelude.{◌≡◌, List, None, Option, map, option_map}
use Rattle.std.specs.List.{AllByRecursion}
use Rattle.jv_types.specs.Sequence.{Sequence}
use Rattle.straight_line_model.specs.Instruction as model
use Rattle.straight_line_model.specs.Machine.{Program}
use Rattle.world_model.specs.World.{Method, Class, World}
use Rattle.typing_model.specs.FailingPlace.{failing_place}
use Rattle.straight_line.specs.declared.body.Body.{Body}
use Rattle.straight_line.specs.declared.body.Instruction.{Instruction}
use Rattle.straight_line.specs.Body.{body_of, instruction_of}

abbrev pub program : Body → Program
program body = record { main = body_of body }

-- what was found, in the terms of the definitions
abbrev pub instruction_found : Option Instruction → Option model.Instruction
instruction_found found = option_map instruction_of found

abbrev pub body_found : Option Body → Option model.Body
body_found found = option_map body_of found

abbrev pub instructions_found : Option (Sequence Instruction) → Option (List model.Instruction)
instructions_found found =
    option_map (λ instructions. map instruction_of instructions.items) found

abbrev pub program_found : Option Body → Option Program
program_found found = option_map program found

-- In some world each method of these classes is well typed.
pub record AreVerified (classes : List Class) : Type 0 where
  pub world : World
  pub typed : AllByRecursion
      (λ (c : Class). AllByRecursion (λ (m : Method). failing_place world c m ≡ None) c.methods) classes
