-- What a text assembles to, as the definitions see it.
use Rattle.std.specs.Prelude.{◌≡◌, List, [], ◌∷◌, Option, Some, None, Result, Ok, Err}
use Rattle.jv_model.specs.ClassData as model
use Rattle.jv_model.specs.Lines.{Line}
use Rattle.jv_model.specs.Refusal.{wrong_head}
use Rattle.text_model.specs.LineFaults.{Fault, first_fault}
use Rattle.assembler_model.specs.AssembledClass.{head_faults}
use Rattle.jv_types.specs.ClassData.{class_data_of}
use Rattle.jv_types.specs.declared.class_data.ClassData.{ClassData}
use Rattle.asm_parts.specs.Faults.{fault_of}
use Rattle.class_asm.specs.declared.error.AsmError.{AsmError}
use Rattle.class_asm.specs.declared.error.AsmError.TheVariants as errors

-- Exactly the class that is described, or the first fault; want of memory says nothing of the text.
abbrev pub Assembles : Result ClassData AsmError → Result model.ClassData Fault → Type 0
Assembles (Ok class) said = said ≡ Ok (class_data_of class)
Assembles (Err (errors.Line fault)) said = said ≡ Err (fault_of fault)
Assembles (Err errors.NoMemory) said = Unit {0}

-- the fault that an error tells
abbrev pub fault_told : AsmError → Option Fault
fault_told (errors.Line fault) = Some (fault_of fault)
fault_told errors.NoMemory = None

-- what is wrong with the first line of a text
abbrev pub head_fault : List Line → Option Fault
head_fault [] = Some (1, wrong_head)
head_fault (head ∷ lines) = first_fault (head_faults head)
