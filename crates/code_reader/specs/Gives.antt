-- What an answer says about the reading of the definitions.
use Rattle.std.specs.Prelude.{ℕ, Option, Some, None, Result}
use Rattle.jv_types.specs.ClassData.{class_data_of}
use Rattle.jv_types.specs.Reading.{Gives}
use Rattle.jv_model.specs.Refusal.{Cause, truncated, wrong_opcode, wrong_operand, wrong_target, wrong_handler, wrong_map_frame, unsupported, frame_too_big, wrong_shape}
use Rattle.code_model.specs.OperandReading as model
use Rattle.code_reader.specs.declared.error.CodeError.{CodeError}
use Rattle.code_reader.specs.declared.error.CodeError.TheVariants as errors
use Rattle.code_reader.specs.declared.error.OperandError.{OperandError}
use Rattle.code_reader.specs.declared.error.OperandError.TheVariants as operand_errors
use Rattle.code_reader.specs.declared.operands.Site.{Site}

-- of the method with that index
abbrev pub code_refusal : ℕ → CodeError → Option Cause
code_refusal method (errors.Opcode pc) = Some (wrong_opcode method pc)
code_refusal method (errors.Operand pc) = Some (wrong_operand method pc)
code_refusal method (errors.Target pc) = Some (wrong_target method pc)
code_refusal method (errors.Handler row) = Some (wrong_handler method row)
code_refusal method (errors.MapFrame index) = Some (wrong_map_frame method index)
code_refusal method (errors.Unsupported pc) = Some (unsupported method pc)
code_refusal method (errors.FrameTooBig words) = Some (frame_too_big method words)
code_refusal method (errors.Shape at) = Some (wrong_shape method at)
code_refusal method errors.NoMemory = None

abbrev pub GivesCode : {X Y : Type 0} → ℕ → (X → Y) → Result X CodeError → Result Y Cause → Type 0
GivesCode method view answer read = Gives (code_refusal method) view answer read

-- where an instruction stands
abbrev pub site_of : Site → model.Site
site_of site =
    record { file = class_data_of site.class.now; method = site.method; pc = site.pc }

-- of an instruction there
abbrev pub operand_refusal : model.Site → OperandError → Option Cause
operand_refusal site (operand_errors.Cut at) = Some (truncated at)
operand_refusal site operand_errors.Opcode = Some (wrong_opcode site.method site.pc)
operand_refusal site operand_errors.Operand = Some (wrong_operand site.method site.pc)
operand_refusal site operand_errors.Unsupported = Some (unsupported site.method site.pc)
operand_refusal site operand_errors.NoMemory = None

abbrev pub GivesOperand :
    {X Y : Type 0} → Site → (X → Y) → Result X OperandError → Result Y Cause → Type 0
GivesOperand site view answer read = Gives (operand_refusal (site_of site)) view answer read
