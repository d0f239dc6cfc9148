-- What a visit of an instruction says of the rules.
use Rattle.std.specs.Prelude.{◌≡◌, ℕ, true, false, Option, Some, None, option_map, Result, Ok, Err}
use Rattle.jv_model.specs.Refusal as model
use Rattle.jv_model.specs.Refusal.{at_map, after_flow, at_operand}
use Rattle.world_model.specs.World.{World}
use Rattle.typing_model.specs.VerificationType.{TypeFrame}
use Rattle.typing_model.specs.Environment.{Environment}
use Rattle.typing_model.specs.Rules as rules
use Rattle.typing_model.specs.Rules.{Visit, frame_behind, flow_behind, fails, first_failing}
use Rattle.jv_types.specs.Refusal.{rule_of}
use Rattle.jv_types.specs.declared.refusal.Rule.TheVariants.{Operand}
use Rattle.type_rules.specs.Frames.{Types, frame_of}
use Rattle.instruction_types.specs.declared.environment.TypingError.{TypingError}
use Rattle.instruction_types.specs.declared.environment.TypingError.TheVariants as typing
use Rattle.stackmap_verify.specs.declared.failure.Failure.{Failure}
use Rattle.stackmap_verify.specs.declared.failure.Failure.TheVariants.{Breaks, NoMemory}
use Rattle.stackmap_verify.specs.declared.failure.Place.{Place}

abbrev pub failure_of : TypingError → Failure
failure_of typing.Misfit = Breaks Operand
failure_of typing.NoMemory = NoMemory

abbrev pub place_of : Place → ℕ × model.Rule
place_of place = (place.pc, rule_of place.rule)

-- the frame with which flow comes
abbrev pub flow_of : World → Option Types → Option TypeFrame
flow_of world flow = option_map (frame_of world) flow

-- The frame of the instruction, where none of the rules on it fails.
pub record HasFrame (e : Environment) (visit : Visit) (frame : TypeFrame) : Type 0 where
  pub map : fails e visit at_map ≡ false
  pub flow : fails e visit after_flow ≡ false
  pub is_frame : rules.frame_of e visit ≡ Some frame

-- the rule is the first that fails
abbrev pub Stops : Environment → Visit → Failure → Type 0
Stops e visit (Breaks rule) = first_failing e visit ≡ Some (rule_of rule)
Stops e visit NoMemory = Unit {0}

-- the frame of the instruction, or why there is none
abbrev pub Enters : World → Environment → Visit → Result Types Failure → Type 0
Enters world e visit (Ok frame) = HasFrame e visit (frame_of world frame)
Enters world e visit (Err failure) = Stops e visit failure

-- the frame after it, or the rule on it fails
abbrev pub StepsTo : World → Environment → Visit → Result Types TypingError → Type 0
StepsTo world e visit (Ok after) = (fails e visit at_operand ≡ false) × (frame_behind e visit ≡ Some (frame_of world after))
StepsTo world e visit (Err typing.Misfit) = fails e visit at_operand ≡ true
StepsTo world e visit (Err typing.NoMemory) = Unit {0}

-- the frame with which flow goes on, or why it doesn't
abbrev pub Leaves : World → Environment → Visit → Result (Option Types) Failure → Type 0
Leaves world e visit (Ok flow) = (first_failing e visit ≡ None) × (flow_behind e visit ≡ flow_of world flow)
Leaves world e visit (Err failure) = Stops e visit failure
