-- The rule on the instruction itself.
use Rattle.std.proofs.Common.{◌≡◌, ℕ, ◌==◌, Bool, true, false, not, ◌&&◌, List, Some, Ok, Err, map, ap, sym, ◌∙◌, refl}
use Rattle.jv_model.specs.Refusal.{at_operand}
use Rattle.jv_model.specs.Operand.{Operand}
use Rattle.jv_model.specs.Code.{Placed, Body}
use Rattle.jv_model.specs.ClassData.{Const}
use Rattle.world_model.specs.World.{World}
use Rattle.code_model.specs.Names.{named, named_placed}
use Rattle.typing_model.specs.VerificationType.{TypeFrame}
use Rattle.typing_model.specs.Environment.{Environment}
use Rattle.typing_model.specs.DescriptorFrame.{has_room}
use Rattle.typing_model.specs.InstructionTypes.{type_step}
use Rattle.typing_model.specs.Rules.{Visit, frame_of, fails}
use Rattle.jv_types.specs.ClassData.{pool_of}
use Rattle.jv_types.specs.Code.{body_of}
use Rattle.type_rules.specs.Frames.{Types}
use Rattle.type_rules.specs.Frames as numbered
use Rattle.instruction_types.specs.declared.environment.TypingError.{TypingError}
use Rattle.instruction_types.specs.declared.environment.TypingError.TheVariants.{Misfit, NoMemory}
use Rattle.instruction_types.specs.Outcome.{Gives}
use Rattle.verifier_laws.proofs.Rules.{no_room, no_step, at_operands, behind}
use Rattle.stackmap_verify.specs.declared.method.Method.{Method}
use Rattle.stackmap_verify.specs.Methods.{IsMethod}
use Rattle.stackmap_verify.specs.Visits.{StepsTo}

instructions_named : (pool : List Const) (descriptor : List ℕ) (body : Body ℕ) → (named pool descriptor body).instructions ≡ map (named_placed pool) body.instructions
unfolding named
instructions_named pool descriptor body = refl

-- the instructions of the method are those that were read
pub instructions_are : (method : Method) (e : Environment) → IsMethod method e
    → e.body.instructions ≡ map (named_placed (pool_of method.code.now.pool.now)) method.code.now.body.now.instructions
instructions_are method e is =
    ap (λ (b : Body Operand). b.instructions) is.code.body
    ∙ instructions_named (pool_of method.code.now.pool.now) e.method.descriptor (body_of method.code.now.body.now)

not_true : (b : Bool) → not b ≡ true → b ≡ false
not_true true h = sym h
not_true false h = refl

not_false : (b : Bool) → not b ≡ false → b ≡ true
not_false true h = refl
not_false false h = sym h

module _ (world : World) (e : Environment) (v : Visit) (placed : Placed Operand) (at : v.placed ≡ placed) where
  room : Bool
  room = (placed.pc == 0) && not (has_room e)

  room_is : ((v.placed.pc == 0) && not (has_room e)) ≡ room
  unfolding room
  room_is = ap (λ (p : Placed Operand). (p.pc == 0) && not (has_room e)) at

  pub room_lacks : (fits : Bool) → fits ≡ not ((placed.pc == 0) && not (has_room e)) → fits ≡ false → fails e v at_operand ≡ true
  unfolding room
  room_lacks fits is none = no_room e v (room_is ∙ not_false room (sym is ∙ none))

  module _ (frame : TypeFrame) (framed : frame_of e v ≡ Some frame) where
    step_at : type_step e v.placed.pc v.placed.instruction frame ≡ type_step e placed.pc placed.instruction frame
    step_at = ap (λ (p : Placed Operand). type_step e p.pc p.instruction frame) at

    -- there is no frame after it
    pub step_fails : (error : TypingError) (after : Types) → Gives {X = Unit {0}} (Err error) (type_step e placed.pc placed.instruction frame) (numbered.frame_of world after)
        → StepsTo world e v (Err error)
    step_fails Misfit after gives = no_step e v frame framed (step_at ∙ gives)
    step_fails NoMemory after gives = tt

    -- there is one
    pub step_leads : (after : Types) → type_step e placed.pc placed.instruction frame ≡ Some (numbered.frame_of world after)
        → (fits : Bool) → fits ≡ not ((placed.pc == 0) && not (has_room e)) → fits ≡ true
        → StepsTo world e v (Ok after)
    unfolding room
    step_leads after gives fits is some = (
      at_operands e v frame framed (numbered.frame_of world after) (step_at ∙ gives)
          ∙ room_is ∙ not_true room (sym is ∙ some),
      behind e v frame framed ∙ step_at ∙ gives,
    )
