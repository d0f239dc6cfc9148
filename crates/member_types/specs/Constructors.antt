-- What a call of a constructor takes, and what it makes of a frame.
use Rattle.std.specs.Prelude.{◌≡◌, ◌==◌, ◌&&◌, ℕ, Bool, List, Option, Some, map, Result}
use Rattle.jv_model.specs.Partial.{◌>>=◌}
use Rattle.jv_model.specs.Operand.{Operand, MemberReference}
use Rattle.jv_model.specs.Code.{Placed}
use Rattle.world_model.specs.World.{World}
use Rattle.code_model.specs.TypeReading.{method_type_of}
use Rattle.code_model.specs.Names.{named_placed}
use Rattle.typing_model.specs.VerificationType.{VerificationType, TypeFrame}
use Rattle.typing_model.specs.Environment as model
use Rattle.typing_model.specs.Transition.{Test, popped}
use Rattle.typing_model.specs.CallTypes as calls
use Rattle.typing_model.specs.CallTypes.{is_new_of, with_each}
use Rattle.jv_types.specs.ClassData.{pool_of}
use Rattle.type_rules.specs.Frames.{Types, frame_of}
use Rattle.instruction_types.specs.declared.environment.Environment.{Environment}
use Rattle.instruction_types.specs.declared.environment.TypingError.{TypingError}
use Rattle.instruction_types.specs.Environment.{IsEnvironment}
use Rattle.instruction_types.specs.Outcome.{Gives}
use Rattle.member_types.specs.declared.constructors.Code.{Code}

-- the instruction stands at that pc, and is a `new` of that class
abbrev pub makes : List ℕ → ℕ → Placed Operand → Bool
makes name pc placed = (placed.pc == pc) && is_new_of name placed.instruction

-- it is the code of the method
abbrev pub HasCode : Code → model.Environment → Type 0
HasCode code e = e.body.instructions ≡ map (named_placed (pool_of code.pool.now)) code.instructions.now

-- what an answer says about a rule that looks at the code, too
abbrev pub IsTypedIn : {X : Type 0} → World → Environment → Code → Result X TypingError
    → (model.Environment → TypeFrame → Option TypeFrame) → Types → Types → Type 0
IsTypedIn world here code result rule old new = (e : model.Environment) → IsEnvironment world here e → HasCode code e
    → Gives result (rule e (frame_of world old)) (frame_of world new)

-- operands are taken, and one type comes into the other's place
abbrev pub taken_and_replaced : List Test → VerificationType → VerificationType → TypeFrame → Option TypeFrame
taken_and_replaced tests old fresh frame = popped tests frame >>= λ rest. Some (with_each old fresh rest)

-- a call of that constructor
abbrev pub constructor_called : model.Environment → MemberReference → TypeFrame → Option TypeFrame
constructor_called e method frame = method_type_of method.descriptor >>= λ type. calls.constructor_called e method type frame
