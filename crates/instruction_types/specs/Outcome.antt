-- What an answer says about a rule of the definitions.
use Rattle.std.specs.Prelude.{◌≡◌, Option, Some, None, Result, Ok, Err}
use Rattle.world_model.specs.World.{World}
use Rattle.typing_model.specs.VerificationType.{TypeFrame}
use Rattle.typing_model.specs.Environment as model
use Rattle.type_rules.specs.Frames.{Types, frame_of}
use Rattle.instruction_types.specs.declared.environment.Environment.{Environment}
use Rattle.instruction_types.specs.declared.environment.TypingError.{TypingError}
use Rattle.instruction_types.specs.declared.environment.TypingError.TheVariants.{Misfit, NoMemory}
use Rattle.instruction_types.specs.Environment.{IsEnvironment}

-- the frame is what the rule gives, or the rule gives none
abbrev pub Gives : {X : Type 0} → Result X TypingError → Option TypeFrame → TypeFrame → Type 0
Gives (Ok x) given frame = given ≡ Some frame
Gives (Err Misfit) given frame = given ≡ None
Gives (Err NoMemory) given frame = Unit {0}

-- so for the rule of each environment that is this one
abbrev pub IsTyped : {X : Type 0} → World → Environment → Result X TypingError
    → (model.Environment → TypeFrame → Option TypeFrame) → Types → Types → Type 0
IsTyped world here result rule old new = (e : model.Environment) → IsEnvironment world here e
    → Gives result (rule e (frame_of world old)) (frame_of world new)
