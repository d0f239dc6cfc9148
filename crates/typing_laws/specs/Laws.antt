-- What the laws of typing say (JVMS 4.10.1).
use Rattle.std.specs.Prelude.{◌≡◌, ◌↔◌, ℕ, List, Some, None, true, slice_get, length}
use Rattle.jv_model.specs.Refusal.{Rule}
use Rattle.jv_model.specs.Operand.{Operand}
use Rattle.jv_model.specs.Code.{Placed}
use Rattle.jv_model.specs.Flow.{goes_on}
use Rattle.world_model.specs.World.{World, Class, Method}
use Rattle.typing_model.specs.VerificationType.{TypeFrame}
use Rattle.typing_model.specs.Environment.{Environment, environment_of}
use Rattle.typing_model.specs.InstructionTypes.{type_step}
use Rattle.typing_model.specs.WellTyped.{IsTypingTo, IsTyping, FailsAt}
use Rattle.typing_model.specs.FailingPlace.{failing_place, type_frame_at}
use Rattle.typing_laws.specs.Instructions.{Applies, Goes, IsFirstAt}

-- A method with code that can be typed has no failing place exactly where it has a typing.
abbrev pub NoPlaceIsTyped : Type 0
NoPlaceIsTyped = (world : World) (class : Class) (method : Method) (e : Environment)
    → environment_of world class method ≡ Some e
    → (failing_place world class method ≡ None) ↔ ((frames : List TypeFrame) × IsTyping world class method frames)

-- Its failing place is exactly the one where a rule fails first.
abbrev pub PlaceIsFirst : Type 0
PlaceIsFirst = (world : World) (class : Class) (method : Method) (e : Environment) (pc : ℕ) (rule : Rule)
    → environment_of world class method ≡ Some e
    → (failing_place world class method ≡ Some (pc, rule)) ↔ FailsAt world class method pc rule

-- A method has one typing at the most.
abbrev pub OneTyping : Type 0
OneTyping = (world : World) (class : Class) (method : Method) (one other : List TypeFrame)
    → IsTyping world class method one → IsTyping world class method other → one ≡ other

-- The frame at a pc is that of the instruction that stands there first.
abbrev pub FrameAtIsTyped : Type 0
FrameAtIsTyped = (world : World) (class : Class) (method : Method) (frames : List TypeFrame)
    (typing : IsTyping world class method frames) (n : ℕ) (placed : Placed Operand)
    → slice_get typing.environment.body.instructions n ≡ Some placed
    → IsFirstAt typing.environment.body.instructions n placed.pc
    → type_frame_at world class method placed.pc ≡ slice_get frames n

-- In a typing each instruction can be applied to its frame: what it leads to goes to its targets, and each handler that
-- covers it fits.
abbrev pub TypedApplies : Type 0
TypedApplies = (e : Environment) (frames : List TypeFrame) (n : ℕ) (placed : Placed Operand) (frame : TypeFrame)
    → IsTypingTo e (length e.body.instructions) frames → slice_get e.body.instructions n ≡ Some placed
    → slice_get frames n ≡ Some frame → Applies e placed frame

-- Where flow goes on behind an instruction, there is a next one, and what the instruction leads to goes to its frame.
abbrev pub TypedGoesOn : Type 0
TypedGoesOn = (e : Environment) (frames : List TypeFrame) (n : ℕ) (placed : Placed Operand) (frame after : TypeFrame)
    → IsTypingTo e (length e.body.instructions) frames → slice_get e.body.instructions n ≡ Some placed
    → slice_get frames n ≡ Some frame → type_step e placed.pc placed.instruction frame ≡ Some after
    → goes_on placed.instruction ≡ true → Goes e frames n after
