-- What a linked world gives to the laws of the machine, apart from what typing gives (JVMS 5.4, 5.5).
use Rattle.std.specs.Prelude.{◌≡◌, ℕ, List, true, false, ⊤, Some, is_some, flat_map, filter}
use Rattle.std.specs.List.{list_all}
use Rattle.jv_model.specs.Descriptors.{FieldType, class_type}
use Rattle.jv_model.specs.Operand.{Operand, MemberReference, class_named}
use Rattle.jv_model.specs.Instruction.{Instruction, new}
use Rattle.jv_model.specs.Code.{Placed}
use Rattle.world_model.specs.World.{World, Class, Method, class_in, declared_method, is_static_field}
use Rattle.world_model.specs.BootNames.{java_string}
use Rattle.world_model.specs.Layout.{layout}
use Rattle.code_model.specs.TypeReading.{field_type_of}
use Rattle.typing_model.specs.VerificationType.{type_of, is_array}
use Rattle.typing_model.specs.Environment.{Environment, environment_of, named_type}
use Rattle.machine_model.specs.State.{Frame}
use Rattle.machine_model.specs.LocalStep.{instruction_at}
use Rattle.machine_model.specs.TypedValues.{may_stand}
use Rattle.machine_model.specs.Conforms.{can_begin, frame_environment}
use Rattle.machine_model.specs.Machine.{Program}
use Rattle.machine_model.specs.Start.{string_constants, first_methods}
use Rattle.frame_laws.specs.Worlds.{IsOrderly, StandsRight}
use Rattle.state_laws.specs.Laws.{FramesFit}
use Rattle.machine_laws.specs.Runnable.{Uses}
use Rattle.start_laws.specs.Startable.{starts_declared, is_for_string}
use Rattle.boot_laws.specs.Laws.{BootClasses}
use Rattle.linked_laws.specs.Worlds.{IsLinkedWorld}

-- ---- classes and code

-- Classes and interfaces are ordered as they have to be.
abbrev pub WorldsAreOrderly : Type 0
WorldsAreOrderly = (world : World) → IsLinkedWorld world → IsOrderly world

-- The instructions of a method stand one behind another, and what they lead to is there.
abbrev pub CodeStandsRight : Type 0
CodeStandsRight = (world : World) → IsLinkedWorld world → (name : List ℕ) (class : Class) (m descriptor : List ℕ) (method : Method) (e : Environment)
    → class_in world name ≡ Some class → declared_method m descriptor class ≡ Some method
    → environment_of world class method ≡ Some e → StandsRight e.body

-- No method has more words for a frame than frames may have.
abbrev pub FramesAreSmall : Type 0
FramesAreSmall = (world : World) → IsLinkedWorld world → FramesFit world

-- The classes that the machine itself uses are there.
abbrev pub BootClassesAreThere : Type 0
BootClassesAreThere = (world : World) → IsLinkedWorld world → BootClasses world

-- ---- instructions

-- a `new` is of no array type, as typing asks
abbrev pub MakesObjects : Instruction Operand → Type 0
MakesObjects (new (class_named name)) = is_array (type_of (named_type name)) ≡ false
MakesObjects other = ⊤

-- Each instruction of a method uses what is there.
abbrev pub InstructionsUseWhatIsThere : Type 0
InstructionsUseWhatIsThere = (world : World) → IsLinkedWorld world → (frame : Frame) (e : Environment) (pc : ℕ) (placed : Placed Operand)
    → frame_environment world frame ≡ Some e → instruction_at e.body pc ≡ Some placed → MakesObjects placed.instruction
    → Uses world e placed.instruction

-- ---- objects

-- Nothing else may stand for a String.
abbrev pub StringsStandAlone : Type 0
StringsStandAlone = (world : World) → IsLinkedWorld world → (own : FieldType) → may_stand world own (class_type java_string) ≡ true
    → own ≡ class_type java_string

-- The fields of objects have descriptors.
abbrev pub FieldsHaveTypes : Type 0
FieldsHaveTypes = (world : World) → IsLinkedWorld world → (name : List ℕ)
    → list_all (λ (f : MemberReference). is_some (field_type_of f.descriptor)) (layout world name) ≡ true

-- ---- the start

-- Main and the initializers of classes can be begun.
abbrev pub FirstMethodsCanBegin : Type 0
FirstMethodsCanBegin = (program : Program) (linked : IsLinkedWorld program.world) → linked.main ≡ program.main
    → list_all (can_begin program.world) (first_methods program) ≡ true

-- Static fields start with values of their descriptors.
abbrev pub StaticsStartDeclared : Type 0
StaticsStartDeclared = (world : World) → IsLinkedWorld world
    → list_all (λ (c : Class). list_all (starts_declared world) (filter is_static_field c.fields)) world.classes ≡ true

-- Only those for Strings start with strings.
abbrev pub StringsAreForStrings : Type 0
StringsAreForStrings = (world : World) → IsLinkedWorld world
    → list_all is_for_string (flat_map string_constants world.classes) ≡ true
