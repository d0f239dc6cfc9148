-- Which values are of a type: of a declared one (JVMS 4.3.2), and of one that typing finds (JVMS 4.10.1.2).
use Rattle.std.specs.Prelude.{ℕ, List, [], ◌∷◌, Bool, true, false, ◌&&◌, ◌||◌, if◌then◌else◌, Option, Some, None, is_some, bytes_eq, option_map, option_and_then}
use lib.Pointwise.{pointwise}
use Rattle.jv_model.specs.Partial.{passes}
use Rattle.jv_model.specs.Descriptors.{FieldType, class_type, array_of, long_type}
use Rattle.jv_model.specs.Operand.{Operand, class_named}
use Rattle.jv_model.specs.Instruction.{Instruction, new}
use Rattle.world_model.specs.World.{World}
use Rattle.world_model.specs.BootNames.{java_object}
use Rattle.code_model.specs.TypeReading.{field_type_of}
use Rattle.typing_model.specs.VerificationType.{VerificationType, top, int as int_type, long as long_value_type, null as null_type, this, new_at, class, array as array_type, TypeFrame, is_same_field_type}
use Rattle.typing_model.specs.Assignable.{class_assignable, names_interface}
use Rattle.typing_model.specs.Environment.{Environment}
use Rattle.machine_model.specs.Value.{Value, int, long, half, null, reference}
use Rattle.machine_model.specs.Heap.{contents_at}
use Rattle.machine_model.specs.ObjectTypes.{own_type}
use Rattle.machine_model.specs.State.{Frame, State}
use Rattle.machine_model.specs.LocalStep.{instruction_at}

-- ---- objects

-- The world, and of which type each object in use is. The types of values are asked of it alone.
pub record HeapTyping : Type 0 where
  pub world : World
  pub type_at : ℕ → Option FieldType

-- that of a state, where these objects are in use
abbrev pub heap_typing : State → (ℕ → Bool) → HeapTyping
heap_typing state live = record {
  world = state.world;
  type_at = λ id. if live id then option_map own_type (contents_at state.heap id) else None;
}

-- Whether an object of the first type may stand where the second is declared. A place for an interface, like one for
-- Object, holds every object.
unfoldable pub may_stand : World → FieldType → FieldType → Bool
may_stand world (class_type from) (class_type to) = bytes_eq to java_object || class_assignable world from to
may_stand world (array_of from) (class_type to) = bytes_eq to java_object || names_interface world to
may_stand world (array_of from) (array_of to) = may_stand world from to
may_stand world from to = is_same_field_type from to

abbrev pub stands_for : HeapTyping → ℕ → FieldType → Bool
stands_for heap id type = passes (λ own. may_stand heap.world own type) (heap.type_at id)

abbrev pub is_in_use : HeapTyping → ℕ → Bool
is_in_use heap id = is_some (heap.type_at id)

-- ---- values

-- the class that the `new` at a pc makes
abbrev pub class_made : Instruction Operand → Option (List ℕ)
class_made (new (class_named name)) = Some name
class_made other = None

abbrev pub class_made_at : Environment → ℕ → Option (List ℕ)
class_made_at e pc = option_and_then (λ placed. class_made placed.instruction) (instruction_at e.body pc)

-- an object that a value names is in use
abbrev pub is_known : HeapTyping → Value → Bool
is_known heap (reference id) = is_in_use heap id
is_known heap other = true

-- Any value is of type Top. An object that isn't initialized is of the class that is being made of it.
unfoldable pub is_of_type : HeapTyping → Environment → VerificationType → Value → Bool
is_of_type heap e top value = is_known heap value
is_of_type heap e int_type (int n) = true
is_of_type heap e long_value_type (long n) = true
is_of_type heap e null_type null = true
is_of_type heap e this (reference id) = stands_for heap id (class_type e.class.name)
is_of_type heap e (new_at pc) (reference id) =
    passes (λ name. stands_for heap id (class_type name)) (class_made_at e pc)
is_of_type heap e (class name) null = true
is_of_type heap e (class name) (reference id) = stands_for heap id (class_type name)
is_of_type heap e (array_type component) null = true
is_of_type heap e (array_type component) (reference id) = stands_for heap id (array_of component)
is_of_type heap e type value = false

-- operands, from the top down: a long has two places
unfoldable pub are_of_types : HeapTyping → Environment → List VerificationType → List Value → Bool
are_of_types heap e [] [] = true
are_of_types heap e (long_value_type ∷ types) (half ∷ long n ∷ values) = are_of_types heap e types values
are_of_types heap e (long_value_type ∷ types) values = false
are_of_types heap e (type ∷ types) (value ∷ values) =
    is_of_type heap e type value && are_of_types heap e types values
are_of_types heap e types values = false

abbrev pub fits_frame : HeapTyping → Environment → Frame → TypeFrame → Bool
fits_frame heap e frame types =
    pointwise (is_of_type heap e) types.locals frame.locals && are_of_types heap e types.stack frame.stack

-- ---- fields and elements

-- whether a field or an element of that type may hold a value
abbrev pub holds : HeapTyping → FieldType → Value → Bool
holds heap (class_type name) null = true
holds heap (class_type name) (reference id) = stands_for heap id (class_type name)
holds heap (array_of component) null = true
holds heap (array_of component) (reference id) = stands_for heap id (array_of component)
holds heap (class_type name) other = false
holds heap (array_of component) other = false
holds heap long_type (long n) = true
holds heap long_type other = false
holds heap primitive (int n) = true
holds heap primitive other = false

abbrev pub is_declared : HeapTyping → List ℕ → Value → Bool
is_declared heap descriptor value = passes (λ type. holds heap type value) (field_type_of descriptor)
