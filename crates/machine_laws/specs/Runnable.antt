-- What is asked of a world so that its code runs and never gets stuck (JVMS 4.10.1, 5.4).
use Rattle.std.specs.Prelude.{◌≡◌, ℕ, List, [], ◌∷◌, true, false, Some, ⊤, IsTrue, is_some, bytes_eq, codes, flat_map, slice_get, Bool, ◌||◌, ◌⊎◌, Option, None}
use Rattle.std.specs.List.{list_any, list_all}
use Rattle.jv_model.specs.Descriptors.{FieldType, char_type, int_type, long_type, boolean_type, class_type, array_of, MethodType}
use Rattle.jv_model.specs.Operand.{Operand, MemberReference, class_named, member_named}
use Rattle.jv_model.specs.Instruction.{Instruction, getstatic, putstatic, getfield, putfield, invokevirtual, invokespecial, invokestatic, invokeinterface, new}
use Rattle.jv_model.specs.Code.{Placed, Body}
use Rattle.world_model.specs.World.{World, Method, has_flag, acc_abstract, is_static_method}
use Rattle.world_model.specs.BootNames.{java_object, java_string, java_throwable, is_constructor_name}
use Rattle.world_model.specs.Supertypes.{chain, is_sub}
use Rattle.world_model.specs.Layout.{declared, layout, field_place}
use Rattle.world_model.specs.Members.{same_member}
use Rattle.world_model.specs.Resolution.{resolved_field, resolved_method, class_with_methods}
use Rattle.world_model.specs.LookUp.{Found, method_found}
use Rattle.world_model.specs.Selection.{select_in, selected, specially_selected}
use Rattle.code_model.specs.TypeReading.{field_type_of, method_type_of}
use Rattle.typing_model.specs.VerificationType.{VerificationType, is_one_word, is_long, type_of}
use Rattle.typing_model.specs.MemberTypes.{is_own_field}
use Rattle.typing_model.specs.CallTypes.{is_own_or_super}
use Rattle.typing_model.specs.Assignable.{names_interface}
use Rattle.typing_model.specs.Environment.{Environment, named_type}
use Rattle.machine_model.specs.State.{Frame}
use Rattle.machine_model.specs.LocalStep.{instruction_at}
use Rattle.machine_model.specs.Conforms.{is_present, frame_environment}
use Rattle.machine_model.specs.Printing.{Printable, no_value, an_int, a_char, a_boolean, a_string, a_long}
use Rattle.machine_model.specs.Natives.{Native, native_of, does_nothing, same_object, string_length, string_char_at, string_equals, string_concat, string_value_of, sets_target, starts_a_thread, joins_a_thread, prints, sets_message, gets_message, requests_an_update}
use Rattle.machine_model.specs.ThreadNatives.{target_field, number_field, run_method, classes_below_thread}
use Rattle.machine_model.specs.NativeSteps.{message_field}
use Rattle.machine_model.specs.CallSteps.{new_frame}
use Rattle.machine_model.specs.TypedValues.{may_stand}
use Rattle.frame_laws.specs.Worlds.{IsVerified}
use Rattle.state_laws.specs.Laws.{FramesFit}

-- A class whose objects can be thrown: it's there, below java/lang/Throwable, and no String.
pub record IsThrowable (world : World) (name : List ℕ) : Type 0 where
  pub present : is_present world name ≡ true
  pub no_string : bytes_eq name java_string ≡ false
  pub below : is_sub world name java_throwable ≡ true

-- the classes of which the machine itself throws objects
abbrev pub thrown_names : List (List ℕ)
thrown_names =
    codes "java/lang/NullPointerException" ∷ codes "java/lang/ArithmeticException"
    ∷ codes "java/lang/ArrayIndexOutOfBoundsException" ∷ codes "java/lang/ArrayStoreException"
    ∷ codes "java/lang/NegativeArraySizeException" ∷ codes "java/lang/ClassCastException"
    ∷ codes "java/lang/IllegalMonitorStateException" ∷ codes "java/lang/AbstractMethodError"
    ∷ codes "java/lang/IncompatibleClassChangeError" ∷ codes "java/lang/StringIndexOutOfBoundsException"
    ∷ codes "java/lang/IllegalThreadStateException" ∷ []

-- a type that isn't Top
abbrev pub is_operand : VerificationType → Bool
is_operand type = is_one_word type || is_long type

-- A static field that a reference names: it's there, of the reference's descriptor, of a type that the verifier has.
pub record StaticUse (world : World) (m : MemberReference) : Type 0 where
  pub field : MemberReference
  pub resolved : resolved_field true world m ≡ Some field
  pub same_descriptor : field.descriptor ≡ m.descriptor
  pub there : list_any (λ (f : MemberReference). same_member f field) (flat_map (declared true) world.classes) ≡ true
  pub type : FieldType
  pub is_type : field_type_of m.descriptor ≡ Some type
  pub has_values : is_operand (type_of type) ≡ true

-- An object of that class has the field, in a place of the field's descriptor; and it's no String.
pub record HasPlace (world : World) (class : List ℕ) (field : MemberReference) : Type 0 where
  pub no_string : bytes_eq class java_string ≡ false
  pub place : ℕ
  pub is_place : field_place (layout world class) field ≡ Some place
  pub member : MemberReference
  pub is_member : slice_get (layout world class) place ≡ Some member
  pub same_descriptor : member.descriptor ≡ field.descriptor

-- Whatever may stand for the class has the field.
pub record PlaceUse (world : World) (class : List ℕ) (field : MemberReference) : Type 0 where
  pub objects : (name : List ℕ) → is_present world name ≡ true → may_stand world (class_type name) (class_type class) ≡ true
      → HasPlace world name field
  pub no_arrays : (component : FieldType) → may_stand world (array_of component) (class_type class) ≡ false

-- An instance field that a reference names, in objects of its class.
pub record FieldUse (world : World) (m : MemberReference) : Type 0 where
  pub field : MemberReference
  pub resolved : resolved_field false world m ≡ Some field
  pub same_descriptor : field.descriptor ≡ m.descriptor
  pub type : FieldType
  pub is_type : field_type_of m.descriptor ≡ Some type
  pub has_values : is_operand (type_of type) ≡ true
  pub places : PlaceUse world m.class field

-- ---- calls

-- what objects are of
abbrev pub is_object_type : FieldType → Bool
is_object_type (class_type name) = true
is_object_type (array_of component) = true
is_object_type other = false

-- The class whose methods an object of a type has.
abbrev pub class_of_type : FieldType → List ℕ
class_of_type (class_type name) = name
class_of_type (array_of component) = java_object
class_of_type other = []

-- the code of a method that was found has an environment
abbrev pub HasEnvironment : World → Found Method → Type 0
HasEnvironment world found = (body : Body Operand) → found.member.code ≡ Some body → (e : Environment)
    × (frame_environment world (new_frame (method_found found) None []) ≡ Some e) × (e.method ≡ found.member)
    × (e.body ≡ body) × (e.class.name ≡ found.class)

-- ---- native methods

-- what a thread runs: a method of an object that takes and gives nothing, with code or abstract
pub record RunUse (world : World) (found : Found Method) : Type 0 where
  pub kind : is_static_method found.member ≡ false
  pub same_descriptor : found.member.descriptor ≡ codes "()V"
  pub has_code : found.member.code ≡ None → has_flag acc_abstract found.member.flags ≡ true
  pub environment : HasEnvironment world found

-- The method that is selected for an object to be run by a thread, if any, is one of the object's own.
abbrev pub Runs : World → FieldType → Option (Found Method) → Type 0
Runs world own None = ⊤
Runs world own (Some found) = RunUse world found × (may_stand world own (class_type found.class) ≡ true)

-- The class of threads has the fields that the machine keeps there, and what threads select can be run.
pub record ThreadUse (world : World) (class : List ℕ) : Type 0 where
  pub target : PlaceUse world class target_field
  pub number : PlaceUse world class number_field
  pub runs : (own : FieldType) → may_stand world own (class_type class) ≡ true
      → Runs world own (select_in world (run_method (class_of_type own)) (classes_below_thread world (class_of_type own)))
  pub target_runs : (own : FieldType) → is_object_type own ≡ true → is_sub world (class_of_type own) (codes "java/lang/Runnable") ≡ true
      → Runs world own (select_in world (run_method (class_of_type own)) (chain world (class_of_type own)))

-- what a native method asks of the class that has it
abbrev pub NativeAsks : World → List ℕ → Native → Type 0
NativeAsks world class string_length = class ≡ java_string
NativeAsks world class string_char_at = class ≡ java_string
NativeAsks world class string_equals = class ≡ java_string
NativeAsks world class string_concat = class ≡ java_string
NativeAsks world class sets_target = PlaceUse world class target_field
NativeAsks world class starts_a_thread = ThreadUse world class
NativeAsks world class joins_a_thread = PlaceUse world class number_field
NativeAsks world class sets_message = PlaceUse world class message_field
NativeAsks world class gets_message = PlaceUse world class message_field
NativeAsks world class other = ⊤

abbrev pub printed_types : Printable → List FieldType
printed_types no_value = []
printed_types an_int = int_type ∷ []
printed_types a_char = char_type ∷ []
printed_types a_boolean = boolean_type ∷ []
printed_types a_string = class_type java_string ∷ []
printed_types a_long = long_type ∷ []

-- what each native method takes and gives
abbrev pub native_type : Native → MethodType
native_type does_nothing = record { parameters = []; result = None }
native_type same_object = record { parameters = class_type java_object ∷ []; result = Some boolean_type }
native_type string_length = record { parameters = []; result = Some int_type }
native_type string_char_at = record { parameters = int_type ∷ []; result = Some char_type }
native_type string_equals = record { parameters = class_type java_object ∷ []; result = Some boolean_type }
native_type string_concat = record { parameters = class_type java_string ∷ []; result = Some (class_type java_string) }
native_type string_value_of = record { parameters = int_type ∷ []; result = Some (class_type java_string) }
native_type sets_target = record { parameters = class_type (codes "java/lang/Runnable") ∷ []; result = None }
native_type starts_a_thread = record { parameters = []; result = None }
native_type joins_a_thread = record { parameters = []; result = None }
native_type (prints line printable) = record { parameters = printed_types printable; result = None }
native_type sets_message = record { parameters = class_type java_string ∷ []; result = None }
native_type gets_message = record { parameters = []; result = Some (class_type java_string) }
native_type requests_an_update = record { parameters = []; result = None }

abbrev pub is_static_native : Native → Bool
is_static_native string_value_of = true
is_static_native requests_an_update = true
is_static_native other = false

-- A native method that a reference leads to.
pub record NativeUse (world : World) (m : MemberReference) (static : Bool) (found : Found Method) : Type 0 where
  pub native : Native
  pub is_native : native_of (method_found found) ≡ Some native
  pub is_type : method_type_of m.descriptor ≡ Some (native_type native)
  pub kind : is_static_native native ≡ static
  pub asks : NativeAsks world found.class native

-- A method that a reference leads to, static or not: it has the reference's descriptor, and its code an environment. It
-- has code, is abstract or is native.
pub record MethodUse (world : World) (m : MemberReference) (static : Bool) (found : Found Method) : Type 0 where
  pub kind : is_static_method found.member ≡ static
  pub same_descriptor : found.member.descriptor ≡ m.descriptor
  pub without_code : found.member.code ≡ None → (has_flag acc_abstract found.member.flags ≡ true) ⊎ NativeUse world m static found
  pub environment : HasEnvironment world found

-- The descriptor of a method that is called, whose parameters the verifier has.
pub record CallUse (m : MemberReference) : Type 0 where
  pub type : MethodType
  pub is_type : method_type_of m.descriptor ≡ Some type
  pub has_values : list_all (λ p. is_operand (type_of p)) type.parameters ≡ true

-- The method that is selected for an object, if any, is one of the object's own.
abbrev pub Selects : World → MemberReference → FieldType → Option (Found Method) → Type 0
Selects world m own None = ⊤
Selects world m own (Some found) =
    MethodUse world m false found × (may_stand world own (class_type found.class) ≡ true)

pub record StaticCallUse (world : World) (m : MemberReference) : Type 0 where
  pub call : CallUse m
  pub found : Found Method
  pub resolved : resolved_method true world m ≡ Some found
  pub method : MethodUse world m true found

pub record VirtualCallUse (world : World) (m : MemberReference) : Type 0 where
  pub call : CallUse m
  pub found : Found Method
  pub resolved : resolved_method false world m ≡ Some found
  pub selects : (own : FieldType) → may_stand world own (class_type m.class) ≡ true
      → Selects world m own (selected world found m (class_of_type own))

pub record InterfaceCallUse (world : World) (m : MemberReference) : Type 0 where
  pub call : CallUse m
  pub found : Found Method
  pub resolved : resolved_method false world m ≡ Some found
  pub selects : (own : FieldType) → is_object_type own ≡ true → is_sub world (class_of_type own) (class_with_methods m.class) ≡ true
      → Selects world m own (selected world found m (class_of_type own))

-- What `invokespecial` may be called on: an object of the class that is named, which is one of the current class too
-- unless a constructor is called; or the constructor's own object, and the class is its own or the one above it.
abbrev pub IsReceived : World → Environment → MemberReference → FieldType → Type 0
IsReceived world e m own =
    ((may_stand world own (class_type m.class) ≡ true)
    × ((is_constructor_name m.name ≡ true) ⊎ (may_stand world own (class_type e.class.name) ≡ true)))
    ⊎ ((is_own_or_super e m.class ≡ true) × (may_stand world own (class_type e.class.name) ≡ true))

pub record SpecialCallUse (world : World) (e : Environment) (m : MemberReference) : Type 0 where
  pub call : CallUse m
  pub found : Found Method
  pub resolved : resolved_method false world m ≡ Some found
  pub selects : (own : FieldType) → IsReceived world e m own
      → Selects world m own (specially_selected world e.class.name found m)

-- What an instruction of a method names is there, and of the kind that the instruction wants.
unfoldable pub Uses : World → Environment → Instruction Operand → Type 0
Uses world e (getstatic (member_named m)) = StaticUse world m
Uses world e (putstatic (member_named m)) = StaticUse world m
Uses world e (getfield (member_named m)) = FieldUse world m
-- a constructor may put a field of its own class into an object that isn't initialized
Uses world e (putfield (member_named m)) =
    (used : FieldUse world m) × (is_own_field e m ≡ true → PlaceUse world e.class.name used.field)
Uses world e (invokevirtual (member_named m)) = VirtualCallUse world m
Uses world e (invokespecial (member_named m)) = SpecialCallUse world e m
Uses world e (invokestatic (member_named m)) = StaticCallUse world m
Uses world e (invokeinterface (member_named m)) = InterfaceCallUse world m
Uses world e (new (class_named name)) = (is_present world name ≡ true) × (named_type name ≡ class_type name)
Uses world e other = ⊤

pub record IsRunnable (world : World) : Type 0 where
  pub verified : IsVerified world
  pub frames_fit : FramesFit world
  pub throwables : (name : List ℕ) → IsTrue (list_any (bytes_eq name) thrown_names) → IsThrowable world name
  pub throwable : IsThrowable world java_throwable
  pub throwable_class : names_interface world java_throwable ≡ false
  pub strings : is_present world java_string ≡ true
  -- nothing else may stand for a String
  pub strings_alone : (own : FieldType) → may_stand world own (class_type java_string) ≡ true → own ≡ class_type java_string
  -- the fields of a class have descriptors
  pub fields : (name : List ℕ) → is_present world name ≡ true
      → list_all (λ (f : MemberReference). is_some (field_type_of f.descriptor)) (layout world name) ≡ true
  -- each instruction of a method with code uses what is there
  pub uses : (frame : Frame) (e : Environment) (pc : ℕ) (placed : Placed Operand)
      → frame_environment world frame ≡ Some e → instruction_at e.body pc ≡ Some placed → Uses world e placed.instruction
