-- Each instruction of a method of a linked world uses what is there.
use Rattle.std.proofs.Common.{◌≡◌, ℕ, Bool, true, false, List, Option, Some, None, refl, sym, ap, ◌∙◌, if◌then◌else◌}
use Rattle.std.specs.Prelude.{not, option_and_then}
use Rattle.std.proofs.lemmas.Bool.{both_ways}
use Rattle.jv_model.specs.Partial.{◌>>=◌, passes}
use Rattle.jv_model.specs.Descriptors.{FieldType, class_type, array_of, MethodType}
use Rattle.jv_model.specs.Operand.{Operand, class_named, member_named, is_array_name}
use Rattle.jv_model.specs.Instruction.{Instruction, getstatic, putstatic, getfield, putfield, invokevirtual, invokespecial, invokestatic, invokeinterface, new}
use Rattle.jv_model.specs.Code.{Body}
use Rattle.world_model.specs.World.{World, Class, Method, class_in, is_stub, declared_method}
use Rattle.code_model.specs.TypeReading.{field_type_of, method_type_of, descriptor_of}
use Rattle.code_model.specs.Laws.{IsFieldType}
use Rattle.code_laws.proofs.FieldDescriptors.{one_field_descriptor}
use Rattle.link_model.specs.UseFaults.{is_class_where, is_type_there, names_type, can_be_new}
use Rattle.link_laws.proofs.Lists.{passes_some, some_passes}
use Rattle.typing_model.specs.Environment.{Environment, environment_of, named_type, array_or_class}
use Rattle.typing_model.specs.VerificationType.{type_of, is_array}
use Rattle.machine_model.specs.Conforms.{is_present}
use Rattle.frame_laws.proofs.Outcome.{some_inj, bind_is}
use Rattle.machine_laws.specs.Runnable.{Uses}
use Rattle.machine_laws.proofs.Calling.{of_frame}
use Rattle.linked_laws.specs.Worlds.{IsLinkedWorld}
use Rattle.linked_laws.proofs.Classes.{found_named}
use Rattle.linked_laws.proofs.Types.{types_found}
use Rattle.linked_world_laws.specs.Laws.{MakesObjects, InstructionsUseWhatIsThere}
use Rattle.linked_world_laws.proofs.Calling.{static_call_use, virtual_call_use, interface_call_use, special_call_use}
use Rattle.linked_world_laws.proofs.Referred.{RefersRightly, code_refers}
use Rattle.linked_world_laws.proofs.Using.{static_use, field_use, own_place}

-- ---- names of types

-- the name of an array type is no class's
pub array_named : (name : List ℕ) (type : FieldType) → field_type_of name ≡ Some type → is_array_name name ≡ true → is_array (type_of (named_type name)) ≡ true
unfolding descriptor_of type_of
array_named name type read array =
    by type (one_is.0) (ap (array_or_class name) read)
  where
    one_is : (name ≡ descriptor_of type) × IsFieldType type
    one_is = (one_field_descriptor name type).0 read

    by : (t : FieldType) → name ≡ descriptor_of t → named_type name ≡ array_or_class name (Some t) → is_array (type_of (named_type name)) ≡ true
    by (array_of component) spelled named = ap (λ t. is_array (type_of t)) named
    by other spelled named = absurd (let fails = sym (ap is_array_name spelled) ∙ array in cc)

-- and that of a class no array type's
class_named_so : (name : List ℕ) → is_array_name name ≡ false → named_type name ≡ class_type name
unfolding descriptor_of
class_named_so name plain = by (field_type_of name) refl
  where
    by : (o : Option FieldType) → field_type_of name ≡ o → array_or_class name o ≡ class_type name
    by (Some (array_of component)) is =
        absurd (both_ways (is_array_name name) plain (ap is_array_name ((one_field_descriptor name (array_of component)).0 is).0))
    by (Some other) is = refl
    by None is = refl

-- ---- instructions

module _ (world : World) (linked : IsLinkedWorld world) where
  new_use : (name : List ℕ) → names_type world can_be_new name ≡ true → is_array (type_of (named_type name)) ≡ false
      → (is_present world name ≡ true) × (named_type name ≡ class_type name)
  new_use name there object = by (is_array_name name) refl there
    where
      by : (array : Bool) → is_array_name name ≡ array
          → (if array then passes (is_type_there world) (field_type_of name) else is_class_where world can_be_new name) ≡ true
          → (is_present world name ≡ true) × (named_type name ≡ class_type name)
      by true is there =
          let type = passes_some (is_type_there world) (field_type_of name) there in
          absurd (both_ways _ object (array_named name type.0 type.1 is))
      by false is there =
          let class = passes_some can_be_new (class_in world name) there in
          let fresh = (types_found world linked name class.0 class.1).fresh in
          (some_passes (λ (c : Class). not (is_stub c)) (class_in world name) class.0 class.1 (ap not fresh), class_named_so name is)

  uses_there : (e : Environment) (i : Instruction Operand) → class_in world e.class.name ≡ Some e.class → e.world ≡ world → RefersRightly world i → MakesObjects i
      → Uses world e i
  unfolding Uses
  uses_there e (getstatic (member_named m)) there same refers makes = static_use world linked m refers
  uses_there e (putstatic (member_named m)) there same refers makes = static_use world linked m refers
  uses_there e (getfield (member_named m)) there same refers makes = field_use world linked m refers
  uses_there e (putfield (member_named m)) there same refers makes = (field_use world linked m refers, λ own. own_place world linked e m refers same own)
  uses_there e (invokevirtual (member_named m)) there same refers makes = virtual_call_use world linked m refers
  uses_there e (invokespecial (member_named m)) there same refers makes = special_call_use world linked e m there refers
  uses_there e (invokestatic (member_named m)) there same refers makes = static_call_use world linked m refers
  uses_there e (invokeinterface (member_named m)) there same refers makes = interface_call_use world linked m refers
  uses_there e (new (class_named name)) there same refers makes = new_use name refers makes
  uses_there e other there same refers makes = tt

-- the world of a method's environment
world_of_environment : (world : World) (class : Class) (method : Method) (e : Environment) → environment_of world class method ≡ Some e → e.world ≡ world
world_of_environment world class method e h =
    let body = bind_is (λ (b : Body Operand). method_type_of method.descriptor >>= λ (t : MethodType).
    Some (record { world = world; class = class; method = method; type = t; body = b })) method.code e h in
    let type = bind_is (λ (t : MethodType). Some (record { world = world; class = class; method = method; type = t; body = body.0 })) (method_type_of method.descriptor) e body.2 in
    sym (ap (λ (x : Environment). x.world) (some_inj type.2))

pub instructions_use_what_is_there : InstructionsUseWhatIsThere
instructions_use_what_is_there world linked frame e pc placed is at makes =
    let of = of_frame world frame e is in
    let class = bind_is (λ (c : Class). option_and_then (environment_of world c) (declared_method frame.method.name frame.method.descriptor c)) (class_in world frame.method.class) e is in
    let method = bind_is (environment_of world class.0) (declared_method frame.method.name frame.method.descriptor class.0) e class.2 in
    uses_there world linked e placed.instruction
    (ap (class_in world) (found_named world frame.method.class e.class of.class_there) ∙ of.class_there)
    (world_of_environment world class.0 method.0 e method.2)
    (code_refers world linked frame.method.class e.class frame.method.name frame.method.descriptor e.method e.body of.class_there of.declared of.code pc placed at)
    makes
