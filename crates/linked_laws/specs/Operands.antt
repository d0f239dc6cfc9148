-- Operands of which all classes are there, as they are in code that was linked.
use Rattle.std.specs.Prelude.{◌≡◌, true}
use Rattle.jv_model.specs.Partial.{passes}
use Rattle.jv_model.specs.Operand.{Operand, class_named, member_named, MemberReference}
use Rattle.world_model.specs.World.{World, Class}
use Rattle.code_model.specs.TypeReading.{field_type_of, method_type_of}
use Rattle.link_model.specs.UseFaults.{is_class_where, is_type_there, are_types_there, names_type}

-- The class is there, and the type of the field.
pub record IsLinkedField (world : World) (field : MemberReference) : Type 0 where
  pub class_there : is_class_where world (λ (class : Class). true) field.class ≡ true
  pub type_there : passes (is_type_there world) (field_type_of field.descriptor) ≡ true

-- The class is there, and the types of the method.
pub record IsLinkedMethod (world : World) (method : MemberReference) : Type 0 where
  pub class_there : is_class_where world (λ (class : Class). true) method.class ≡ true
  pub types_there : passes (are_types_there world) (method_type_of method.descriptor) ≡ true

-- where an operand names a field, a method or a class
abbrev pub FieldIsLinked : World → Operand → Type 0
FieldIsLinked world (member_named field) = IsLinkedField world field
FieldIsLinked world other = Unit {0}

abbrev pub MethodIsLinked : World → Operand → Type 0
MethodIsLinked world (member_named method) = IsLinkedMethod world method
MethodIsLinked world other = Unit {0}

abbrev pub ClassIsLinked : World → Operand → Type 0
ClassIsLinked world (class_named name) = names_type world (λ (class : Class). true) name ≡ true
ClassIsLinked world other = Unit {0}
