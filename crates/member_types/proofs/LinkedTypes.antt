-- Classes and types that are there, by number.
use Rattle.std.proofs.Common.{◌≡◌, ◌+◌, ℕ, suc, true, List, Option, Some, None, option_map, option_and_then, position, slice_get, bytes_eq, ap, sym, subst, ◌∙◌, refl, arith}
use Rattle.jv_model.specs.Partial.{passes}
use Rattle.jv_model.specs.Descriptors as descriptors
use Rattle.jv_model.specs.Descriptors.{byte_type, char_type, double_type, float_type, int_type, long_type, short_type, boolean_type, class_type, array_of}
use Rattle.jv_model.specs.Operand.{Operand, class_named, member_named, int_constant, long_constant, string_constant, MemberReference}
use Rattle.world_model.specs.World as model
use Rattle.world_model.specs.World.{class_in}
use Rattle.link_model.specs.UseFaults.{is_class_where, is_type_there}
use Rattle.typing_model.specs.Environment.{member_of}
use Rattle.jv_types.specs.declared.number.ClassNo.{ClassNo}
use Rattle.class_world.specs.World.{names_of, number_of}
use Rattle.class_world.proofs.Numbers.{class_in-position}
use Rattle.type_rules.specs.declared.types.ElementType.TheVariants as elements
use Rattle.type_rules.specs.declared.types.FieldType.{FieldType}
use Rattle.type_rules.specs.Types.{in_arrays, element_of, field_type_of, IsKnownElement}
use Rattle.instruction_types.proofs.Found.{found-name, found-known}
use Rattle.numbered_types.specs.Numbered.{plain, in_array, number_of_type}
use Rattle.linked_laws.specs.Operands.{FieldIsLinked, IsLinkedField, MethodIsLinked, IsLinkedMethod}

pub linked-field : (world : model.World) (operand : Operand) (field : MemberReference) → member_of operand ≡ Some field
    → FieldIsLinked world operand → IsLinkedField world field
linked-field world (member_named member) field is linked = let same : member ≡ field = cc in subst (IsLinkedField world) same linked
linked-field world (class_named name) field is linked = absurd cc
linked-field world (int_constant number) field is linked = absurd cc
linked-field world (long_constant number) field is linked = absurd cc
linked-field world (string_constant text) field is linked = absurd cc

pub linked-method : (world : model.World) (operand : Operand) (method : MemberReference) → member_of operand ≡ Some method
    → MethodIsLinked world operand → IsLinkedMethod world method
linked-method world (member_named member) method is linked = let same : member ≡ method = cc in subst (IsLinkedMethod world) same linked
linked-method world (class_named name) method is linked = absurd cc
linked-method world (int_constant number) method is linked = absurd cc
linked-method world (long_constant number) method is linked = absurd cc
linked-method world (string_constant text) method is linked = absurd cc

-- A type by number, whose class is there.
pub record HasNumber (world : model.World) (type : descriptors.FieldType) : Type 0 where
  pub number : FieldType
  pub is_number : number_of_type world type ≡ Some number
  pub same : field_type_of world number ≡ type
  pub known : IsKnownElement world number.element

module _ (world : model.World) where
  -- a class that is there has a number
  pub class-number : (name : List ℕ) → is_class_where world (λ (class : model.Class). true) name ≡ true
      → (class : ClassNo) × (number_of world name ≡ Some class)
  class-number name there = by (position (bytes_eq name) (names_of world)) refl
    where
      by : (place : Option ℕ) → position (bytes_eq name) (names_of world) ≡ place → (class : ClassNo) × (number_of world name ≡ Some class)
      by None is =
          let none = class_in-position world name ∙ ap (option_and_then (slice_get world.classes)) is in
          absurd (let fails = sym there ∙ ap (passes (λ (class : model.Class). true)) none in cc)
      by (Some n) is = (record { 0 = n }, ap (option_map (λ (k : ℕ). record { 0 = k })) is)

  pub type-number : (type : descriptors.FieldType) → is_type_there world type ≡ true → HasNumber world type
  unfolding is_type_there
  type-number byte_type there = record { number = plain elements.Byte; is_number = refl; same = refl; known = tt }
  type-number char_type there = record { number = plain elements.Char; is_number = refl; same = refl; known = tt }
  type-number double_type there = record { number = plain elements.Double; is_number = refl; same = refl; known = tt }
  type-number float_type there = record { number = plain elements.Float; is_number = refl; same = refl; known = tt }
  type-number int_type there = record { number = plain elements.Int; is_number = refl; same = refl; known = tt }
  type-number long_type there = record { number = plain elements.Long; is_number = refl; same = refl; known = tt }
  type-number short_type there = record { number = plain elements.Short; is_number = refl; same = refl; known = tt }
  type-number boolean_type there = record { number = plain elements.Boolean; is_number = refl; same = refl; known = tt }
  type-number (class_type name) there =
      let found = class-number name there in
      record {
        number = plain (elements.Class found.0);
        is_number = ap (option_map (λ (c : ClassNo). plain (elements.Class c))) found.1;
        same = ap class_type (found-name world name found.0 found.1);
        known = found-known world name found.0 found.1;
      }
  type-number (array_of component) there =
      let inner = type-number component there in
      let next : inner.number.dimensions + 1 ≡ suc inner.number.dimensions = omega arith in
      record {
        number = in_array 1 inner.number;
        is_number = ap (option_map (in_array 1)) inner.is_number;
        same = ap (λ (n : ℕ). in_arrays n (element_of world inner.number.element)) next ∙ ap array_of inner.same;
        known = inner.known;
      }

  -- a type that was read and is there
  pub read-number : (read : Option descriptors.FieldType) → passes (is_type_there world) read ≡ true
      → (type : descriptors.FieldType) × (read ≡ Some type) × HasNumber world type
  read-number None there = absurd cc
  read-number (Some type) there = (type, refl, type-number type there)
